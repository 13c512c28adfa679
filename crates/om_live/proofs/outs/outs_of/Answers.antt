use Rattle.std.proofs.Common.{◌<◌, ℕ, List, Option, Some, sym, subst}
use Rattle.om_blocks.specs.Found.{masks_in}
use Rattle.om_blocks.proofs.Walking.{OnBlocks, blocks_left, blocks_begin, blocks_more, blocks_fewer, blocks_end}
use Rattle.om_live.specs.Outs.{AreOuts}
use Rattle.om_live.proofs.OnOuts.{outs_first, outs_more}
use Rattle.om_live.proofs.outs.outs_of.Goals as goal

pub loop-next-init : goal.loop-next-init
loop-next-init c =
    blocks_begin (List ℕ) (AreOuts c.args.g.now (masks_in c.args.g.now c.args.l.now)) c.args.g.now c.is_graph.ensures c.first_block-next.result c.in_ok-outs.outs.items c.first_block-next.ensures.first
    c.first_block-next.ensures.live
    (rw (c.in_ok-outs.ensures.items_if_clones_equal (λ y e. e)) (outs_first c.args.g.now c.is_graph.ensures (masks_in c.args.g.now c.args.l.now) c.rows.result c.rows.ensures))

on : (c : goal.After-next_block-next) → OnBlocks (List ℕ) (AreOuts c.args.g.now (masks_in c.args.g.now c.args.l.now)) c.args.g.now (Some c.in-Some.b) c.loop-next.outs.items
on c = subst (λ (n : Option ℕ). OnBlocks (List ℕ) (AreOuts c.args.g.now (masks_in c.args.g.now c.args.l.now)) c.args.g.now n c.loop-next.outs.items) c.in-Some.is c.loop-next.invariant

pub loop-next-smaller : goal.loop-next-smaller
loop-next-smaller c =
    subst (λ (n : Option ℕ). blocks_left (List ℕ) (AreOuts c.args.g.now (masks_in c.args.g.now c.args.l.now)) c.args.g.now c.next_block-next.result < blocks_left (List ℕ) (AreOuts c.args.g.now (masks_in c.args.g.now c.args.l.now)) c.args.g.now n)
    (sym c.in-Some.is)
    (blocks_fewer (List ℕ) (AreOuts c.args.g.now (masks_in c.args.g.now c.args.l.now)) c.args.g.now c.is_graph.ensures c.in-Some.b c.next_block-next.result c.loop-next.outs.items (on c) c.next_block-next.ensures.next)

pub loop-next-preserved : goal.loop-next-preserved
loop-next-preserved c =
    rw c.number.ensures
    (blocks_more (List ℕ) (AreOuts c.args.g.now (masks_in c.args.g.now c.args.l.now)) c.args.g.now c.is_graph.ensures c.in-Some.b c.next_block-next.result c.loop-next.outs.items _ (on c)
    (λ done x hx same old.
    outs_more c.args.g.now c.is_graph.ensures (masks_in c.args.g.now c.args.l.now) done x c.in-Some.b c.out_of.result c.loop-next.outs.items hx same (c.out_of.ensures x hx same) old)
    c.next_block-next.ensures.next c.next_block-next.ensures.live)

pub returns : goal.returns
returns c =
    let on = subst (λ (n : Option ℕ). OnBlocks (List ℕ) (AreOuts c.args.g.now (masks_in c.args.g.now c.args.l.now)) c.args.g.now n c.loop-next.outs.items) c.in_default.is c.loop-next.invariant in
    blocks_end (List ℕ) (AreOuts c.args.g.now (masks_in c.args.g.now c.args.l.now)) c.args.g.now c.is_graph.ensures c.loop-next.outs.items on

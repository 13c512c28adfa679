use Rattle.std.proofs.Common.{◌<◌, ℕ, List, Option, Some, sym, subst}
use Rattle.om_blocks.specs.Found.{all_registers}
use Rattle.om_blocks.proofs.Walking.{OnBlocks, blocks_left, blocks_begin, blocks_more, blocks_fewer, blocks_end}
use Rattle.om_live.proofs.Copying.{AreCopied, copied_first, copied_more}
use Rattle.om_dead.proofs.masks.starts_of.Goals as goal

pub loop-next-init : goal.loop-next-init
loop-next-init c =
    blocks_begin (List ℕ) (AreCopied ℕ all_registers c.args.g.now c.args.l.now) c.args.g.now c.requires c.first_block-next.result c.in_ok-starts.starts.items c.first_block-next.ensures.first
    c.first_block-next.ensures.live
    (rw (c.in_ok-starts.ensures.items_if_clones_equal (λ y e. e)) (copied_first ℕ all_registers c.args.g.now c.requires c.args.l.now c.rows-rows.result c.rows-rows.ensures))

on : (c : goal.After-next_block-next) → OnBlocks (List ℕ) (AreCopied ℕ all_registers c.args.g.now c.args.l.now) c.args.g.now (Some c.in-Some.b) c.loop-next.starts.items
on c = subst (λ (n : Option ℕ). OnBlocks (List ℕ) (AreCopied ℕ all_registers c.args.g.now c.args.l.now) c.args.g.now n c.loop-next.starts.items) c.in-Some.is c.loop-next.invariant

pub loop-next-smaller : goal.loop-next-smaller
loop-next-smaller c =
    subst (λ (n : Option ℕ). blocks_left (List ℕ) (AreCopied ℕ all_registers c.args.g.now c.args.l.now) c.args.g.now c.next_block-next.result < blocks_left (List ℕ) (AreCopied ℕ all_registers c.args.g.now c.args.l.now) c.args.g.now n)
    (sym c.in-Some.is)
    (blocks_fewer (List ℕ) (AreCopied ℕ all_registers c.args.g.now c.args.l.now) c.args.g.now c.requires c.in-Some.b c.next_block-next.result c.loop-next.starts.items (on c) c.next_block-next.ensures.next)

pub loop-next-preserved : goal.loop-next-preserved
loop-next-preserved c =
    rw c.number.ensures
    (blocks_more (List ℕ) (AreCopied ℕ all_registers c.args.g.now c.args.l.now) c.args.g.now c.requires c.in-Some.b c.next_block-next.result c.loop-next.starts.items _ (on c)
    (λ done x hx same old.
    copied_more ℕ all_registers c.args.g.now c.requires c.args.l.now done x c.in-Some.b c.mask.result c.loop-next.starts.items hx same c.mask.ensures.mask old)
    c.next_block-next.ensures.next c.next_block-next.ensures.live)

pub returns : goal.returns
returns c =
    let on = subst (λ (n : Option ℕ). OnBlocks (List ℕ) (AreCopied ℕ all_registers c.args.g.now c.args.l.now) c.args.g.now n c.loop-next.starts.items) c.in_default.is c.loop-next.invariant in
    let all = blocks_end (List ℕ) (AreCopied ℕ all_registers c.args.g.now c.args.l.now) c.args.g.now c.requires c.loop-next.starts.items on in
    record { room = all.room; each = all.each }

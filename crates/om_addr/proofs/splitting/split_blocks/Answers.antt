use Rattle.std.proofs.Common.{◌<◌, ℕ, Option, length, sym, subst}
use Rattle.std.specs.Prelude.{get_or}
use Rattle.om_addr.specs.Split.{IsBlockSplit}
use Rattle.om_addr.proofs.InARow as row
use Rattle.om_addr.proofs.Blockwise.{live_block, blocks_left, blocks_fewer}
use Rattle.om_addr.proofs.Splits.{out_read}
use Rattle.om_addr.proofs.SplitLoops.{OnBlocks, blocks_begin, blocks_more, blocks_end}
use Rattle.om_addr.proofs.splitting.split_blocks.Goals as goal

pub loop-next-init : goal.loop-next-init
loop-next-init c = blocks_begin c.args.lay.now c.args.live.now c.args.outs.now c.args.g.now c.first_block-next.result c.is_graph.ensures c.first_block-next.ensures.first c.first_block-next.ensures.live

pub bounds-outs-number : goal.bounds-outs-number
bounds-outs-number c =
    let on = subst (λ (n : Option ℕ). OnBlocks c.args.lay.now c.args.live.now c.args.outs.now c.args.g.now c.loop-next.g c.loop-next.changed n) c.in-Some.is c.loop-next.invariant in
    subst (λ (k : ℕ). k < length c.args.outs.now) (sym c.number.ensures) (c.requires.outs.room c.in-Some.b (live_block c.loop-next.g c.args.g.now c.in-Some.b on.live (sym on.passed.ids.blocks)))

pub split_block-again-requires-clause-program : goal.split_block-again-requires-clause-program
split_block-again-requires-clause-program c = row.stays c.args.lay.now c.args.live.now c.loop-next.changed c.args.g.now c.loop-next.g c.requires.program c.loop-next.invariant.passed

pub split_block-again-requires-clause-out : goal.split_block-again-requires-clause-out
split_block-again-requires-clause-out c =
    out_read c.args.g.now c.loop-next.g c.args.live.now c.args.outs.now c.requires.outs c.loop-next.invariant.ends c.in-Some.b c.number.result c.number.ensures

pub next_block-next-requires : goal.next_block-next-requires
next_block-next-requires c =
    let on = subst (λ (n : Option ℕ). OnBlocks c.args.lay.now c.args.live.now c.args.outs.now c.args.g.now c.loop-next.g c.loop-next.changed n) c.in-Some.is c.loop-next.invariant in
    live_block c.loop-next.g c.split_block-again.new.g c.in-Some.b on.live c.split_block-again.ensures.passed.ids.blocks

pub loop-next-smaller : goal.loop-next-smaller
loop-next-smaller c =
    let on = subst (λ (n : Option ℕ). OnBlocks c.args.lay.now c.args.live.now c.args.outs.now c.args.g.now c.loop-next.g c.loop-next.changed n) c.in-Some.is c.loop-next.invariant in
    subst (λ (n : Option ℕ). blocks_left c.split_block-again.new.g c.next_block-next.result < blocks_left c.loop-next.g n) (sym c.in-Some.is)
    (blocks_fewer c.loop-next.g c.split_block-again.new.g c.in-Some.b c.next_block-next.result c.is_graph-in-Some.ensures on.live c.split_block-again.ensures.passed.ids.blocks c.next_block-next.ensures.next)

pub loop-next-preserved : goal.loop-next-preserved
loop-next-preserved c =
    let on = subst (λ (n : Option ℕ). OnBlocks c.args.lay.now c.args.live.now c.args.outs.now c.args.g.now c.loop-next.g c.loop-next.changed n) c.in-Some.is c.loop-next.invariant in
    blocks_more c.args.lay.now c.args.live.now c.args.outs.now c.args.g.now c.loop-next.g c.split_block-again.new.g c.loop-next.changed c.split_block-again.result c.either-changed.result c.in-Some.b c.next_block-next.result on
    c.either-changed.ensures c.split_block-again.ensures.passed c.split_block-again.ensures.ends
    (λ e. subst (λ (k : ℕ). IsBlockSplit c.args.lay.now (get_or c.args.outs.now k 0) c.split_block-again.new.g c.in-Some.b) c.number.ensures (c.split_block-again.ensures.nothing e)) c.is_graph-in-Some.ensures
    c.next_block-next.ensures.next c.next_block-next.ensures.live

pub returns-clause-nothing : goal.returns-clause-nothing
returns-clause-nothing c =
    blocks_end c.args.lay.now c.args.live.now c.args.outs.now c.args.g.now c.loop-next.g c.loop-next.changed
    (subst (λ (n : Option ℕ). OnBlocks c.args.lay.now c.args.live.now c.args.outs.now c.args.g.now c.loop-next.g c.loop-next.changed n) c.in_default.is c.loop-next.invariant)

use Rattle.std.proofs.Common.{◌<◌, ℕ, Option, sym, subst}
use Rattle.om_addr.proofs.IdleLoads as row
use Rattle.om_addr.proofs.Blockwise.{live_block, blocks_left, blocks_fewer}
use Rattle.om_addr.proofs.IdleLoops.{OnBlocks, blocks_begin, blocks_more, blocks_end}
use Rattle.om_addr.proofs.idle.take_blocks.Goals as goal

pub loop-next-init : goal.loop-next-init
loop-next-init c = blocks_begin c.args.lay.now c.args.g.now c.first_block-next.result c.is_graph.ensures c.first_block-next.ensures.first c.first_block-next.ensures.live

pub loop-next-smaller : goal.loop-next-smaller
loop-next-smaller c =
    let on = subst (λ (n : Option ℕ). OnBlocks c.args.lay.now c.args.g.now c.loop-next.g c.loop-next.changed n) c.in-Some.is c.loop-next.invariant in
    subst (λ (n : Option ℕ). blocks_left c.take_block-again.new.g c.next_block-next.result < blocks_left c.loop-next.g n) (sym c.in-Some.is)
    (blocks_fewer c.loop-next.g c.take_block-again.new.g c.in-Some.b c.next_block-next.result c.is_graph-in-Some.ensures on.live c.take_block-again.ensures.passed.ids.blocks c.next_block-next.ensures.next)

pub loop-next-preserved : goal.loop-next-preserved
loop-next-preserved c =
    let on = subst (λ (n : Option ℕ). OnBlocks c.args.lay.now c.args.g.now c.loop-next.g c.loop-next.changed n) c.in-Some.is c.loop-next.invariant in
    blocks_more c.args.lay.now c.args.g.now c.loop-next.g c.take_block-again.new.g c.loop-next.changed c.take_block-again.result c.either-changed.result c.in-Some.b c.next_block-next.result on c.either-changed.ensures
    c.take_block-again.ensures.passed c.take_block-again.ensures.nothing c.is_graph-in-Some.ensures c.next_block-next.ensures.next c.next_block-next.ensures.live

pub returns-clause-nothing : goal.returns-clause-nothing
returns-clause-nothing c =
    blocks_end c.args.lay.now c.args.g.now c.loop-next.g c.loop-next.changed
    (subst (λ (n : Option ℕ). OnBlocks c.args.lay.now c.args.g.now c.loop-next.g c.loop-next.changed n) c.in_default.is c.loop-next.invariant)

pub take_block-again-requires-clause-program : goal.take_block-again-requires-clause-program
take_block-again-requires-clause-program c = row.stays c.args.lay.now c.loop-next.changed c.args.g.now c.loop-next.g c.requires.program (c.loop-next.invariant.passed)

pub next_block-next-requires : goal.next_block-next-requires
next_block-next-requires c =
    let on = subst (λ (n : Option ℕ). OnBlocks c.args.lay.now c.args.g.now c.loop-next.g c.loop-next.changed n) c.in-Some.is c.loop-next.invariant in
    live_block c.loop-next.g c.take_block-again.new.g c.in-Some.b on.live c.take_block-again.ensures.passed.ids.blocks

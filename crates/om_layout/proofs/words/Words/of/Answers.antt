use Rattle.std.proofs.Common.{◌<◌, Some, subst, sym}
use Rattle.std.specs.Prelude.{ℕ, Option}
use Rattle.om_layout.proofs.Walking.{OnBlocks, blocks_left, blocks_more, blocks_fewer}
use Rattle.om_layout.proofs.words.Words.of.Goals as goal

on : (c : goal.After-next_block-next) → OnBlocks c.args.graph.now (Some c.in-Some.b) c.loop-next.all
on c = subst (λ (n : Option ℕ). OnBlocks c.args.graph.now n c.loop-next.all) c.in-Some.is c.loop-next.invariant

pub loop-next-smaller : goal.loop-next-smaller
loop-next-smaller c =
    subst (λ (n : Option ℕ). blocks_left c.args.graph.now c.next_block-next.result < blocks_left c.args.graph.now n) (sym c.in-Some.is)
    (blocks_fewer c.args.graph.now c.is_graph.ensures c.in-Some.b c.next_block-next.result c.loop-next.all (on c) c.next_block-next.ensures.next)

pub loop-next-preserved : goal.loop-next-preserved
loop-next-preserved c =
    blocks_more c.args.graph.now c.is_graph.ensures c.in-Some.b c.next_block-next.result c.loop-next.all c.add_block.new.self (on c) c.in_ok-add_block.ensures c.next_block-next.ensures.next c.next_block-next.ensures.live

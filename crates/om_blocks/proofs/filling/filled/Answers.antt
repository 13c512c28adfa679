use Rattle.std.proofs.Common.{◌<◌, ℕ, List, Option, Some, sym, subst}
use Rattle.om_flow.specs.declared.parts.FlowBlock.{FlowBlock}
use Rattle.om_blocks.specs.Filling.{AreFilled}
use Rattle.om_blocks.proofs.Walking.{OnBlocks, blocks_left, blocks_begin, blocks_more, blocks_fewer, found_here}
use Rattle.om_blocks.proofs.OnFilling.{filled_first, filled_more}
use Rattle.om_blocks.proofs.filling.filled.Goals as goal

pub loop-next-init : goal.loop-next-init
loop-next-init c =
    blocks_begin (List FlowBlock) (AreFilled c.args.g.now c.args.outside) c.args.g.now c.requires.graph c.first_block-next.result c.in_ok-entries.entries.items c.first_block-next.ensures.first
    c.first_block-next.ensures.live
    (rw (c.in_ok-entries.ensures.items_if_clones_equal (λ y e. e)) (filled_first c.args.g.now c.args.outside))

on : (c : goal.After-next_block-next) → OnBlocks (List FlowBlock) (AreFilled c.args.g.now c.args.outside) c.args.g.now (Some c.in-Some.b) c.loop-next.entries.items
on c = subst (λ (n : Option ℕ). OnBlocks (List FlowBlock) (AreFilled c.args.g.now c.args.outside) c.args.g.now n c.loop-next.entries.items) c.in-Some.is c.loop-next.invariant

pub loop-next-smaller : goal.loop-next-smaller
loop-next-smaller c =
    subst (λ (n : Option ℕ). blocks_left (List FlowBlock) (AreFilled c.args.g.now c.args.outside) c.args.g.now c.next_block-next.result < blocks_left (List FlowBlock) (AreFilled c.args.g.now c.args.outside) c.args.g.now n)
    (sym c.in-Some.is)
    (blocks_fewer (List FlowBlock) (AreFilled c.args.g.now c.args.outside) c.args.g.now c.requires.graph c.in-Some.b c.next_block-next.result c.loop-next.entries.items (on c) c.next_block-next.ensures.next)

pub loop-next-preserved : goal.loop-next-preserved
loop-next-preserved c =
    rw c.number.ensures
    (blocks_more (List FlowBlock) (AreFilled c.args.g.now c.args.outside) c.args.g.now c.requires.graph c.in-Some.b c.next_block-next.result c.loop-next.entries.items _ (on c)
    (λ done x hx same old.
    filled_more c.args.g.now c.requires.graph c.args.outside done x c.in-Some.b c.block_flow.result c.loop-next.entries.items hx same
    (c.requires.rows c.in-Some.b (found_here c.args.g.now c.requires.graph x c.in-Some.b hx same).1)
    (c.block_flow.ensures x (found_here c.args.g.now c.requires.graph x c.in-Some.b hx same).0) old)
    c.next_block-next.ensures.next c.next_block-next.ensures.live)

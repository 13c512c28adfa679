use Rattle.std.proofs.Common.{◌<◌, ℕ, Bool, true, [], Option, Some, sym, subst}
use Rattle.om_blocks.proofs.Walking.{OnBlocks, blocks_left, blocks_begin, blocks_more, blocks_fewer}
use Rattle.om_dead.proofs.OnFollowing.{Any, any_block}
use Rattle.om_dead.proofs.sources.Sources.of.Goals as goal

pub loop-next-init : goal.loop-next-init
loop-next-init c = blocks_begin Bool Any c.args.g.now c.requires c.first_block-next.result true c.first_block-next.ensures.first c.first_block-next.ensures.live (any_block [] true)

on : (c : goal.After-next_block-next) → OnBlocks Bool Any c.args.g.now (Some c.in-Some.b) true
on c = subst (λ (n : Option ℕ). OnBlocks Bool Any c.args.g.now n true) c.in-Some.is c.loop-next.invariant

pub loop-next-smaller : goal.loop-next-smaller
loop-next-smaller c =
    subst (λ (n : Option ℕ). blocks_left Bool Any c.args.g.now c.next_block-next.result < blocks_left Bool Any c.args.g.now n) (sym c.in-Some.is)
    (blocks_fewer Bool Any c.args.g.now c.requires c.in-Some.b c.next_block-next.result true (on c) c.next_block-next.ensures.next)

pub loop-next-preserved : goal.loop-next-preserved
loop-next-preserved c =
    blocks_more Bool Any c.args.g.now c.requires c.in-Some.b c.next_block-next.result true true (on c) (λ done x hx same old. any_block _ true) c.next_block-next.ensures.next
    c.next_block-next.ensures.live

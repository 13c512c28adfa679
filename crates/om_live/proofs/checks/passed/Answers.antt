use Rattle.std.proofs.Common.{◌<◌, ℕ, Option, Some, refl, sym, subst}
use Rattle.om_blocks.proofs.Walking as walk
use Rattle.om_blocks.proofs.Walking.{OnBlocks, blocks_left, blocks_begin, blocks_fewer}
use Rattle.om_live.specs.Passing.{Passes}
use Rattle.om_live.proofs.OnChecks.{passes_first}
use Rattle.om_live.proofs.checks.passed.Goals as goal

on : (c : goal.After-next_block-next) → OnBlocks ℕ (Passes c.args.g.now c.args.l.now) c.args.g.now (Some c.in-Some.b) c.loop-next.out
on c = subst (λ (n : Option ℕ). OnBlocks ℕ (Passes c.args.g.now c.args.l.now) c.args.g.now n c.loop-next.out) c.in-Some.is c.loop-next.invariant

pub loop-next-smaller : goal.loop-next-smaller
loop-next-smaller c =
    subst (λ (n : Option ℕ). blocks_left ℕ (Passes c.args.g.now c.args.l.now) c.args.g.now c.next_block-next.result < blocks_left ℕ (Passes c.args.g.now c.args.l.now) c.args.g.now n)
    (sym c.in-Some.is)
    (blocks_fewer ℕ (Passes c.args.g.now c.args.l.now) c.args.g.now c.requires.graph c.in-Some.b c.next_block-next.result c.loop-next.out (on c) c.next_block-next.ensures.next)

pub loop-next-preserved : goal.loop-next-preserved
loop-next-preserved c =
    walk.blocks_more ℕ (Passes c.args.g.now c.args.l.now) c.args.g.now c.requires.graph c.in-Some.b c.next_block-next.result c.loop-next.out c.in-Some-step.left (on c)
    (λ done x hx same old. (c.in-Some-step.ensures.some c.in-Some-step.left refl x hx same).more done old)
    c.next_block-next.ensures.next c.next_block-next.ensures.live

pub loop-next-init : goal.loop-next-init
loop-next-init c =
    blocks_begin ℕ (Passes c.args.g.now c.args.l.now) c.args.g.now c.requires.graph c.first_block-next.result 2147483647 c.first_block-next.ensures.first c.first_block-next.ensures.live
    (passes_first c.args.g.now c.args.l.now)

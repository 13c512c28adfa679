use Rattle.std.proofs.Common.{◌<◌, ℕ, Option, Some, refl, sym, subst}
use Rattle.om_flow.specs.declared.parts.Fact.{Fact}
use Rattle.om_blocks.proofs.Walking as walk
use Rattle.om_blocks.proofs.Walking.{OnBlocks, blocks_left, blocks_fewer}
use Rattle.om_gpfacts.specs.Passing.{Passes}
use Rattle.om_gpfacts.proofs.checks.passed.Goals as goal

on : (c : goal.After-next_block-next) → OnBlocks Fact (Passes c.args.g.now c.args.f.now) c.args.g.now (Some c.in-Some.b) c.loop-next.out
on c = subst (λ (n : Option ℕ). OnBlocks Fact (Passes c.args.g.now c.args.f.now) c.args.g.now n c.loop-next.out) c.in-Some.is c.loop-next.invariant

pub loop-next-smaller : goal.loop-next-smaller
loop-next-smaller c =
    subst (λ (n : Option ℕ). blocks_left Fact (Passes c.args.g.now c.args.f.now) c.args.g.now c.next_block-next.result < blocks_left Fact (Passes c.args.g.now c.args.f.now) c.args.g.now n)
    (sym c.in-Some.is)
    (blocks_fewer Fact (Passes c.args.g.now c.args.f.now) c.args.g.now c.requires.graph c.in-Some.b c.next_block-next.result c.loop-next.out (on c) c.next_block-next.ensures.next)

pub loop-next-preserved : goal.loop-next-preserved
loop-next-preserved c =
    walk.blocks_more Fact (Passes c.args.g.now c.args.f.now) c.args.g.now c.requires.graph c.in-Some.b c.next_block-next.result c.loop-next.out c.in-Some-step.sent (on c)
    (λ done x hx same old. (c.in-Some-step.ensures.some c.in-Some-step.sent refl x hx same).more done old)
    c.next_block-next.ensures.next c.next_block-next.ensures.live

use Rattle.om_flow.specs.declared.parts.Fact.{Fact}
use Rattle.om_blocks.proofs.Walking.{OnBlocks, blocks_left}
use Rattle.om_gpfacts.specs.Passing.{Passes}
use Rattle.om_gpfacts.proofs.checks.passed.Given as goal

abbrev pub invariant-loop-next : goal.invariant-loop-next
invariant-loop-next l = OnBlocks Fact (Passes l.g l.f) l.g l.next l.out

abbrev pub decreases-loop-next : goal.decreases-loop-next
decreases-loop-next l = blocks_left Fact (Passes l.g l.f) l.g l.next

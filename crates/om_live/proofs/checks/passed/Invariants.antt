use Rattle.std.proofs.Common.{ℕ}
use Rattle.om_blocks.proofs.Walking.{OnBlocks, blocks_left}
use Rattle.om_live.specs.Passing.{Passes}
use Rattle.om_live.proofs.checks.passed.Given as goal

abbrev pub invariant-loop-next : goal.invariant-loop-next
invariant-loop-next l = OnBlocks ℕ (Passes l.g l.l) l.g l.next l.out

abbrev pub decreases-loop-next : goal.decreases-loop-next
decreases-loop-next l = blocks_left ℕ (Passes l.g l.l) l.g l.next

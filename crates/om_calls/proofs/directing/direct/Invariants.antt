use Rattle.om_calls.specs.Known.{NoDirectIn}
use Rattle.om_calls.proofs.Blocks.{OnPass, left_in}
use Rattle.om_calls.proofs.directing.direct.Given as goal

abbrev pub invariant-loop-next : goal.invariant-loop-next
invariant-loop-next l = OnPass NoDirectIn l.initial.g l.next l.changed l.g

abbrev pub decreases-loop-next : goal.decreases-loop-next
decreases-loop-next l = left_in l.g l.next

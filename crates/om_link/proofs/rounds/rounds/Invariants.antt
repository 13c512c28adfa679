use Rattle.om_link.specs.Turns.{IsBetween}
use Rattle.om_link.proofs.Turns.{left_to_go}
use Rattle.om_link.proofs.rounds.rounds.Given as goal

abbrev pub invariant-loop-uses : goal.invariant-loop-uses
invariant-loop-uses l = IsBetween l.p l.fn.g l.g l.uses l.pruned

abbrev pub decreases-loop-uses : goal.decreases-loop-uses
decreases-loop-uses l = left_to_go l.g l.pruned

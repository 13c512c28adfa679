use Rattle.om_graph.specs.Weight.{weight}
use Rattle.om_dead.specs.Words.{AreDeleted}
use Rattle.om_dead.proofs.words.delete_dead.Given as goal

abbrev pub invariant-loop-again : goal.invariant-loop-again
invariant-loop-again l = AreDeleted l.changed l.initial.g l.g

abbrev pub decreases-loop-again : goal.decreases-loop-again
decreases-loop-again l = weight l.g

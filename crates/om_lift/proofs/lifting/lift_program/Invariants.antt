use Rattle.om_lift.specs.Lifting.{HasLifted}
use Rattle.om_lift.proofs.lifting.lift_program.Given as goal

abbrev pub invariant-loop-obj : goal.invariant-loop-obj
invariant-loop-obj l = HasLifted l.p l.obj l.graph

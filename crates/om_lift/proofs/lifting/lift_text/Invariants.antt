use Rattle.om_lift.proofs.Texts.{Lifting}
use Rattle.om_lift.proofs.lifting.lift_text.Given as goal

abbrev pub invariant-loop-word : goal.invariant-loop-word
invariant-loop-word l = Lifting l.p l.obj l.word l.block l.graph

use Rattle.std.proofs.Common.{◌≡◌, length, take}
use Rattle.std.specs.Prelude.{map}
use Rattle.om_lift.proofs.lifting.counts_of.Given as goal

abbrev pub invariant-loop-obj : goal.invariant-loop-obj
invariant-loop-obj l = l.counts.items ≡ map (λ text. length text) (take l.obj l.p.texts)

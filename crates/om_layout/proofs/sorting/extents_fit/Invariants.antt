use Rattle.std.specs.Prelude.{All, take}
use Rattle.om_layout.specs.Placing.{Fits}
use Rattle.om_layout.proofs.sorting.extents_fit.Given as goal

abbrev pub invariant-loop-e : goal.invariant-loop-e
invariant-loop-e l = All (λ e. Fits e.region) (take l.e-index l.extents)

use Rattle.std.proofs.Common.{ℕ, ◌<◌, slice_index_or}
use Rattle.om_image.specs.declared.map.Target.{Target}
use Rattle.om_image.specs.RoundTrip.{HasTargetWidths}
use Rattle.om_image.proofs.widths.slots_fit.Given as goal

abbrev pub invariant-loop-target : goal.invariant-loop-target
invariant-loop-target l = (k : ℕ) → (d : Target) → k < l.target-index → HasTargetWidths (slice_index_or l.slots k d)

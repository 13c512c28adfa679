use Rattle.std.proofs.Common.{ℕ, ◌<◌, slice_index_or}
use Rattle.om_image.specs.declared.map.MapRegion.{MapRegion}
use Rattle.om_image.specs.RoundTrip.{HasExtentWidths}
use Rattle.om_image.proofs.widths.extents_fit.Given as goal

abbrev pub invariant-loop-r : goal.invariant-loop-r
invariant-loop-r l = (k : ℕ) → (d : MapRegion) → k < l.r-index → HasExtentWidths (slice_index_or l.regions k d)

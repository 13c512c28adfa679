use Rattle.std.proofs.Common.{ℕ, ◌<◌, slice_index_or}
use Rattle.om_image.specs.declared.map.MapTable.{MapTable}
use Rattle.om_image.specs.RoundTrip.{HasTableWidths}
use Rattle.om_image.proofs.widths.tables_fit.Given as goal

abbrev pub invariant-loop-t : goal.invariant-loop-t
invariant-loop-t l = (k : ℕ) → (d : MapTable) → k < l.t-index → HasTableWidths (slice_index_or l.tables k d)

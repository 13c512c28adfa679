use Rattle.std.proofs.Common.{ℕ, ◌<◌, slice_index_or}
use Rattle.om_image.specs.declared.map.MapObj.{MapObj}
use Rattle.om_image.specs.RoundTrip.{HasObjWidths}
use Rattle.om_image.proofs.widths.objects_fit.Given as goal

abbrev pub invariant-loop-o : goal.invariant-loop-o
invariant-loop-o l = (k : ℕ) → (d : MapObj) → k < l.o-index → HasObjWidths (slice_index_or l.objects k d)

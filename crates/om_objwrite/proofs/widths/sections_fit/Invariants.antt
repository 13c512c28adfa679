use Rattle.std.proofs.Common.{ℕ, ◌<◌, slice_index_or}
use Rattle.om_object.specs.declared.parts.Section.{Section}
use Rattle.om_objwrite.specs.RoundTrip.{HasSectionWidths}
use Rattle.om_objwrite.proofs.widths.sections_fit.Given as goal

abbrev pub invariant-loop-s : goal.invariant-loop-s
invariant-loop-s l = (k : ℕ) → (d : Section) → k < l.s-index → HasSectionWidths (slice_index_or l.sections k d)

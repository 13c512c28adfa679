use Rattle.std.proofs.Common.{ℕ, ◌<◌, slice_index_or}
use Rattle.om_reloc.specs.declared.reloc.Reloc.{Reloc}
use Rattle.om_objwrite.specs.RoundTrip.{HasRelocWidths}
use Rattle.om_objwrite.proofs.widths.relocs_fit.Given as goal

abbrev pub invariant-loop-r : goal.invariant-loop-r
invariant-loop-r l = (k : ℕ) → (d : Reloc) → k < l.r-index → HasRelocWidths (slice_index_or l.relocs k d)

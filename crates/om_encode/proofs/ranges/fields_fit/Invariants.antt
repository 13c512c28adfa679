use Rattle.std.proofs.Common.{ℕ, ◌<◌, slice_index_or}
use Rattle.om_lockstep.specs.Addresses.{IsValue}
use Rattle.om_prog.specs.declared.item.Field.{Field}
use Rattle.om_encode.proofs.ranges.fields_fit.Given as goal

abbrev pub invariant-loop-field : goal.invariant-loop-field
invariant-loop-field l = (k : ℕ) → (d : Field) → k < l.field-index → IsValue (slice_index_or l.fields k d).value

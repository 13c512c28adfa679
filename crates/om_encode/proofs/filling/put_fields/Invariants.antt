use Rattle.std.proofs.Common.{◌≡◌, drop}
use Rattle.om_encode.specs.DataBytes.{with_fields}
use Rattle.om_encode.proofs.filling.put_fields.Given as goal

abbrev pub invariant-loop-field : goal.invariant-loop-field
invariant-loop-field l =
    with_fields l.layout l.base (drop l.field-index l.fields) l.bytes ≡ with_fields l.layout l.base l.fields l.fn.bytes

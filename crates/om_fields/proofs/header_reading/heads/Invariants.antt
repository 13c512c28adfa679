use Rattle.std.proofs.Common.{◌≡◌}
use Rattle.om_fields.specs.Places.{each}
use Rattle.om_fields.specs.HeaderFields.{head_of}
use Rattle.om_fields.proofs.header_reading.heads.Given as goal

abbrev pub invariant-loop-k : goal.invariant-loop-k
invariant-loop-k l = l.heads.items ≡ each (head_of l.bytes) l.k

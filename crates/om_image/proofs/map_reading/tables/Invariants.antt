use Rattle.std.proofs.Common.{◌≡◌, ◌+◌, ◌*◌}
use Rattle.om_fields.specs.Places.{each}
use Rattle.om_image.specs.MapFields.{table_at, slots_before}
use Rattle.om_image.proofs.map_reading.tables.Given as goal

abbrev pub invariant-loop-k : goal.invariant-loop-k
invariant-loop-k l = (l.tables.items ≡ each (table_at l.b) l.k) × (l.place ≡ l.slots_at + 24 * slots_before l.b l.k)

use Rattle.std.proofs.Common.{◌≡◌, ◌+◌, ◌*◌}
use Rattle.om_fields.specs.Places.{each}
use Rattle.om_image.specs.MapFields.{slot_at}
use Rattle.om_image.proofs.map_reading.slots.Given as goal

abbrev pub invariant-loop-j : goal.invariant-loop-j
invariant-loop-j l = l.slots.items ≡ each (λ j. slot_at l.b (l.at + 24 * j)) l.j

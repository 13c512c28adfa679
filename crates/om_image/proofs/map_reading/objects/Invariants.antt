use Rattle.std.proofs.Common.{◌≡◌, ◌+◌, ◌*◌}
use Rattle.om_fields.specs.Places.{each}
use Rattle.om_image.specs.MapFields.{object_at}
use Rattle.om_image.proofs.map_reading.objects.Given as goal

abbrev pub invariant-loop-k : goal.invariant-loop-k
invariant-loop-k l = l.objects.items ≡ each (λ k. object_at l.b (24 + 8 * k)) l.k

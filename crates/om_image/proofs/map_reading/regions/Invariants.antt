use Rattle.std.proofs.Common.{◌≡◌, ◌+◌, ◌*◌}
use Rattle.om_fields.specs.Places.{each}
use Rattle.om_image.specs.MapFields.{map_region_at}
use Rattle.om_image.proofs.map_reading.regions.Given as goal

abbrev pub invariant-loop-k : goal.invariant-loop-k
invariant-loop-k l = l.regions.items ≡ each (λ k. map_region_at l.b (l.at + 32 * k)) l.k

use Rattle.std.proofs.Common.{◌≡◌, ◌+◌, ◌*◌}
use Rattle.om_fields.specs.Places.{each}
use Rattle.om_image.specs.MapFields.{source_at}
use Rattle.om_image.proofs.map_reading.sources.Given as goal

abbrev pub invariant-loop-k : goal.invariant-loop-k
invariant-loop-k l = l.words.items ≡ each (λ k. source_at l.b (l.at + 8 * k)) l.k

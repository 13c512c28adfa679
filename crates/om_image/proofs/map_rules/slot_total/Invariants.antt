use Rattle.std.proofs.Common.{◌≡◌, ◌≤◌, ◌+◌, ◌*◌}
use Rattle.om_fields.specs.Places.{number_at}
use Rattle.om_image.specs.MapFields.{sum_below}
use Rattle.om_image.proofs.map_rules.slot_total.Given as goal

abbrev pub invariant-loop-k : goal.invariant-loop-k
invariant-loop-k l =
    (l.total ≡ sum_below (λ k. number_at l.b (l.at + 16 * k + 8) 4) l.k) × (l.total ≤ 4294967295 * l.k)

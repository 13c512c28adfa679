use Rattle.std.proofs.Common.{◌≡◌, ◌<◌, ℕ, true}
use Rattle.om_image.specs.MapFields.{is_fine}
use Rattle.om_image.proofs.map_rules.are_fine.Given as goal

abbrev pub invariant-loop-k : goal.invariant-loop-k
invariant-loop-k l = (j : ℕ) → j < l.k → is_fine l.part l.b l.at l.bound j ≡ true

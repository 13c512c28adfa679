use Rattle.std.proofs.Common.{◌≡◌, ◌<◌, ℕ, false}
use Rattle.om_image.specs.Rules.{is_unreadable}
use Rattle.om_image.proofs.reading.first_in.Given as goal

abbrev pub invariant-loop-k : goal.invariant-loop-k
invariant-loop-k l = (j : ℕ) → j < l.k → is_unreadable l.text j ≡ false

use Rattle.std.proofs.Common.{◌≡◌, ◌<◌, ℕ, false}
use Rattle.om_uses.specs.Scans.{has_bit}
use Rattle.om_uses.proofs.scans.lowest.Given as goal

abbrev pub invariant-loop-r : goal.invariant-loop-r
invariant-loop-r l = (k : ℕ) → k < l.r → has_bit l.mask k ≡ false

use Rattle.std.proofs.Common.{◌≡◌, ◌<◌, ◌≤◌, ◌==◌, ℕ, get_or, cond}
use Rattle.std.specs.Int.{bit_at, byte_at}
use Rattle.om_alpha.proofs.compute.zap.Given as goal

abbrev pub invariant-loop-i : goal.invariant-loop-i
invariant-loop-i l =
    ((k : ℕ) → k < l.i → get_or l.bytes k 0 ≡ cond (bit_at l.cleared k == 0) (byte_at k l.a) 0)
    × ((k : ℕ) → l.i ≤ k → k < 8 → get_or l.bytes k 0 ≡ byte_at k l.a)

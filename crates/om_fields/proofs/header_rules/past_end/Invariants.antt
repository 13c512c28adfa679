use Rattle.std.proofs.Common.{◌≡◌, ◌<◌, ℕ, false}
use Rattle.om_fields.specs.HeaderFields.{runs_past}
use Rattle.om_fields.proofs.header_rules.past_end.Given as goal

abbrev pub invariant-loop-k : goal.invariant-loop-k
invariant-loop-k l = (j : ℕ) → j < l.k → runs_past l.bytes j ≡ false

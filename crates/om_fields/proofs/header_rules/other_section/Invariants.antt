use Rattle.std.proofs.Common.{◌≡◌, ◌<◌, ℕ, false}
use Rattle.om_fields.specs.HeaderFields.{is_other}
use Rattle.om_fields.proofs.header_rules.other_section.Given as goal

abbrev pub invariant-loop-k : goal.invariant-loop-k
invariant-loop-k l = (j : ℕ) → j < l.k → is_other l.bytes j ≡ false

use Rattle.std.proofs.Common.{◌≡◌, ◌<◌, ℕ, false}
use Rattle.om_fields.specs.HeaderFields.{head_of}
use Rattle.om_object.specs.File.{head_breaks}
use Rattle.om_object.proofs.tables.first_table.Given as goal

abbrev pub invariant-loop-k : goal.invariant-loop-k
invariant-loop-k l = (j : ℕ) → j < l.k → head_breaks l.rule l.bytes (head_of l.bytes j) ≡ false

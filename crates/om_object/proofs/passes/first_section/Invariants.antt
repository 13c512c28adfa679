use Rattle.std.proofs.Common.{◌≡◌, ◌<◌, ℕ, false}
use Rattle.om_object.specs.Rules.{section_at, section_breaks}
use Rattle.om_object.proofs.passes.first_section.Given as goal

abbrev pub invariant-loop-a : goal.invariant-loop-a
invariant-loop-a l = (k : ℕ) → k < l.a → section_breaks l.rule (section_at l.p k) ≡ false

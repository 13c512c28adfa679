use Rattle.std.proofs.Common.{◌≡◌, ◌<◌, ℕ, false}
use Rattle.om_object.specs.declared.rules.Pass.TheVariants.{Astray}
use Rattle.om_object.specs.Passes.{test_of}
use Rattle.om_object.proofs.text.first_astray.Given as goal

abbrev pub invariant-loop-k : goal.invariant-loop-k
invariant-loop-k l = (j : ℕ) → j < l.k → test_of l.p Astray l.s j ≡ false

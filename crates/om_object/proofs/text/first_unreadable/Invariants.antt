use Rattle.std.proofs.Common.{◌≡◌, ◌<◌, ℕ, false}
use Rattle.om_object.specs.declared.rules.Pass.TheVariants.{Unreadable}
use Rattle.om_object.specs.Passes.{test_of}
use Rattle.om_object.proofs.text.first_unreadable.Given as goal

abbrev pub invariant-loop-k : goal.invariant-loop-k
invariant-loop-k l = (j : ℕ) → j < l.k → test_of l.p Unreadable l.s j ≡ false

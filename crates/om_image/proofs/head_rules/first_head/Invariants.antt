use Rattle.std.proofs.Common.{◌≡◌, ◌<◌, ℕ, false}
use Rattle.om_image.specs.Rules.{breaks_head}
use Rattle.om_image.proofs.head_rules.first_head.Given as goal

abbrev pub invariant-loop-k : goal.invariant-loop-k
invariant-loop-k l = (j : ℕ) → j < l.k → breaks_head l.rule l.bytes j ≡ false

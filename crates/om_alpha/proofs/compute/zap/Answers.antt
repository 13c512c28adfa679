use Rattle.std.proofs.Common.{arith}
use Rattle.std.proofs.lemmas.Grind.{common_steps}
use Rattle.om_alpha.proofs.compute.zap.Goals as goal
use Rattle.om_alpha.proofs.compute.zap.Goals.{then-cleared-i-eq1, else-cleared-i-eq1}

pub loop-i-preserved : goal.loop-i-preserved
loop-i-preserved c =
    elim c.if-cleared-i-eq1.branch [
      | then-cleared-i-eq1 w ↦ (
        (λ k h. grind (arith, common_steps, c.loop-i.invariant.0 k, c.loop-i.invariant.1 k)),
        (λ k h h2. grind (arith, common_steps, c.loop-i.invariant.1 k)),
      )
      | else-cleared-i-eq1 w ↦ (
        (λ k h. grind (arith, common_steps, c.loop-i.invariant.0 k, c.loop-i.invariant.1 k)),
        (λ k h h2. grind (arith, common_steps, c.loop-i.invariant.1 k)),
      )
    ]

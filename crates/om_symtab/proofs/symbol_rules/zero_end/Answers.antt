use Rattle.std.proofs.Common.{◌≡◌, ◌-◌, ℕ, suc, arith, subst}
use Rattle.std.specs.Prelude.{drop}
use Rattle.om_symtab.specs.Zeros.{zero_end}
use Rattle.om_symtab.proofs.Fronts.{zeros-here}
use Rattle.om_symtab.proofs.symbol_rules.zero_end.Goals as goal

pub returns-then-bytes-i-eq0 : goal.returns-then-bytes-i-eq0
returns-then-bytes-i-eq0 c =
    let e : c.loop-i.i ≡ suc (c.loop-i.i - 1) = omega (arith, c.loop-i-test.true) in
    let past = subst (λ (n : ℕ). zero_end (drop n c.args.bytes.now) ≡ 0) e c.loop-i.invariant in
    let here = zeros-here c.args.bytes.now (c.loop-i.i - 1) (omega (arith, c.loop-i-test.true, c.loop-i.auto.i)) past c.if-bytes-i-eq0.true in
    omega (arith, here, c.loop-i-test.true)

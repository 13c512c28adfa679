use Rattle.std.proofs.Common.{◌≡◌, false, sym, arith}
use Rattle.om_image.specs.MapFields.{is_fine}
use Rattle.om_image.proofs.Below.{all_true, all_fails}
use Rattle.om_image.proofs.map_rules.are_fine.Goals as goal

pub returns-then-not-is_fine : goal.returns-then-not-is_fine
returns-then-not-is_fine c =
    let fails : is_fine c.args.part c.args.b.now c.args.at c.args.bound c.loop-k.k ≡ false = cc in
    sym (all_fails (is_fine c.args.part c.args.b.now c.args.at c.args.bound) c.args.n c.loop-k.k (omega (arith, c.loop-k-test.true)) fails)

pub returns : goal.returns
returns c =
    sym (all_true (is_fine c.args.part c.args.b.now c.args.at c.args.bound) c.args.n
    (λ j h. c.loop-k.invariant j (omega (arith, h, c.loop-k-test.false, c.loop-k.auto.k-end))))

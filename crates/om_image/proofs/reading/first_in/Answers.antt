use Rattle.std.proofs.Common.{◌≡◌, ◌+◌, ◌*◌, ◌/◌, true, length, sym, arith}
use Rattle.om_fields.proofs.Picked.{Rises, picked-first, picked-none}
use Rattle.om_image.specs.Rules.{is_unreadable}
use Rattle.om_image.proofs.reading.first_in.Goals as goal

pub returns-then-is_unreadable-clause-gives : goal.returns-then-is_unreadable-clause-gives
returns-then-is_unreadable-clause-gives c =
    let holds : is_unreadable c.args.text.now c.loop-k.k ≡ true = cc in
    let rises : Rises (λ k. c.args.at + 4 * k) = λ i j h. omega (arith, h) in
    sym (picked-first (is_unreadable c.args.text.now) (λ k. c.args.at + 4 * k) (length c.args.text.now / 4) c.loop-k.k rises
    (omega (arith, c.loop-k-test.true)) holds c.loop-k.invariant)

pub returns-clause-gives : goal.returns-clause-gives
returns-clause-gives c =
    sym (picked-none (is_unreadable c.args.text.now) (λ k. c.args.at + 4 * k) (length c.args.text.now / 4)
    (λ j h. c.loop-k.invariant j (omega (arith, h, c.loop-k-test.false, c.loop-k.auto.k-end))))

use Rattle.std.proofs.Common.{◌≡◌, ◌<◌, ◌*◌, ◌/◌, true, sym, ◌∙◌, ap, arith, length}
use Rattle.om_fields.proofs.Picked.{picked-first, picked-none, indices-rise}
use Rattle.om_object.specs.declared.rules.Pass.TheVariants.{Unreadable}
use Rattle.om_object.specs.Rules.{is_unreadable}
use Rattle.om_object.specs.Passes.{test_of}
use Rattle.om_object.proofs.Elsewhere.{none-elsewhere, found-here}
use Rattle.om_object.proofs.text.first_unreadable.Goals as goal

pub returns-then-s-ne1 : goal.returns-then-s-ne1
returns-then-s-ne1 c =
    sym (none-elsewhere c.args.s.now.number (λ k. is_unreadable c.args.s.now (4 * k)) (λ i. i) (length c.args.s.now.bytes / 4) c.if-s-ne1.true)

pub returns-then-is_unreadable : goal.returns-then-is_unreadable
returns-then-is_unreadable c =
    let s = c.args.s.now in
    let len : length c.as_slice.result.now ≡ length s.bytes = ap length c.as_slice.ensures in
    let below : c.loop-k.k < length s.bytes / 4 = omega (arith, len, c.loop-k-test.true) in
    let holds : test_of c.args.p.now Unreadable s c.loop-k.k ≡ true =
    found-here s.number (is_unreadable s (4 * c.loop-k.k)) true c.if-s-ne1.false (sym c.is_unreadable.ensures ∙ c.if-is_unreadable.true) in
    sym (picked-first (test_of c.args.p.now Unreadable s) (λ i. i) (length s.bytes / 4) c.loop-k.k indices-rise below holds c.loop-k.invariant)

pub returns : goal.returns
returns c =
    let s = c.args.s.now in
    let len : length c.as_slice.result.now ≡ length s.bytes = ap length c.as_slice.ensures in
    sym (picked-none (test_of c.args.p.now Unreadable s) (λ i. i) (length s.bytes / 4)
    (λ j h. c.loop-k.invariant j (omega (arith, h, len, c.loop-k-test.false, c.loop-k.auto.k-end))))

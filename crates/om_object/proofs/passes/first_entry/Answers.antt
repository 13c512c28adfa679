use Rattle.std.proofs.Common.{◌≡◌, ◌<◌, true, sym, ap, arith, length}
use Rattle.om_fields.proofs.Picked.{picked-first, picked-none, indices-rise}
use Rattle.om_object.specs.Rules.{breaks_at}
use Rattle.om_object.proofs.passes.first_entry.Goals as goal

pub returns-then-breaks_here : goal.returns-then-breaks_here
returns-then-breaks_here c =
    let len : length c.as_slice-i-end.result.now ≡ length c.args.s.now.relocs = ap length c.as_slice-i-end.ensures in
    let below : c.loop-i.i < length c.args.s.now.relocs = omega (arith, len, c.loop-i-test.true) in
    let holds : breaks_at c.args.p.now c.args.rule c.args.s.now c.loop-i.i ≡ true = cc in
    sym (picked-first (breaks_at c.args.p.now c.args.rule c.args.s.now) (λ i. i) (length c.args.s.now.relocs) c.loop-i.i indices-rise below holds c.loop-i.invariant)

pub returns : goal.returns
returns c =
    let len : length c.as_slice-i-end.result.now ≡ length c.args.s.now.relocs = ap length c.as_slice-i-end.ensures in
    sym (picked-none (breaks_at c.args.p.now c.args.rule c.args.s.now) (λ i. i) (length c.args.s.now.relocs) (λ j h. c.loop-i.invariant j (omega (arith, h, len, c.loop-i-test.false, c.loop-i.auto.i-end))))

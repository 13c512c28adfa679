use Rattle.std.proofs.Common.{◌≡◌, ◌<◌, ◌||◌, Bool, true, false, sym, ◌∙◌, ap, arith, length, List, slice_index_or}
use Rattle.om_fields.proofs.Picked.{picked-first, picked-none, indices-rise, none-further}
use Rattle.om_reloc.specs.declared.reloc.Reloc.{Reloc}
use Rattle.om_object.specs.Rules.{is_unled, is_stray, is_literal, reloc_at, no_reloc}
use Rattle.om_object.proofs.Bytes.{led_further}
use Rattle.om_object.proofs.lituse.first_unled.Goals as goal

pub returns-then-is_stray : goal.returns-then-is_stray
returns-then-is_stray c =
    let s = c.args.s.now in
    let i = c.loop-i.i in
    let len : length c.as_slice-relocs.result.now ≡ length s.relocs = ap length c.as_slice-relocs.ensures in
    let below : i < length s.relocs = omega (arith, len, c.loop-i-test.true) in
    let test : c.is_stray.result ≡ is_unled s i =
    c.is_stray.ensures
    ∙ ap (λ (rs : List Reloc). is_stray c.loop-i.led (slice_index_or rs i no_reloc)) c.as_slice-relocs.ensures
    ∙ ap (λ (b : Bool). is_stray b (reloc_at s i)) c.loop-i.invariant.1 in
    let holds : is_unled s i ≡ true = sym test ∙ c.if-is_stray.true in
    sym (picked-first (is_unled s) (λ i. i) (length s.relocs) i indices-rise below holds c.loop-i.invariant.0)

pub loop-i-preserved : goal.loop-i-preserved
loop-i-preserved c =
    let s = c.args.s.now in
    let i = c.loop-i.i in
    let len : length c.as_slice-relocs.result.now ≡ length s.relocs = ap length c.as_slice-relocs.ensures in
    let below : i < length s.relocs = omega (arith, len, c.loop-i-test.true) in
    let test : c.is_stray.result ≡ is_unled s i =
    c.is_stray.ensures
    ∙ ap (λ (rs : List Reloc). is_stray c.loop-i.led (slice_index_or rs i no_reloc)) c.as_slice-relocs.ensures
    ∙ ap (λ (b : Bool). is_stray b (reloc_at s i)) c.loop-i.invariant.1 in
    let fails : is_unled s i ≡ false = sym test ∙ c.if-is_stray.false in (
      none-further (is_unled s) i c.loop-i.invariant.0 fails,
      c.either-led.ensures
          ∙ ap (λ (b : Bool). c.loop-i.led || b) (c.is_literal.ensures ∙ ap (λ (rs : List Reloc). is_literal (slice_index_or rs i no_reloc).kind) c.as_slice-relocs.ensures)
          ∙ ap (λ (b : Bool). b || is_literal (reloc_at s i).kind) c.loop-i.invariant.1
          ∙ sym (led_further s i below),
    )

pub returns : goal.returns
returns c =
    let len : length c.as_slice-relocs.result.now ≡ length c.args.s.now.relocs = ap length c.as_slice-relocs.ensures in
    sym (picked-none (is_unled c.args.s.now) (λ i. i) (length c.args.s.now.relocs) (λ j h. c.loop-i.invariant.0 j (omega (arith, h, len, c.loop-i-test.false, c.loop-i.auto.i-end))))

use Rattle.std.proofs.Common.{◌≡◌, ◌<◌, ◌==◌, ℕ, true, false, sym, ◌∙◌, ap, arith, length, take, List, slice_index_or}
use Rattle.std.specs.Prelude.{flat_map}
use Rattle.om_fields.specs.Places.{any_of}
use Rattle.om_fields.proofs.Picked.{picked-first, picked-none, indices-rise, none-further}
use Rattle.om_reloc.specs.declared.reloc.Reloc.{Reloc}
use Rattle.om_object.specs.Rules.{is_shared, field_bytes, no_reloc, repeats}
use Rattle.om_object.specs.Claims.{behind}
use Rattle.om_object.proofs.Bytes.{seen_further}
use Rattle.om_object.proofs.shared.first_shared.Goals as goal

pub returns : goal.returns
returns c =
    let len : length c.as_slice-relocs.result.now ≡ length c.args.s.now.relocs = ap length c.as_slice-relocs.ensures in
    sym (picked-none (is_shared c.args.s.now) (λ i. i) (length c.args.s.now.relocs) (λ j h. c.loop-i.invariant.0 j (omega (arith, h, len, c.loop-i-test.false, c.loop-i.auto.i-end))))

pub loop-i-preserved : goal.loop-i-preserved
loop-i-preserved c =
    let s = c.args.s.now in
    let i = c.loop-i.i in
    let seen : List ℕ = flat_map (field_bytes s) (take i s.relocs) in
    let len : length c.as_slice-relocs.result.now ≡ length s.relocs = ap length c.as_slice-relocs.ensures in
    let below : i < length s.relocs = omega (arith, len, c.loop-i-test.true) in
    let test : c.in_ok-claim_field.field-0 ≡ is_shared s i =
    c.in_ok-claim_field.ensures.had seen c.loop-i.invariant.1
    ∙ ap (λ (rs : List Reloc). repeats seen (field_bytes s (slice_index_or rs i no_reloc))) c.as_slice-relocs.ensures in
    let fails : is_shared s i ≡ false = sym test ∙ c.if-branch.false in
    let more = c.in_ok-claim_field.ensures.now seen c.loop-i.invariant.1 in (
      none-further (is_shared s) i c.loop-i.invariant.0 fails,
      record {
        holds = λ x. more.holds x
            ∙ ap (λ (rs : List Reloc). any_of (λ b. b == x) (behind seen (field_bytes s (slice_index_or rs i no_reloc)))) c.as_slice-relocs.ensures
            ∙ seen_further s i below (λ b. b == x);
      },
    )

pub returns-then-branch : goal.returns-then-branch
returns-then-branch c =
    let s = c.args.s.now in
    let i = c.loop-i.i in
    let seen : List ℕ = flat_map (field_bytes s) (take i s.relocs) in
    let len : length c.as_slice-relocs.result.now ≡ length s.relocs = ap length c.as_slice-relocs.ensures in
    let below : i < length s.relocs = omega (arith, len, c.loop-i-test.true) in
    let test : c.in_ok-claim_field.field-0 ≡ is_shared s i =
    c.in_ok-claim_field.ensures.had seen c.loop-i.invariant.1
    ∙ ap (λ (rs : List Reloc). repeats seen (field_bytes s (slice_index_or rs i no_reloc))) c.as_slice-relocs.ensures in
    let holds : is_shared s i ≡ true = sym test ∙ c.if-branch.true in
    sym (picked-first (is_shared s) (λ i. i) (length s.relocs) i indices-rise below holds c.loop-i.invariant.0)

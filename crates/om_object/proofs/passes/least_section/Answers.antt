use Rattle.std.proofs.Common.{◌≡◌, ◌<◌, ℕ, Bool, sym, ◌∙◌, ap, arith, length, List, slice_index_or}
use Rattle.std.specs.Prelude.{Option}
use Rattle.om_fields.specs.Places.{least, lesser_of, picked, place_if}
use Rattle.om_fields.proofs.Joined.{least-picked}
use Rattle.om_fields.proofs.Found.{item-any}
use Rattle.om_object.specs.declared.parts.Section.{Section}
use Rattle.om_object.specs.declared.origin.Origin.{Origin}
use Rattle.om_object.specs.Rules.{section_at, no_section, section_breaks}
use Rattle.om_object.specs.Spots.{no_origin, origin_at}
use Rattle.om_object.proofs.Places.{section_heads}
use Rattle.om_object.proofs.passes.least_section.Goals as goal

pub loop-a-preserved : goal.loop-a-preserved
loop-a-preserved c =
    let p = c.args.p.now in
    let o = c.args.o.now in
    let a = c.loop-a.a in
    let test : ℕ → Bool = λ i. section_breaks c.args.rule (section_at p i) in
    let place : ℕ → ℕ = λ i. (origin_at o i).head in
    let len : length c.as_slice-sections.result.now ≡ length p.sections = ap length c.as_slice-sections.ensures in
    let below : a < length p.sections = omega (arith, len, c.loop-a-test.true) in
    let section : c.index-sections-a.result ≡ section_at p a =
    c.index-sections-a.is
    ∙ ap (λ (xs : List Section). slice_index_or xs a c.index-sections-a.result) c.as_slice-sections.ensures
    ∙ item-any p.sections a c.index-sections-a.result no_section below in
    let broken : c.breaks_section.result ≡ test a = c.breaks_section.ensures ∙ ap (section_breaks c.args.rule) section in
    let here : c.place_if.result ≡ least (place_if (test a) (place a)) =
    c.place_if.ensures
    ∙ ap (λ (b : Bool). least (place_if b (slice_index_or c.as_slice-origins.result.now a no_origin).head)) broken
    ∙ ap (λ (os : List Origin). least (place_if (test a) (slice_index_or os a no_origin).head)) c.as_slice-origins.ensures in
    c.lesser-best.ensures
    ∙ ap (λ (b : Option ℕ). lesser_of b c.place_if.result) c.loop-a.invariant
    ∙ ap (lesser_of (least (picked test place a))) here
    ∙ sym (least-picked test place a)

pub returns : goal.returns
returns c =
    let p = c.args.p.now in
    let o = c.args.o.now in
    let len : length c.as_slice-sections.result.now ≡ length p.sections = ap length c.as_slice-sections.ensures in
    let e : c.loop-a.a ≡ length p.sections = omega (arith, len, c.loop-a-test.false, c.loop-a.auto.a-end) in
    c.loop-a.invariant
    ∙ ap (λ n. least (picked (λ i. section_breaks c.args.rule (section_at p i)) (λ i. (origin_at o i).head) n)) e
    ∙ ap least (sym (section_heads p o (section_breaks c.args.rule)))

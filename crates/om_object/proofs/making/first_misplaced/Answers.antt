use Rattle.std.proofs.Common.{◌≡◌, ◌<◌, ◌||◌, Bool, sym, ◌∙◌, ap, arith, length, List, slice_index_or}
use Rattle.std.specs.Prelude.{is_none}
use Rattle.om_fields.proofs.Picked.{picked-first, picked-none, none-further, indices-rise}
use Rattle.om_fields.proofs.Found.{item-any}
use Rattle.om_fields.specs.declared.extents.Extent.{Extent}
use Rattle.om_fields.specs.Sections.{name_of_number}
use Rattle.om_fields.specs.Extents.{is_misplaced, ends_late, collides}
use Rattle.om_object.specs.declared.parts.Section.{Section}
use Rattle.om_object.specs.Rules.{section_at, extent_of, section_extent, no_section}
use Rattle.om_object.proofs.making.first_misplaced.Goals as goal

pub returns-then-either : goal.returns-then-either
returns-then-either c =
    let p = c.args.p.now in
    let a = c.loop-a.a in
    let len : length c.as_slice-sections.result.now ≡ length p.sections = ap length c.as_slice-sections.ensures in
    let below : a < length p.sections = omega (arith, len, c.loop-a-test.true) in
    let section : c.index-sections-a.result ≡ section_at p a =
    c.index-sections-a.is
    ∙ ap (λ (xs : List Section). slice_index_or xs a c.index-sections-a.result) c.as_slice-sections.ensures
    ∙ item-any p.sections a c.index-sections-a.result no_section below in
    let range : c.extent-range.result ≡ section_extent p a = c.extent-range.ensures ∙ ap extent_of section in
    let placed : c.is_out_of_place.result ≡ is_misplaced (section_extent p) a =
    c.is_out_of_place.ensures
    ∙ ap (λ (es : List Extent). ends_late c.extent-range.result || collides es c.extent-range.result) c.deref.ensures.value
    ∙ ap (λ (e : Extent). ends_late e || collides c.loop-a.loaded.items e) range
    ∙ ap (λ (b : Bool). ends_late (section_extent p a) || b) (c.loop-a.invariant.1.same (section_extent p a)) in
    let test : c.either.result ≡ (is_none (name_of_number (section_at p a).number) || is_misplaced (section_extent p) a) =
    c.either.ensures
    ∙ ap (λ (b : Bool). b || c.is_out_of_place.result) (c.is_nameless.ensures ∙ ap (λ (s : Section). is_none (name_of_number s.number)) section)
    ∙ ap (λ (b : Bool). is_none (name_of_number (section_at p a).number) || b) placed in
    sym (picked-first (λ i. is_none (name_of_number (section_at p i).number) || is_misplaced (section_extent p) i) (λ i. i) (length p.sections) a
    indices-rise below (sym test ∙ c.if-either.true) c.loop-a.invariant.0)

pub loop-a-preserved : goal.loop-a-preserved
loop-a-preserved c =
    let p = c.args.p.now in
    let a = c.loop-a.a in
    let len : length c.as_slice-sections.result.now ≡ length p.sections = ap length c.as_slice-sections.ensures in
    let below : a < length p.sections = omega (arith, len, c.loop-a-test.true) in
    let section : c.index-sections-a.result ≡ section_at p a =
    c.index-sections-a.is
    ∙ ap (λ (xs : List Section). slice_index_or xs a c.index-sections-a.result) c.as_slice-sections.ensures
    ∙ item-any p.sections a c.index-sections-a.result no_section below in
    let range : c.extent-range.result ≡ section_extent p a = c.extent-range.ensures ∙ ap extent_of section in
    let placed : c.is_out_of_place.result ≡ is_misplaced (section_extent p) a =
    c.is_out_of_place.ensures
    ∙ ap (λ (es : List Extent). ends_late c.extent-range.result || collides es c.extent-range.result) c.deref.ensures.value
    ∙ ap (λ (e : Extent). ends_late e || collides c.loop-a.loaded.items e) range
    ∙ ap (λ (b : Bool). ends_late (section_extent p a) || b) (c.loop-a.invariant.1.same (section_extent p a)) in
    let test : c.either.result ≡ (is_none (name_of_number (section_at p a).number) || is_misplaced (section_extent p) a) =
    c.either.ensures
    ∙ ap (λ (b : Bool). b || c.is_out_of_place.result) (c.is_nameless.ensures ∙ ap (λ (s : Section). is_none (name_of_number s.number)) section)
    ∙ ap (λ (b : Bool). is_none (name_of_number (section_at p a).number) || b) placed in (
      none-further (λ i. is_none (name_of_number (section_at p i).number) || is_misplaced (section_extent p) i) a c.loop-a.invariant.0 (sym test ∙ c.if-either.false),
      c.in_ok-add_loaded.ensures.stands (section_extent p) a c.loop-a.invariant.1 (sym range),
    )

pub returns : goal.returns
returns c =
    let p = c.args.p.now in
    let len : length c.as_slice-sections.result.now ≡ length p.sections = ap length c.as_slice-sections.ensures in
    sym (picked-none (λ i. is_none (name_of_number (section_at p i).number) || is_misplaced (section_extent p) i) (λ i. i) (length p.sections)
    (λ i h. c.loop-a.invariant.0 i (omega (arith, h, len, c.loop-a-test.false, c.loop-a.auto.a-end))))

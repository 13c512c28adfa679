use Rattle.std.proofs.Common.{◌≡◌, ◌<◌, ◌^◌, ℕ, sym, ◌∙◌, ap, arith, length, List, slice_index_or, subst}
use Rattle.std.specs.Prelude.{Option, Some, option_map}
use Rattle.om_fields.specs.Places.{least, lesser_of, joined}
use Rattle.om_fields.proofs.Joined.{least-joined}
use Rattle.om_fields.proofs.Found.{item-any}
use Rattle.om_object.specs.declared.parts.Section.{Section}
use Rattle.om_object.specs.declared.origin.Origin.{Origin}
use Rattle.om_object.specs.Rules.{section_at, no_section}
use Rattle.om_object.specs.Spots.{no_origin, origin_at}
use Rattle.om_object.specs.Passes.{indices_of, item_place}
use Rattle.om_object.proofs.Places.{places_in, places_by_section, section_least, index_fits}
use Rattle.om_object.proofs.passes.least_found.Goals as goal

pub found_place-requires : goal.found_place-requires
found_place-requires c i e =
    let p = c.args.p.now in
    let o = c.args.o.now in
    let a = c.loop-a.a in
    let len : length c.as_slice-sections.result.now ≡ length p.sections = ap length c.as_slice-sections.ensures in
    let below : a < length p.sections = omega (arith, len, c.loop-a-test.true) in
    let section : c.index-sections-a.result ≡ section_at p a =
    c.index-sections-a.is
    ∙ ap (λ (xs : List Section). slice_index_or xs a c.index-sections-a.result) c.as_slice-sections.ensures
    ∙ item-any p.sections a c.index-sections-a.result no_section below in
    let here : least (indices_of p c.args.pass (section_at p a)) ≡ Some i =
    ap (λ (s : Section). least (indices_of p c.args.pass s)) (sym section) ∙ sym c.in_ok-found.ensures ∙ e in
    subst (λ (os : List Origin). item_place c.args.pass (slice_index_or os a no_origin) i < 2 ^ 64) (sym c.as_slice-origins.ensures)
    (index_fits p o c.args.pass a i c.requires below here)

pub loop-a-preserved : goal.loop-a-preserved
loop-a-preserved c =
    let p = c.args.p.now in
    let o = c.args.o.now in
    let a = c.loop-a.a in
    let places : ℕ → List ℕ = places_in p o c.args.pass in
    let len : length c.as_slice-sections.result.now ≡ length p.sections = ap length c.as_slice-sections.ensures in
    let below : a < length p.sections = omega (arith, len, c.loop-a-test.true) in
    let section : c.index-sections-a.result ≡ section_at p a =
    c.index-sections-a.is
    ∙ ap (λ (xs : List Section). slice_index_or xs a c.index-sections-a.result) c.as_slice-sections.ensures
    ∙ item-any p.sections a c.index-sections-a.result no_section below in
    let index : c.in_ok-found.found ≡ least (indices_of p c.args.pass (section_at p a)) =
    c.in_ok-found.ensures ∙ ap (λ (s : Section). least (indices_of p c.args.pass s)) section in
    let here : c.found_place.result ≡ least (places a) =
    c.found_place.ensures
    ∙ ap (λ (os : List Origin). option_map (item_place c.args.pass (slice_index_or os a no_origin)) c.in_ok-found.found) c.as_slice-origins.ensures
    ∙ ap (option_map (item_place c.args.pass (origin_at o a))) index
    ∙ section_least p o c.args.pass a in
    c.lesser-best.ensures
    ∙ ap (λ (b : Option ℕ). lesser_of b c.found_place.result) c.loop-a.invariant
    ∙ ap (lesser_of (least (joined places a))) here
    ∙ sym (least-joined places a)

pub returns : goal.returns
returns c =
    let len : length c.as_slice-sections.result.now ≡ length c.args.p.now.sections = ap length c.as_slice-sections.ensures in
    let e : c.loop-a.a ≡ length c.args.p.now.sections = omega (arith, len, c.loop-a-test.false, c.loop-a.auto.a-end) in
    c.loop-a.invariant
    ∙ ap (λ n. least (joined (places_in c.args.p.now c.args.o.now c.args.pass) n)) e
    ∙ ap least (sym (places_by_section c.args.p.now c.args.o.now c.args.pass))

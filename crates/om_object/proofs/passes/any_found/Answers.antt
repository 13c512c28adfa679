use Rattle.std.proofs.Common.{◌≡◌, ◌<◌, ℕ, sym, ◌∙◌, ap, arith, length, List, slice_index_or}
use Rattle.std.specs.Prelude.{Option, is_some}
use Rattle.om_fields.specs.Places.{least, joined}
use Rattle.om_fields.proofs.Found.{item-any}
use Rattle.om_object.specs.declared.parts.Section.{Section}
use Rattle.om_object.specs.Rules.{section_at, no_section}
use Rattle.om_object.specs.Passes.{indices_of}
use Rattle.om_object.proofs.Places.{places_in, no_origins, found-at, none-anywhere, none-further-in}
use Rattle.om_object.proofs.passes.any_found.Goals as goal

pub returns-then-is_there : goal.returns-then-is_there
returns-then-is_there c =
    let p = c.args.p.now in
    let a = c.loop-a.a in
    let len : length c.as_slice-sections.result.now ≡ length p.sections = ap length c.as_slice-sections.ensures in
    let below : a < length p.sections = omega (arith, len, c.loop-a-test.true) in
    let section : c.index-sections-a.result ≡ section_at p a =
    c.index-sections-a.is
    ∙ ap (λ (xs : List Section). slice_index_or xs a c.index-sections-a.result) c.as_slice-sections.ensures
    ∙ item-any p.sections a c.index-sections-a.result no_section below in
    let index : c.in_ok-found.found ≡ least (indices_of p c.args.pass (section_at p a)) =
    c.in_ok-found.ensures ∙ ap (λ (s : Section). least (indices_of p c.args.pass s)) section in
    sym (found-at p c.args.pass a below (ap (λ (o : Option ℕ). is_some o) (sym index) ∙ sym c.is_there.ensures ∙ c.if-is_there.true))

pub loop-a-preserved : goal.loop-a-preserved
loop-a-preserved c =
    let p = c.args.p.now in
    let a = c.loop-a.a in
    let len : length c.as_slice-sections.result.now ≡ length p.sections = ap length c.as_slice-sections.ensures in
    let below : a < length p.sections = omega (arith, len, c.loop-a-test.true) in
    let section : c.index-sections-a.result ≡ section_at p a =
    c.index-sections-a.is
    ∙ ap (λ (xs : List Section). slice_index_or xs a c.index-sections-a.result) c.as_slice-sections.ensures
    ∙ item-any p.sections a c.index-sections-a.result no_section below in
    let index : c.in_ok-found.found ≡ least (indices_of p c.args.pass (section_at p a)) =
    c.in_ok-found.ensures ∙ ap (λ (s : Section). least (indices_of p c.args.pass s)) section in
    none-further-in p c.args.pass a c.loop-a.invariant (ap (λ (o : Option ℕ). is_some o) (sym index) ∙ sym c.is_there.ensures ∙ c.if-is_there.false)

pub returns : goal.returns
returns c =
    let p = c.args.p.now in
    let len : length c.as_slice-sections.result.now ≡ length p.sections = ap length c.as_slice-sections.ensures in
    let e : c.loop-a.a ≡ length p.sections = omega (arith, len, c.loop-a-test.false, c.loop-a.auto.a-end) in
    sym (none-anywhere p c.args.pass (ap (λ n. least (joined (places_in p no_origins c.args.pass) n)) (sym e) ∙ c.loop-a.invariant))

use Rattle.std.proofs.Common.{◌≡◌, ◌<◌, true, sym, ◌∙◌, ap, arith, length, List, slice_index_or}
use Rattle.om_fields.proofs.Picked.{picked-first, picked-none, indices-rise}
use Rattle.om_fields.proofs.Found.{item-any}
use Rattle.om_object.specs.declared.parts.Section.{Section}
use Rattle.om_object.specs.Rules.{section_breaks, section_at, no_section}
use Rattle.om_object.proofs.passes.first_section.Goals as goal

pub returns-then-breaks_section : goal.returns-then-breaks_section
returns-then-breaks_section c =
    let p = c.args.p.now in
    let j = c.loop-a.a in
    let len : length c.as_slice-sections.result.now ≡ length p.sections = ap length c.as_slice-sections.ensures in
    let below : j < length p.sections = omega (arith, len, c.loop-a-test.true) in
    let section : c.index-sections-a.result ≡ section_at p j =
    c.index-sections-a.is
    ∙ ap (λ (xs : List Section). slice_index_or xs j c.index-sections-a.result) c.as_slice-sections.ensures
    ∙ item-any p.sections j c.index-sections-a.result no_section below in
    let holds : section_breaks c.args.rule (section_at p j) ≡ true = sym (c.breaks_section.ensures ∙ ap (section_breaks c.args.rule) section) ∙ c.if-breaks_section.true in
    sym (picked-first (λ k. section_breaks c.args.rule (section_at p k)) (λ k. k) (length p.sections) j indices-rise below holds c.loop-a.invariant)

pub returns : goal.returns
returns c =
    let p = c.args.p.now in
    let len : length c.as_slice-sections.result.now ≡ length p.sections = ap length c.as_slice-sections.ensures in
    sym (picked-none (λ k. section_breaks c.args.rule (section_at p k)) (λ k. k) (length p.sections)
    (λ k h. c.loop-a.invariant k (omega (arith, h, len, c.loop-a-test.false, c.loop-a.auto.a-end))))

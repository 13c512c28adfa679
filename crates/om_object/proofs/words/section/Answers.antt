use Rattle.std.proofs.Common.{◌≡◌, ◌<◌, ◌==◌, true, sym, ◌∙◌, ap, arith, Some, slice_index_or, length, List}
use Rattle.std.proofs.lemmas.Bool.Decides.{nat_tests}
use Rattle.om_fields.proofs.Found.{find-first, find-none}
use Rattle.om_object.specs.declared.parts.Section.{Section}
use Rattle.om_object.proofs.words.section.Goals as goal

pub returns-then-from-number : goal.returns-then-from-number
returns-then-from-number c =
    let same : c.as_slice-s-items.result.now ≡ c.args.p.now.sections = c.as_slice-s-items.ensures in
    let len : length c.as_slice-s-items.result.now ≡ length c.args.p.now.sections = ap length same in
    let item : slice_index_or c.args.p.now.sections c.loop-s.s-index c.s-item.result ≡ c.s-item.result =
    sym (c.s-item.is ∙ ap (λ (xs : List Section). slice_index_or xs c.loop-s.s-index c.s-item.result) same) in
    let h : c.loop-s.s-index < length c.args.p.now.sections = omega (arith, len, c.loop-s-test.true) in
    let t : (c.s-item.result.number == c.args.number) ≡ true = grind (arith, nat_tests) in
    let u : ((slice_index_or c.args.p.now.sections c.loop-s.s-index c.s-item.result).number == c.args.number) ≡ true =
    ap (λ (s : Section). s.number == c.args.number) item ∙ t in
    ap Some (sym item) ∙ sym (find-first (λ s. s.number == c.args.number) c.args.p.now.sections c.loop-s.s-index c.s-item.result h u c.loop-s.invariant)

pub returns : goal.returns
returns c =
    let same : c.as_slice-s-items.result.now ≡ c.args.p.now.sections = c.as_slice-s-items.ensures in
    let len : length c.as_slice-s-items.result.now ≡ length c.args.p.now.sections = ap length same in
    sym (find-none (λ s. s.number == c.args.number) c.args.p.now.sections (λ j d h. c.loop-s.invariant j d (omega (arith, h, len, c.loop-s-test.false, c.loop-s.auto.s-index-end))))

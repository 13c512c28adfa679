use Rattle.std.proofs.Common.{◌<◌, ◌^◌, length, refl, sym, subst, ◌∙◌, arith}
use Rattle.std.specs.Prelude.{IsTrue, ◌↔◌}
use Rattle.std.proofs.lemmas.Bool.{true≢false}
use Rattle.std.proofs.lemmas.Bool.Decides.{nat_tests}
use Rattle.om_prog.specs.View.{ProgramView, items_lists}
use Rattle.om_prog.specs.Valid.{AreRegions, IsProgram}
use Rattle.om_prog.specs.Known.{IsKnown}
use Rattle.om_prog.specs.Making.{FindsSizes}
use Rattle.om_prog.proofs.Every.{no_way}
use Rattle.om_prog.proofs.Found.{if_all}
use Rattle.om_prog.proofs.Texts.{as_many}
use Rattle.om_prog.proofs.making.is_program.Goals as goal

pub returns-then-not-has_word : goal.returns-then-not-has_word
returns-then-not-has_word c =
    let v : ProgramView = record { texts = items_lists c.args.texts.now; regions = c.args.regions.now; entry = c.args.entry } in
    let sizes = subst (λ o. FindsSizes c.args.regions.now o) c.in-Some.is c.in_ok-sizes.ensures in
    let known : IsKnown (record { texts = c.args.texts; sizes = c.in-Some.sizes }) v = record { texts = refl; sizes = sizes.1.holds } in
    no_way (λ p. true≢false (sym p.entry ∙ sym (c.has_word.ensures v known) ∙ c.if-not-has_word.true))

pub returns : goal.returns
returns c =
    let v : ProgramView = record { texts = items_lists c.args.texts.now; regions = c.args.regions.now; entry = c.args.entry } in
    let sizes = subst (λ o. FindsSizes c.args.regions.now o) c.in-Some.is c.in_ok-sizes.ensures in
    let known : IsKnown (record { texts = c.args.texts; sizes = c.in-Some.sizes }) v = record { texts = refl; sizes = sizes.1.holds } in
    let many = as_many c.args.texts.now in
    let few = c.if-texts-ge4294967296.false in
    let below : length (items_lists c.args.texts.now) < 2 ^ 32 = grind (arith, nat_tests, many, few) in
    if_all c.are_regions.result (λ ok. IsTrue ok ↔ AreRegions v) (λ ok. IsTrue ok ↔ IsProgram v) (c.are_regions.ensures v known refl)
    (λ ok iff. (
      (λ t. record {
        objects = below;
        texts = (c.in_ok-are_texts.ensures v known).0 c.if-not-branch.false;
        entry = sym (c.has_word.ensures v known) ∙ c.if-not-has_word.false;
        regions = iff.0 t;
        once = sizes.0;
      }),
      (λ p. iff.1 p.regions),
    ))

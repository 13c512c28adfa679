use Rattle.std.proofs.Common.{Bool, ◌||◌, sym, ◌∙◌, ap}
use Rattle.om_object.specs.declared.rules.RelocRule.TheVariants.{Branching}
use Rattle.om_object.specs.Rules.{relocs_where, words_where, is_astray, is_found}
use Rattle.om_object.proofs.FoundSpots.{found_append}
use Rattle.om_object.proofs.making.any_astray.Goals as goal

pub returns : goal.returns
returns c =
    let p = c.args.p.now in
    c.either.ensures
    ∙ ap (λ (b : Bool). b || c.in_ok-of_words.of_words) c.in_ok-of_relocs.ensures
    ∙ ap (λ (b : Bool). is_found (relocs_where p Branching) || b) c.in_ok-of_words.ensures
    ∙ sym (found_append (relocs_where p Branching) (words_where p (is_astray p)))

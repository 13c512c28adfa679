use Rattle.std.proofs.Common.{ℕ, sym, ◌∙◌, ap}
use Rattle.std.specs.Prelude.{Option}
use Rattle.om_fields.specs.Places.{least, lesser_of}
use Rattle.om_object.specs.declared.rules.RelocRule.TheVariants.{Branching}
use Rattle.om_object.specs.Rules.{relocs_where, words_where, is_astray}
use Rattle.om_object.specs.Spots.{places_of}
use Rattle.om_object.proofs.Chains.{places_append}
use Rattle.om_object.proofs.faults.astray.Goals as goal

pub returns : goal.returns
returns c =
    let p = c.args.p.now in
    let o = c.args.o.now in
    c.lesser.ensures
    ∙ ap (λ (x : Option ℕ). lesser_of x c.in_ok-of_words.of_words) c.in_ok-of_relocs.ensures
    ∙ ap (lesser_of (least (places_of o (relocs_where p Branching)))) c.in_ok-of_words.ensures
    ∙ sym (places_append o (relocs_where p Branching) (words_where p (is_astray p)))

use Rattle.std.proofs.Common.{sym, ◌∙◌}
use Rattle.std.proofs.lemmas.Bool.{eqb-true, eq-eqb}
use Rattle.om_dead.proofs.InTexts.{last_by_index}
use Rattle.om_dead.proofs.words.is_texts_last.Goals as goal

pub returns : goal.returns
returns c =
    let k = last_by_index c.args.g.now c.args.place c.requires in (
      λ t. k.0 (sym c.index.ensures ∙ eqb-true c.index.result c.index-2.result t ∙ c.index-2.ensures),
      λ e. eq-eqb c.index.result c.index-2.result (c.index.ensures ∙ k.1 e ∙ sym c.index-2.ensures),
    )

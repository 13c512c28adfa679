use Rattle.std.proofs.Common.{◌<◌, ◌+◌, ◌^◌, true, false, sym, ap, ◌∙◌, subst}
use Rattle.std.proofs.lemmas.Bool.{true≢false}
use Rattle.om_value.specs.declared.value.Place.{Place}
use Rattle.om_prog.specs.Step.{next_place}
use Rattle.om_calls.specs.Openings.{is_high_at, is_low_at}
use Rattle.om_calls.proofs.OpeningPairs.{room, second_fits, pair_is, complete}
use Rattle.om_calls.proofs.openings.is_pair.Goals as goal

pub returns-then-not-stands_high : goal.returns-then-not-stands_high
returns-then-not-stands_high c = λ x hx l o two. (
  λ t. absurd (true≢false (sym t)),
  λ k. absurd (true≢false (sym (complete c.args.g.now c.requires.program x hx c.args.high.now c.args.low.now two k).0
      ∙ ap (λ (p : Place). is_high_at p c.args.high.now) l ∙ sym c.stands_high.ensures ∙ c.if-not-stands_high.true)),
)

pub place_behind-second-requires : goal.place_behind-second-requires
place_behind-second-requires c =
    let b = c.requires.block in
    subst (λ (p : Place). p.off + 4 < 2 ^ 32) b.2
    (room c.args.g.now c.requires.program b.0 b.1 c.args.high.now c.args.low.now b.3 (ap (λ (p : Place). is_high_at p c.args.high.now) b.2 ∙ sym c.stands_high.ensures ∙ c.if-not-stands_high.false))

pub returns-then-not-stands_low : goal.returns-then-not-stands_low
returns-then-not-stands_low c = λ x hx l o two. (
  λ t. absurd (true≢false (sym t)),
  λ k. absurd (true≢false (sym (complete c.args.g.now c.requires.program x hx c.args.high.now c.args.low.now two k).1
      ∙ ap (λ (p : Place). is_low_at p (next_place p) c.args.low.now) l ∙ ap (λ (p : Place). is_low_at c.args.label p c.args.low.now) (sym c.place_behind-second.ensures) ∙ sym c.stands_low.ensures ∙ c.if-not-stands_low.true)),
)

pub is_texts_last-requires-clause-object : goal.is_texts_last-requires-clause-object
is_texts_last-requires-clause-object c =
    let b = c.requires.block in
    (second_fits c.args.g.now c.requires.program b.0 b.1 c.args.high.now c.args.low.now b.3 c.args.label c.place_behind-second.result b.2 c.place_behind-second.ensures
    c.stands_high.result c.stands_high.ensures c.if-not-stands_high.false c.stands_low.result c.stands_low.ensures c.if-not-stands_low.false).object

pub is_texts_last-requires-clause-small : goal.is_texts_last-requires-clause-small
is_texts_last-requires-clause-small c =
    let b = c.requires.block in
    (second_fits c.args.g.now c.requires.program b.0 b.1 c.args.high.now c.args.low.now b.3 c.args.label c.place_behind-second.result b.2 c.place_behind-second.ensures
    c.stands_high.result c.stands_high.ensures c.if-not-stands_high.false c.stands_low.result c.stands_low.ensures c.if-not-stands_low.false).small

pub is_texts_last-requires-clause-aligned : goal.is_texts_last-requires-clause-aligned
is_texts_last-requires-clause-aligned c =
    let b = c.requires.block in
    (second_fits c.args.g.now c.requires.program b.0 b.1 c.args.high.now c.args.low.now b.3 c.args.label c.place_behind-second.result b.2 c.place_behind-second.ensures
    c.stands_high.result c.stands_high.ensures c.if-not-stands_high.false c.stands_low.result c.stands_low.ensures c.if-not-stands_low.false).aligned

pub is_texts_last-requires-clause-inside : goal.is_texts_last-requires-clause-inside
is_texts_last-requires-clause-inside c =
    let b = c.requires.block in
    (second_fits c.args.g.now c.requires.program b.0 b.1 c.args.high.now c.args.low.now b.3 c.args.label c.place_behind-second.result b.2 c.place_behind-second.ensures
    c.stands_high.result c.stands_high.ensures c.if-not-stands_high.false c.stands_low.result c.stands_low.ensures c.if-not-stands_low.false).inside

pub returns : goal.returns
returns c = λ x hx l o two.
    pair_is c.args.g.now c.requires.program x hx c.args.high.now c.args.low.now two c.args.label c.place_behind-second.result l c.place_behind-second.ensures
    c.stands_high.result c.stands_high.ensures c.if-not-stands_high.false c.stands_low.result c.stands_low.ensures c.if-not-stands_low.false c.is_texts_last.result c.is_texts_last.ensures o

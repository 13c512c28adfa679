use Rattle.std.proofs.Common.{true, false, sym, ap, ◌∙◌}
use Rattle.std.specs.Prelude.{option_map}
use Rattle.std.proofs.lemmas.Bool.{true≢false}
use Rattle.om_graph.specs.View.{Block, block_of}
use Rattle.om_blocks.proofs.Walking.{a_some, found_block}
use Rattle.om_calls.proofs.OpeningPairs.{none, some_flag, some_place}
use Rattle.om_calls.proofs.openings.is_closed_opening.Goals as goal

pub returns-then-not-opening : goal.returns-then-not-opening
returns-then-not-opening c = λ x e. (
  λ t. absurd (true≢false (sym t)),
  λ k. absurd (true≢false (sym k.opening ∙ some_flag x.opening c.opening.result (sym (ap (option_map (λ (y : Block). y.opening)) e) ∙ c.opening.ensures) ∙ c.if-not-opening.true)),
)

pub is_pair-requires-clause-block : goal.is_pair-requires-clause-block
is_pair-requires-clause-block c =
    let x = a_some (block_of c.args.g.now c.args.b) c.requires.live in (
      x.0,
      found_block c.args.g.now.blocks c.args.b x.0 x.1,
      some_place x.0.label c.label.result (sym (ap (option_map (λ (y : Block). y.label)) x.1) ∙ c.label.ensures),
      sym (c.first_two.ensures x.0 x.1) ∙ c.in-Some.is,
    )

pub returns-in-Some : goal.returns-in-Some
returns-in-Some c = λ x e.
    c.is_pair.ensures x (found_block c.args.g.now.blocks c.args.b x e)
    (some_place x.label c.label.result (sym (ap (option_map (λ (y : Block). y.label)) e) ∙ c.label.ensures))
    (some_flag x.opening c.opening.result (sym (ap (option_map (λ (y : Block). y.opening)) e) ∙ c.opening.ensures) ∙ c.if-not-opening.false)
    (sym (c.first_two.ensures x e) ∙ c.in-Some.is)

pub returns-in-None : goal.returns-in-None
returns-in-None c = λ x e. (
  λ t. absurd (true≢false (sym t)),
  λ k. absurd (none c.args.g.now c.requires.program x (found_block c.args.g.now.blocks c.args.b x e) (sym (c.first_two.ensures x e) ∙ c.in-None.is) k),
)

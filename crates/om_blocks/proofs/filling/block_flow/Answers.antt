use Rattle.std.proofs.Common.{◌≡◌, ℕ, Some, sym, ap, ◌∙◌}
use Rattle.std.specs.Prelude.{option_map}
use Rattle.om_graph.specs.declared.op.Last.{Last}
use Rattle.om_graph.specs.View.{Block}
use Rattle.om_blocks.specs.Exits.{last_exit, next_fallen}
use Rattle.om_blocks.specs.Filling.{exit_number, or_none}
use Rattle.om_blocks.proofs.OnFilling.{found_id}
use Rattle.om_blocks.proofs.filling.block_flow.Goals as goal

some_last : (a b : Last) → Some a ≡ Some b → a ≡ b
some_last a b e = cc

pub returns : goal.returns
returns c = λ x e.
    let last : c.last-last.result ≡ x.last = some_last c.last-last.result x.last (sym c.last-last.ensures ∙ ap (option_map (λ (y : Block). y.last)) e) in
    record {
      first = c.exit_number.ensures ∙ ap (exit_number c.args.outside) (c.exit_of.ensures.exit ∙ ap (last_exit c.args.g.now) last);
      second = c.number_or_none.ensures
          ∙ ap (or_none c.args.outside) (c.fall_of.ensures.next ∙ ap (next_fallen c.args.g.now c.args.b) last ∙ ap (λ (i : ℕ). next_fallen c.args.g.now i x.last) (sym (found_id c.args.g.now.blocks c.args.b x e)));
      effect = c.effect_of-effect.ensures.all x e;
      fits = c.effect_of-effect.ensures.small;
    }

pub exit_number-requires-clause-inside : goal.exit_number-requires-clause-inside
exit_number-requires-clause-inside c = λ id e. c.requires.rows id (c.exit_of.ensures.live id e)

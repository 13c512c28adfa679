use Rattle.std.proofs.Common.{◌≡◌, true, false, Some, refl, sym, ap, ◌∙◌, subst}
use Rattle.std.proofs.lemmas.Bool.{true≢false}
use Rattle.std.specs.Prelude.{is_some}
use Rattle.om_graph.specs.View.{Block, GraphView, last_set}
use Rattle.om_uses.proofs.Near.{last_set_near}
use Rattle.om_passes.specs.Passed.{IsStep}
use Rattle.om_calls.specs.Ends.{end_with}
use Rattle.om_calls.specs.Known.{NoDirectIn}
use Rattle.om_calls.proofs.Known.{call_within, direct_step, jsr_read, no_jsr, none_taken}
use Rattle.om_calls.proofs.directing.direct_block.Goals as goal

some_block : (a b : Block) → Some a ≡ Some b → a ≡ b
some_block a b e = cc

pub returns-in_default-clause-passed : goal.returns-in_default-clause-passed
returns-in_default-clause-passed c =
    let at = c.requires.uses in
    record {
      same = λ e. refl;
      none = λ e b h. subst (λ (y : Block). NoDirectIn c.args.g.now y) (some_block at.block b (sym at.here ∙ h))
          (no_jsr c.args.u.now c.args.g.now c.args.b c.requires.program at (sym (jsr_read c.args.u.now c.args.g.now c.args.b c.requires.program c.requires.uses c.register_call.result c.last-last.result c.register_call.ensures c.last-last.ensures) ∙ c.in_default.is));
      step = λ e. absurd (true≢false (sym e));
      ends = λ e. absurd (true≢false (sym e));
    }

pub known_place-requires-clause-at : goal.known_place-requires-clause-at
known_place-requires-clause-at c =
    call_within c.args.u.now c.args.g.now c.args.b c.requires.program c.requires.uses c.in-Some.call (sym (jsr_read c.args.u.now c.args.g.now c.args.b c.requires.program c.requires.uses c.register_call.result c.last-last.result c.register_call.ensures c.last-last.ensures) ∙ c.in-Some.is)

pub returns-in_default-known_place-clause-passed : goal.returns-in_default-known_place-clause-passed
returns-in_default-known_place-clause-passed c =
    let at = c.requires.uses in
    record {
      same = λ e. refl;
      none = λ e b h. subst (λ (y : Block). NoDirectIn c.args.g.now y) (some_block at.block b (sym at.here ∙ h))
          (none_taken c.args.u.now c.args.g.now c.args.b c.requires.program at c.in-Some.call (sym (jsr_read c.args.u.now c.args.g.now c.args.b c.requires.program c.requires.uses c.register_call.result c.last-last.result c.register_call.ensures c.last-last.ensures) ∙ c.in-Some.is)
          (c.known_place.ensures.none at.block at.here c.in_default-known_place.is));
      step = λ e. absurd (true≢false (sym e));
      ends = λ e. absurd (true≢false (sym e));
    }

pub returns-clause-passed : goal.returns-clause-passed
returns-clause-passed c =
    let at = c.requires.uses in
    let taken = c.known_place.ensures.some at.block c.in-Some-known_place.to at.here c.in-Some-known_place.is in
    let new : c.set_last.new.self ≡ last_set c.args.g.now c.args.b (end_with (record { at = c.in-Some.call.at; ra = c.in-Some.call.ra; to = c.in-Some-known_place.to })) =
    c.set_last.ensures ∙ ap (last_set c.args.g.now c.args.b) c.ended_by.ensures in
    record {
      same = λ e. absurd (true≢false e);
      none = λ e. absurd (true≢false e);
      step = λ e. subst (λ (h : GraphView). IsStep c.args.g.now h) (sym new)
          (direct_step c.args.u.now c.args.g.now c.args.b c.requires.program at c.in-Some.call (sym (jsr_read c.args.u.now c.args.g.now c.args.b c.requires.program c.requires.uses c.register_call.result c.last-last.result c.register_call.ensures c.last-last.ensures) ∙ c.in-Some.is) taken.0 taken.1 c.in-Some-known_place.to taken.2);
      ends = λ e. (end_with (record { at = c.in-Some.call.at; ra = c.in-Some.call.ra; to = c.in-Some-known_place.to }), new);
    }

pub returns-clause-near : goal.returns-clause-near
returns-clause-near c = λ k near.
    rw c.set_last.ensures
    (last_set_near c.args.g.now k c.args.b c.ended_by.result c.requires.program.may_go_on.graph.graph c.is_numbered.ensures (ap is_some c.requires.uses.here) near)

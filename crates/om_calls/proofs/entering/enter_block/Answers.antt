use Rattle.std.proofs.Common.{◌≡◌, true, false, refl, sym, ap, ◌∙◌, subst}
use Rattle.std.proofs.lemmas.Bool.{true≢false}
use Rattle.om_graph.specs.Checks.{GpChecked}
use Rattle.om_graph.specs.Run.{graph_script}
use Rattle.om_graph.specs.View.{GraphView, block_of, last_set}
use Rattle.om_blocks.specs.Found.{facts_in}
use Rattle.om_blocks.proofs.Walking.{a_some, found_block}
use Rattle.om_uses.proofs.Near.{last_set_near}
use Rattle.om_passes.specs.Passed.{IsStep}
use Rattle.om_calls.specs.Ends.{end_with}
use Rattle.om_calls.proofs.Entries.{bsr_read, entered, no_bsr}
use Rattle.om_calls.proofs.entering.enter_block.Goals as goal

pub returns-in_default-clause-passed : goal.returns-in_default-clause-passed
returns-in_default-clause-passed c = record {
  same = λ e. refl;
  none = λ e x h. no_bsr c.args.g.now c.requires.program x (found_block c.args.g.now.blocks c.args.b x h) c.args.f.now
      (sym (bsr_read c.args.g.now c.args.b x h c.place_call.result c.last-last.result c.place_call.ensures c.last-last.ensures) ∙ c.in_default.is);
  step = λ e. absurd (true≢false (sym e));
  ends = λ e. absurd (true≢false (sym e));
}

pub place_past-requires-clause-ends : goal.place_past-requires-clause-ends
place_past-requires-clause-ends c = λ x h. sym (bsr_read c.args.g.now c.args.b x h c.place_call.result c.last-last.result c.place_call.ensures c.last-last.ensures) ∙ c.in-Some.is

pub returns-in_default-place_past-clause-passed : goal.returns-in_default-place_past-clause-passed
returns-in_default-place_past-clause-passed c = record {
  same = λ e. refl;
  none = λ e x h. c.place_past.ensures.none x h c.in_default-place_past.is;
  step = λ e. absurd (true≢false (sym e));
  ends = λ e. absurd (true≢false (sym e));
}

pub returns-clause-passed : goal.returns-clause-passed
returns-clause-passed c =
    let x = a_some (block_of c.args.g.now c.args.b) c.requires.live in
    let call = sym (bsr_read c.args.g.now c.args.b x.0 x.1 c.place_call.result c.last-last.result c.place_call.ensures c.last-last.ensures) ∙ c.in-Some.is in
    let may = c.place_past.ensures.some x.0 c.in-Some-place_past.to x.1 c.in-Some-place_past.is in
    let new : c.set_last.new.self ≡ last_set c.args.g.now c.args.b (end_with (record { at = c.in-Some.call.at; ra = c.in-Some.call.ra; to = c.in-Some-place_past.to })) =
    c.set_last.ensures ∙ ap (last_set c.args.g.now c.args.b) c.ended_by.ensures in
    record {
      same = λ e. absurd (true≢false e);
      none = λ e. absurd (true≢false e);
      step = λ e. subst (λ (h : GraphView). IsStep c.args.g.now h) (sym new)
          (entered c.args.g.now c.requires.program c.args.b x.0 x.1 c.args.f.now c.requires.facts c.in-Some.call c.in-Some-place_past.to call may).step;
      ends = λ e. (end_with (record { at = c.in-Some.call.at; ra = c.in-Some.call.ra; to = c.in-Some-place_past.to }), new);
    }

pub returns-clause-near : goal.returns-clause-near
returns-clause-near c = λ k near.
    rw c.set_last.ensures
    (last_set_near c.args.g.now k c.args.b c.ended_by.result c.requires.program.may_go_on.graph.graph c.is_numbered.ensures c.requires.live near)

pub returns-clause-facts : goal.returns-clause-facts
returns-clause-facts c = λ p.
    let x = a_some (block_of c.args.g.now c.args.b) c.requires.live in
    let call = sym (bsr_read c.args.g.now c.args.b x.0 x.1 c.place_call.result c.last-last.result c.place_call.ensures c.last-last.ensures) ∙ c.in-Some.is in
    let may = c.place_past.ensures.some x.0 c.in-Some-place_past.to x.1 c.in-Some-place_past.is in
    let new : c.set_last.new.self ≡ last_set c.args.g.now c.args.b (end_with (record { at = c.in-Some.call.at; ra = c.in-Some.call.ra; to = c.in-Some-place_past.to })) =
    c.set_last.ensures ∙ ap (last_set c.args.g.now c.args.b) c.ended_by.ensures in
    subst (λ (h : GraphView). GpChecked (graph_script p h) (facts_in h c.args.f.now) h) (sym new)
    ((entered c.args.g.now c.requires.program c.args.b x.0 x.1 c.args.f.now c.requires.facts c.in-Some.call c.in-Some-place_past.to call may).facts_stay p)

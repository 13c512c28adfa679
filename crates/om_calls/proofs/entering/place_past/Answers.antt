use Rattle.std.proofs.Common.{◌≡◌, ◌<◌, ℕ, true, false, length, Some, sym, ap, ◌∙◌, subst, arith}
use Rattle.std.proofs.lemmas.Bool.{true≢false}
use Rattle.om_value.specs.declared.value.Place.{Place}
use Rattle.om_prog.specs.Facts.{Fact, IsFact}
use Rattle.om_prog.specs.Step.{next_place}
use Rattle.om_graph.specs.Index.{InReach}
use Rattle.om_graph.specs.Run.{table_of}
use Rattle.om_graph.specs.View.{block_of}
use Rattle.om_blocks.specs.Found.{seen}
use Rattle.om_blocks.proofs.OfPrograms.{graphs_have_flows}
use Rattle.om_blocks.proofs.OnFilling.{found_id}
use Rattle.om_blocks.proofs.Walking.{a_some, found_block}
use Rattle.om_calls.proofs.Entries.{opening_is, label_within, table_here, bsr_within, no_link, no_block, no_pair, no_reach, no_fact}
use Rattle.om_calls.proofs.OpeningPairs.{far_room}
use Rattle.om_calls.proofs.entering.place_past.Goals as goal

pub returns-then-num-eq-GP-clause-none : goal.returns-then-num-eq-GP-clause-none
returns-then-num-eq-GP-clause-none c = λ x h e.
    no_link c.args.g.now c.requires.program x (found_block c.args.g.now.blocks c.args.b x h) c.args.f.now c.args.call.now (c.requires.ends x h) (sym c.num.ensures.value ∙ c.if-num-eq-GP.true)

pub returns-in_default-clause-none : goal.returns-in_default-clause-none
returns-in_default-clause-none c = λ x h e.
    no_block c.args.g.now c.requires.program x (found_block c.args.g.now.blocks c.args.b x h) c.args.f.now c.args.call.now (c.requires.ends x h) (sym c.block.ensures.block ∙ c.in_default.is)

pub returns-then-not-is_closed_opening-clause-none : goal.returns-then-not-is_closed_opening-clause-none
returns-then-not-is_closed_opening-clause-none c = λ x h e.
    no_pair c.args.g.now c.requires.program x (found_block c.args.g.now.blocks c.args.b x h) c.args.f.now c.args.call.now (c.requires.ends x h) c.in-Some.opening (sym c.block.ensures.block ∙ c.in-Some.is)
    (λ n here closed. true≢false (sym ((c.is_closed_opening.ensures n here).1 closed) ∙ c.if-not-is_closed_opening.true))

pub place_behind-second-requires : goal.place_behind-second-requires
place_behind-second-requires c =
    let o = opening_is c.args.g.now c.requires.program c.in-Some.opening c.args.call.now.to (sym c.block.ensures.block ∙ c.in-Some.is) in
    let r = far_room c.args.g.now c.requires.program o.block o.among ((c.is_closed_opening.ensures o.block o.here).0 c.if-not-is_closed_opening.false) in
    let e = ap (λ (q : Place). q.off) o.label in
    omega (arith, r, e)

pub place_behind-past-requires : goal.place_behind-past-requires
place_behind-past-requires c =
    let o = opening_is c.args.g.now c.requires.program c.in-Some.opening c.args.call.now.to (sym c.block.ensures.block ∙ c.in-Some.is) in
    let r = far_room c.args.g.now c.requires.program o.block o.among ((c.is_closed_opening.ensures o.block o.here).0 c.if-not-is_closed_opening.false) in
    let e = ap (λ (q : Place). q.off) o.label in
    let s = ap (λ (q : Place). q.off) c.place_behind-second.ensures in
    omega (arith, r, e, s)

pub in_reach-requires-clause-at : goal.in_reach-requires-clause-at
in_reach-requires-clause-at c =
    let x = a_some (block_of c.args.g.now c.args.b) c.requires.live in
    bsr_within c.args.g.now c.requires.program x.0 (found_block c.args.g.now.blocks c.args.b x.0 x.1) c.args.call.now (c.requires.ends x.0 x.1)

pub in_reach-requires-clause-to : goal.in_reach-requires-clause-to
in_reach-requires-clause-to c =
    let o = opening_is c.args.g.now c.requires.program c.in-Some.opening c.args.call.now.to (sym c.block.ensures.block ∙ c.in-Some.is) in
    subst (λ (q : Place). q.obj < length c.args.g.now.counts) (ap (λ (q : Place). next_place (next_place q)) o.label ∙ ap next_place (sym c.place_behind-second.ensures) ∙ sym c.place_behind-past.ensures)
    (label_within c.args.g.now c.requires.program o.block o.among)

pub returns-then-not-in_reach-clause-none : goal.returns-then-not-in_reach-clause-none
returns-then-not-in_reach-clause-none c = λ x h e.
    no_reach c.args.g.now c.requires.program x (found_block c.args.g.now.blocks c.args.b x h) c.args.f.now c.args.call.now (c.requires.ends x h)
    (λ r. true≢false (sym (c.in_reach.ensures.1 (subst (λ (q : Place). InReach c.args.g.now.counts c.args.call.now.at q) (ap next_place (sym c.place_behind-second.ensures) ∙ sym c.place_behind-past.ensures) r)) ∙ c.if-not-in_reach.true))

pub fact_before_last-fact-requires-clause-flow : goal.fact_before_last-fact-requires-clause-flow
fact_before_last-fact-requires-clause-flow c = graphs_have_flows.flow c.requires.program.program c.args.g.now c.requires.program.valid c.requires.program.may_go_on.graph

pub table-table-requires : goal.table-table-requires
table-table-requires c =
    let o = opening_is c.args.g.now c.requires.program c.in-Some.opening c.args.call.now.to (sym c.block.ensures.block ∙ c.in-Some.is) in
    subst (λ (q : Place). q.obj < length c.args.g.now.counts) o.label (label_within c.args.g.now c.requires.program o.block o.among)

some_place : (a b : Place) → Some a ≡ Some b → a ≡ b
some_place a b e = cc

pub returns-then-is_fact-clause-some : goal.returns-then-is_fact-clause-some
returns-then-is_fact-clause-some c = λ x q h e.
    let o = opening_is c.args.g.now c.requires.program c.in-Some.opening c.args.call.now.to (sym c.block.ensures.block ∙ c.in-Some.is) in
    let table = table_here c.args.g.now c.requires.program o.block o.among c.args.call.now.to c.table-table.result o.label c.table-table.ensures in
    record {
      opening = o.block;
      among = o.among;
      label = o.label;
      behind = sym (some_place c.place_behind-past.result q e) ∙ c.place_behind-past.ensures ∙ ap next_place c.place_behind-second.ensures;
      closed = (c.is_closed_opening.ensures o.block o.here).0 c.if-not-is_closed_opening.false;
      link = λ r. c.if-num-eq-GP.false (c.num.ensures.value ∙ r);
      reach = subst (λ (p : Place). InReach c.args.g.now.counts c.args.call.now.at p) (some_place c.place_behind-past.result q e) (c.in_reach.ensures.0 c.if-not-in_reach.false);
      fact = λ p bf s.
          subst (λ (k : Fact). IsFact k (table_of c.args.g.now c.args.call.now.to.obj))
          (sym (c.fact_before_last-fact.ensures p x bf (found_block c.args.g.now.blocks c.args.b x h) (found_id c.args.g.now.blocks c.args.b x h) s))
          (subst (λ (t : ℕ). IsFact (seen c.fact_before_last-fact.result) t) table (c.is_fact.ensures.0 c.if-is_fact.true));
    }

pub returns-else-is_fact-clause-none : goal.returns-else-is_fact-clause-none
returns-else-is_fact-clause-none c = λ x h e.
    let o = opening_is c.args.g.now c.requires.program c.in-Some.opening c.args.call.now.to (sym c.block.ensures.block ∙ c.in-Some.is) in
    let table = table_here c.args.g.now c.requires.program o.block o.among c.args.call.now.to c.table-table.result o.label c.table-table.ensures in
    no_fact c.args.g.now c.requires.program x (found_block c.args.g.now.blocks c.args.b x h) c.args.f.now c.args.call.now (c.requires.ends x h)
    (λ p bf s k.
    true≢false (sym (c.is_fact.ensures.1 (subst (λ (t : ℕ). IsFact (seen c.fact_before_last-fact.result) t) (sym table)
    (subst (λ (f : Fact). IsFact f (table_of c.args.g.now c.args.call.now.to.obj)) (c.fact_before_last-fact.ensures p x bf (found_block c.args.g.now.blocks c.args.b x h) (found_id c.args.g.now.blocks c.args.b x h) s) k))) ∙ c.if-is_fact.false))

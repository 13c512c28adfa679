use Rattle.std.proofs.Common.{◌<◌, ℕ, length, arith, ap, refl, sym, subst}
use Rattle.om_flow.specs.declared.parts.Fact.{Fact}
use Rattle.om_flow.specs.declared.parts.Fact.TheVariants.{Any}
use Rattle.om_flow.specs.Edges.{Edge}
use Rattle.om_flow.specs.Seen.{pair_of, edges_of, transfers_of}
use Rattle.om_flow.specs.Facts.{transfer_at, Solved}
use Rattle.om_flow.specs.FactSteps.{fact_up, fact_out, changes_left, FactHolds}
use Rattle.om_flow.proofs.Fields.{field_count}
use Rattle.om_flow.proofs.Spreading.{turn, popped_inside}
use Rattle.om_flow.proofs.FactSolver.{fact_laws, first_going, solved_end}
use Rattle.om_flow.proofs.facts.solve_edges.Goals as goal

pub loop-block-init : goal.loop-block-init
loop-block-init c =
    let count = field_count pair_of c.args.flow.now.blocks.items c.args.flow.now.lands.items in
    let first = first_going (edges_of c.args.flow.now.blocks.items c.args.flow.now.lands.items) (transfers_of c.args.flow.now.blocks.items) c.args.flow.now.entry c.args.table
    (omega (arith, count, c.requires.entered)) in
    rw (c.in_ok-facts.ensures.items_if_clones_equal (λ y e. e), c.in_ok-push.ensures.items, c.new-work.ensures.items, c.as_slice-blocks.ensures.value, sym count) first

inside : (c : goal.After-as_slice) → c.in-Some.block < length (edges_of c.args.flow.now.blocks.items c.args.flow.now.lands.items)
inside c =
    popped_inside Fact Fact Any fact_up changes_left (edges_of c.args.flow.now.blocks.items c.args.flow.now.lands.items) (fact_out (transfers_of c.args.flow.now.blocks.items))
    (FactHolds (Edge (edges_of c.args.flow.now.blocks.items c.args.flow.now.lands.items)) (transfer_at (transfers_of c.args.flow.now.blocks.items)) c.args.flow.now.entry c.args.table)
    c.in-Some.block c.loop-block.facts.items c.loop-block.work.items c.pop.new.self.items c.in-Some.ensures.items c.loop-block.invariant

pub end_fact-out-requires : goal.end_fact-out-requires
end_fact-out-requires c = omega (arith, c.loop-block.invariant.size, ap length c.as_slice.ensures.value, inside c)

pub spread-requires-clause-block : goal.spread-requires-clause-block
spread-requires-clause-block c =
    let count = field_count pair_of c.args.flow.now.blocks.items c.args.flow.now.lands.items in
    let h =
    popped_inside Fact Fact Any fact_up changes_left (edges_of c.args.flow.now.blocks.items c.args.flow.now.lands.items) (fact_out (transfers_of c.args.flow.now.blocks.items))
    (FactHolds (Edge (edges_of c.args.flow.now.blocks.items c.args.flow.now.lands.items)) (transfer_at (transfers_of c.args.flow.now.blocks.items)) c.args.flow.now.entry c.args.table)
    c.in-Some.block c.loop-block.facts.items c.loop-block.work.items c.pop.new.self.items c.in-Some.ensures.items c.loop-block.invariant in
    omega (arith, h, count, ap length c.as_slice-blocks.ensures.value)

pub loop-block-preserved : goal.loop-block-preserved
loop-block-preserved c =
    turn Fact Fact Any fact_up changes_left (edges_of c.args.flow.now.blocks.items c.args.flow.now.lands.items) (fact_out (transfers_of c.args.flow.now.blocks.items))
    (FactHolds (Edge (edges_of c.args.flow.now.blocks.items c.args.flow.now.lands.items)) (transfer_at (transfers_of c.args.flow.now.blocks.items)) c.args.flow.now.entry c.args.table)
    (fact_laws (edges_of c.args.flow.now.blocks.items c.args.flow.now.lands.items) (transfers_of c.args.flow.now.blocks.items) c.args.flow.now.entry c.args.table) c.requires.edges c.in-Some.block
    c.loop-block.facts.items c.loop-block.work.items c.pop.new.self.items c.spread.new.facts.items c.spread.new.work.items _ _ c.in-Some.ensures.items
    (rw (c.as_slice-blocks.ensures.value, c.as_slice-lands.ensures.value) refl)
    (rw (c.as_slice.ensures.value, c.as_slice-blocks.ensures.value) at c.end_fact-out.ensures) c.loop-block.invariant c.in_ok-spread.ensures

pub returns : goal.returns
returns c =
    let count = field_count pair_of c.args.flow.now.blocks.items c.args.flow.now.lands.items in
    subst (λ (n : ℕ). Solved n (Edge (edges_of c.args.flow.now.blocks.items c.args.flow.now.lands.items)) (transfers_of c.args.flow.now.blocks.items) c.args.flow.now.entry c.args.table c.loop-block.facts.items)
    count
    (solved_end (edges_of c.args.flow.now.blocks.items c.args.flow.now.lands.items) (transfers_of c.args.flow.now.blocks.items) c.args.flow.now.entry c.args.table c.loop-block.facts.items
    c.loop-block.work.items (omega (arith, c.in_default.ensures.cases.0)) c.loop-block.invariant)

use Rattle.std.proofs.Common.{◌≡◌, ◌<◌, ℕ, get_or, Option, Some, sym, ap, ◌∙◌, subst}
use Rattle.std.specs.Prelude.{option_map}
use Rattle.om_prog.specs.Facts as prog
use Rattle.om_prog.specs.Facts.{fact_behind}
use Rattle.om_flow.specs.declared.parts.Fact.{Fact}
use Rattle.om_flow.specs.declared.parts.Fact.TheVariants.{Unknown}
use Rattle.om_graph.specs.View.{Block, ops_of}
use Rattle.om_graph.specs.Run.{graph_script}
use Rattle.om_blocks.specs.Found.{seen}
use Rattle.om_blocks.proofs.Walking.{OnOps, ops_left, ops_more, ops_fewer, ops_end, found_here}
use Rattle.om_blocks.proofs.OfFlow.{known_fact}
use Rattle.om_blocks.proofs.OnEffects.{table_is, label_within}
use Rattle.om_gpfacts.proofs.Inside.{Behind, behind_more, behind_last}
use Rattle.om_gpfacts.proofs.walks.fact_before_last.Goals as goal

pub table-table-requires : goal.table-table-requires
table-table-requires c = label_within c.args.g.now c.is_graph.ensures c.requires.flow c.args.b c.label.result c.label.ensures

on : (c : goal.After-next_op-next) → OnOps Fact (Behind c.args.g.now c.fact-start.result) c.args.g.now c.args.b (Some c.in-Some.o) c.loop-next.fact
on c = subst (λ (n : Option ℕ). OnOps Fact (Behind c.args.g.now c.fact-start.result) c.args.g.now c.args.b n c.loop-next.fact) c.in-Some.is c.loop-next.invariant

pub loop-next-smaller : goal.loop-next-smaller
loop-next-smaller c =
    subst (λ (n : Option ℕ). ops_left Fact (Behind c.args.g.now c.fact-start.result) c.args.g.now c.args.b c.next_op-next.result < ops_left Fact (Behind c.args.g.now c.fact-start.result) c.args.g.now c.args.b n) (sym c.in-Some.is)
    (ops_fewer Fact (Behind c.args.g.now c.fact-start.result) c.args.g.now c.is_graph.ensures c.args.b c.in-Some.o c.loop-next.fact c.next_op-next.result (on c) c.next_op-next.ensures.next)

pub loop-next-preserved : goal.loop-next-preserved
loop-next-preserved c =
    let o = on c in
    let label : Some o.block.label ≡ Some c.label.result = sym (ap (option_map (λ (x : Block). x.label)) o.is) ∙ c.label.ensures in
    let table = table_is c.args.g.now c.is_graph.ensures o.block c.label.result c.table-table.result label
    (label_within c.args.g.now c.is_graph.ensures c.requires.flow c.args.b c.label.result c.label.ensures) c.table-table.ensures in
    ops_more Fact (Behind c.args.g.now c.fact-start.result) c.args.g.now c.is_graph.ensures c.args.b c.in-Some.o c.loop-next.fact c.fact_behind_op-fact.result c.next_op-next.result c.op-op.result o c.op-op.ensures
    (λ ops hb ho done. behind_more c.args.g.now c.requires.flow c.fact-start.result o.block ops c.op-op.result c.table-table.result c.loop-next.fact c.fact_behind_op-fact.result hb ho table
    c.fact_behind_op-fact.ensures done) c.next_op-next.ensures.next c.next_op-next.ensures.live

pub returns : goal.returns
returns c = λ p x bf hx same e.
    let o = subst (λ (n : Option ℕ). OnOps Fact (Behind c.args.g.now c.fact-start.result) c.args.g.now c.args.b n c.loop-next.fact) c.in_default.is c.loop-next.invariant in
    let one : o.block ≡ x = some_same o.block x (sym o.is ∙ (found_here c.args.g.now c.is_graph.ensures x c.args.b hx same).0) in
    let end = ops_end Fact (Behind c.args.g.now c.fact-start.result) c.args.g.now c.is_graph.ensures c.args.b c.loop-next.fact o in
    let at : seen c.fact-start.result ≡ seen (get_or c.args.f.now x.id Unknown) = ap seen (c.fact-start.ensures.fact ∙ ap (λ (i : ℕ). get_or c.args.f.now i Unknown) (sym same)) in
    ap (λ (y : prog.Fact). fact_behind (graph_script p c.args.g.now) y bf) (known_fact c.args.g.now c.is_graph.ensures c.args.f.now x hx ∙ sym at)
    ∙ behind_last c.args.g.now c.fact-start.result x c.loop-next.fact p bf (subst (λ (y : Block). Behind c.args.g.now c.fact-start.result y (ops_of y) c.loop-next.fact) one end.1) e
  where
    some_same : (a b : Block) → Some a ≡ Some b → a ≡ b
    some_same a b e = cc

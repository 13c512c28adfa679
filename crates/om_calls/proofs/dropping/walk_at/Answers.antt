use Rattle.std.proofs.Common.{refl}
use Rattle.om_blocks.proofs.OfPrograms.{graphs_have_flows}
use Rattle.om_blocks.proofs.OnEffects.{label_within}
use Rattle.om_calls.proofs.WalkGoesOn.{on_first}
use Rattle.om_calls.proofs.dropping.walk_at.Goals as goal

pub table-requires : goal.table-requires
table-requires c =
    let of = c.requires.program in
    label_within c.args.g.now c.is_graph.ensures (graphs_have_flows.flow of.program c.args.g.now of.valid of.may_go_on.graph) c.args.b c.label.result c.label.ensures

pub returns-clause-on : goal.returns-clause-on
returns-clause-on c =
    on_first c.args.g.now c.is_graph.ensures c.args.f.now c.requires.program c.requires.checked c.args.b c.requires.live c.label.result c.label.ensures _ refl c.fact-start.ensures.fact
    c.table.ensures refl refl

use Rattle.om_blocks.proofs.OfPrograms.{graphs_have_flows}
use Rattle.om_passes.proofs.Passed.{stays}
use Rattle.om_calls.proofs.NothingLeft.{nothing_left}
use Rattle.om_calls.proofs.dropping.drop_gp.Goals as goal

pub returns-clause-nothing : goal.returns-clause-nothing
returns-clause-nothing c = λ same p.
    let n = c.drop_in_blocks.new.g in
    let of = stays c.drop_in_blocks.result c.args.g.now n c.requires.program c.drop_in_blocks.ensures.passed in
    nothing_left n of.may_go_on.graph.graph (graphs_have_flows.flow of.program n of.valid of.may_go_on.graph) c.args.f.now (c.drop_in_blocks.ensures.nothing same) p

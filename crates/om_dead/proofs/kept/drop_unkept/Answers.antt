use Rattle.om_dead.proofs.kept.drop_unkept.Goals as goal

pub of-requires-clause-flow : goal.of-requires-clause-flow
of-requires-clause-flow c = c.graphs_have_flows.ensures.flow c.requires.program c.args.g.now c.requires.valid c.requires.may_go_on.graph

pub of-requires-clause-kept : goal.of-requires-clause-kept
of-requires-clause-kept c = c.requires.may_go_on.kept

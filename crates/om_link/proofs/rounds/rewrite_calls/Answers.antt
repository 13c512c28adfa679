use Rattle.om_blocks.proofs.OfPrograms.{has_flow, entry_object}
use Rattle.om_passes.proofs.Passed.{stays}
use Rattle.om_link.proofs.Turns.{calls_pass, calls_done}
use Rattle.om_link.proofs.rounds.rewrite_calls.Goals as goal

pub solve-requires-clause-flow : goal.solve-requires-clause-flow
solve-requires-clause-flow c =
    let o = stays c.direct-directed.result c.args.g.now c.direct-directed.new.g c.requires.program c.direct-directed.ensures.passed in
    has_flow o.program o.valid c.direct-directed.new.g o.may_go_on.graph

pub solve-requires-clause-entry : goal.solve-requires-clause-entry
solve-requires-clause-entry c =
    let o = stays c.direct-directed.result c.args.g.now c.direct-directed.new.g c.requires.program c.direct-directed.ensures.passed in
    entry_object o.program o.valid c.direct-directed.new.g o.may_go_on.graph

pub enter-entered-requires-clause-facts : goal.enter-entered-requires-clause-facts
enter-entered-requires-clause-facts c = λ p prog may. c.drop_gp-dropped.ensures.facts p

pub returns-clause-passed : goal.returns-clause-passed
returns-clause-passed c =
    calls_pass c.direct-directed.result c.drop_gp-dropped.result c.enter-entered.result c.any_of.result c.args.g.now c.direct-directed.new.g c.drop_gp-dropped.new.g
    c.enter-entered.new.g c.refresh.new.g c.any_of.ensures c.in_ok-refresh.ensures.cleared c.requires.marks c.direct-directed.ensures.passed
    c.drop_gp-dropped.ensures.passed c.enter-entered.ensures.passed

pub returns-clause-nothing : goal.returns-clause-nothing
returns-clause-nothing c =
    calls_done c.direct-directed.result c.drop_gp-dropped.result c.enter-entered.result c.any_of.result c.args.g.now c.direct-directed.new.g c.drop_gp-dropped.new.g
    c.enter-entered.new.g c.refresh.new.g c.any_of.ensures c.in_ok-refresh.ensures.cleared c.requires.marks c.direct-directed.ensures.passed
    c.drop_gp-dropped.ensures.passed c.enter-entered.ensures.passed c.in_ok-facts.facts c.in_ok-facts.ensures.exact c.direct-directed.ensures.nothing
    c.drop_gp-dropped.ensures.nothing c.enter-entered.ensures.nothing

use Rattle.om_uses.proofs.Near.{start_near}
use Rattle.om_link.proofs.Turns.{loads_pass, loads_done}
use Rattle.om_link.proofs.rounds.rewrite_loads.Goals as goal

pub refresh-requires : goal.refresh-requires
refresh-requires c = c.in_ok-changed.ensures.passed.near c.args.u.now (start_near c.args.g.now c.args.u.now c.requires.uses)

pub returns-clause-passed : goal.returns-clause-passed
returns-clause-passed c =
    loads_pass c.args.layout.now c.in_ok-changed.changed c.args.g.now c.reduce.new.g c.refresh.new.g c.in_ok-refresh.ensures.cleared c.requires.marks
    c.in_ok-changed.ensures.passed

pub returns-clause-nothing : goal.returns-clause-nothing
returns-clause-nothing c = λ e.
    loads_done c.args.layout.now c.in_ok-changed.changed c.args.g.now c.reduce.new.g c.refresh.new.g c.in_ok-refresh.ensures.cleared c.requires.marks
    c.in_ok-changed.ensures.passed c.in_ok-changed.ensures.nothing e

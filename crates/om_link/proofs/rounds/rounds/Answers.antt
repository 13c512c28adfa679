use Rattle.std.proofs.Common.{sym, ◌∙◌}
use Rattle.om_uses.proofs.Near.{start_near}
use Rattle.om_link.proofs.Turns.{may_go_on, turned, goes_on, smaller, finished}
use Rattle.om_link.proofs.rounds.rounds.Goals as goal

pub prune-requires-clause-near : goal.prune-requires-clause-near
prune-requires-clause-near c = start_near c.args.g.now c.in_ok-uses.uses c.in_ok-uses.ensures

pub returns-then-not-any_of : goal.returns-then-not-any_of
returns-then-not-any_of c =
    finished c.args.p.now c.requires.program c.requires.limits c.args.g.now c.requires.begins c.loop-uses.pruned c.in_ok-called.called c.in_ok-reduced.reduced c.loop-uses.g
    c.rewrite_calls.new.g c.rewrite_loads.new.g c.loop-uses.uses c.in_ok-layout.layout c.loop-uses.invariant c.in_ok-called.ensures.passed c.in_ok-layout.ensures c.in_ok-reduced.ensures.passed (sym c.any_of.ensures ∙ c.if-not-any_of.true)
    c.in_ok-called.ensures.nothing c.in_ok-reduced.ensures.nothing

pub prune_twice-requires-clause-may_go_on : goal.prune_twice-requires-clause-may_go_on
prune_twice-requires-clause-may_go_on c =
    may_go_on
    (turned c.args.p.now c.requires.program c.requires.limits c.args.g.now c.requires.begins c.loop-uses.pruned c.in_ok-called.called c.in_ok-reduced.reduced c.loop-uses.g
    c.rewrite_calls.new.g c.rewrite_loads.new.g c.loop-uses.uses c.in_ok-layout.layout c.loop-uses.invariant c.in_ok-called.ensures.passed c.in_ok-layout.ensures c.in_ok-reduced.ensures.passed)

pub loop-uses-smaller : goal.loop-uses-smaller
loop-uses-smaller c =
    smaller c.args.p.now c.requires.program c.requires.limits c.args.g.now c.requires.begins c.loop-uses.pruned c.in_ok-called.called c.in_ok-reduced.reduced c.loop-uses.g
    c.rewrite_calls.new.g c.rewrite_loads.new.g c.loop-uses.uses c.in_ok-layout.layout c.loop-uses.invariant c.in_ok-called.ensures.passed c.in_ok-layout.ensures c.in_ok-reduced.ensures.passed c.in_ok-pruned-2.pruned c.prune_twice.new.g
    c.in_ok-pruned-2.ensures.passed (sym c.any_of.ensures ∙ c.if-not-any_of.false)

pub loop-uses-preserved : goal.loop-uses-preserved
loop-uses-preserved c =
    let x = c.in_ok-pruned-2.ensures in
    goes_on c.args.p.now c.requires.program c.requires.limits c.args.g.now c.requires.begins c.loop-uses.pruned c.in_ok-called.called c.in_ok-reduced.reduced c.loop-uses.g
    c.rewrite_calls.new.g c.rewrite_loads.new.g c.loop-uses.uses c.in_ok-layout.layout c.loop-uses.invariant c.in_ok-called.ensures.passed c.in_ok-layout.ensures c.in_ok-reduced.ensures.passed c.in_ok-pruned-2.pruned c.prune_twice.new.g
    c.prune_twice.new.u x.passed x.uses x.marks x.none x.kept

use Rattle.om_uses.proofs.Near.{start_near}
use Rattle.om_link.proofs.Turns.{pruned_twice}
use Rattle.om_link.proofs.rounds.prune_twice.Goals as goal

pub prune-requires-clause-near : goal.prune-requires-clause-near
prune-requires-clause-near c = start_near c.args.g.now c.args.u.now c.requires.uses

pub prune-requires-2-clause-near : goal.prune-requires-2-clause-near
prune-requires-2-clause-near c = start_near c.prune.new.g c.prune.new.u c.in_ok-changed.ensures.uses

pub returns-clause-passed : goal.returns-clause-passed
returns-clause-passed c =
    pruned_twice c.args.p.now c.in_ok-changed.changed c.in_ok-again.again c.args.g.now c.prune.new.g c.prune-2.new.g
    c.in_ok-changed.ensures.passed c.in_ok-again.ensures.passed

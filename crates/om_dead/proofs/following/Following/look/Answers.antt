use Rattle.om_dead.proofs.OnGraphs.{when_err, rewritten_none}
use Rattle.om_dead.proofs.OnFollowing.{some_rewritten}
use Rattle.om_dead.proofs.following.Following.look.Goals as goal

pub returns-in_err-sweep-clause-stopped : goal.returns-in_err-sweep-clause-stopped
returns-in_err-sweep-clause-stopped c = when_err c.from_residual.result (rw c.in_err-sweep.ensures.refused (rewritten_none c.args.g.now))

pub returns-in_err-lower_all-clause-stopped : goal.returns-in_err-lower_all-clause-stopped
returns-in_err-lower_all-clause-stopped c = when_err c.from_residual-in_err-lower_all.result (some_rewritten c.args.g.now c.sweep.new.g c.in_ok-sweep.ensures.deleted)

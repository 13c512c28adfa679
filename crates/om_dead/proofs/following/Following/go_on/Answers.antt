use Rattle.om_dead.proofs.OnGraphs.{when_err, rewritten_then}
use Rattle.om_dead.proofs.OnFollowing.{some_none, some_both}
use Rattle.om_dead.proofs.following.Following.go_on.Goals as goal

pub loop-n-init : goal.loop-n-init
loop-n-init c = (some_none c.args.g.now c.requires.following.program, c.requires.following)

pub loop-n-preserved : goal.loop-n-preserved
loop-n-preserved c = (some_both c.args.g.now c.loop-n.g c.look_at.new.g c.loop-n.invariant.0 c.in_ok-look_at.ensures.deleted, c.in_ok-look_at.ensures.following)

pub returns-in_err-look_at-clause-stopped : goal.returns-in_err-look_at-clause-stopped
returns-in_err-look_at-clause-stopped c =
    when_err c.from_residual.result
    (rewritten_then (c.loop-n.invariant.0).0 c.args.g.now c.loop-n.g c.look_at.new.g (c.loop-n.invariant.0).1 c.in_err-look_at.ensures.stopped)

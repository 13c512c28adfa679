use Rattle.om_dead.proofs.OnGraphs.{deleted_none, when_err, rewritten_then, cleared_end, deleted_more}
use Rattle.om_dead.proofs.words.delete_dead.Goals as goal

pub loop-again-init : goal.loop-again-init
loop-again-init c = deleted_none c.args.g.now c.requires

pub returns-in_err-again-clause-stopped : goal.returns-in_err-again-clause-stopped
returns-in_err-again-clause-stopped c =
    when_err c.from_residual.result (rewritten_then c.loop-again.changed c.args.g.now c.loop-again.g c.delete_some.new.g c.loop-again.invariant c.in_err-again.ensures.stopped)

pub returns-then-not-again-clause-cleared : goal.returns-then-not-again-clause-cleared
returns-then-not-again-clause-cleared c =
    cleared_end c.loop-again.changed c.in_ok-again.again c.args.g.now c.loop-again.g c.delete_some.new.g c.if-not-again.true c.loop-again.invariant
    c.in_ok-again.ensures.deleted c.in_ok-again.ensures.none

pub loop-again-preserved : goal.loop-again-preserved
loop-again-preserved c =
    deleted_more c.loop-again.changed c.in_ok-again.again c.args.g.now c.loop-again.g c.delete_some.new.g c.if-not-again.false c.loop-again.invariant
    c.in_ok-again.ensures.deleted

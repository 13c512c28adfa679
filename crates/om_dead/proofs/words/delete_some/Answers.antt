use Rattle.std.proofs.Common.{sym}
use Rattle.om_dead.proofs.OnSweeps.{flow_of, now_of}
use Rattle.om_dead.proofs.OnGraphs.{rewritten_none, rewritten_then, when_err, deleted_by, without}
use Rattle.om_dead.proofs.OnFollowing.{holds_after, more_deleted}
use Rattle.om_dead.proofs.words.delete_some.Goals as goal

pub solve-requires : goal.solve-requires
solve-requires c = flow_of c.args.g.now c.requires

pub outs_of-requires : goal.outs_of-requires
outs_of-requires c = flow_of c.args.g.now c.requires

pub returns-in_err-live-clause-stopped : goal.returns-in_err-live-clause-stopped
returns-in_err-live-clause-stopped c = when_err c.from_residual.result (rewritten_none c.args.g.now)

pub returns-in_err-ends-clause-stopped : goal.returns-in_err-ends-clause-stopped
returns-in_err-ends-clause-stopped c = when_err c.from_residual-in_err-ends.result (rewritten_none c.args.g.now)

pub returns-in_err-starts-clause-stopped : goal.returns-in_err-starts-clause-stopped
returns-in_err-starts-clause-stopped c = when_err c.from_residual-in_err-starts.result (rewritten_none c.args.g.now)

pub returns-then-not-changed-clause-deleted : goal.returns-then-not-changed-clause-deleted
returns-then-not-changed-clause-deleted c = rw (sym c.if-not-changed.true) (deleted_by _ _ c.args.g.now c.sweep.new.g c.in_ok-changed.changed c.in_ok-changed.ensures.swept)

pub returns-then-not-changed-clause-none : goal.returns-then-not-changed-clause-none
returns-then-not-changed-clause-none c = λ e.
    without c.args.g.now c.sweep.new.g _ c.requires (c.in_ok-changed.ensures.swept.same c.if-not-changed.true) c.in_ok-live.ensures.exact (c.in_ok-changed.ensures.none c.if-not-changed.true)

pub go_on-requires : goal.go_on-requires
go_on-requires c =
    let f = c.in_ok-following.ensures in
    record {
      following = record {
        program = now_of _ _ c.args.g.now c.sweep.new.g c.in_ok-changed.changed c.in_ok-changed.ensures.swept;
        holds = rw f.0 (holds_after c.args.g.now c.sweep.new.g c.in_ok-live.live c.in_ok-starts.starts.items c.in_ok-ends.ends.items c.in_ok-changed.changed c.requires c.in_ok-starts.ensures c.in_ok-ends.ensures c.in_ok-changed.ensures.swept);
        empty = f.1;
      };
    }

pub returns-in_err-go_on-clause-stopped : goal.returns-in_err-go_on-clause-stopped
returns-in_err-go_on-clause-stopped c =
    when_err c.from_residual-in_err-go_on.result
    (rewritten_then c.in_ok-changed.changed c.args.g.now c.sweep.new.g c.go_on.new.g (deleted_by _ _ c.args.g.now c.sweep.new.g c.in_ok-changed.changed c.in_ok-changed.ensures.swept) c.in_err-go_on.ensures.stopped)

pub returns-clause-deleted : goal.returns-clause-deleted
returns-clause-deleted c =
    more_deleted c.args.g.now c.sweep.new.g c.go_on.new.g
    (rw (sym c.if-not-changed.false) (deleted_by _ _ c.args.g.now c.sweep.new.g c.in_ok-changed.changed c.in_ok-changed.ensures.swept)) c.in_ok-go_on.ensures.deleted

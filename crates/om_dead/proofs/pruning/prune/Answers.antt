use Rattle.std.proofs.Common.{Bool, sym, ◌∙◌, subst}
use Rattle.om_graph.specs.View.{GraphView}
use Rattle.om_passes.specs.Passed.{IsPassed}
use Rattle.om_passes.specs.Step.{Rewrites}
use Rattle.om_dead.proofs.OnGraphs.{rewritten_none, when_err}
use Rattle.om_dead.proofs.Prunes.{stopped, left_off, all_passed, none_dead, all_kept, with_true, with_false}
use Rattle.om_dead.proofs.pruning.prune.Goals as goal

pub returns-in_err-dropped-clause-stopped : goal.returns-in_err-dropped-clause-stopped
returns-in_err-dropped-clause-stopped c =
    when_err c.from_residual.result
    (subst (λ (g : GraphView). Rewrites c.args.p.now c.args.g.now g) (sym c.in_err-dropped.ensures.refused) (rewritten_none c.args.g.now c.args.p.now c.requires.program c.requires.may_go_on))

pub returns-in_err-deleted-clause-stopped : goal.returns-in_err-deleted-clause-stopped
returns-in_err-deleted-clause-stopped c =
    when_err c.from_residual-in_err-deleted.result
    (stopped c.args.p.now c.requires.program c.args.g.now c.drop_unkept.new.g c.requires.may_go_on c.in_ok-dropped.dropped c.in_ok-dropped.ensures.passed c.delete_dead.new.g
    c.in_err-deleted.ensures.stopped)

pub returns-in_err-refresh-clause-stopped : goal.returns-in_err-refresh-clause-stopped
returns-in_err-refresh-clause-stopped c =
    when_err c.from_residual-in_err-refresh.result
    (subst (λ (g : GraphView). Rewrites c.args.p.now c.args.g.now g) (sym c.in_err-refresh.ensures.marks)
    (left_off c.args.p.now c.requires.program c.args.g.now c.drop_unkept.new.g c.requires.may_go_on c.in_ok-dropped.dropped c.in_ok-dropped.ensures.passed c.requires.bases c.delete_dead.new.g
    c.delete_dead.new.g c.in_ok-deleted.deleted c.in_ok-deleted.ensures.cleared))

pub returns-then-dropped-clause-passed : goal.returns-then-dropped-clause-passed
returns-then-dropped-clause-passed c =
    subst (λ (t : Bool). IsPassed c.args.p.now t c.args.g.now c.refresh.new.g) (with_true c.in_ok-dropped.dropped c.in_ok-deleted.deleted c.if-dropped.true)
    (all_passed c.args.p.now c.requires.program c.args.g.now c.drop_unkept.new.g c.requires.may_go_on c.in_ok-dropped.dropped c.in_ok-dropped.ensures.passed c.requires.bases c.delete_dead.new.g
    c.refresh.new.g c.in_ok-deleted.deleted c.in_ok-deleted.ensures.cleared c.in_ok-refresh.ensures.cleared)

pub returns-then-dropped-clause-none : goal.returns-then-dropped-clause-none
returns-then-dropped-clause-none c =
    none_dead c.args.p.now c.requires.program c.args.g.now c.drop_unkept.new.g c.requires.may_go_on c.in_ok-dropped.dropped c.in_ok-dropped.ensures.passed c.requires.bases c.delete_dead.new.g
    c.refresh.new.g c.in_ok-deleted.deleted c.in_ok-deleted.ensures.cleared c.in_ok-refresh.ensures.cleared

pub returns-else-dropped-clause-passed : goal.returns-else-dropped-clause-passed
returns-else-dropped-clause-passed c =
    subst (λ (t : Bool). IsPassed c.args.p.now t c.args.g.now c.refresh.new.g) (with_false c.in_ok-dropped.dropped c.in_ok-deleted.deleted c.if-dropped.false)
    (all_passed c.args.p.now c.requires.program c.args.g.now c.drop_unkept.new.g c.requires.may_go_on c.in_ok-dropped.dropped c.in_ok-dropped.ensures.passed c.requires.bases c.delete_dead.new.g
    c.refresh.new.g c.in_ok-deleted.deleted c.in_ok-deleted.ensures.cleared c.in_ok-refresh.ensures.cleared)

pub returns-else-dropped-clause-none : goal.returns-else-dropped-clause-none
returns-else-dropped-clause-none c =
    none_dead c.args.p.now c.requires.program c.args.g.now c.drop_unkept.new.g c.requires.may_go_on c.in_ok-dropped.dropped c.in_ok-dropped.ensures.passed c.requires.bases c.delete_dead.new.g
    c.refresh.new.g c.in_ok-deleted.deleted c.in_ok-deleted.ensures.cleared c.in_ok-refresh.ensures.cleared

pub returns-else-dropped-clause-kept : goal.returns-else-dropped-clause-kept
returns-else-dropped-clause-kept c = λ e.
    all_kept c.args.p.now c.requires.program c.args.g.now c.drop_unkept.new.g c.requires.may_go_on c.in_ok-dropped.dropped c.in_ok-dropped.ensures.passed c.requires.bases c.delete_dead.new.g
    c.refresh.new.g c.in_ok-deleted.deleted c.in_ok-deleted.ensures.cleared c.in_ok-refresh.ensures.cleared c.in_ok-dropped.ensures.nothing
    (with_false c.in_ok-dropped.dropped c.in_ok-deleted.deleted c.if-dropped.false ∙ e)

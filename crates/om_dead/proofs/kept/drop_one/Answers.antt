use Rattle.std.proofs.Common.{sym, subst}
use Rattle.om_graph.specs.View.{GraphView}
use Rattle.om_passes.specs.Passed.{IsStep}
use Rattle.om_dead.proofs.Dropping.{one_step}
use Rattle.om_dead.proofs.kept.drop_one.Goals as goal

pub returns-clause-step : goal.returns-clause-step
returns-clause-step c =
    subst (λ (g : GraphView). IsStep c.args.g.now g) (sym c.drop_block.ensures)
    (one_step c.prunes_are_steps.ensures c.ops_still_fit.ensures c.args.g.now c.args.b c.requires.live c.requires.unkept)

pub returns-clause-near : goal.returns-clause-near
returns-clause-near c = λ k near. rw c.drop_block.ensures (c.edits_stay_near.ensures.dropped c.args.g.now k c.args.b c.is_graph.ensures c.is_numbered.ensures c.requires.live near)

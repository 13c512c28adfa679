use Rattle.std.proofs.Common.{◌∙◌, ◌≤◌, length, arith, subst, sym}
use Rattle.om_graph.specs.Lifted.{IsLifted}
use Rattle.om_graph.specs.View.{GraphView}
use Rattle.om_graph.specs.Held.{IsGraph}
use Rattle.om_lift.proofs.Texts.{few_objects, all_lifted}
use Rattle.om_lift.proofs.lifting.lift_program.Goals as goal

pub new-requires-clause-objects : goal.new-requires-clause-objects
new-requires-clause-objects c = few_objects c.args.p.now c.deref-2.result.now c.objects-objects.ensures.program (c.deref-2.ensures.value ∙ c.in_ok-counts.ensures)

pub returns-clause-lifted : goal.returns-clause-lifted
returns-clause-lifted c =
    let p = c.args.p.now in
    let n = c.objects-objects.ensures.value in
    let t = c.loop-obj-test.false in
    let l : length p.texts ≤ c.loop-obj.obj = omega (arith, n, t) in
    subst (λ (g : GraphView). IsLifted p g) (sym c.clear_touched.ensures)
    (all_lifted p c.loop-obj.obj c.loop-obj.graph c.loop-obj.invariant l (subst (λ (g : GraphView). IsGraph g) c.clear_touched.ensures c.is_graph.ensures))

pub returns-clause-runs : goal.returns-clause-runs
returns-clause-runs c input n = c.lift_keeps_meaning.ensures.runs c.args.p.now c.clear_touched.new.self c.objects-objects.ensures.program (returns-clause-lifted c) input n

pub returns-clause-of : goal.returns-clause-of
returns-clause-of c = c.lift_keeps_meaning.ensures.of c.args.p.now c.clear_touched.new.self c.objects-objects.ensures.program (returns-clause-lifted c)

pub returns-clause-whole : goal.returns-clause-whole
returns-clause-whole c = c.lift_keeps_meaning.ensures.whole c.args.p.now c.clear_touched.new.self c.objects-objects.ensures.program (returns-clause-lifted c)

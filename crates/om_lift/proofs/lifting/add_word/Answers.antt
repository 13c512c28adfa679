use Rattle.std.proofs.Common.{Some, sym, subst, ap, ◌∙◌}
use Rattle.om_graph.specs.declared.op.Op.{Op}
use Rattle.om_graph.specs.declared.op.Last.{Last}
use Rattle.om_graph.specs.View.{GraphView, last_set, op_added}
use Rattle.om_graph.specs.Lifted.{grown}
use Rattle.om_lift.specs.Lifting.{Holds}
use Rattle.om_lift.proofs.Shapes.{is_live}
use Rattle.om_lift.proofs.Growing.{ending_held, going_held}
use Rattle.om_lift.proofs.lifting.add_word.Goals as goal

pub set_last-requires : goal.set_last-requires
set_last-requires c = is_live c.args.block c.args.graph.now.blocks c.requires

pub add_op-requires : goal.add_op-requires
add_op-requires c = is_live c.args.block c.args.graph.now.blocks c.requires

pub returns-then-ends_block : goal.returns-then-ends_block
returns-then-ends_block c p ss h off =
    let g = c.args.graph.now in
    let b = c.args.block in
    let e = c.set_last.ensures ∙ ap (λ (l : Last). last_set g b l) c.last_at.ensures in
    subst (λ (x : GraphView). Holds p (grown c.args.at c.args.item ss) (Some b) x) (sym e)
    (ending_held p ss g b c.args.at c.args.item h (sym c.ends_block.ensures ∙ c.if-ends_block.true))

pub returns : goal.returns
returns c p ss h off =
    let g = c.args.graph.now in
    let b = c.args.block in
    let o = c.in_ok-add_op.field-0 in
    let e = c.in_ok-add_op.ensures.added ∙ ap (λ (x : Op). op_added g b (record { id = o; op = x })) c.op_at.ensures in
    subst (λ (x : GraphView). Holds p (grown c.args.at c.args.item ss) (Some b) x) (sym e)
    (going_held p ss g b o c.args.at c.args.item h (sym c.ends_block.ensures ∙ c.if-ends_block.false) off)

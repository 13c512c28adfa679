use Rattle.std.proofs.Common.{◌<◌, ◌≤◌, ℕ, None, Option, Some, List, sym, subst, length, ap, ◌∙◌, arith}
use Rattle.om_graph.specs.declared.op.Op.{Op}
use Rattle.om_graph.specs.View.{Node}
use Rattle.om_uses.proofs.Nodes.{OnNodes, IsNoted, nodes_left, nodes_here, nodes_more, nodes_fewer, nodes_end, noted_room, noted_more}
use Rattle.om_uses.proofs.blocks.note_block.Goals as goal

abbrev Made : (c : goal.After-next_op-next) → List Node → List Node → Type 0
Made c done left = IsNoted c.args.g.now c.args.b c.args.start c.loop-next.at c.loop-next.ops.items c.args.ops.now.items c.loop-next.loads.items c.args.loads.now.items left

on : (c : goal.After-next_op-next) → OnNodes c.args.g.now c.args.b (Some c.in-Some.o) (Made c)
on c = subst (λ (n : Option ℕ). OnNodes c.args.g.now c.args.b n (Made c)) c.in-Some.is c.loop-next.invariant

pub note_load-at-requires : goal.note_load-at-requires
note_load-at-requires c =
    let g = c.args.g.now in
    let b = c.args.b in
    let Left : List Node → List Node → Type 0 =
    λ done left. IsNoted g b c.args.start c.loop-next.at c.loop-next.ops.items c.args.ops.now.items c.loop-next.loads.items c.args.loads.now.items left in
    let on : OnNodes g b (Some c.in-Some.o) Left = subst (λ (n : Option ℕ). OnNodes g b n Left) c.in-Some.is c.loop-next.invariant in
    let here = nodes_here g c.requires.graph b c.in-Some.o c.op-op.result Left on c.op-op.ensures in
    noted_room g b c.args.start c.loop-next.at c.loop-next.ops.items c.args.ops.now.items c.loop-next.loads.items c.args.loads.now.items here.1 here.2 c.op-op.result.kind
    (ap (λ (o : Op). o.kind) here.3) here.4

pub loop-next-smaller : goal.loop-next-smaller
loop-next-smaller c =
    subst (λ (n : Option ℕ). nodes_left c.args.g.now c.args.b c.next_op-next.result < nodes_left c.args.g.now c.args.b n) (sym c.in-Some.is)
    (nodes_fewer c.args.g.now c.requires.graph c.args.b c.in-Some.o c.next_op-next.result (Made c) (on c) c.next_op-next.ensures.next)

pub loop-next-preserved : goal.loop-next-preserved
loop-next-preserved c =
    nodes_more c.args.g.now c.requires.graph c.args.b c.in-Some.o c.next_op-next.result c.op-op.result (Made c)
    (λ done left. IsNoted c.args.g.now c.args.b c.args.start c.note_load-at.result c.note_op.new.ops.items c.args.ops.now.items c.note_load-at.new.loads.items c.args.loads.now.items left)
    (on c) c.op-op.ensures c.next_op-next.ensures.next c.next_op-next.ensures.live
    (λ done rest n is same at made.
    noted_more c.args.g.now c.args.b c.args.start c.loop-next.at c.note_load-at.result c.in-Some.o c.next_op.result c.op-op.result.kind c.loop-next.ops.items c.note_op.new.ops.items
    c.args.ops.now.items c.loop-next.loads.items c.note_load-at.new.loads.items c.args.loads.now.items n rest is (ap (λ (o : Op). o.kind) same)
    (c.next_op.ensures.next ∙ sym c.next_op-next.ensures.next ∙ at) (rw c.number-block.ensures at c.note_op.ensures) (rw c.number-block.ensures at c.note_load-at.ensures.loads)
    c.note_load-at.ensures.next made)

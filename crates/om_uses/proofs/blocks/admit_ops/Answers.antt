use Rattle.std.proofs.Common.{◌<◌, ℕ, Option, Some, List, sym, subst, length, ap, arith}
use Rattle.om_graph.specs.declared.op.Op.{Op}
use Rattle.om_graph.specs.View.{Node}
use Rattle.om_uses.proofs.Fresh.{longer_both}
use Rattle.om_uses.proofs.Nodes.{OnNodes, IsCounted, nodes_left, nodes_more, nodes_fewer, counted_more}
use Rattle.om_uses.proofs.blocks.admit_ops.Goals as goal

on : (c : goal.After-next_op-next) → OnNodes c.args.g.now c.args.b (Some c.in-Some.o) (IsCounted c.loop-next.ops.items c.loop-next.count)
on c = subst (λ (n : Option ℕ). OnNodes c.args.g.now c.args.b n (IsCounted c.loop-next.ops.items c.loop-next.count)) c.in-Some.is c.loop-next.invariant.1

pub loop-next-smaller : goal.loop-next-smaller
loop-next-smaller c =
    subst (λ (n : Option ℕ). nodes_left c.args.g.now c.args.b c.next_op-next.result < nodes_left c.args.g.now c.args.b n) (sym c.in-Some.is)
    (nodes_fewer c.args.g.now c.requires.graph c.args.b c.in-Some.o c.next_op-next.result (IsCounted c.loop-next.ops.items c.loop-next.count) (on c) c.next_op-next.ensures.next)

pub loop-next-preserved : goal.loop-next-preserved
loop-next-preserved c = (
  longer_both _ _ _ c.loop-next.invariant.0 c.extend_ops.ensures.same,
  nodes_more c.args.g.now c.requires.graph c.args.b c.in-Some.o c.next_op-next.result c.op.result
      (IsCounted c.loop-next.ops.items c.loop-next.count) (IsCounted c.extend_ops.new.ops.items c.in_ok-count.count)
      (on c) c.op.ensures c.next_op-next.ensures.next c.next_op-next.ensures.live
      (λ done rest n is same at made.
      counted_more (length c.loop-next.ops.items) (length c.extend_ops.new.ops.items) c.loop-next.count c.in_ok-count.count done n c.in-Some.o c.op.result.kind
      c.extend_ops.ensures.same.long c.in_ok-extend_ops.ensures.room c.in_ok-count.ensures.more is (ap (λ (o : Op). o.kind) same) made),
  c.in_ok-count.ensures.few,
)

use Rattle.std.proofs.Common.{refl}
use Rattle.om_encode.proofs.TextWalks.{ops_start, ops_step, ops_fewer, op_live, op_can, no_highs}
use Rattle.om_encode.proofs.text_walk.write_ops.Goals as goal

pub loop-next-init : goal.loop-next-init
loop-next-init c =
    ops_start c.args.program.now c.args.graph.now c.args.layout.now c.args.block c.first_op-next.result _ c.args.text.now.items
    c.requires.live c.first_op-next.ensures.first (no_highs _ refl)

pub op-op-requires : goal.op-op-requires
op-op-requires c =
    op_live c.args.program.now c.args.graph.now c.args.layout.now c.args.block c.requires.can c.in-Some.id c.loop-next.highs
    c.args.text.now.items c.loop-next.text.items c.loop-next.next c.loop-next.invariant c.in-Some.is

pub write_op-requires : goal.write_op-requires
write_op-requires c =
    op_can c.args.program.now c.args.graph.now c.args.layout.now c.args.block c.requires.can c.in-Some.id c.loop-next.highs
    c.args.text.now.items c.loop-next.text.items c.loop-next.next c.loop-next.invariant c.in-Some.is c.op-op.result c.op-op.ensures

pub loop-next-smaller : goal.loop-next-smaller
loop-next-smaller c =
    ops_fewer c.args.program.now c.args.graph.now c.args.layout.now c.args.block c.requires.can c.in-Some.id c.loop-next.highs
    c.args.text.now.items c.loop-next.text.items c.loop-next.next c.loop-next.invariant c.in-Some.is c.next_op-next.result
    c.next_op-next.ensures.next

pub loop-next-preserved : goal.loop-next-preserved
loop-next-preserved c =
    ops_step c.args.program.now c.args.graph.now c.args.layout.now c.args.block c.requires.can c.in-Some.id c.loop-next.highs
    c.args.text.now.items c.loop-next.text.items c.loop-next.next c.loop-next.invariant c.in-Some.is c.op-op.result
    c.write_op.new.highs c.write_op.new.text.items c.next_op-next.result c.op-op.ensures c.in_ok-write_op.ensures.written
    c.in_ok-write_op.ensures.highs c.next_op-next.ensures.next

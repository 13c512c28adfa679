use Rattle.std.proofs.Common.{inl, refl, arith}
use Rattle.om_encode.specs.Positions.{filled}
use Rattle.om_encode.proofs.PutWords.{ops_start, op_live, op_room, ops_step, ops_fewer, ops_end}
use Rattle.om_encode.proofs.positions.put_ops.Goals as goal

pub loop-next-init : goal.loop-next-init
loop-next-init c =
    ops_start c.args.graph.now c.args.layout.now c.args.listed.now c.args.block c.first_op-next.result _ c.requires.live
    c.first_op-next.ensures.first c.requires.room

pub op-requires : goal.op-requires
op-requires c =
    op_live c.args.graph.now c.args.layout.now c.args.listed.now c.args.block c.is_graph.ensures c.in-Some.id c.loop-next.next _ _
    c.loop-next.invariant c.in-Some.is

pub put_word-requires-clause-object : goal.put_word-requires-clause-object
put_word-requires-clause-object c =
    (op_room c.args.graph.now c.args.layout.now c.args.listed.now c.args.block c.is_graph.ensures c.in-Some.id c.loop-next.next _ _
    c.loop-next.invariant c.in-Some.is c.op.result c.op.ensures).object _ (inl refl)

pub put_word-requires-clause-text : goal.put_word-requires-clause-text
put_word-requires-clause-text c =
    (op_room c.args.graph.now c.args.layout.now c.args.listed.now c.args.block c.is_graph.ensures c.in-Some.id c.loop-next.next _ _
    c.loop-next.invariant c.in-Some.is c.op.result c.op.ensures).text _ (inl refl)

pub put_word-requires-clause-words : goal.put_word-requires-clause-words
put_word-requires-clause-words c =
    (op_room c.args.graph.now c.args.layout.now c.args.listed.now c.args.block c.is_graph.ensures c.in-Some.id c.loop-next.next _ _
    c.loop-next.invariant c.in-Some.is c.op.result c.op.ensures).words _ (inl refl)

pub put_word-requires-clause-count : goal.put_word-requires-clause-count
put_word-requires-clause-count c =
    let r =
    (op_room c.args.graph.now c.args.layout.now c.args.listed.now c.args.block c.is_graph.ensures c.in-Some.id c.loop-next.next _ _
    c.loop-next.invariant c.in-Some.is c.op.result c.op.ensures).count in
    omega (arith, r)

pub loop-next-smaller : goal.loop-next-smaller
loop-next-smaller c =
    ops_fewer c.args.graph.now c.args.layout.now c.args.listed.now c.args.block c.is_graph.ensures c.in-Some.id c.loop-next.next _ _
    c.loop-next.invariant c.in-Some.is c.next_op-next.result c.next_op-next.ensures.next

pub loop-next-preserved : goal.loop-next-preserved
loop-next-preserved c =
    ops_step c.args.graph.now c.args.layout.now c.args.listed.now c.args.block c.is_graph.ensures c.in-Some.id c.loop-next.next _ _
    c.loop-next.invariant c.in-Some.is c.op.result (filled c.put_word.new.placing) c.next_op-next.result c.op.ensures c.put_word.ensures
    c.next_op-next.ensures.next

pub returns : goal.returns
returns c =
    ops_end c.args.graph.now c.args.layout.now c.args.listed.now c.args.block c.loop-next.next _ _ c.loop-next.invariant c.in_default.is

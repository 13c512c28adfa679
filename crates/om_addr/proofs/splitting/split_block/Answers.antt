use Rattle.std.proofs.Common.{◌<◌, ℕ, Option, sym, subst}
use Rattle.om_addr.proofs.InARow as row
use Rattle.om_addr.proofs.Walking.{ops_left}
use Rattle.om_addr.proofs.Blockwise.{live_op, live_block, ops_fewer}
use Rattle.om_addr.proofs.Splits.{out_stays}
use Rattle.om_addr.proofs.SplitLoops.{OnOps, ops_begin, op_inside, ops_more, ops_end}
use Rattle.om_addr.proofs.splitting.split_block.Goals as goal

pub loop-next-init : goal.loop-next-init
loop-next-init c = ops_begin c.args.lay.now c.args.live.now c.args.b c.args.out c.args.g.now c.first_op-next.result c.is_graph.ensures c.requires.live c.first_op-next.ensures.first c.first_op-next.ensures.live

pub split_op-again-requires-clause-program : goal.split_op-again-requires-clause-program
split_op-again-requires-clause-program c = row.stays c.args.lay.now c.args.live.now c.loop-next.changed c.args.g.now c.loop-next.g c.requires.program (c.loop-next.invariant.passed)

pub split_op-again-requires-clause-block : goal.split_op-again-requires-clause-block
split_op-again-requires-clause-block c = live_block c.args.g.now c.loop-next.g c.args.b c.requires.live c.loop-next.invariant.passed.ids.blocks

pub split_op-again-requires-clause-inside : goal.split_op-again-requires-clause-inside
split_op-again-requires-clause-inside c =
    op_inside c.args.lay.now c.args.live.now c.args.b c.args.out c.args.g.now c.loop-next.g c.loop-next.changed c.in-Some.o
    (subst (λ (n : Option ℕ). OnOps c.args.lay.now c.args.live.now c.args.b c.args.out c.args.g.now c.loop-next.g c.loop-next.changed n) c.in-Some.is c.loop-next.invariant)

pub split_op-again-requires-clause-out : goal.split_op-again-requires-clause-out
split_op-again-requires-clause-out c = out_stays c.args.g.now c.loop-next.g c.loop-next.invariant.ends c.args.live.now c.args.b c.args.out c.requires.out

pub next_op-next-requires : goal.next_op-next-requires
next_op-next-requires c =
    let on = subst (λ (n : Option ℕ). OnOps c.args.lay.now c.args.live.now c.args.b c.args.out c.args.g.now c.loop-next.g c.loop-next.changed n) c.in-Some.is c.loop-next.invariant in
    live_op c.loop-next.g c.split_op-again.new.g c.in-Some.o on.live c.split_op-again.ensures.passed.ids.ops

pub loop-next-smaller : goal.loop-next-smaller
loop-next-smaller c =
    let on = subst (λ (n : Option ℕ). OnOps c.args.lay.now c.args.live.now c.args.b c.args.out c.args.g.now c.loop-next.g c.loop-next.changed n) c.in-Some.is c.loop-next.invariant in
    subst (λ (n : Option ℕ). ops_left c.split_op-again.new.g c.next_op-next.result < ops_left c.loop-next.g n) (sym c.in-Some.is)
    (ops_fewer c.loop-next.g c.split_op-again.new.g c.in-Some.o c.next_op-next.result c.is_graph-in-Some.ensures on.live c.split_op-again.ensures.passed.ids.ops c.next_op-next.ensures.next)

pub loop-next-preserved : goal.loop-next-preserved
loop-next-preserved c =
    let on = subst (λ (n : Option ℕ). OnOps c.args.lay.now c.args.live.now c.args.b c.args.out c.args.g.now c.loop-next.g c.loop-next.changed n) c.in-Some.is c.loop-next.invariant in
    ops_more c.args.lay.now c.args.live.now c.args.b c.args.out c.args.g.now c.loop-next.g c.split_op-again.new.g c.loop-next.changed c.split_op-again.result c.either-changed.result c.in-Some.o c.next_op-next.result on
    c.either-changed.ensures c.split_op-again.ensures.passed c.split_op-again.ensures.ends c.split_op-again.ensures.nothing c.is_graph-in-Some.ensures c.next_op-next.ensures.next c.next_op-next.ensures.live

pub returns-clause-nothing : goal.returns-clause-nothing
returns-clause-nothing c =
    ops_end c.args.lay.now c.args.live.now c.args.b c.args.out c.args.g.now c.loop-next.g c.loop-next.changed
    (subst (λ (n : Option ℕ). OnOps c.args.lay.now c.args.live.now c.args.b c.args.out c.args.g.now c.loop-next.g c.loop-next.changed n) c.in_default.is c.loop-next.invariant)

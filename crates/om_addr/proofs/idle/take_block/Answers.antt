use Rattle.std.proofs.Common.{◌<◌, ℕ, Option, sym, subst}
use Rattle.om_addr.proofs.IdleLoads as row
use Rattle.om_addr.proofs.Walking.{ops_left}
use Rattle.om_addr.proofs.Blockwise.{live_op, ops_fewer}
use Rattle.om_addr.proofs.IdleLoops.{OnOps, ops_begin, ops_more, ops_end}
use Rattle.om_addr.proofs.idle.take_block.Goals as goal

pub loop-next-init : goal.loop-next-init
loop-next-init c = ops_begin c.args.lay.now c.args.b c.args.g.now c.first_op-next.result c.is_graph.ensures c.requires.live c.first_op-next.ensures.first c.first_op-next.ensures.live

pub loop-next-smaller : goal.loop-next-smaller
loop-next-smaller c =
    let on = subst (λ (n : Option ℕ). OnOps c.args.lay.now c.args.b c.args.g.now c.loop-next.g c.loop-next.changed n) c.in-Some.is c.loop-next.invariant in
    subst (λ (n : Option ℕ). ops_left c.take_op-again.new.g c.next_op-next.result < ops_left c.loop-next.g n) (sym c.in-Some.is)
    (ops_fewer c.loop-next.g c.take_op-again.new.g c.in-Some.o c.next_op-next.result c.is_graph-in-Some.ensures on.live c.take_op-again.ensures.passed.ids.ops c.next_op-next.ensures.next)

pub loop-next-preserved : goal.loop-next-preserved
loop-next-preserved c =
    let on = subst (λ (n : Option ℕ). OnOps c.args.lay.now c.args.b c.args.g.now c.loop-next.g c.loop-next.changed n) c.in-Some.is c.loop-next.invariant in
    ops_more c.args.lay.now c.args.b c.args.g.now c.loop-next.g c.take_op-again.new.g c.loop-next.changed c.take_op-again.result c.either-changed.result c.in-Some.o c.next_op-next.result on c.either-changed.ensures
    c.take_op-again.ensures.passed c.take_op-again.ensures.nothing c.is_graph-in-Some.ensures c.next_op-next.ensures.next c.next_op-next.ensures.live

pub returns-clause-nothing : goal.returns-clause-nothing
returns-clause-nothing c =
    ops_end c.args.lay.now c.args.b c.args.g.now c.loop-next.g c.loop-next.changed
    (subst (λ (n : Option ℕ). OnOps c.args.lay.now c.args.b c.args.g.now c.loop-next.g c.loop-next.changed n) c.in_default.is c.loop-next.invariant)

pub take_op-again-requires-clause-program : goal.take_op-again-requires-clause-program
take_op-again-requires-clause-program c = row.stays c.args.lay.now c.loop-next.changed c.args.g.now c.loop-next.g c.requires.program (c.loop-next.invariant.passed)

pub next_op-next-requires : goal.next_op-next-requires
next_op-next-requires c =
    let on = subst (λ (n : Option ℕ). OnOps c.args.lay.now c.args.b c.args.g.now c.loop-next.g c.loop-next.changed n) c.in-Some.is c.loop-next.invariant in
    live_op c.loop-next.g c.take_op-again.new.g c.in-Some.o on.live c.take_op-again.ensures.passed.ids.ops

use Rattle.std.proofs.Common.{◌<◌, Some, subst, sym}
use Rattle.std.specs.Prelude.{ℕ, Option}
use Rattle.om_layout.proofs.Walking.{OnOps, ops_left, ops_more, ops_fewer}
use Rattle.om_layout.proofs.words.Words.add_block.Goals as goal

on : (c : goal.After-next_op-next) → OnOps c.args.graph.now c.args.b (Some c.in-Some.o) c.args.self.now c.loop-next.self
on c = subst (λ (n : Option ℕ). OnOps c.args.graph.now c.args.b n c.args.self.now c.loop-next.self) c.in-Some.is c.loop-next.invariant

pub loop-next-smaller : goal.loop-next-smaller
loop-next-smaller c =
    subst (λ (n : Option ℕ). ops_left c.args.graph.now c.args.b c.next_op-next.result < ops_left c.args.graph.now c.args.b n) (sym c.in-Some.is)
    (ops_fewer c.args.graph.now c.requires.graph c.args.b c.in-Some.o c.args.self.now c.loop-next.self c.next_op-next.result (on c) c.next_op-next.ensures.next)

pub loop-next-preserved : goal.loop-next-preserved
loop-next-preserved c =
    ops_more c.args.graph.now c.requires.graph c.args.b c.in-Some.o c.args.self.now c.loop-next.self c.add_op.new.self c.next_op-next.result c.op.result (on c) c.op.ensures c.in_ok-add_op.ensures
    c.next_op-next.ensures.next c.next_op-next.ensures.live

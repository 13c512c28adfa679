use Rattle.std.proofs.Common.{◌<◌, ℕ, Option, Some, sym, subst}
use Rattle.om_dead.proofs.Listing.{Listed, nodes_left, listed_first, listed_more, listed_fewer, listed_end}
use Rattle.om_dead.proofs.words.list_ops.Goals as goal

pub loop-next-init : goal.loop-next-init
loop-next-init c =
    listed_first c.args.g.now c.requires.graph c.args.b c.first_op-next.result c.args.ops.now.items c.requires.live c.first_op-next.ensures.first c.first_op-next.ensures.live c.requires.empty

on : (c : goal.After-next_op-next) → Listed c.args.g.now c.args.b (Some c.in-Some.o) c.loop-next.ops.items
on c = subst (λ (n : Option ℕ). Listed c.args.g.now c.args.b n c.loop-next.ops.items) c.in-Some.is c.loop-next.invariant

pub loop-next-smaller : goal.loop-next-smaller
loop-next-smaller c =
    subst (λ (n : Option ℕ). nodes_left c.args.g.now c.args.b c.next_op-next.result < nodes_left c.args.g.now c.args.b n) (sym c.in-Some.is)
    (listed_fewer c.args.g.now c.requires.graph c.args.b c.in-Some.o c.next_op-next.result c.loop-next.ops.items (on c) c.next_op-next.ensures.next)

pub loop-next-preserved : goal.loop-next-preserved
loop-next-preserved c =
    listed_more c.args.g.now c.requires.graph c.args.b c.in-Some.o c.next_op-next.result c.loop-next.ops.items c.push.new.self.items (on c) c.in_ok-push.ensures.items
    c.next_op-next.ensures.next c.next_op-next.ensures.live

pub returns : goal.returns
returns c = listed_end c.args.g.now c.requires.graph c.args.b c.loop-next.ops.items (subst (λ (n : Option ℕ). Listed c.args.g.now c.args.b n c.loop-next.ops.items) c.in_default.is c.loop-next.invariant)

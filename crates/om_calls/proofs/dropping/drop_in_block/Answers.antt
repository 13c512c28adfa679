use Rattle.std.proofs.Common.{ℕ, Option, sym, subst}
use Rattle.om_calls.specs.Pairs.{OnPairs}
use Rattle.om_calls.proofs.InBlock.{InBlock, in_first, in_more}
use Rattle.om_calls.proofs.dropping.drop_in_block.Goals as goal

pub loop-next-init : goal.loop-next-init
loop-next-init c =
    in_first c.args.g.now c.args.f.now c.args.b c.walk_at-walk.result c.first_op-next.result
    (subst (λ (n : Option ℕ). OnPairs c.args.g.now c.args.f.now c.walk_at-walk.result n) (sym c.first_op-next.ensures.first) c.walk_at-walk.ensures.on)
    c.walk_at-walk.ensures.block c.walk_at-walk.ensures.changed

pub loop-next-preserved : goal.loop-next-preserved
loop-next-preserved c =
    in_more c.args.g.now c.args.f.now c.args.b c.in-Some.o c.loop-next.g c.walk_op-walk.new.g c.loop-next.walk c.walk_op-walk.result c.next_op-next.result
    (subst (λ (n : Option ℕ). InBlock c.args.g.now c.args.f.now c.args.b c.loop-next.g c.loop-next.walk n) c.in-Some.is c.loop-next.invariant)
    (subst (λ (n : Option ℕ). OnPairs c.walk_op-walk.new.g c.args.f.now c.walk_op-walk.result n) (sym c.next_op-next.ensures.next) c.walk_op-walk.ensures.on)
    c.walk_op-walk.ensures.block c.walk_op-walk.ensures.moves

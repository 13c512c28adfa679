use Rattle.std.proofs.Common.{◌<◌, ◌++◌, ◌∷◌, [], ℕ, List, Option, Some, refl, sym, subst}
use Rattle.om_dead.proofs.Listing.{Listed, nodes_left, listed_first, listed_more, listed_fewer}
use Rattle.om_dead.proofs.sources.size_of.Goals as goal

pub loop-next-init : goal.loop-next-init
loop-next-init c = ([], listed_first c.args.g.now c.requires.graph c.args.b c.first_op-next.result [] c.requires.live c.first_op-next.ensures.first c.first_op-next.ensures.live refl)

on : (c : goal.After-next_op-next) → (ids : List ℕ) × Listed c.args.g.now c.args.b (Some c.in-Some.o) ids
on c = subst (λ (n : Option ℕ). (ids : List ℕ) × Listed c.args.g.now c.args.b n ids) c.in-Some.is c.loop-next.invariant

pub loop-next-smaller : goal.loop-next-smaller
loop-next-smaller c =
    subst (λ (n : Option ℕ). nodes_left c.args.g.now c.args.b c.next_op-next.result < nodes_left c.args.g.now c.args.b n) (sym c.in-Some.is)
    (listed_fewer c.args.g.now c.requires.graph c.args.b c.in-Some.o c.next_op-next.result (on c).0 (on c).1 c.next_op-next.ensures.next)

pub loop-next-preserved : goal.loop-next-preserved
loop-next-preserved c =
    let k = on c in (
      k.0 ++ c.in-Some.o ∷ [],
      listed_more c.args.g.now c.requires.graph c.args.b c.in-Some.o c.next_op-next.result k.0 (k.0 ++ c.in-Some.o ∷ []) k.1 refl c.next_op-next.ensures.next c.next_op-next.ensures.live,
    )

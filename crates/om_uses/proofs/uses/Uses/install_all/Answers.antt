use Rattle.std.proofs.Common.{◌≡◌, ◌∷◌, length, ap, arith}
use Rattle.std.specs.Vec.Iter.{into_iter_items}
use Rattle.om_uses.proofs.Links.{have_room_kept}
use Rattle.om_uses.proofs.uses.Uses.install_all.Goals as goal

pub loop-f-preserved : goal.loop-f-preserved
loop-f-preserved c =
    let steps : into_iter_items c.loop-f.f-iterator ≡ c.in-Some.f ∷ into_iter_items c.next.new.self = c.in-Some.ensures.steps.0 in
    let room = rw steps at c.loop-f.invariant.1 in
    let same = rw steps at c.loop-f.invariant.0 in (
      rw c.install.ensures same,
      rw c.install.ensures (have_room_kept c.args.g.now c.requires.graph c.loop-f.self c.in-Some.f (into_iter_items c.next.new.self) room.0 room.1),
      let was = c.loop-f.invariant.2 in
          let gone = c.in-Some.ensures.steps.1 in
          let short = ap length steps in
          omega arith,
    )

use Rattle.std.proofs.Common.{◌≡◌, [], None}
use Rattle.om_uses.specs.Installed.{IsRoomier, HaveRoom}
use Rattle.om_uses.proofs.Fresh.{OnTouched, labels_left}
use Rattle.om_uses.proofs.uses.Uses.admit_touched.Given as goal

abbrev pub invariant-loop-next : goal.invariant-loop-next
invariant-loop-next l =
    IsRoomier l.fn.self l.self
    × HaveRoom l.g l.self l.fresh.items
    × OnTouched l.g l.next l.fresh.items
    × (l.g.touched ≡ [] → (l.next ≡ None) × (l.fresh.items ≡ []))

abbrev pub decreases-loop-next : goal.decreases-loop-next
decreases-loop-next l = labels_left l.g l.next

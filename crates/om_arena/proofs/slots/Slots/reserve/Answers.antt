use Rattle.std.proofs.Common.{◌≡◌, ◌≤◌, ◌+◌, map, min, count_by, is_some, ap, arith}
use Rattle.slab.specs.Slab.{Slab}
use Rattle.om_arena.specs.Keyed.{key_count}
use Rattle.om_arena.specs.Narrow.{found}
use Rattle.om_arena.specs.declared.slots.Slot.{Slot}
use Rattle.om_arena.proofs.Narrow.{live_within}
use Rattle.om_arena.proofs.slots.Slots.reserve.Goals as goal
use Rattle.om_arena.proofs.slots.Slots.reserve.Goals.{in-Ok, in-Err}

pub returns-clause-room : goal.returns-clause-room
returns-clause-room g c = elim c.match-reserve.branch [
  | in-Ok w ↦
      let old = c.self.inside.slab in
      let new = c.reserve.new.self in
      let same : count_by is_some new.slots ≡ count_by is_some old.slots = ap (λ (s : Slab (Slot g.row.X.Denot)). count_by is_some s.slots) c.reserve.ensures.rest_kept in
      let room : count_by is_some new.slots + c.args.n ≤ new.capacity = w.in-Ok.ensures.room in
      let fits : count_by is_some old.slots + c.args.n ≤ key_count = omega (arith, c.if-n-most.false, c.if-len-most.false, c.len.ensures) in
      let made : count_by is_some (map found new.slots) + c.args.n ≤ min new.capacity key_count = omega (arith, live_within new.slots, same, room, fits) in
      rw w.result-is made
  | in-Err w ↦ rw w.result-is tt
]

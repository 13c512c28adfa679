use Rattle.std.proofs.Common.{arith}
use Rattle.om_arena.proofs.Narrow.{room_stands}
use Rattle.om_arena.proofs.slots.is_next_wide.Goals as goal

pub returns-else-len-capacity-clause-room : goal.returns-else-len-capacity-clause-room
returns-else-len-capacity-clause-room g c =
    omega (arith, room_stands c.args.slab.now c.requires.narrow c.requires.room (omega (arith, c.capacity.ensures.slots, c.capacity.ensures.value)))

pub returns-else-len-capacity-clause-fits : goal.returns-else-len-capacity-clause-fits
returns-else-len-capacity-clause-fits g c = λ _.
    absurd (omega (arith, room_stands c.args.slab.now c.requires.narrow c.requires.room (omega (arith, c.capacity.ensures.slots, c.capacity.ensures.value)), c.if-len-capacity.false, c.len.ensures, c.capacity.ensures.value))

use Rattle.std.proofs.Common.{◌≡◌, ◌-◌, count_by, is_some}
use Rattle.om_arena.specs.Narrow.{IsNarrow, HasNarrowRoom, SameFound}
use Rattle.om_arena.proofs.slots.bar_wide_keys.Given as goal

abbrev pub invariant-loop-slab : goal.invariant-loop-slab
invariant-loop-slab g l =
    IsNarrow l.slab.slots
    × HasNarrowRoom l.slab
    × (l.slab.capacity ≡ l.fn.slab.capacity)
    × SameFound l.fn.slab.slots l.slab.slots

abbrev pub decreases-loop-slab : goal.decreases-loop-slab
decreases-loop-slab g l = l.slab.capacity - count_by is_some l.slab.slots

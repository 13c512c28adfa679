use Rattle.std.proofs.Common.{◌≡◌, ℕ, List, ◌≤◌, ◌-◌, length, Some}
use Rattle.om_machine.specs.Streams.{TakesFront}
use Rattle.om_machine.proofs.streams.take_all.Given as goal

abbrev pub invariant-loop-taken : goal.invariant-loop-taken
invariant-loop-taken g l =
    (l.taken ≤ l.count) × (length l.memory.bytes ≡ length l.initial.memory.bytes) × (l.memory.heap_size ≡ l.initial.memory.heap_size)
    × (g.S.Source.faults l.source ≡ g.S.Source.faults l.initial.source)
    × ((bytes : List ℕ) → g.S.Source.left l.initial.source ≡ Some bytes → TakesFront l.initial.memory l.memory l.address l.taken bytes (g.S.Source.left l.source))

abbrev pub decreases-loop-taken : goal.decreases-loop-taken
decreases-loop-taken g l = l.count - l.taken

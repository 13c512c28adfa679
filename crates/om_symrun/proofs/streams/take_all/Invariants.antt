use Rattle.std.proofs.Common.{◌≡◌, ℕ, List, ◌≤◌, ◌-◌, Some}
use Rattle.om_value.specs.declared.value.Region.{Region}
use Rattle.om_symrun.specs.Memory.{memory_size}
use Rattle.om_symrun.specs.Streams.{TakesFront}
use Rattle.om_symrun.proofs.streams.take_all.Given as goal

abbrev pub invariant-loop-taken : goal.invariant-loop-taken
invariant-loop-taken g l =
    (l.taken ≤ l.count) × ((r : Region) → memory_size l.memory r ≡ memory_size l.initial.memory r)
    × (g.S.Source.faults l.source ≡ g.S.Source.faults l.initial.source)
    × ((bytes : List ℕ) → g.S.Source.left l.initial.source ≡ Some bytes → TakesFront l.initial.memory l.memory l.region l.at l.taken bytes (g.S.Source.left l.source))

abbrev pub decreases-loop-taken : goal.decreases-loop-taken
decreases-loop-taken g l = l.count - l.taken

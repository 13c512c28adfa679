use Rattle.std.proofs.Common.{◌≡◌, ℕ, List, ◌++◌, ◌≤◌, ◌-◌, length, take, Some}
use Rattle.om_symrun.proofs.streams.put_all.Given as goal

abbrev pub invariant-loop-at : goal.invariant-loop-at
invariant-loop-at g l =
    (l.at ≤ length l.bytes) × (g.S.Sink.faults l.sink ≡ g.S.Sink.faults l.initial.sink)
    × ((old : List ℕ) → g.S.Sink.written l.initial.sink ≡ Some old → g.S.Sink.written l.sink ≡ Some (old ++ take l.at l.bytes))

abbrev pub decreases-loop-at : goal.decreases-loop-at
decreases-loop-at g l = length l.bytes - l.at

use Rattle.std.proofs.Common.{◌≡◌, ◌≤◌, ◌<◌, ◌+◌, ℕ, length, get_or}
use Rattle.om_uses.specs.declared.tables.Load.{Load}
use Rattle.om_uses.specs.Tables.{IsLonger}
use Rattle.om_uses.proofs.tables.add_loads.Given as goal

abbrev pub invariant-loop : goal.invariant-loop
invariant-loop l =
    IsLonger l.fn.loads.items l.loads.items
    × (length l.loads.items ≡ l.start + l.counter)
    × ((k : ℕ) (d : Load) → l.start ≤ k → k < length l.loads.items → (get_or l.loads.items k d).block ≡ l.block)

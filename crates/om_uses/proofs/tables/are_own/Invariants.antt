use Rattle.std.proofs.Common.{◌≡◌, ◌≤◌, ◌<◌, ℕ, get_or}
use Rattle.om_uses.specs.declared.tables.Load.{Load}
use Rattle.om_uses.proofs.tables.are_own.Given as goal

abbrev pub invariant-loop-at : goal.invariant-loop-at
invariant-loop-at l = (k : ℕ) (d : Load) → l.start ≤ k → k < l.at → (get_or l.loads k d).block ≡ l.block

use Rattle.std.proofs.Common.{◌≡◌, ◌≤◌, ◌<◌, ℕ}
use Rattle.om_symrun.specs.CellsIn.{mark_at}
use Rattle.om_symrun.proofs.cells.all_are.Given as goal

abbrev pub invariant-loop-k : goal.invariant-loop-k
invariant-loop-k l = (k : ℕ) → l.at ≤ k → k < l.k → mark_at l.marks k ≡ l.mark

use Rattle.std.proofs.Common.{◌+◌, length}
use Rattle.std.specs.Prelude.{sum_by}
use Rattle.om_dead.specs.Finding.{unfound}
use Rattle.om_dead.proofs.Searching.{Searching}
use Rattle.om_dead.proofs.kept.Found.of.Given as goal

abbrev pub invariant-loop-b : goal.invariant-loop-b
invariant-loop-b l = Searching l.g l.found.set.items l.found.work.items

abbrev pub decreases-loop-b : goal.decreases-loop-b
decreases-loop-b l = sum_by unfound l.found.set.items + length l.found.work.items

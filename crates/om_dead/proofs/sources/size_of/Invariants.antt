use Rattle.std.proofs.Common.{ℕ, List}
use Rattle.om_dead.proofs.Listing.{Listed, nodes_left}
use Rattle.om_dead.proofs.sources.size_of.Given as goal

abbrev pub invariant-loop-next : goal.invariant-loop-next
invariant-loop-next l = (ids : List ℕ) × Listed l.g l.fn.b l.next ids

abbrev pub decreases-loop-next : goal.decreases-loop-next
decreases-loop-next l = nodes_left l.g l.fn.b l.next

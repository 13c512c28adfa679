use Rattle.om_dead.proofs.Listing.{Listed, nodes_left}
use Rattle.om_dead.proofs.words.list_ops.Given as goal

abbrev pub invariant-loop-next : goal.invariant-loop-next
invariant-loop-next l = Listed l.g l.fn.b l.next l.ops.items

abbrev pub decreases-loop-next : goal.decreases-loop-next
decreases-loop-next l = nodes_left l.g l.fn.b l.next

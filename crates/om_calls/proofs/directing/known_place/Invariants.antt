use Rattle.om_calls.specs.Known.{IsUntaken}
use Rattle.om_calls.proofs.Nodes.{OnNodes, nodes_left}
use Rattle.om_calls.proofs.directing.known_place.Given as goal

abbrev pub invariant-loop-next : goal.invariant-loop-next
invariant-loop-next l = OnNodes (λ n. IsUntaken l.u l.g.counts l.at n.id n.op.kind) l.g l.fn.b l.next

abbrev pub decreases-loop-next : goal.decreases-loop-next
decreases-loop-next l = nodes_left l.g l.fn.b l.next

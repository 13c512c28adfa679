use Rattle.om_addr.proofs.FarWalk.{OnHalves}
use Rattle.om_addr.proofs.Walking.{ops_left}
use Rattle.om_addr.proofs.far.take_halves.Given as goal

abbrev pub invariant-loop-next : goal.invariant-loop-next
invariant-loop-next l = OnHalves l.fn.g l.g l.load.id l.load.ra l.hi l.next

abbrev pub decreases-loop-next : goal.decreases-loop-next
decreases-loop-next l = ops_left l.g l.next

use Rattle.om_addr.proofs.FarWalk.{OnBases}
use Rattle.om_addr.proofs.Walking.{ops_left}
use Rattle.om_addr.proofs.far.bases_of.Given as goal

abbrev pub invariant-loop-next : goal.invariant-loop-next
invariant-loop-next l = OnBases l.g l.load.id l.load.ra l.next l.all

abbrev pub decreases-loop-next : goal.decreases-loop-next
decreases-loop-next l = ops_left l.g l.next

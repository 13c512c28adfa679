use Rattle.om_addr.proofs.Walking.{ops_left}
use Rattle.om_addr.proofs.SplitLoops.{OnOps}
use Rattle.om_addr.proofs.splitting.split_block.Given as goal

abbrev pub invariant-loop-next : goal.invariant-loop-next
invariant-loop-next l = OnOps l.lay l.live l.fn.b l.out l.initial.g l.g l.changed l.next

abbrev pub decreases-loop-next : goal.decreases-loop-next
decreases-loop-next l = ops_left l.g l.next

use Rattle.om_encode.specs.Positions.{filled}
use Rattle.om_encode.proofs.PutWords.{OpsPut}
use Rattle.om_encode.proofs.Walks.{ops_left}
use Rattle.om_encode.proofs.positions.put_ops.Given as goal

abbrev pub invariant-loop-next : goal.invariant-loop-next
invariant-loop-next l = OpsPut l.graph l.layout l.listed l.fn.block l.next (filled l.initial.placing) (filled l.placing)

abbrev pub decreases-loop-next : goal.decreases-loop-next
decreases-loop-next l = ops_left l.graph l.fn.block l.next

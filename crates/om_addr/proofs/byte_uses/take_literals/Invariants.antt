use Rattle.om_addr.specs.Loads.{byte_kind}
use Rattle.om_addr.proofs.Walking.{ops_left}
use Rattle.om_addr.proofs.Bytes.{writes_bit}
use Rattle.om_addr.proofs.Loops.{OnLoad, Any}
use Rattle.om_addr.proofs.byte_uses.take_literals.Given as goal

abbrev pub invariant-loop-next : goal.invariant-loop-next
invariant-loop-next l = OnLoad (byte_kind l.load.ra l.byte) (writes_bit l.load.ra) Any l.load l.initial.g l.g l.changed l.next

abbrev pub decreases-loop-next : goal.decreases-loop-next
decreases-loop-next l = ops_left l.g l.next

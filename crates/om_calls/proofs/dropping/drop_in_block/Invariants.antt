use Rattle.om_calls.specs.Pairs.{ops_left}
use Rattle.om_calls.proofs.InBlock.{InBlock}
use Rattle.om_calls.proofs.dropping.drop_in_block.Given as goal

abbrev pub invariant-loop-next : goal.invariant-loop-next
invariant-loop-next l = InBlock l.fn.g l.f l.fn.b l.g l.walk l.next

abbrev pub decreases-loop-next : goal.decreases-loop-next
decreases-loop-next l = ops_left l.g l.fn.b l.next

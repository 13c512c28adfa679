use Rattle.om_layout.proofs.Walking.{OnOps, ops_left}
use Rattle.om_layout.proofs.words.Words.add_block.Given as goal

abbrev pub invariant-loop-next : goal.invariant-loop-next
invariant-loop-next l = OnOps l.graph l.b l.next l.initial.self l.self

abbrev pub decreases-loop-next : goal.decreases-loop-next
decreases-loop-next l = ops_left l.graph l.b l.next

use Rattle.om_encode.proofs.TextWalks.{OpsSoFar}
use Rattle.om_encode.proofs.Walks.{ops_left}
use Rattle.om_encode.proofs.text_walk.write_ops.Given as goal

abbrev pub invariant-loop-next : goal.invariant-loop-next
invariant-loop-next l = OpsSoFar l.program l.graph l.layout l.fn.block l.next l.highs l.initial.text.items l.text.items

abbrev pub decreases-loop-next : goal.decreases-loop-next
decreases-loop-next l = ops_left l.graph l.fn.block l.next

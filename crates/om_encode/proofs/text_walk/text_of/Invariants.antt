use Rattle.om_encode.proofs.TextWalks.{TextSoFar}
use Rattle.om_encode.proofs.Walks.{blocks_left}
use Rattle.om_encode.proofs.text_walk.text_of.Given as goal

abbrev pub invariant-loop-next : goal.invariant-loop-next
invariant-loop-next l = TextSoFar l.program l.graph l.layout l.next l.text.items

abbrev pub decreases-loop-next : goal.decreases-loop-next
decreases-loop-next l = blocks_left l.graph l.next

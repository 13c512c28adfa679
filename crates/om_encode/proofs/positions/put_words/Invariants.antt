use Rattle.om_encode.specs.Positions.{filled}
use Rattle.om_encode.proofs.PutWords.{WordsPut}
use Rattle.om_encode.proofs.Walks.{blocks_left}
use Rattle.om_encode.proofs.positions.put_words.Given as goal

abbrev pub invariant-loop-next : goal.invariant-loop-next
invariant-loop-next l = WordsPut l.graph l.layout l.listed l.next (filled l.initial.placing) (filled l.placing)

abbrev pub decreases-loop-next : goal.decreases-loop-next
decreases-loop-next l = blocks_left l.graph l.next

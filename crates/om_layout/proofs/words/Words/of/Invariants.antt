use Rattle.om_layout.proofs.Walking.{OnBlocks, blocks_left}
use Rattle.om_layout.proofs.words.Words.of.Given as goal

abbrev pub invariant-loop-next : goal.invariant-loop-next
invariant-loop-next l = OnBlocks l.graph l.next l.all

abbrev pub decreases-loop-next : goal.decreases-loop-next
decreases-loop-next l = blocks_left l.graph l.next

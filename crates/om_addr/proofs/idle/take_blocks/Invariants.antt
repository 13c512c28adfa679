use Rattle.om_addr.proofs.Blockwise.{blocks_left}
use Rattle.om_addr.proofs.IdleLoops.{OnBlocks}
use Rattle.om_addr.proofs.idle.take_blocks.Given as goal

abbrev pub invariant-loop-next : goal.invariant-loop-next
invariant-loop-next l = OnBlocks l.lay l.initial.g l.g l.changed l.next

abbrev pub decreases-loop-next : goal.decreases-loop-next
decreases-loop-next l = blocks_left l.g l.next

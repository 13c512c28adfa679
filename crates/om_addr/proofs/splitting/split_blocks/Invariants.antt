use Rattle.om_addr.proofs.Blockwise.{blocks_left}
use Rattle.om_addr.proofs.SplitLoops.{OnBlocks}
use Rattle.om_addr.proofs.splitting.split_blocks.Given as goal

abbrev pub invariant-loop-next : goal.invariant-loop-next
invariant-loop-next l = OnBlocks l.lay l.live l.outs l.initial.g l.g l.changed l.next

abbrev pub decreases-loop-next : goal.decreases-loop-next
decreases-loop-next l = blocks_left l.g l.next

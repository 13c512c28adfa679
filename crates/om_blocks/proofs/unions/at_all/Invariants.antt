use Rattle.std.proofs.Common.{ℕ}
use Rattle.om_blocks.proofs.Walking.{OnBlocks, blocks_left}
use Rattle.om_blocks.proofs.Holding.{BlocksUnite}
use Rattle.om_blocks.proofs.unions.at_all.Given as goal

abbrev pub invariant-loop-next : goal.invariant-loop-next
invariant-loop-next g l = OnBlocks ℕ (BlocksUnite l.g (g.M.BlockMask.lacks l.masks)) l.g l.next l.all

abbrev pub decreases-loop-next : goal.decreases-loop-next
decreases-loop-next g l = blocks_left ℕ (BlocksUnite l.g (g.M.BlockMask.lacks l.masks)) l.g l.next

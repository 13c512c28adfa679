use Rattle.std.proofs.Common.{ℕ}
use Rattle.om_blocks.proofs.Walking.{OnOps, ops_left}
use Rattle.om_blocks.proofs.Holding.{OpsUnite}
use Rattle.om_blocks.proofs.unions.in_block.Given as goal

abbrev pub invariant-loop-next : goal.invariant-loop-next
invariant-loop-next g l = OnOps ℕ (OpsUnite l.g (g.M.BlockMask.lacks l.masks)) l.g l.b l.next l.all

abbrev pub decreases-loop-next : goal.decreases-loop-next
decreases-loop-next g l = ops_left ℕ (OpsUnite l.g (g.M.BlockMask.lacks l.masks)) l.g l.b l.next

use Rattle.std.proofs.Common.{ℕ, List}
use Rattle.om_blocks.specs.Found.{masks_in}
use Rattle.om_blocks.proofs.Walking.{OnBlocks, blocks_left}
use Rattle.om_live.specs.Outs.{AreOuts}
use Rattle.om_live.proofs.outs.outs_of.Given as goal

abbrev pub invariant-loop-next : goal.invariant-loop-next
invariant-loop-next l = OnBlocks (List ℕ) (AreOuts l.g (masks_in l.g l.l)) l.g l.next l.outs.items

abbrev pub decreases-loop-next : goal.decreases-loop-next
decreases-loop-next l = blocks_left (List ℕ) (AreOuts l.g (masks_in l.g l.l)) l.g l.next

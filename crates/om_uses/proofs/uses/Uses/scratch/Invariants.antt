use Rattle.om_blocks.proofs.Walking.{OnBlocks, blocks_left}
use Rattle.om_uses.specs.Parts.{Kept}
use Rattle.om_uses.proofs.Fresh.{OfBlocks}
use Rattle.om_uses.proofs.uses.Uses.scratch.Given as goal

abbrev pub invariant-loop-next : goal.invariant-loop-next
invariant-loop-next l = OnBlocks Kept (OfBlocks l.g) l.g l.next l.uses

abbrev pub decreases-loop-next : goal.decreases-loop-next
decreases-loop-next l = blocks_left Kept (OfBlocks l.g) l.g l.next

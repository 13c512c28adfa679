use Rattle.std.proofs.Common.{List}
use Rattle.om_flow.specs.declared.parts.FlowBlock.{FlowBlock}
use Rattle.om_blocks.specs.Filling.{AreFilled}
use Rattle.om_blocks.proofs.Walking.{OnBlocks, blocks_left}
use Rattle.om_blocks.proofs.filling.filled.Given as goal

abbrev pub invariant-loop-next : goal.invariant-loop-next
invariant-loop-next l = OnBlocks (List FlowBlock) (AreFilled l.g l.outside) l.g l.next l.entries.items

abbrev pub decreases-loop-next : goal.decreases-loop-next
decreases-loop-next l = blocks_left (List FlowBlock) (AreFilled l.g l.outside) l.g l.next

use Rattle.std.proofs.Common.{◌+◌, ◌-◌, length}
use Rattle.om_uses.specs.Parts.{no_block}
use Rattle.om_uses.specs.Tables.{IsPadded}
use Rattle.om_uses.proofs.tables.extend_blocks.Given as goal

abbrev pub invariant-loop-blocks : goal.invariant-loop-blocks
invariant-loop-blocks l = IsPadded no_block l.fn.blocks.items l.blocks.items

abbrev pub decreases-loop-blocks : goal.decreases-loop-blocks
decreases-loop-blocks l = l.number + 1 - length l.blocks.items

use Rattle.std.proofs.Common.{Bool}
use Rattle.om_blocks.specs.Found.{masks_in}
use Rattle.om_blocks.proofs.Walking.{blocks_left}
use Rattle.om_dead.proofs.OnGraphs.{Clean, SweptTo}
use Rattle.om_dead.proofs.words.sweep.Given as goal

abbrev pub invariant-loop-next : goal.invariant-loop-next
invariant-loop-next l = SweptTo l.initial.g (masks_in l.initial.g l.l) l.next l.g l.changed l.ops.items

abbrev pub decreases-loop-next : goal.decreases-loop-next
decreases-loop-next l = blocks_left Bool (Clean l.initial.g (masks_in l.initial.g l.l)) l.initial.g l.next

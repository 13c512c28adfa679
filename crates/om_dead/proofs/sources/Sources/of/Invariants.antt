use Rattle.std.proofs.Common.{Bool, true}
use Rattle.om_blocks.proofs.Walking.{OnBlocks, blocks_left}
use Rattle.om_dead.proofs.OnFollowing.{Any}
use Rattle.om_dead.proofs.sources.Sources.of.Given as goal

abbrev pub invariant-loop-next : goal.invariant-loop-next
invariant-loop-next l = OnBlocks Bool Any l.g l.next true

abbrev pub decreases-loop-next : goal.decreases-loop-next
decreases-loop-next l = blocks_left Bool Any l.g l.next

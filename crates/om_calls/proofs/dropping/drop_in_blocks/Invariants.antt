use Rattle.std.proofs.Common.{Bool}
use Rattle.om_calls.proofs.InBlock.{OverAll}
use Rattle.om_calls.proofs.OverBlocks.{OnIds, ids_left}
use Rattle.om_calls.proofs.dropping.drop_in_blocks.Given as goal

abbrev pub invariant-loop-next : goal.invariant-loop-next
invariant-loop-next l = OnIds Bool (OverAll l.fn.g l.f) l.g l.next l.changed

abbrev pub decreases-loop-next : goal.decreases-loop-next
decreases-loop-next l = ids_left l.g l.next

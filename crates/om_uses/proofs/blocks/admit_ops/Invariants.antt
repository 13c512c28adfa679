use Rattle.std.proofs.Common.{◌<◌, ◌^◌}
use Rattle.om_uses.specs.Tables.{IsLonger}
use Rattle.om_uses.proofs.Nodes.{OnNodes, IsCounted, nodes_left}
use Rattle.om_uses.proofs.blocks.admit_ops.Given as goal

abbrev pub invariant-loop-next : goal.invariant-loop-next
invariant-loop-next l =
    IsLonger l.fn.ops.items l.ops.items × OnNodes l.g l.fn.b l.next (IsCounted l.ops.items l.count) × (l.count < 2 ^ 32)

abbrev pub decreases-loop-next : goal.decreases-loop-next
decreases-loop-next l = nodes_left l.g l.fn.b l.next

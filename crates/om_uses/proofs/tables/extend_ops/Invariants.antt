use Rattle.std.proofs.Common.{◌+◌, ◌-◌, length}
use Rattle.om_uses.specs.Tables.{IsLonger}
use Rattle.om_uses.proofs.tables.extend_ops.Given as goal

abbrev pub invariant-loop-o : goal.invariant-loop-o
invariant-loop-o l = IsLonger l.fn.ops.items l.ops.items

abbrev pub decreases-loop-o : goal.decreases-loop-o
decreases-loop-o l = l.number + 1 - length l.ops.items

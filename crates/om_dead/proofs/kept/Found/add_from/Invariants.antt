use Rattle.std.proofs.Common.{ℕ, Bool, List}
use Rattle.om_blocks.proofs.Walking.{OnOps, ops_left}
use Rattle.om_dead.proofs.Reading.{OpsNamed}
use Rattle.om_dead.proofs.kept.Found.add_from.Given as goal

abbrev pub invariant-loop-next : goal.invariant-loop-next
invariant-loop-next l =
    OnOps (List Bool × List ℕ) (OpsNamed l.g l.initial.self.set.items l.initial.self.work.items) l.g l.b l.next (l.self.set.items, l.self.work.items)

abbrev pub decreases-loop-next : goal.decreases-loop-next
decreases-loop-next l = ops_left (List Bool × List ℕ) (OpsNamed l.g l.initial.self.set.items l.initial.self.work.items) l.g l.b l.next

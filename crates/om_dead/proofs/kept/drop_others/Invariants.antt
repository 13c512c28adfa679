use Rattle.om_dead.proofs.Dropping.{Pruned, blocks_to_do}
use Rattle.om_dead.proofs.kept.drop_others.Given as goal

abbrev pub invariant-loop-next : goal.invariant-loop-next
invariant-loop-next l = Pruned l.initial.g l.g l.found.set.items l.changed l.next

abbrev pub decreases-loop-next : goal.decreases-loop-next
decreases-loop-next l = blocks_to_do l.next l.g

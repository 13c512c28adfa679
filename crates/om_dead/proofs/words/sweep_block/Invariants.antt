use Rattle.std.proofs.Common.{length}
use Rattle.om_dead.proofs.OnSweeps.{AtWord}
use Rattle.om_dead.proofs.words.sweep_block.Given as goal

abbrev pub invariant-loop-o : goal.invariant-loop-o
invariant-loop-o l = AtWord l.initial.g l.g l.fn.b l.out l.deleted l.ops.items l.live

abbrev pub decreases-loop-o : goal.decreases-loop-o
decreases-loop-o l = length l.ops.items

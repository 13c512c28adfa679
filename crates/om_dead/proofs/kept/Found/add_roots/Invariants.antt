use Rattle.std.proofs.Common.{take}
use Rattle.om_dead.specs.Finding.{Grown, IsAtOne}
use Rattle.om_dead.proofs.kept.Found.add_roots.Given as goal

abbrev pub invariant-loop-root : goal.invariant-loop-root
invariant-loop-root l = Grown (IsAtOne l.g (take l.root-index l.g.roots)) l.initial.self.set.items l.initial.self.work.items l.self.set.items l.self.work.items

use Rattle.om_dead.proofs.OnRegions.{Spreading}
use Rattle.om_dead.proofs.regions.Region.spread.Given as goal

abbrev pub invariant-loop-i : goal.invariant-loop-i
invariant-loop-i l = Spreading l.g l.m.starts.items l.m.ends.items l.r l.i l.self.blocks.items

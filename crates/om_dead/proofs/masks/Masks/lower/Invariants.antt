use Rattle.std.proofs.Common.{◌≡◌, take}
use Rattle.om_dead.specs.Lowering.{IsLowered}
use Rattle.om_dead.proofs.masks.Masks.lower.Given as goal

abbrev pub invariant-loop-b : goal.invariant-loop-b
invariant-loop-b l = IsLowered l.r (take l.b-index l.blocks) l.initial.self.starts.items l.self.starts.items × (l.self.ends ≡ l.initial.self.ends)

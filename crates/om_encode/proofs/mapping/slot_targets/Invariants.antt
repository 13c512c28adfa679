use Rattle.std.proofs.Common.{◌≡◌, map, take}
use Rattle.om_encode.specs.Data.{slot_target}
use Rattle.om_encode.proofs.mapping.slot_targets.Given as goal

abbrev pub invariant-loop-t : goal.invariant-loop-t
invariant-loop-t l = l.targets.items ≡ map slot_target (take l.t-index l.slots)

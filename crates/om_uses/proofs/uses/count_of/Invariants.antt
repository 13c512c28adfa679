use Rattle.std.proofs.Common.{◌≡◌, ◌≤◌, ◌+◌, ◌-◌, ◌^◌, min, drop}
use Rattle.om_uses.specs.Installed.{count_loads}
use Rattle.om_uses.proofs.uses.count_of.Given as goal

abbrev pub invariant-loop-load : goal.invariant-loop-load
invariant-loop-load l =
    (min (l.count + count_loads l.t (drop l.load-index l.loads)) (2 ^ 64 - 1) ≡ min (count_loads l.t l.loads) (2 ^ 64 - 1))
    × (l.count ≤ 2 ^ 64 - 1)

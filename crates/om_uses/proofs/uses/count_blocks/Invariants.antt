use Rattle.std.proofs.Common.{◌≡◌, ◌≤◌, ◌+◌, ◌-◌, ◌^◌, min, drop}
use Rattle.om_uses.specs.Installed.{loads_kept}
use Rattle.om_uses.proofs.uses.count_blocks.Given as goal

abbrev pub invariant-loop-block : goal.invariant-loop-block
invariant-loop-block l =
    (min (l.count + loads_kept l.t l.loads (drop l.block-index l.blocks)) (2 ^ 64 - 1) ≡ min (loads_kept l.t l.loads l.blocks) (2 ^ 64 - 1))
    × (l.count ≤ 2 ^ 64 - 1)

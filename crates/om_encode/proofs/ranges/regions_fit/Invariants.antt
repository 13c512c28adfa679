use Rattle.std.proofs.Common.{ℕ, ◌<◌, slice_index_or}
use Rattle.std.specs.Prelude.{All, slice_index}
use Rattle.om_lockstep.specs.Addresses.{IsValue}
use Rattle.om_prog.specs.declared.item.Field.{Field}
use Rattle.om_prog.specs.declared.region.RegionInit.{RegionInit}
use Rattle.om_encode.proofs.ranges.regions_fit.Given as goal

abbrev pub invariant-loop-init : goal.invariant-loop-init
invariant-loop-init l =
    ((k : ℕ) → (d : RegionInit) → k < l.init-index → (j : ℕ) → slice_index (slice_index_or l.regions k d).bytes j < 256)
    × ((k : ℕ) → (d : RegionInit) → k < l.init-index → All (λ (f : Field). IsValue f.value) (slice_index_or l.regions k d).fields)

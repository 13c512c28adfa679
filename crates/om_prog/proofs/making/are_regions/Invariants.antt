use Rattle.std.specs.Prelude.{◌≡◌, ◌<◌, ℕ, Some}
use Rattle.std.specs.List.{slice_get}
use Rattle.om_prog.specs.declared.region.RegionInit.{RegionInit}
use Rattle.om_prog.specs.View.{ProgramView}
use Rattle.om_prog.specs.Valid.{IsRegionInit}
use Rattle.om_prog.specs.Known.{IsKnown}
use Rattle.om_prog.proofs.making.are_regions.Given as goal

abbrev pub invariant-loop-i : goal.invariant-loop-i
invariant-loop-i l =
    (v : ProgramView) → IsKnown l.known v → (k : ℕ) (x : RegionInit) → k < l.i → slice_get l.regions k ≡ Some x → IsRegionInit v x

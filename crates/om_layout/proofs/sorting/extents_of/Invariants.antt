use Rattle.std.specs.Prelude.{◌≡◌, map, take}
use Rattle.om_layout.specs.Order.{extent_of}
use Rattle.om_layout.specs.Placing.{extent_pair}
use Rattle.om_layout.proofs.sorting.extents_of.Given as goal

abbrev pub invariant-loop-r : goal.invariant-loop-r
invariant-loop-r l = map extent_pair l.extents.items ≡ map extent_of (take l.r-index l.regions)

use Rattle.std.proofs.Common.{◌≡◌, map, take}
use Rattle.om_encode.specs.Data.{map_region}
use Rattle.om_encode.proofs.mapping.map_regions.Given as goal

abbrev pub invariant-loop-placed : goal.invariant-loop-placed
invariant-loop-placed l = l.map.items ≡ map map_region (take l.placed-index l.regions)

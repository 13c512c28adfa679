-- Regions and targets as keys of ordered maps, by the order that is derived on them.
use Rattle.std.specs.Prelude.{ℕ, Bool, Option}
use Rattle.std.specs.declared.cmp.Ordering.{Ordering}
use Rattle.std.specs.BTreeMap.{get}
use Rattle.std.specs.BTreeSet.{contains}
use Rattle.om_value.specs.declared.value.Region.{Region}
use Rattle.om_value.specs.declared.value.Target.{Target}
use Rattle.om_value.specs.contracts.value.RegionOrd.TheImpl as regions
use Rattle.om_value.specs.contracts.value.TargetOrd.TheImpl as targets
use Rattle.om_prog.specs.declared.keys.RegionSizes.{RegionSizes}
use Rattle.om_prog.specs.declared.keys.Slots.{Slots}

abbrev pub region_cmp : Region → Region → Ordering
region_cmp = regions.ghosts.cmp

abbrev pub target_cmp : Target → Target → Ordering
target_cmp = targets.ghosts.cmp

-- the size that was noted for a region, if it was
abbrev pub size_in : RegionSizes → Region → Option ℕ
size_in s r = get region_cmp s.sizes r

-- a target was noted
abbrev pub is_slot : Slots → Target → Bool
is_slot s t = contains target_cmp s.seen t

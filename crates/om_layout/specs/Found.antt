-- How slots and regions are found in logarithmic time: by maps over the orders that are derived on targets and regions. No
-- public clause cites this module.
use Rattle.std.specs.Prelude.{◌≡◌, ℕ, ◌+◌, ◌<◌, List, length, find, take, sum, slice_index_or}
use Rattle.std.specs.BTreeMap.{BTreeMap, get}
use Rattle.om_value.specs.declared.value.Region.{Region}
use Rattle.om_value.specs.declared.value.Target.{Target}
use Rattle.om_prog.specs.Keys.{region_cmp, target_cmp}
use Rattle.om_layout.specs.Layout.{RegionAt, is_region, slot_number}
use Rattle.om_layout.specs.Order.{place_count}

-- each target has the number of its slot
pub record HasNumbers (targets : List Target) (numbers : BTreeMap Target ℕ) : Type 0 where
  pub each : (t : Target) → get target_cmp numbers t ≡ slot_number targets t

-- each region stands under itself
pub record HasRegions (regions : List RegionAt) (placed : BTreeMap Region RegionAt) : Type 0 where
  pub each : (r : Region) → get region_cmp placed r ≡ find (is_region r) regions

-- a position for each place, those of an object from its start on
pub record HasPlaces (counts starts positions : List ℕ) : Type 0 where
  pub as_many : length starts ≡ length counts
  pub are : (i : ℕ) → i < length counts → slice_index_or starts i 0 ≡ sum (take i counts) + i
  pub places : length positions ≡ place_count counts

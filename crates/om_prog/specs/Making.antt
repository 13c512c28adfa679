-- What the steps that test the parts of a program have found.
use Rattle.std.specs.Prelude.{◌≡◌, ◌<◌, ℕ, ◌*◌, nat_lt, if◌then◌else◌, List, length, get_or, Option, Some, None, find, option_map, count_by}
use Rattle.std.specs.List.{list_any}
use Rattle.om_value.specs.declared.value.Place.{Place}
use Rattle.om_value.specs.declared.value.Region.{Region}
use Rattle.om_value.specs.declared.value.Target.{Target}
use Rattle.om_value.specs.Same.{region_eq, target_eq}
use Rattle.om_prog.specs.declared.item.Item.{Item}
use Rattle.om_prog.specs.declared.keys.RegionSizes.{RegionSizes}
use Rattle.om_prog.specs.declared.keys.Slots.{Slots}
use Rattle.om_prog.specs.declared.region.RegionInit.{RegionInit}
use Rattle.om_prog.specs.Keys.{size_in, is_slot}
use Rattle.om_prog.specs.Valid.{AreOnce, is_low_of}

-- the sizes of just these regions
pub record HasSizes (s : RegionSizes) (regions : List RegionInit) : Type 0 where
  pub holds : (r : Region) → size_in s r ≡ option_map (λ i. i.size) (find (λ i. region_eq i.region r) regions)

-- their sizes, or nothing where one is given twice
abbrev pub FindsSizes : List RegionInit → Option RegionSizes → Type 0
FindsSizes regions None = AreOnce regions → ⊥
FindsSizes regions (Some s) = AreOnce regions × HasSizes s regions

-- just these targets were noted
pub record HasSlots (s : Slots) (ts : List Target) : Type 0 where
  pub holds : (q : Target) → is_slot s q ≡ list_any (λ u. target_eq u q) ts

abbrev pub word_place : ℕ → ℕ → Place
word_place obj k = record { obj = obj; off = 4 * k }

-- a number, but 2 for any that is greater
abbrev pub up_to_two : ℕ → ℕ
up_to_two n = if nat_lt n 2 then n else 2

-- at each word how many low halves name it, or 2
pub record AreMarks (obj : ℕ) (text : List Item) (done : List Item) (marks : List ℕ) : Type 0 where
  pub as_long : length marks ≡ length text
  pub each : (k : ℕ) → k < length text → get_or marks k 0 ≡ up_to_two (count_by (is_low_of (word_place obj k)) done)

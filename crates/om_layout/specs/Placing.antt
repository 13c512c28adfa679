-- How a layout is made: slots noted load by load, regions in order, tables and regions placed one behind the other. No public
-- clause cites this module.
use Rattle.std.specs.Prelude.{◌≡◌, ◌⊎◌, ℕ, ◌+◌, ◌*◌, ◌/◌, ◌%◌, ◌^◌, ◌<◌, if◌then◌else◌, List, [], ◌∷◌, length, sum, sum_by, take, slice_set, slice_index_or}
use Rattle.om_value.specs.declared.value.Place.{Place}
use Rattle.om_value.specs.declared.value.Region.{Region}
use Rattle.om_value.specs.declared.value.Region.TheVariants.{Sec, Common, Stack, Heap}
use Rattle.om_value.specs.declared.value.Target.{Target}
use Rattle.om_value.specs.Same.{region_eq}
use Rattle.om_prog.specs.Act.{Word}
use Rattle.om_prog.specs.Valid.{with_target}
use Rattle.om_layout.specs.declared.words.Load.{Load}
use Rattle.om_layout.specs.declared.sorting.Extent.{Extent}
use Rattle.om_layout.specs.Facts.{AreSorted}
use Rattle.om_graph.specs.View.{Has}
use Rattle.om_layout.specs.Layout.{TableAt, RegionAt, place_number}
use Rattle.om_layout.specs.Order.{IsPlaceOf, words_before, round_16}

-- ---- slots

abbrev pub slots_at : List (List Target) → ℕ → List Target
slots_at slots k = slice_index_or slots k []

-- one more target of a table
abbrev pub noted : List (List Target) → ℕ → Target → List (List Target)
noted slots table t = slice_set slots table (with_target (slots_at slots table) t)

-- one more load
abbrev pub load_noted : List ℕ → List (List Target) → Load → List (List Target)
load_noted tables slots load = noted slots (slice_index_or tables load.obj load.obj) load.target

-- each load is one of these objects
pub record AreOfObjects (tables : List ℕ) (loads : List Load) : Type 0 where
  pub each : (load : Load) → Has loads load → load.obj < length tables

-- ---- regions

abbrev pub extent_pair : Extent → Region × ℕ
extent_pair e = (e.region, e.size)

-- not placed yet
abbrev pub unplaced : Extent → RegionAt
unplaced e = record { region = e.region; address = 0; size = e.size }

-- the numbers of a region fit it
abbrev pub Fits : Region → Type 0
Fits (Sec obj number) = (obj < 2 ^ 32) × (number < 2 ^ 8)
Fits (Common sym) = sym < 2 ^ 32
Fits Stack = Unit {0}
Fits Heap = Unit {0}

abbrev pub count_of_region : Region → Extent → ℕ
count_of_region r e = if region_eq e.region r then 1 else 0

-- no region stands twice
pub record StandOnce (extents : List Extent) : Type 0 where
  pub once : (r : Region) → sum_by (count_of_region r) extents < 2

-- ---- addresses

abbrev pub tables_from : ℕ → List (List Target) → List TableAt
tables_from a [] = []
tables_from a (slots ∷ rest) = record { start = round_16 a; slots = slots } ∷ tables_from (round_16 a + 8 * length slots) rest

abbrev pub tables_stop : ℕ → List (List Target) → ℕ
tables_stop a [] = a
tables_stop a (slots ∷ rest) = tables_stop (round_16 a + 8 * length slots) rest

abbrev pub regions_from : ℕ → List Extent → List RegionAt
regions_from a [] = []
regions_from a (e ∷ rest) = record { region = e.region; address = round_16 a; size = e.size } ∷ regions_from (round_16 a + e.size) rest

abbrev pub regions_stop : ℕ → List Extent → ℕ
regions_stop a [] = a
regions_stop a (e ∷ rest) = regions_stop (round_16 a + e.size) rest

-- ---- positions

-- sorted words of texts with so many words
pub record AreTextWords (counts : List ℕ) (ws : List Word) : Type 0 where
  pub sorted : AreSorted ws
  pub aligned : (w : Word) → Has ws w → w.at.off % 4 ≡ 0
  pub inside : (w : Word) → Has ws w → w.at.off / 4 < slice_index_or counts w.at.obj 0

-- before a word of an object
abbrev pub IsDone : ℕ → ℕ → Place → Type 0
IsDone obj word q = (q.obj < obj) ⊎ ((q.obj ≡ obj) × (q.off / 4 < word))

-- the positions of all places before a word of an object
pub record HasPositions (counts : List ℕ) (ws : List Word) (obj word : ℕ) (positions : List ℕ) : Type 0 where
  pub as_many : length positions ≡ sum (take obj counts) + obj + word
  pub each :
      (q : Place) → IsPlaceOf counts q → IsDone obj word q →
      slice_index_or positions (place_number counts q) 0 ≡ words_before ws q

-- the number of places before each object
pub record AreFirsts (counts starts : List ℕ) : Type 0 where
  pub as_many : length starts ≡ length counts
  pub are : (i : ℕ) → i < length counts → slice_index_or starts i 0 ≡ sum (take i counts) + i

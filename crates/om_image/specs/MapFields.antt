-- The fields of a map's bytes, and whether they are a map of an image with so many words.
use Rattle.std.specs.Prelude.{ℕ, zero, suc, ◌+◌, ◌*◌, ◌/◌, ◌%◌, ◌^◌, Bool, true, ◌&&◌, ◌==◌, if◌then◌else◌, nat_lt, nat_le, List, length, bytes_eq, slice_index}
use Rattle.om_fields.specs.Places.{number_at, bytes_at, each}
use Rattle.om_image.specs.declared.map.Place.{Place}
use Rattle.om_image.specs.declared.map.Region.{Region}
use Rattle.om_image.specs.declared.map.Region.TheVariants.{Sec, Common, Stack}
use Rattle.om_image.specs.declared.map.Target.{Target}
use Rattle.om_image.specs.declared.map.Target.TheVariants.{Num, Ptr, Code}
use Rattle.om_image.specs.declared.map.MapObj.{MapObj}
use Rattle.om_image.specs.declared.map.MapTable.{MapTable}
use Rattle.om_image.specs.declared.map.MapRegion.{MapRegion}
use Rattle.om_image.specs.declared.map.MapWord.{MapWord}
use Rattle.om_image.specs.declared.map.Map.{Map}
use Rattle.om_image.specs.declared.part.Part.{Part}
use Rattle.om_image.specs.declared.part.Part.TheVariants.{Object, Table, Slot, Extent, Word}
use Rattle.om_image.specs.Written.{mark}

-- f 0 + f 1 + .., n of them
abbrev pub sum_below : (ℕ → ℕ) → ℕ → ℕ
sum_below f zero = 0
sum_below f (suc n) = sum_below f n + f n

-- a test holds of all numbers below n
abbrev pub all_below : (ℕ → Bool) → ℕ → Bool
all_below test zero = true
all_below test (suc n) = all_below test n && test n

-- ---- where the parts of a map stand

abbrev pub objects_in : List ℕ → ℕ
objects_in b = number_at b 8 4

abbrev pub tables_in : List ℕ → ℕ
tables_in b = number_at b 12 4

abbrev pub regions_in : List ℕ → ℕ
regions_in b = number_at b 16 4

abbrev pub words_in : List ℕ → ℕ
words_in b = number_at b 20 4

abbrev pub tables_at : List ℕ → ℕ
tables_at b = 24 + 8 * objects_in b

abbrev pub slots_at : List ℕ → ℕ
slots_at b = tables_at b + 16 * tables_in b

-- how many slots the k-th table has
abbrev pub slots_of : List ℕ → ℕ → ℕ
slots_of b k = number_at b (tables_at b + 16 * k + 8) 4

-- how many the tables before it have
abbrev pub slots_before : List ℕ → ℕ → ℕ
slots_before b k = sum_below (slots_of b) k

abbrev pub slots_in : List ℕ → ℕ
slots_in b = slots_before b (tables_in b)

abbrev pub regions_at : List ℕ → ℕ
regions_at b = slots_at b + 24 * slots_in b

abbrev pub words_at : List ℕ → ℕ
words_at b = regions_at b + 32 * regions_in b

abbrev pub map_end : List ℕ → ℕ
map_end b = words_at b + 8 * words_in b

-- ---- what stands there

abbrev pub object_at : List ℕ → ℕ → MapObj
object_at b at = record { words = number_at b at 4; table = number_at b (at + 4) 4 }

-- a region by its kind: 1 is a section, 2 a common
abbrev pub region_by : ℕ → ℕ → ℕ → Region
region_by kind name number = if kind == 1 then Sec name number else if kind == 2 then Common name else Stack

abbrev pub region_at : List ℕ → ℕ → Region
region_at b at = region_by (number_at b at 4) (number_at b (at + 4) 4) (slice_index b (at + 8))

-- a target by its kind: 0 is a number, 3 code
abbrev pub target_by : ℕ → Target → Target → Target → Target
target_by kind number code pointer = if kind == 0 then number else if kind == 3 then code else pointer

abbrev pub code_place : ℕ → ℕ → Place
code_place name off = record { obj = name; off = off }

abbrev pub slot_at : List ℕ → ℕ → Target
slot_at b at =
    target_by (number_at b at 4) (Num (number_at b (at + 16) 8))
    (Code (code_place (number_at b (at + 4) 4) (number_at b (at + 16) 4)))
    (Ptr (region_at b at) (number_at b (at + 16) 8))

-- a table by the place of its header, the place of its slots, and how many these are
abbrev pub table_with : List ℕ → ℕ → ℕ → ℕ → MapTable
table_with b at place n = record { start = number_at b at 8; slots = each (λ j. slot_at b (place + 24 * j)) n }

-- the k-th table
abbrev pub table_at : List ℕ → ℕ → MapTable
table_at b k = table_with b (tables_at b + 16 * k) (slots_at b + 24 * slots_before b k) (slots_of b k)

abbrev pub map_region_at : List ℕ → ℕ → MapRegion
map_region_at b at = record { region = region_at b at; address = number_at b (at + 16) 8; size = number_at b (at + 24) 8 }

-- a position in the low 31 bits, and above them whether the word is kept
abbrev pub position_of : ℕ → ℕ
position_of n = n % 2 ^ 31

abbrev pub kept_of : ℕ → Bool
kept_of n = n / 2 ^ 31 == 1

abbrev pub source_at : List ℕ → ℕ → MapWord
source_at b at = record {
  old = number_at b at 4;
  position = position_of (number_at b (at + 4) 4);
  kept = kept_of (number_at b (at + 4) 4);
}

-- the map that the bytes hold
abbrev pub map_of : List ℕ → Map
map_of b = record {
  objects = each (λ k. object_at b (24 + 8 * k)) (objects_in b);
  tables = each (table_at b) (tables_in b);
  regions = each (λ k. map_region_at b (regions_at b + 32 * k)) (regions_in b);
  words = each (λ k. source_at b (words_at b + 8 * k)) (words_in b);
}

-- ---- which bytes are a map

-- a region's number: a section's is below 256, a common has none
abbrev pub is_region : ℕ → ℕ → Bool
is_region kind number = if kind == 1 then nat_lt number 256 else (kind == 2) && (number == 0)

-- a slot's fields: a number has neither a name nor a section, code has no section and an offset below 2 ^ 32
abbrev pub is_slot : ℕ → ℕ → ℕ → ℕ → Bool
is_slot kind name number off =
    if kind == 0 then (name == 0) && (number == 0)
    else if kind == 3 then (number == 0) && nat_lt off (2 ^ 32)
    else is_region kind number

-- the position of a kept word is one of the image's, that of another may be the end
abbrev pub is_position : ℕ → Bool → ℕ → Bool
is_position count kept position = nat_lt position (if kept then count else count + 1)

-- a slot, a region and a source word whose fields are as they must be
abbrev pub is_fine_slot : List ℕ → ℕ → Bool
is_fine_slot b at =
    (number_at b (at + 12) 4 == 0)
    && is_slot (number_at b at 4) (number_at b (at + 4) 4) (number_at b (at + 8) 4) (number_at b (at + 16) 8)

abbrev pub is_fine_region : List ℕ → ℕ → Bool
is_fine_region b at = (number_at b (at + 12) 4 == 0) && is_region (number_at b at 4) (number_at b (at + 8) 4)

abbrev pub is_fine_word : List ℕ → ℕ → ℕ → Bool
is_fine_word b at count = is_position count (kept_of (number_at b (at + 4) 4)) (position_of (number_at b (at + 4) 4))

-- the k-th item of a part that begins at a place is as it must be; tables and positions are below a bound
abbrev pub is_fine : Part → List ℕ → ℕ → ℕ → ℕ → Bool
is_fine Object b at bound k = nat_lt (number_at b (at + 8 * k + 4) 4) bound
is_fine Table b at bound k = number_at b (at + 16 * k + 12) 4 == 0
is_fine Slot b at bound k = is_fine_slot b (at + 24 * k)
is_fine Extent b at bound k = is_fine_region b (at + 32 * k)
is_fine Word b at bound k = is_fine_word b (at + 8 * k) bound

-- the bytes of so many items of a part
abbrev pub extent_of : Part → ℕ → ℕ
extent_of Object n = 8 * n
extent_of Table n = 16 * n
extent_of Slot n = 24 * n
extent_of Extent n = 32 * n
extent_of Word n = 8 * n

-- the first items of a part are as they must be
abbrev pub are_fine : Part → List ℕ → ℕ → ℕ → ℕ → Bool
are_fine part b at bound n = all_below (is_fine part b at bound) n

-- how many words the first objects have
abbrev pub object_words_below : List ℕ → ℕ → ℕ
object_words_below b n = sum_below (λ k. number_at b (24 + 8 * k) 4) n

-- how many words the objects have in all
abbrev pub object_words : List ℕ → ℕ
object_words b = object_words_below b (objects_in b)

-- the bytes begin with the mark, and have room for the counts
abbrev pub is_marked : List ℕ → Bool
is_marked b = nat_le 24 (length b) && bytes_eq mark (bytes_at b 0 8)

-- the tables lie within the bytes
abbrev pub holds_tables : List ℕ → Bool
holds_tables b = nat_le (slots_at b) (length b)

-- the parts fill the bytes exactly
abbrev pub is_filled : List ℕ → Bool
is_filled b = map_end b == length b

-- the items of all parts, for an image of so many words
abbrev pub has_fine_parts : ℕ → List ℕ → Bool
has_fine_parts count b =
    are_fine Object b 24 (tables_in b) (objects_in b) && are_fine Table b (tables_at b) 0 (tables_in b)
    && are_fine Slot b (slots_at b) 0 (slots_in b) && are_fine Extent b (regions_at b) 0 (regions_in b)
    && are_fine Word b (words_at b) count (words_in b)

-- the bytes are a map of an image with so many words
abbrev pub is_map : ℕ → List ℕ → Bool
is_map count b =
    is_marked b && holds_tables b && is_filled b && (object_words b == words_in b) && has_fine_parts count b

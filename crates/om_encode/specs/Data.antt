-- The map is true of the data: the tables, the slots and the regions are where the layout has them, and hold what the program
-- gives them. Numbers stand with their lowest byte first, as on Alpha (Architecture Handbook, chapter 2, "Data Types").
use Rattle.std.specs.Prelude.{◌≡◌, ℕ, ◌+◌, ◌-◌, ◌*◌, ◌/◌, ◌%◌, ◌^◌, ◌<◌, ◌≤◌, Bool, false, if◌then◌else◌, List, [], ◌∷◌, length, map, find, All, Option, Some, None, slice_get, slice_index, FitsSigned}
use Rattle.std.specs.Int.{w32, cast_unsigned}
use Rattle.byteorder.specs.Endian.{little_bytes}
use Rattle.om_value.specs.declared.value.Place.{Place}
use Rattle.om_value.specs.declared.value.Region.{Region}
use Rattle.om_value.specs.declared.value.Region.TheVariants.{Sec, Common, Stack, Heap}
use Rattle.om_value.specs.declared.value.Target.{Target}
use Rattle.om_value.specs.declared.value.Target.TheVariants as target
use Rattle.om_value.specs.declared.value.Value.{Value}
use Rattle.om_value.specs.declared.value.Value.TheVariants as value
use Rattle.om_prog.specs.declared.item.Role.{Role}
use Rattle.om_prog.specs.declared.item.Role.TheVariants as role
use Rattle.om_prog.specs.declared.item.Field.{Field}
use Rattle.om_prog.specs.declared.region.RegionInit.{RegionInit}
use Rattle.om_prog.specs.View.{ProgramView, init_of}
use Rattle.om_prog.specs.Script.{covers}
use Rattle.om_graph.specs.View.{GraphView}
use Rattle.om_image.specs.declared.image.Image.{Image}
use Rattle.om_image.specs.declared.map.Place.{Place as MapPlace}
use Rattle.om_image.specs.declared.map.Region.{Region as MapPart}
use Rattle.om_image.specs.declared.map.Region.TheVariants as part
use Rattle.om_image.specs.declared.map.Target.{Target as SlotTarget}
use Rattle.om_image.specs.declared.map.Target.TheVariants as slot
use Rattle.om_image.specs.declared.map.MapTable.{MapTable}
use Rattle.om_image.specs.declared.map.MapRegion.{MapRegion}
use Rattle.om_lockstep.specs.Addresses.{IsTarget, IsValue}
use Rattle.om_layout.specs.Layout.{LayoutView, TableAt, RegionAt, data_base, region_at, code_at, gp_of, address_of}
use Rattle.om_layout.specs.Order.{tables_end, regions_end}
use Rattle.om_encode.specs.Halves.{from_gp}

-- ---- the map's own places, regions and targets

abbrev pub place_in_map : Place → MapPlace
place_in_map q = record { obj = q.obj; off = q.off }

-- a map has no heap, and no region of a program is one
abbrev pub part_of : Region → MapPart
part_of (Sec obj number) = part.Sec obj number
part_of (Common sym) = part.Common sym
part_of Stack = part.Stack
part_of Heap = part.Stack

abbrev pub slot_target : Target → SlotTarget
slot_target (target.Num n) = slot.Num n
slot_target (target.Ptr r x) = slot.Ptr (part_of r) x
slot_target (target.Code q) = slot.Code (place_in_map q)

abbrev pub map_table : TableAt → MapTable
map_table t = record { start = t.start; slots = map slot_target t.slots }

abbrev pub map_region : RegionAt → MapRegion
map_region r = record { region = part_of r.region; address = r.address; size = r.size }

-- ---- the program's numbers

-- the numbers of a program are those of their fields: targets and values have 64 bits, bytes 8
abbrev pub RoleFits : Role → Type 0
RoleFits (role.Lit t) = IsTarget t
RoleFits _ = Unit {0}

pub record HasWidths (p : ProgramView) : Type 0 where
  pub targets : All (λ text. All (λ item. RoleFits item.role) text) p.texts
  pub bytes : All (λ r. (k : ℕ) → slice_index r.bytes k < 256) p.regions
  pub fields : All (λ r. All (λ f. IsValue f.value) r.fields) p.regions

-- ---- what regions hold

module _ (l : LayoutView) where
  -- the bytes of a field: an address of 8 bytes, or a distance from the global pointer of an object, signed, of 4
  abbrev pub value_bytes : Value → List ℕ
  value_bytes (value.Num n) = little_bytes 8 n
  value_bytes (value.Ptr r x) = little_bytes 8 ((region_at l r + x) % 2 ^ 64)
  value_bytes (value.Code q) = little_bytes 8 (code_at l q)
  value_bytes (value.GpOff o t) = little_bytes 4 (cast_unsigned w32 (from_gp l o t))
  value_bytes _ = []

  -- a distance fits its field
  abbrev pub DistanceFits : Value → Type 0
  DistanceFits (value.GpOff o t) = FitsSigned w32 (from_gp l o t)
  DistanceFits _ = Unit {0}

  -- a field hides the bytes under it
  abbrev pub field_byte : List ℕ → ℕ → Option Field → ℕ
  field_byte bytes x None = slice_index bytes x
  field_byte bytes x (Some f) = slice_index (value_bytes f.value) (x - f.off)

  abbrev pub region_byte : RegionInit → ℕ → ℕ
  region_byte r x = field_byte r.bytes x (find (covers x) r.fields)

-- the byte of an image's data at an address; what is not in the file is 0
abbrev pub data_byte : Image → ℕ → ℕ
data_byte i a = slice_index i.bytes (a - data_base)

-- ---- where the data ends

abbrev pub zero_or : Option RegionInit → Bool
zero_or None = false
zero_or (Some r) = r.zero

-- a region that is zero at first
abbrev pub is_zero : ProgramView → RegionAt → Bool
is_zero p e = zero_or (init_of p e.region)

-- the end of what is not zero: of the tables, and of each region that is not
abbrev pub given_from : ProgramView → ℕ → List RegionAt → ℕ
given_from p a [] = a
given_from p a (r ∷ rs) = given_from p (if is_zero p r then a else r.address + r.size) rs

module _ (p : ProgramView) (l : LayoutView) where
  abbrev pub data_given : ℕ
  data_given = given_from p (tables_end data_base l.tables) l.regions

  abbrev pub data_end : ℕ
  data_end = regions_end (tables_end data_base l.tables) l.regions

-- an address in a slot, or in a region
abbrev pub InSlot : LayoutView → ℕ → Type 0
InSlot l a =
    (k : ℕ) × (t : TableAt) × (slice_get l.tables k ≡ Some t) × (t.start ≤ a) × (a < t.start + 8 * length t.slots)

abbrev pub InRegion : LayoutView → ℕ → Type 0
InRegion l a = (k : ℕ) × (r : RegionAt) × (slice_get l.regions k ≡ Some r) × (r.address ≤ a) × (a < r.address + r.size)

-- ---- the data

pub record DataIsTrue (p : ProgramView) (g : GraphView) (l : LayoutView) (i : Image) : Type 0 where
  -- the map's objects, tables and regions
  pub counts : map (λ o. o.words) i.map.objects ≡ map (λ text. length text) p.texts
  pub object_tables : map (λ o. o.table) i.map.objects ≡ g.tables
  pub tables : i.map.tables ≡ map map_table l.tables
  pub regions : i.map.regions ≡ map map_region l.regions
  -- each slot holds its target's address
  pub slots :
      (k : ℕ) (t : TableAt) (j : ℕ) (u : Target) (b : ℕ) → slice_get l.tables k ≡ Some t → slice_get t.slots j ≡ Some u →
      b < 8 → data_byte i (t.start + 8 * j + b) ≡ address_of l u / 256 ^ b % 256
  -- each region holds its bytes and fields
  pub contents :
      All (λ r. (x : ℕ) → x < r.size → data_byte i (region_at l r.region + x) ≡ region_byte l r x) p.regions
  pub fits : All (λ r. All (λ f. DistanceFits l f.value) r.fields) p.regions
  pub widths : HasWidths p
  -- and all else is 0
  pub others : (a : ℕ) → data_base ≤ a → (InSlot l a → ⊥) → (InRegion l a → ⊥) → data_byte i a ≡ 0
  -- the file has the data to the end of what is not zero, and zeros follow to the end
  pub given : data_base + length i.bytes ≡ data_given p l
  pub whole : data_base + length i.bytes + i.bss ≡ data_end p l
  -- the entry, and the global pointer of its object
  pub entry : i.entry ≡ code_at l p.entry
  pub gp : i.gp ≡ gp_of l p.entry.obj

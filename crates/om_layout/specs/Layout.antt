-- A layout as data, and what it says: where words, global address tables and regions stand in memory. The bases are this
-- project's own profile of the Alpha ECOFF image; a global pointer 32768 bytes into its table is reached by the signed
-- displacements of 16 bits on either side (Alpha Architecture Handbook, chapter 3, "Memory Instruction Format").
use Rattle.std.specs.Prelude.{ℕ, suc, Bool, ◌+◌, ◌*◌, ◌%◌, ◌^◌, if◌then◌else◌, List, [], ◌∷◌, find, Option, Some, None, option_map, option_and_then, slice_get, slice_index_or}
use Rattle.om_value.specs.declared.value.Place.{Place}
use Rattle.om_value.specs.declared.value.Region.{Region}
use Rattle.om_value.specs.declared.value.Region.TheVariants.{Stack, Heap}
use Rattle.om_value.specs.declared.value.Target.{Target}
use Rattle.om_value.specs.declared.value.Target.TheVariants as target
use Rattle.om_value.specs.Same.{region_eq, target_eq}
use Rattle.om_prog.specs.View.{stack_size}
use Rattle.om_graph.specs.Index.{index_of}

-- ---- bases

-- where the text begins, and the data
abbrev pub text_base : ℕ
text_base = 0x120000000

abbrev pub data_base : ℕ
data_base = 0x140000000

-- where the stack begins, and the heap
abbrev pub stack_base : ℕ
stack_base = 0x11ff00000

abbrev pub heap_base : ℕ
heap_base = 0x160000000

-- ---- data

-- a global address table: its address, and the targets of its slots of 8 bytes
pub record TableAt : Type 0 where
  pub start : ℕ
  pub slots : List Target

-- a region with its address and its size in bytes
pub record RegionAt : Type 0 where
  pub region : Region
  pub address : ℕ
  pub size : ℕ

pub record LayoutView : Type 0 where
  -- the number of words of each object
  pub counts : List ℕ
  -- the table of each object
  pub object_tables : List ℕ
  pub tables : List TableAt
  pub regions : List RegionAt
  -- the number of an image word for each place: of each object its words in order, then its text's end
  pub positions : List ℕ

-- ---- places in code

-- where the positions of a layout have a place: behind those of all places before it, each text's end among them
abbrev pub place_number : List ℕ → Place → ℕ
place_number counts q = index_of counts q + q.obj

module _ (l : LayoutView) where
  -- the number of the image word at a place's address
  abbrev pub position_of : Place → ℕ
  position_of q = slice_index_or l.positions (place_number l.counts q) 0

  abbrev pub code_at : Place → ℕ
  code_at q = text_base + 4 * position_of q

-- ---- regions

abbrev pub is_region : Region → RegionAt → Bool
is_region r e = region_eq e.region r

abbrev pub address_or : Option RegionAt → ℕ
address_or None = data_base
address_or (Some e) = e.address

abbrev pub size_or : Option RegionAt → ℕ
size_or None = 0
size_or (Some e) = e.size

module _ (l : LayoutView) where
  -- the region of a layout, where it has it
  abbrev pub region_there : Region → Option RegionAt
  region_there r = find (is_region r) l.regions

  -- the address of a region's first byte
  abbrev pub region_at : Region → ℕ
  region_at Stack = stack_base
  region_at Heap = heap_base
  region_at r = address_or (region_there r)

  -- its size in bytes; the heap's is that of a run
  abbrev pub size_at : Region → ℕ
  size_at Stack = stack_size
  size_at r = size_or (region_there r)

-- ---- tables

abbrev pub start_or : Option TableAt → ℕ
start_or None = data_base
start_or (Some t) = t.start

-- the number of a target's slot
abbrev pub slot_number : List Target → Target → Option ℕ
slot_number [] t = None
slot_number (u ∷ us) t = if target_eq u t then Some 0 else option_map suc (slot_number us t)

abbrev pub slot_address : Target → TableAt → Option ℕ
slot_address t table = option_map (λ j. table.start + 8 * j) (slot_number table.slots t)

module _ (l : LayoutView) where
  abbrev pub start_at : ℕ → ℕ
  start_at table = start_or (slice_get l.tables table)

  -- the global pointer of a table
  abbrev pub gp_at : ℕ → ℕ
  gp_at table = start_at table + 32768

  -- the table of an object, and its global pointer
  abbrev pub table_at : ℕ → ℕ
  table_at obj = slice_index_or l.object_tables obj obj

  abbrev pub gp_of : ℕ → ℕ
  gp_of obj = gp_at (table_at obj)

  -- the address of the slot of a target, where the table has one
  abbrev pub slot_at : ℕ → Target → Option ℕ
  slot_at table t = option_and_then (slot_address t) (slice_get l.tables table)

-- ---- targets

module _ (l : LayoutView) where
  -- the address that a target is: a number itself, a byte of a region, a place in code
  abbrev pub address_of : Target → ℕ
  address_of (target.Num n) = n
  address_of (target.Ptr r x) = (region_at l r + x) % 2 ^ 64
  address_of (target.Code q) = code_at l q

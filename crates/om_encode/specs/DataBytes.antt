-- The bytes of an image's data: what stands at addresses, in order, with zeros between and none behind.
use Rattle.std.specs.Prelude.{◌≡◌, ℕ, ◌+◌, ◌-◌, ◌≤◌, if◌then◌else◌, List, [], ◌∷◌, ◌++◌, length, map, flat_map, find, take, drop, slice_get, All, Option, Some, None, option_and_then}
use Rattle.std.specs.BTreeMap.{get}
use Rattle.byteorder.specs.Endian.{little_bytes}
use Rattle.om_fields.specs.Bytes.{zeros}
use Rattle.om_fields.specs.Places.{each}
use Rattle.om_value.specs.declared.value.Region.{Region}
use Rattle.om_value.specs.declared.value.Target.{Target}
use Rattle.om_value.specs.Same.{region_eq}
use Rattle.om_prog.specs.Keys.{region_cmp}
use Rattle.om_prog.specs.declared.item.Field.{Field}
use Rattle.om_prog.specs.declared.region.RegionInit.{RegionInit}
use Rattle.om_prog.specs.View.{ProgramView, init_of, word_count}
use Rattle.om_image.specs.declared.image.Image.{Image}
use Rattle.om_image.specs.declared.map.MapObj.{MapObj}
use Rattle.om_layout.specs.Layout.{LayoutView, TableAt, RegionAt, data_base, table_at, address_of}
use Rattle.om_layout.specs.Order.{PlacedTables, PlacedRegions, tables_end, regions_end}
use Rattle.om_encode.specs.declared.numbering.RegionNumbers.{RegionNumbers}
use Rattle.om_encode.specs.declared.data_part.DataPart.{DataPart}
use Rattle.om_encode.specs.Data.{value_bytes, DistanceFits}

-- ---- bytes in order of addresses

-- bytes that stand at an address
pub record Piece : Type 0 where
  pub at : ℕ
  pub bytes : List ℕ

-- the first bytes of the data with zeros behind them, up to an address
abbrev pub padded_to : ℕ → List ℕ → List ℕ
padded_to a out = out ++ zeros (a - data_base - length out)

-- and with bytes at an address behind
abbrev pub with_piece : Piece → List ℕ → List ℕ
with_piece x out = padded_to x.at out ++ x.bytes

abbrev pub with_pieces : List Piece → List ℕ → List ℕ
with_pieces [] out = out
with_pieces (x ∷ xs) out = with_pieces xs (with_piece x out)

-- ---- what stands there

-- a list of bytes with other bytes in place of those from a place on
abbrev pub overlay : ℕ → List ℕ → List ℕ → List ℕ
overlay at bytes xs = take at xs ++ (bytes ++ drop (at + length bytes) xs)

module _ (l : LayoutView) where
  -- a slot holds its target's address
  abbrev pub slots_bytes : List Target → List ℕ
  slots_bytes ts = flat_map (λ t. little_bytes 8 (address_of l t)) ts

  abbrev pub table_piece : TableAt → Piece
  table_piece t = record { at = t.start; bytes = slots_bytes t.slots }

  -- the bytes from a place on with fields over them
  abbrev pub with_fields : ℕ → List Field → List ℕ → List ℕ
  with_fields base [] xs = xs
  with_fields base (f ∷ fs) xs = with_fields base fs (overlay (base + f.off) (value_bytes l f.value) xs)

  -- a region's bytes, the zeros behind them, and its fields over both
  abbrev pub content : RegionInit → List ℕ
  content r = with_fields 0 r.fields (r.bytes ++ zeros (r.size - length r.bytes))

  -- what a region is at first, where it is not zero
  abbrev pub pieces_of : RegionAt → Option RegionInit → List Piece
  pieces_of e None = []
  pieces_of e (Some r) = if r.zero then [] else record { at = e.address; bytes = content r } ∷ []

  abbrev pub region_pieces : ProgramView → List RegionAt → List Piece
  region_pieces p es = flat_map (λ e. pieces_of e (init_of p e.region)) es

  abbrev pub table_pieces : List TableAt → List Piece
  table_pieces ts = map table_piece ts

  -- the bytes of the data
  abbrev pub data_bytes : ProgramView → List ℕ
  data_bytes p = with_pieces (region_pieces p l.regions) (with_pieces (table_pieces l.tables) [])

-- a region's bytes and fields lie within its size, and its distances fit
pub record FillsRegion (l : LayoutView) (r : RegionInit) : Type 0 where
  pub bytes : length r.bytes ≤ r.size
  pub fields : All (λ f. f.off + length (value_bytes l f.value) ≤ r.size) r.fields
  pub distances : All (λ f. DistanceFits l f.value) r.fields

-- tables and regions in order, and below the next part of memory
pub record HasData (l : LayoutView) : Type 0 where
  pub tables : PlacedTables data_base l.tables
  pub regions : PlacedRegions (tables_end data_base l.tables) l.regions
  pub limit : regions_end (tables_end data_base l.tables) l.regions ≤ data_base + 67108864

abbrev pub end_of_data : LayoutView → ℕ
end_of_data l = regions_end (tables_end data_base l.tables) l.regions

-- ---- regions by number

-- the number that was noted for a region, if it was
abbrev pub number_in : RegionNumbers → Region → Option ℕ
number_in n r = get region_cmp n.numbers r

abbrev pub numbered : RegionNumbers → List RegionInit → Region → Option RegionInit
numbered n regions r = option_and_then (slice_get regions) (number_in n r)

-- by its number each region is found
pub record HasNumbers (regions : List RegionInit) (n : RegionNumbers) : Type 0 where
  pub each : (r : Region) → numbered n regions r ≡ find (λ i. region_eq i.region r) regions

-- ---- the map's objects

abbrev pub map_object : ProgramView → LayoutView → ℕ → MapObj
map_object p l obj = record { words = word_count p obj; table = table_at l obj }

abbrev pub map_objects : ProgramView → LayoutView → List MapObj
map_objects p l = each (map_object p l) (length p.texts)

-- ---- the part of an image

-- an image that has this data and no text
abbrev pub data_image : DataPart → Image
data_image d = record {
  entry = d.entry;
  gp = d.gp;
  text = [];
  bytes = d.bytes;
  bss = d.bss;
  map = record { objects = d.objects; tables = d.tables; regions = d.regions; words = [] };
}

-- The file that an image is written as (this project's own profile of the ECOFF object format).
use Rattle.std.specs.Prelude.{ℕ, ◌+◌, ◌-◌, ◌*◌, ◌^◌, ◌==◌, if◌then◌else◌, List, ◌++◌, length, flat_map, codes, sum_by}
use Rattle.byteorder.specs.Endian.{little_bytes}
use Rattle.om_fields.specs.Bytes.{zeros, word_bytes}
use Rattle.om_fields.specs.Places.{round_up}
use Rattle.om_fields.specs.Sections.{padded}
use Rattle.om_fields.specs.Headers.{file_header, optional_header, section_header}
use Rattle.om_image.specs.declared.image.Image.{Image}
use Rattle.om_image.specs.declared.map.Region.{Region}
use Rattle.om_image.specs.declared.map.Region.TheVariants.{Sec, Common, Stack}
use Rattle.om_image.specs.declared.map.Target.{Target}
use Rattle.om_image.specs.declared.map.Target.TheVariants.{Num, Ptr, Code}
use Rattle.om_image.specs.declared.map.MapObj.{MapObj}
use Rattle.om_image.specs.declared.map.MapTable.{MapTable}
use Rattle.om_image.specs.declared.map.MapRegion.{MapRegion}
use Rattle.om_image.specs.declared.map.MapWord.{MapWord}
use Rattle.om_image.specs.declared.map.Map.{Map}
use Rattle.om_image.specs.Layout.{text_base, data_base}

-- ---- the map as bytes: all numbers are little-endian

abbrev pub u32_bytes : ℕ → List ℕ
u32_bytes n = little_bytes 4 n

abbrev pub u64_bytes : ℕ → List ℕ
u64_bytes n = little_bytes 8 n

-- four numbers of four bytes: a kind, an object or a name, a section number, and zero
unfoldable pub key_bytes : ℕ → ℕ → ℕ → List ℕ
key_bytes kind name number = u32_bytes kind ++ u32_bytes name ++ u32_bytes number ++ u32_bytes 0

-- a region's key: kind 1 is a section, 2 a common; a map has no stack, so 4 is no kind
abbrev pub region_key : Region → List ℕ
region_key (Sec obj number) = key_bytes 1 obj number
region_key (Common sym) = key_bytes 2 sym 0
region_key Stack = key_bytes 4 0 0

-- a slot's key: kind 0 is a number, 3 code
abbrev pub slot_key : Target → List ℕ
slot_key (Num n) = key_bytes 0 0 0
slot_key (Ptr region off) = region_key region
slot_key (Code place) = key_bytes 3 place.obj 0

-- its number or its offset
abbrev pub slot_number : Target → ℕ
slot_number (Num n) = n
slot_number (Ptr region off) = off
slot_number (Code place) = place.off

-- a slot, 24 bytes
unfoldable pub slot_bytes : Target → List ℕ
slot_bytes target = slot_key target ++ u64_bytes (slot_number target)

-- an object, 8 bytes: the words of its text, and its table
unfoldable pub object_bytes : MapObj → List ℕ
object_bytes o = u32_bytes o.words ++ u32_bytes o.table

-- a table, 16 bytes: its address, how many slots it has, and zero
unfoldable pub table_bytes : MapTable → List ℕ
table_bytes t = u64_bytes t.start ++ u32_bytes (length t.slots) ++ u32_bytes 0

-- the slots of a table
abbrev pub slots_bytes : MapTable → List ℕ
slots_bytes t = flat_map slot_bytes t.slots

-- a region, 32 bytes: its key, its address and its size
unfoldable pub region_bytes : MapRegion → List ℕ
region_bytes r = region_key r.region ++ u64_bytes r.address ++ u64_bytes r.size

-- bits 30..0 are the position, bit 31 says that the word is kept
abbrev pub position_bits : MapWord → ℕ
position_bits w = if w.kept then w.position + 2 ^ 31 else w.position

-- a source word, 8 bytes: the old word, and its position
unfoldable pub source_bytes : MapWord → List ℕ
source_bytes w = u32_bytes w.old ++ u32_bytes (position_bits w)

-- the first 8 bytes of a map
abbrev pub mark : List ℕ
mark = padded (codes "OMMAP1")

-- the start of a map: its mark, and how many objects, tables, regions and words follow
unfoldable pub map_head : ℕ → ℕ → ℕ → ℕ → List ℕ
map_head objects tables regions words =
    mark ++ u32_bytes objects ++ u32_bytes tables ++ u32_bytes regions ++ u32_bytes words

-- the whole map: its start; the objects, the tables, the slots table by table, the regions, the source words
unfoldable pub map_bytes : Map → List ℕ
map_bytes m =
    map_head (length m.objects) (length m.tables) (length m.regions) (length m.words)
    ++ flat_map object_bytes m.objects ++ flat_map table_bytes m.tables ++ flat_map slots_bytes m.tables
    ++ flat_map region_bytes m.regions ++ flat_map source_bytes m.words

-- how many slots the tables have in all
abbrev pub slot_count : List MapTable → ℕ
slot_count ts = sum_by (λ t. length t.slots) ts

-- the size of a map in bytes
abbrev pub map_size : Map → ℕ
map_size m =
    24 + 8 * length m.objects + 16 * length m.tables + 24 * slot_count m.tables + 32 * length m.regions + 8 * length m.words

-- ---- the sections

abbrev pub text_name : List ℕ
text_name = padded (codes ".text")

abbrev pub data_name : List ℕ
data_name = padded (codes ".data")

abbrev pub bss_name : List ℕ
bss_name = padded (codes ".bss")

abbrev pub map_name : List ℕ
map_name = padded (codes ".ommap")

-- the text's bytes follow the headers, the data's follow the text's, and the map comes last, each at the next multiple
-- of 16
abbrev pub text_place : ℕ
text_place = 368

abbrev pub data_place : ℕ → ℕ
data_place text = round_up (text_place + text) 16

abbrev pub map_place : ℕ → ℕ → ℕ
map_place text bytes = round_up (data_place text + bytes) 16

-- the place that a header names: that of a section of no bytes is 0
abbrev pub named_place : ℕ → ℕ → ℕ
named_place size place = if size == 0 then 0 else place

-- the headers of an image, by the sizes of its sections in bytes; a map is never empty
unfoldable pub image_headers : ℕ → ℕ → ℕ → ℕ → ℕ → ℕ → List ℕ
image_headers entry gp text bytes bss map =
    file_header 4 0 0 ++ optional_header entry gp
    ++ section_header text_name text_base text (named_place text text_place) 0 0
    ++ section_header data_name data_base bytes (named_place bytes (data_place text)) 0 0
    ++ section_header bss_name (data_base + bytes) bss 0 0 0
    ++ section_header map_name 0 map (map_place text bytes) 0 0

-- what stands behind the headers, up to the map: the words and the bytes with zeros in front of each
unfoldable pub image_body : List ℕ → List ℕ → List ℕ
image_body text bytes =
    zeros 8 ++ word_bytes text ++ zeros (data_place (4 * length text) - (text_place + 4 * length text))
    ++ bytes ++ zeros (map_place (4 * length text) (length bytes) - (data_place (4 * length text) + length bytes))

-- the file of an image
unfoldable pub file_of : Image → List ℕ
file_of i =
    image_headers i.entry i.gp (4 * length i.text) (length i.bytes) i.bss (map_size i.map)
    ++ image_body i.text i.bytes ++ map_bytes i.map

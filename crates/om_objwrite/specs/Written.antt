-- The file that an object is written as (the ECOFF object format).
use Rattle.std.specs.Prelude.{ℕ, ◌+◌, ◌-◌, ◌*◌, ◌==◌, Bool, if◌then◌else◌, List, [], ◌∷◌, ◌++◌, length, map, flat_map, unwrap_or}
use Rattle.byteorder.specs.Endian.{little_bytes}
use Rattle.om_fields.specs.Bytes.{zeros}
use Rattle.om_fields.specs.Places.{round_up}
use Rattle.om_fields.specs.Sections.{name_of_number}
use Rattle.om_fields.specs.Headers.{file_header, optional_header, section_header}
use Rattle.om_symtab.specs.declared.symbol.ExtSym.{ExtSym}
use Rattle.om_reloc.specs.declared.reloc.Reloc.{Reloc}
use Rattle.om_reloc.specs.declared.reloc.RelocKind.{RelocKind}
use Rattle.om_reloc.specs.Relocs.{kind_code}
use Rattle.om_object.specs.declared.parts.Section.{Section}
use Rattle.om_object.specs.declared.parts.Parts.{Parts}

-- ---- blocks of bytes one after the other, each that is not empty at the next multiple of a number

-- where a block of n bytes begins that follows the place `at`; 0 where it is empty
abbrev pub block_place : ℕ → ℕ → ℕ → ℕ
block_place to at n = if n == 0 then 0 else round_up at to

-- where it ends
abbrev pub block_end : ℕ → ℕ → ℕ → ℕ
block_end to at n = if n == 0 then at else round_up at to + n

-- the zeros up to it
abbrev pub block_gap : ℕ → ℕ → ℕ → ℕ
block_gap to at n = if n == 0 then 0 else round_up at to - at

abbrev pub block : ℕ → ℕ → List ℕ → List ℕ
block to at bytes = zeros (block_gap to at (length bytes)) ++ bytes

abbrev pub blocks : ℕ → ℕ → List (List ℕ) → List ℕ
blocks to at [] = []
blocks to at (b ∷ bs) = block to at b ++ blocks to (block_end to at (length b)) bs

abbrev pub blocks_end : ℕ → ℕ → List (List ℕ) → ℕ
blocks_end to at [] = at
blocks_end to at (b ∷ bs) = blocks_end to (block_end to at (length b)) bs

-- ---- relocations

-- the lowest bit says whether an index is a symbol's
abbrev pub external_bit : Bool → ℕ
external_bit external = if external then 1 else 0

-- an entry's last four bytes
abbrev pub kind_bytes : RelocKind → Bool → List ℕ
kind_bytes kind external = kind_code kind ∷ external_bit external ∷ 0 ∷ 0 ∷ []

-- an entry: the address, the index, the type, and whether the index is a symbol's
unfoldable pub reloc_bytes : Reloc → List ℕ
reloc_bytes r =
    little_bytes 8 r.place ++ little_bytes 4 r.index ++ kind_bytes r.kind r.external

abbrev pub table_of : Section → List ℕ
table_of s = flat_map reloc_bytes s.relocs

-- ---- sections

-- a loaded section's name, 8 bytes
abbrev pub name_bytes : ℕ → List ℕ
name_bytes n = unwrap_or (name_of_number n) (zeros 8)

-- the headers of sections whose bytes follow one place, and whose relocations follow another
abbrev pub section_headers : ℕ → ℕ → List Section → List ℕ
section_headers bodies tables [] = []
section_headers bodies tables (s ∷ ss) =
    section_header (name_bytes s.number) s.addr s.size (block_place 16 bodies (length s.bytes))
    (block_place 8 tables (length (table_of s))) (length s.relocs)
    ++ section_headers (block_end 16 bodies (length s.bytes)) (block_end 8 tables (length (table_of s))) ss

abbrev pub bodies : List Section → List (List ℕ)
bodies ss = map (λ s. s.bytes) ss

abbrev pub tables : List Section → List (List ℕ)
tables ss = map table_of ss

-- ---- symbols

-- the symbolic header's first 48 bytes: the magic number, the size of the strings, and the number of symbols
abbrev pub counts_part : ℕ → ℕ → List ℕ
counts_part symbols size =
    little_bytes 2 0x1992 ++ zeros 30 ++ little_bytes 4 size ++ zeros 8 ++ little_bytes 4 symbols

-- the symbolic header at a place: those, and where the strings and the symbols stand
unfoldable pub symbolic_header : ℕ → ℕ → ℕ → List ℕ
symbolic_header at symbols size =
    counts_part symbols size ++ zeros 64
    ++ little_bytes 8 (at + 144 + 24 * symbols) ++ zeros 16 ++ little_bytes 8 (at + 144)

-- the value, the index of the name in the strings, and the storage class above the 6 bits of the type
unfoldable pub symbol_bytes : ExtSym → ℕ → List ℕ
symbol_bytes y index = little_bytes 8 y.value ++ little_bytes 4 index ++ little_bytes 4 (64 * y.class) ++ zeros 8

abbrev pub symbol_table : ℕ → List ExtSym → List ℕ
symbol_table index [] = []
symbol_table index (y ∷ ys) = symbol_bytes y index ++ symbol_table (index + length y.name + 1) ys

-- each name with a zero byte
abbrev pub string_of : ExtSym → List ℕ
string_of y = y.name ++ 0 ∷ []

abbrev pub strings : List ExtSym → List ℕ
strings ys = flat_map string_of ys

-- ---- the file

-- the sections' bytes follow the headers, their relocations follow those, and the symbols come last
abbrev pub bodies_at : Parts → ℕ
bodies_at p = 104 + 64 * length p.sections

abbrev pub tables_at : Parts → ℕ
tables_at p = blocks_end 16 (bodies_at p) (bodies p.sections)

abbrev pub tables_end : Parts → ℕ
tables_end p = blocks_end 8 (tables_at p) (tables p.sections)

abbrev pub symbolic_at : Parts → ℕ
symbolic_at p = round_up (tables_end p) 8

abbrev pub headers_part : Parts → List ℕ
headers_part p =
    file_header (length p.sections) (symbolic_at p) 144 ++ optional_header 0 p.gp
    ++ section_headers (bodies_at p) (tables_at p) p.sections

abbrev pub sections_part : Parts → List ℕ
sections_part p =
    blocks 16 (bodies_at p) (bodies p.sections) ++ blocks 8 (tables_at p) (tables p.sections)
    ++ zeros (symbolic_at p - tables_end p)

abbrev pub symbols_part : Parts → List ℕ
symbols_part p =
    symbolic_header (symbolic_at p) (length p.symbols) (length (strings p.symbols)) ++ symbol_table 0 p.symbols
    ++ strings p.symbols

unfoldable pub file_of : Parts → List ℕ
file_of p = headers_part p ++ sections_part p ++ symbols_part p

-- The headers of object files and images, as bytes (the ECOFF object format).
use Rattle.std.specs.Prelude.{ℕ, List, ◌++◌}
use Rattle.byteorder.specs.Endian.{little_bytes}
use Rattle.om_fields.specs.Bytes.{zeros}

-- the file header: the magic number, the number of sections, the time, the symbolic header's place and size,
-- the optional header's size and the flags
unfoldable pub file_header : ℕ → ℕ → ℕ → List ℕ
file_header sections symbols_at symbols_size =
    little_bytes 2 0x0183 ++ little_bytes 2 sections ++ zeros 4 ++ little_bytes 8 symbols_at
    ++ little_bytes 4 symbols_size ++ little_bytes 2 80 ++ zeros 2

-- the optional header, with the entry at 32 and the GP value at 72
unfoldable pub optional_header : ℕ → ℕ → List ℕ
optional_header entry gp = zeros 32 ++ little_bytes 8 entry ++ zeros 32 ++ little_bytes 8 gp

-- the first half of a section header: the name, the physical address, the address and the size
unfoldable pub section_place : List ℕ → ℕ → ℕ → List ℕ
section_place name address size = name ++ zeros 8 ++ little_bytes 8 address ++ little_bytes 8 size

-- a section header: after that half, the place of the bytes and of the relocations, that of the line numbers,
-- the number of relocations and of line numbers, and the flags
unfoldable pub section_header : List ℕ → ℕ → ℕ → ℕ → ℕ → ℕ → List ℕ
section_header name address size bytes_at relocs_at relocs =
    section_place name address size ++ little_bytes 8 bytes_at ++ little_bytes 8 relocs_at ++ zeros 8
    ++ little_bytes 2 relocs ++ zeros 6

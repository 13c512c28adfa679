-- The fields of an object file's headers, and the rules on them, each as the places where it is broken.
-- Offsets are those of the ECOFF object format for Alpha (its headers filehdr, aouthdr and scnhdr): the file header of
-- 24 bytes, the optional header of 80 bytes behind it, and from 104 on the section headers, of 64 bytes each.
-- All numbers are little-endian.
use Rattle.std.specs.Prelude.{ℕ, ◌+◌, ◌*◌, Bool, false, not, ◌&&◌, ◌||◌, ◌==◌, nat_lt, is_none, List, [], ◌∷◌, length, Option, Some, None}
use Rattle.om_fields.specs.Places.{number_at, bytes_at, each, picked, place_if, is_past}
use Rattle.om_fields.specs.Rules.{Rule}
use Rattle.om_fields.specs.declared.head.SecHead.{SecHead}
use Rattle.om_fields.specs.declared.head.Headers.{Headers}
use Rattle.om_fields.specs.declared.extents.Extent.{Extent}
use Rattle.om_fields.specs.Extents.{is_misplaced}
use Rattle.om_fields.specs.Sections.{number_of_name, is_bss, is_passed_over}

-- f_nscns
abbrev pub section_count : List ℕ → ℕ
section_count file = number_at file 2 2

-- the byte offset of the k-th section header
abbrev pub header_at : ℕ → ℕ
header_at k = 104 + 64 * k

-- the k-th section header: s_name, s_vaddr, s_size, s_scnptr, s_relptr, s_nreloc
abbrev pub head_of : List ℕ → ℕ → SecHead
head_of file k = record {
  name = bytes_at file (header_at k) 8;
  addr = number_at file (header_at k + 16) 8;
  size = number_at file (header_at k + 24) 8;
  bytes_at = number_at file (header_at k + 32) 8;
  relocs_at = number_at file (header_at k + 40) 8;
  relocs = number_at file (header_at k + 56) 2;
}

-- gp_value, at 72 of the optional header; f_symptr; and the section headers in their order
abbrev pub headers_of : List ℕ → Headers
headers_of file = record {
  gp = number_at file 96 8;
  sym_at = number_at file 8 8;
  sections = each (head_of file) (section_count file);
}

-- the number of a section, if it is a loaded one
abbrev pub number_of : List ℕ → ℕ → Option ℕ
number_of file k = number_of_name (bytes_at file (header_at k) 8)

-- the offsets of those section headers of which a test holds, by the section's index
abbrev pub heads_where : (ℕ → Bool) → List ℕ → List ℕ
heads_where test file = picked test header_at (section_count file)

-- rule 1: shorter than a file header, or f_magic is not that of Alpha
abbrev pub rule_1 : List ℕ → List ℕ
rule_1 file = place_if (nat_lt (length file) 24 || not (number_at file 0 2 == 0x183)) 0

-- rule 2: f_opthdr, the optional header's size, is not 80
abbrev pub rule_2 : List ℕ → List ℕ
rule_2 file = place_if (not (number_at file 20 2 == 80)) 20

-- rule 3: too short for all the section headers
abbrev pub rule_3 : List ℕ → List ℕ
rule_3 file = place_if (nat_lt (length file) (104 + 64 * section_count file)) 24

-- a loaded section that has bytes in the file
abbrev pub has_bytes : Option ℕ → Bool
has_bytes None = false
has_bytes (Some n) = not (is_bss n)

-- rule 4: a loaded section with bytes runs past the file's end
abbrev pub runs_past : List ℕ → ℕ → Bool
runs_past file k =
    has_bytes (number_of file k)
    && is_past (length file) (number_at file (header_at k + 32) 8) (number_at file (header_at k + 24) 8)

abbrev pub rule_4 : List ℕ → List ℕ
rule_4 file = heads_where (runs_past file) file

-- rule 24: a section that is neither loaded nor passed over is not empty
abbrev pub is_other : List ℕ → ℕ → Bool
is_other file k =
    is_none (number_of file k) && not (is_passed_over (bytes_at file (header_at k) 8))
    && nat_lt 0 (number_at file (header_at k + 24) 8)

abbrev pub rule_24 : List ℕ → List ℕ
rule_24 file = heads_where (is_other file) file

-- where a section lies, by its header
abbrev pub head_extent : List ℕ → ℕ → Extent
head_extent file k = record {
  number = number_of file k;
  addr = number_at file (header_at k + 16) 8;
  size = number_at file (header_at k + 24) 8;
}

-- rule 6, at the header of the later one: a loaded section whose number an earlier one has, that ends past 2 ^ 63, or
-- that shares an address with an earlier one
abbrev pub rule_6 : List ℕ → List ℕ
rule_6 file = heads_where (is_misplaced (head_extent file)) file

-- the rules on headers that speak of no address
abbrev pub header_rules : List (Rule (List ℕ))
header_rules = (1, rule_1) ∷ (2, rule_2) ∷ (3, rule_3) ∷ (4, rule_4) ∷ []

-- those that a reader of the headers tests early: all but rule 24
abbrev pub early_rules : List (Rule (List ℕ))
early_rules = (1, rule_1) ∷ (2, rule_2) ∷ (3, rule_3) ∷ (4, rule_4) ∷ (6, rule_6) ∷ []

-- all rules that a reader of the headers alone tests
abbrev pub field_rules : List (Rule (List ℕ))
field_rules = (1, rule_1) ∷ (2, rule_2) ∷ (3, rule_3) ∷ (4, rule_4) ∷ (6, rule_6) ∷ (24, rule_24) ∷ []

-- The image that a file holds, and the rules on the files of images, each as the places where it is broken: byte offsets in
-- the file. The headers are those of the ECOFF object format, with the entry at 32 and the GP value at 72 of the optional
-- header; the sections are `.text`, `.data`, `.bss` and `.ommap`.
use Rattle.std.specs.Prelude.{ℕ, ◌+◌, ◌*◌, ◌/◌, ◌%◌, Bool, not, ◌&&◌, ◌||◌, ◌==◌, if◌then◌else◌, nat_lt, nat_le, is_none, List, [], ◌∷◌, ◌++◌, length, bytes_eq}
use Rattle.om_fields.specs.Bytes.{words_at}
use Rattle.om_fields.specs.Places.{number_at, bytes_at, picked, place_if, is_past}
use Rattle.om_fields.specs.Rules.{Rule}
use Rattle.om_fields.specs.HeaderFields.{section_count, header_at, rule_1, rule_2, rule_3}
use Rattle.om_isa.specs.Words.{instr_of}
use Rattle.om_image.specs.declared.image.Image.{Image}
use Rattle.om_image.specs.declared.part.HeadRule.{HeadRule}
use Rattle.om_image.specs.declared.part.HeadRule.TheVariants.{Named, Inside, Placed}
use Rattle.om_image.specs.Layout.{text_base, data_base, text_limit, data_limit}
use Rattle.om_image.specs.Written.{text_name, data_name, bss_name, map_name}
use Rattle.om_image.specs.MapFields.{map_of, is_map}

-- ---- the sections, by their indices

abbrev pub section_address : List ℕ → ℕ → ℕ
section_address file k = number_at file (header_at k + 16) 8

abbrev pub section_size : List ℕ → ℕ → ℕ
section_size file k = number_at file (header_at k + 24) 8

abbrev pub section_place : List ℕ → ℕ → ℕ
section_place file k = number_at file (header_at k + 32) 8

abbrev pub section_bytes : List ℕ → ℕ → List ℕ
section_bytes file k = bytes_at file (section_place file k) (section_size file k)

-- the image that a file holds
abbrev pub image_of : List ℕ → Image
image_of file = record {
  entry = number_at file 56 8;
  gp = number_at file 96 8;
  text = words_at 0 (section_size file 0 / 4) (section_bytes file 0);
  bytes = section_bytes file 1;
  bss = section_size file 2;
  map = map_of (section_bytes file 3);
}

-- ---- the rules on section headers

-- the names of the sections, in order
abbrev pub name_of : ℕ → List ℕ
name_of k = if k == 0 then text_name else if k == 1 then data_name else if k == 2 then bss_name else map_name

-- their addresses: `.bss` follows the data, and the map has none
abbrev pub address_of : List ℕ → ℕ → ℕ
address_of file k =
    if k == 0 then text_base else if k == 1 then data_base else if k == 2 then data_base + section_size file 1 else 0

-- a size that is no text's
abbrev pub is_uneven : ℕ → Bool
is_uneven size = not (size % 4 == 0) || nat_lt text_limit size

-- the sizes that are too large or uneven: that of the data is tested together with that of `.bss`
abbrev pub is_oversized : List ℕ → ℕ → Bool
is_oversized file k =
    if k == 0 then is_uneven (section_size file 0)
    else (k == 1) && nat_lt data_limit (section_size file 1 + section_size file 2)

-- `.bss` has no bytes in the file
abbrev pub has_bytes : ℕ → Bool
has_bytes k = not (k == 2)

-- a section's header breaks a rule
abbrev pub breaks_head : HeadRule → List ℕ → ℕ → Bool
breaks_head Named file k = not (bytes_eq (name_of k) (bytes_at file (header_at k) 8))
breaks_head Inside file k = has_bytes k && is_past (length file) (section_place file k) (section_size file k)
breaks_head Placed file k = not (section_address file k == address_of file k) || is_oversized file k

-- the headers of the four sections that break a rule
abbrev pub heads_where : HeadRule → List ℕ → List ℕ
heads_where rule file = picked (breaks_head rule file) header_at 4

-- ---- the rules; 1 to 3 are those of object files: a file header with its magic number, the optional header's size, and
-- room for the section headers

-- rule 4: there are four sections, of these names
abbrev pub rule_4 : List ℕ → List ℕ
rule_4 file = if section_count file == 4 then heads_where Named file else 2 ∷ []

-- rule 5: bytes run past the file's end
abbrev pub rule_5 : List ℕ → List ℕ
rule_5 file = heads_where Inside file

-- rule 6: another address, or a size that is too large or uneven
abbrev pub rule_6 : List ℕ → List ℕ
rule_6 file = heads_where Placed file

-- an address of a word of a text of so many bytes
abbrev pub is_entry : ℕ → ℕ → Bool
is_entry size e = (e % 4 == 0) && nat_le text_base e && nat_lt e (text_base + size)

-- rule 7: the entry is no word of the text
abbrev pub rule_7 : List ℕ → List ℕ
rule_7 file = place_if (not (is_entry (section_size file 0) (number_at file 56 8))) 56

-- rule 8: the map is none of this image
abbrev pub rule_8 : List ℕ → List ℕ
rule_8 file = place_if (not (is_map (section_size file 0 / 4) (section_bytes file 3))) (section_place file 3)

-- rule 9: a word of the text is no instruction
abbrev pub is_unreadable : List ℕ → ℕ → Bool
is_unreadable text k = is_none (instr_of (number_at text (4 * k) 4))

abbrev pub rule_9 : List ℕ → List ℕ
rule_9 file =
    picked (is_unreadable (section_bytes file 0)) (λ k. section_place file 0 + 4 * k) (section_size file 0 / 4)

-- the rules on the headers, and those on the rest
abbrev pub head_rules : List (Rule (List ℕ))
head_rules = (1, rule_1) ∷ (2, rule_2) ∷ (3, rule_3) ∷ (4, rule_4) ∷ []

abbrev pub body_rules : List (Rule (List ℕ))
body_rules = (5, rule_5) ∷ (6, rule_6) ∷ (7, rule_7) ∷ (8, rule_8) ∷ (9, rule_9) ∷ []

-- all rules on the files of images
abbrev pub image_rules : List (Rule (List ℕ))
image_rules = head_rules ++ body_rules

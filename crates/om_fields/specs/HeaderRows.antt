-- Worked rows of the headers, from a file of one text of three words and from what little changes make of it.
use Rattle.std.specs.Prelude.{◌≡◌, ℕ, List, [], ◌∷◌, ◌++◌, length, codes, take, drop, Some, None, refl, slice_set}
use Rattle.om_fields.specs.Rules.{first_fault}
use Rattle.om_fields.specs.Sections.{padded, number_of_name, is_passed_over}
use Rattle.om_fields.specs.RowOne.{row_one}
use Rattle.om_fields.specs.HeaderFields.{headers_of, early_rules, field_rules, rule_6}

-- the same file with its section header twice: 64 bytes more in front of the words
abbrev two_texts : List ℕ
two_texts = slice_set (take 168 row_one ++ drop 104 row_one) 2 2

pub row_length : length row_one ≡ 368
row_length = refl

pub row_headers : headers_of row_one ≡ record {
  gp = 0;
  sym_at = 192;
  sections = record { name = padded (codes ".text"); addr = 0; size = 12; bytes_at = 176; relocs_at = 0; relocs = 0 } ∷ [];
}
row_headers = refl

pub row_accepted : first_fault field_rules row_one ≡ None
unfolding number_of_name is_passed_over
row_accepted = refl

pub row_6 : rule_6 row_one ≡ []
unfolding number_of_name is_passed_over
row_6 = refl

pub row_23_bytes : first_fault field_rules (take 23 row_one) ≡ Some (1, 0)
row_23_bytes = refl

pub row_magic : first_fault field_rules (slice_set row_one 1 0x02) ≡ Some (1, 0)
row_magic = refl

pub row_optional_header : first_fault field_rules (slice_set row_one 20 79) ≡ Some (2, 20)
row_optional_header = refl

pub row_167_bytes : first_fault field_rules (take 167 row_one) ≡ Some (3, 24)
row_167_bytes = refl

pub row_187_bytes : first_fault field_rules (take 187 row_one) ≡ Some (4, 104)
unfolding number_of_name is_passed_over
row_187_bytes = refl

pub row_two_sections : first_fault field_rules (slice_set row_one 2 2) ≡ Some (24, 168)
unfolding number_of_name is_passed_over
row_two_sections = refl

-- the early rules leave out 24, and name a second text as the later of two
pub row_two_sections_early : first_fault early_rules (slice_set row_one 2 2) ≡ None
unfolding number_of_name is_passed_over
row_two_sections_early = refl

pub row_two_texts : first_fault field_rules two_texts ≡ Some (6, 168)
unfolding number_of_name is_passed_over
row_two_texts = refl

pub row_two_texts_early : first_fault early_rules two_texts ≡ Some (6, 168)
unfolding number_of_name is_passed_over
row_two_texts_early = refl

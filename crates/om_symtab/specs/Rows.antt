-- Worked rows of the symbols, from a file of one text of three words and from what little changes make of it, and of classes.
use Rattle.std.specs.Prelude.{◌≡◌, ℕ, map, filter, List, [], ◌∷◌, codes, take, Some, None, refl, slice_set}
use Rattle.om_fields.specs.Rules.{first_fault}
use Rattle.om_fields.specs.RowOne.{row_one}
use Rattle.om_symtab.specs.Symbols.{symbols_of, symbol_rules, symbols_place}
use Rattle.om_symtab.specs.Classes.{section_of_class, is_defining, is_naming}

pub row_symbols : symbols_of row_one 192 ≡ record { name = codes "__start"; value = 0; class = 1 } ∷ []
row_symbols = refl

pub row_none : symbols_of row_one 0 ≡ []
row_none = refl

pub row_accepted : first_fault (symbol_rules 192) row_one ≡ None
row_accepted = refl

pub row_188_bytes : first_fault (symbol_rules 192) (take 188 row_one) ≡ Some (7, 192)
row_188_bytes = refl

pub row_index : first_fault (symbol_rules 192) (slice_set row_one 344 8) ≡ Some (8, 336)
row_index = refl

pub row_no_zero : first_fault (symbol_rules 192) (slice_set row_one 367 0x61) ≡ Some (8, 336)
row_no_zero = refl

pub row_place : symbols_place row_one 192 ≡ 336
row_place = refl

-- another magic number, a table of strings and one of symbols past the end, and an empty one there
pub row_magic : first_fault (symbol_rules 192) (slice_set row_one 192 0x93) ≡ Some (7, 192)
row_magic = refl

pub row_strings_past : first_fault (symbol_rules 192) (slice_set row_one 224 9) ≡ Some (7, 192)
row_strings_past = refl

pub row_symbols_past : first_fault (symbol_rules 192) (slice_set row_one 236 2) ≡ Some (7, 192)
row_symbols_past = refl

pub row_empty_past : first_fault (symbol_rules 192) (slice_set (slice_set row_one 236 0) 335 0xff) ≡ None
row_empty_past = refl

-- the last zero of the strings is an empty name
pub row_empty_name : symbols_of (slice_set row_one 344 7) 192 ≡ record { name = []; value = 0; class = 1 } ∷ []
row_empty_name = refl

-- the type stands in the low 6 of the bits, the class in the next 5: 0xef bf is type 3f and class 1e
pub row_bits : symbols_of (slice_set (slice_set row_one 348 0xbf) 349 0xef) 192 ≡ record { name = codes "__start"; value = 0; class = 30 } ∷ []
row_bits = refl

-- what the classes from 0 to 31 are
abbrev pub classes : List ℕ
classes =
    0 ∷ 1 ∷ 2 ∷ 3 ∷ 4 ∷ 5 ∷ 6 ∷ 7 ∷ 8 ∷ 9 ∷ 10 ∷ 11 ∷ 12 ∷ 13 ∷ 14 ∷ 15 ∷ 16 ∷ 17 ∷ 18 ∷ 19 ∷ 20 ∷ 21 ∷ 22 ∷ 23 ∷ 24 ∷ 25 ∷ 26 ∷ 27
    ∷ 28 ∷ 29 ∷ 30 ∷ 31 ∷ []

pub row_defining : filter is_defining classes ≡ 1 ∷ 2 ∷ 3 ∷ 5 ∷ 13 ∷ 14 ∷ 15 ∷ 27 ∷ []
unfolding section_of_class
row_defining = refl

pub row_naming : filter is_naming classes ≡ 1 ∷ 2 ∷ 3 ∷ 5 ∷ 6 ∷ 13 ∷ 14 ∷ 15 ∷ 17 ∷ 18 ∷ 21 ∷ 27 ∷ []
unfolding section_of_class
row_naming = refl

pub row_sections : map section_of_class (1 ∷ 2 ∷ 3 ∷ 5 ∷ 13 ∷ 14 ∷ 15 ∷ 17 ∷ 27 ∷ [])
    ≡ Some 1 ∷ Some 3 ∷ Some 6 ∷ None ∷ Some 4 ∷ Some 5 ∷ Some 2 ∷ None ∷ Some 15 ∷ []
unfolding section_of_class
row_sections = refl

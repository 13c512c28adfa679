-- The symbolic header, the external symbols, and the rules on them, each as the places where it is broken.
-- Offsets are those of the ECOFF object format for Alpha (its sym.h): the symbolic header has 144 bytes, an external symbol
-- 24, and all numbers are little-endian.
use Rattle.std.specs.Prelude.{◌≡◌, ◌≢◌, false, ℕ, ◌+◌, ◌*◌, ◌/◌, ◌%◌, Bool, not, ◌||◌, ◌==◌, if◌then◌else◌, List, [], ◌∷◌, length, drop, take_while, is_none, find}
use Rattle.om_fields.specs.Places.{number_at, bytes_at, each, picked, place_if, is_past}
use Rattle.om_fields.specs.Rules.{Rule}
use Rattle.om_symtab.specs.declared.symbol.ExtSym.{ExtSym}

-- a file's bytes with the place of its symbolic header, 0 where there is none
module _ (file : List ℕ) (at : ℕ) where
  -- issExtMax, the size of the external strings in bytes
  abbrev pub strings_size : ℕ
  strings_size = number_at file (at + 32) 4

  -- cbSsExtOffset, the offset of the external strings
  abbrev pub strings_at : ℕ
  strings_at = number_at file (at + 112) 8

  -- iextMax, the number of external symbols
  abbrev pub symbol_count : ℕ
  symbol_count = if at == 0 then 0 else number_at file (at + 44) 4

  -- cbExtOffset, the offset of the external symbols
  abbrev pub symbols_at : ℕ
  symbols_at = number_at file (at + 136) 8

  -- where the symbols stand; 0 where there is none
  abbrev pub symbols_place : ℕ
  symbols_place = if symbol_count == 0 then 0 else symbols_at

  -- the names' bytes, each name with a zero behind it
  abbrev pub strings : List ℕ
  strings = bytes_at file strings_at strings_size

  -- where the j-th symbol stands
  abbrev pub symbol_at : ℕ → ℕ
  symbol_at j = symbols_at + 24 * j

  -- the strings from the index of the j-th symbol's name on; nothing where the index is outside of them
  abbrev pub name_onward : ℕ → List ℕ
  name_onward j = drop (number_at file (symbol_at j + 8) 4) strings

  -- the j-th symbol: its value at 0, its name's index at 8, and at 12 bits of which the low 6 are its type and the next 5
  -- its storage class
  abbrev pub symbol_of : ℕ → ExtSym
  symbol_of j = record {
    name = take_while (λ c. not (c == 0)) (name_onward j);
    value = number_at file (symbol_at j) 8;
    class = number_at file (symbol_at j + 12) 4 / 64 % 32;
  }

  -- all symbols in their order
  abbrev pub symbols_of : List ExtSym
  symbols_of = each symbol_of symbol_count

  -- rule 7, at the symbolic header: it or one of its two tables runs past the file's end, or its magic number is another
  abbrev pub is_no_table : Bool
  is_no_table =
      is_past (length file) at 144 || not (number_at file at 2 == 0x1992)
      || is_past (length file) strings_at strings_size || is_past (length file) symbols_at (24 * symbol_count)

  abbrev pub table_places : List ℕ
  table_places = if at == 0 then [] else place_if is_no_table at

  -- rule 8, at the symbol: its name's index is outside the strings, or no zero byte stands in them from there on
  abbrev pub is_unended : ℕ → Bool
  is_unended j = is_none (find (λ c. c == 0) (name_onward j))

  abbrev pub name_places : List ℕ
  name_places = picked is_unended symbol_at symbol_count

-- the rules on symbols, for a file whose symbolic header stands at a place
abbrev pub rule_7 : ℕ → List ℕ → List ℕ
rule_7 at file = table_places file at

abbrev pub rule_8 : ℕ → List ℕ → List ℕ
rule_8 at file = name_places file at

abbrev pub symbol_rules : ℕ → List (Rule (List ℕ))
symbol_rules at = (7, rule_7 at) ∷ (8, rule_8 at) ∷ []

-- a file has no symbolic header, or one whose tables lie in it
pub record HasTables (file : List ℕ) (at : ℕ) : Type 0 where
  pub kept : at ≢ 0 → is_no_table file at ≡ false

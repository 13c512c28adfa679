-- The loaded sections: their numbers and names. The numbers are those by which relocation entries of the ECOFF object
-- format name sections (R_SN_TEXT, R_SN_RDATA, .. of its reloc.h).
use Rattle.std.specs.Prelude.{ℕ, ◌-◌, Bool, ◌||◌, ◌==◌, List, [], ◌∷◌, ◌++◌, length, replicate, codes, find, Option, option_map, bytes_eq}

-- a name as it stands in a header: 8 bytes, padded with zeros
abbrev pub padded : List ℕ → List ℕ
padded name = name ++ replicate (8 - length name) 0

-- each loaded section's number and name; 7, 10, 11, 12 and 14 are no loaded section's
abbrev pub loaded_sections : List (ℕ × List ℕ)
loaded_sections =
    (1, padded (codes ".text"))
    ∷ (2, padded (codes ".rdata"))
    ∷ (3, padded (codes ".data"))
    ∷ (4, padded (codes ".sdata"))
    ∷ (5, padded (codes ".sbss"))
    ∷ (6, padded (codes ".bss"))
    ∷ (8, padded (codes ".lit8"))
    ∷ (9, padded (codes ".lit4"))
    ∷ (13, padded (codes ".lita"))
    ∷ (15, padded (codes ".rconst")) ∷ []

-- the number of a loaded section by its name
unfoldable pub number_of_name : List ℕ → Option ℕ
number_of_name name = option_map (λ s. s.0) (find (λ s. bytes_eq s.1 name) loaded_sections)

-- the name of a loaded section by its number
abbrev pub name_of_number : ℕ → Option (List ℕ)
name_of_number n = option_map (λ s. s.1) (find (λ s. s.0 == n) loaded_sections)

-- `.sbss` and `.bss` have a size and no bytes in the file
abbrev pub is_bss : ℕ → Bool
is_bss n = (n == 5) || (n == 6)

-- names of sections that are not loaded and whose size may be above 0: tables for unwinding, and remarks
unfoldable pub is_passed_over : List ℕ → Bool
is_passed_over name =
    bytes_eq (padded (codes ".xdata")) name || bytes_eq (padded (codes ".pdata")) name || bytes_eq (padded (codes ".comment")) name

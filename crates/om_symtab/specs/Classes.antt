-- Storage classes of symbols: the numbers of the ECOFF object format (scText, scData, .. of its symconst.h). A symbol of a
-- class that no word here names neither defines nor refers.
use Rattle.std.specs.Prelude.{ℕ, Bool, ◌||◌, ◌==◌, is_some, List, [], ◌∷◌, find, Option, option_map}

-- the classes that define an address, each with its section's number: Text 1 in `.text`, Data 2 in `.data`, Bss 3 in `.bss`,
-- SData 13 in `.sdata`, SBss 14 in `.sbss`, RData 15 in `.rdata`, RConst 27 in `.rconst`
abbrev pub address_classes : List (ℕ × ℕ)
address_classes = (1, 1) ∷ (2, 3) ∷ (3, 6) ∷ (13, 4) ∷ (14, 5) ∷ (15, 2) ∷ (27, 15) ∷ []

-- the section in which a symbol of a class defines an address, if it does
unfoldable pub section_of_class : ℕ → Option ℕ
section_of_class class = option_map (λ c. c.1) (find (λ c. c.0 == class) address_classes)

-- Abs 5: the value is a number, and no address
abbrev pub is_absolute : ℕ → Bool
is_absolute class = class == 5

-- Common 17 and SCommon 18: the value is the size of what is wanted
abbrev pub is_common : ℕ → Bool
is_common class = (class == 17) || (class == 18)

-- Undefined 6 and SUndefined 21: the name is defined elsewhere
abbrev pub is_undefined : ℕ → Bool
is_undefined class = (class == 6) || (class == 21)

-- the symbol defines an address or a number
abbrev pub is_defining : ℕ → Bool
is_defining class = is_absolute class || is_some (section_of_class class)

-- whether a symbol of the class defines or refers
abbrev pub is_naming : ℕ → Bool
is_naming class = is_defining class || is_common class || is_undefined class

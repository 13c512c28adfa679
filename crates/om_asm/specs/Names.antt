-- Names in a text: 1 to 255 letters, digits, `_` and `$`, of which the first is a letter or `_`, and which are no register.
use Rattle.std.specs.Prelude.{ℕ, ◌==◌, Bool, false, not, ◌&&◌, ◌||◌, nat_lt, nat_le, List, [], ◌∷◌, length, bytes_eq}
use Rattle.std.specs.List.{list_all, list_any}
use Rattle.om_fields.specs.Places.{each}
use Rattle.om_listing.specs.Texts.{register_text}
use Rattle.om_asm.specs.Numerals.{is_digit}

abbrev pub Name : Type 0
Name = List ℕ

abbrev pub is_letter : ℕ → Bool
is_letter c = (nat_le 65 c && nat_le c 90) || (nat_le 97 c && nat_le c 122)

abbrev pub starts_name : ℕ → Bool
starts_name c = is_letter c || (c == 95)

abbrev pub in_name : ℕ → Bool
in_name c = starts_name c || (is_digit c || (c == 36))

abbrev pub is_register : List ℕ → Bool
is_register text = list_any (bytes_eq text) (each register_text 32)

abbrev pub is_name : List ℕ → Bool
is_name [] = false
is_name (c ∷ cs) = starts_name c && (list_all in_name cs && (nat_lt (length cs) 255 && not (is_register (c ∷ cs))))

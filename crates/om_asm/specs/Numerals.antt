-- Numbers as a text spells them: a sign, and digits of one of two bases, which may begin with zeros.
use Rattle.std.specs.Prelude.{ℕ, zero, suc, ◌+◌, ◌-◌, ◌*◌, ℤ, pos, negsuc, Bool, true, false, not, ◌&&◌, ◌||◌, ◌==◌, nat_lt, nat_le, if◌then◌else◌, List, [], ◌∷◌, ◌++◌, length, codes}
use Rattle.std.specs.List.{list_all}

abbrev pub is_digit : ℕ → Bool
is_digit c = nat_le 48 c && nat_le c 57

abbrev pub is_hex_digit : ℕ → Bool
is_hex_digit c = is_digit c || ((nat_le 65 c && nat_le c 70) || (nat_le 97 c && nat_le c 102))

abbrev pub digit_of : ℕ → ℕ
digit_of c = if nat_le c 57 then c - 48 else if nat_le c 70 then c - 55 else c - 87

-- the value of digits in a base that stand behind others of this value
abbrev pub value_behind : ℕ → ℕ → List ℕ → ℕ
value_behind base before [] = before
value_behind base before (c ∷ cs) = value_behind base (base * before + digit_of c) cs

pub record Numeral : Type 0 where
  pub minus : Bool
  pub hex : Bool
  pub digits : List ℕ

abbrev pub base_of : Bool → ℕ
base_of hex = if hex then 16 else 10

abbrev pub magnitude : Numeral → ℕ
magnitude n = value_behind (base_of n.hex) 0 n.digits

abbrev pub signed : Bool → ℕ → ℤ
signed false n = pos n
signed true zero = pos 0
signed true (suc n) = negsuc n

abbrev pub value_of : Numeral → ℤ
value_of n = signed n.minus (magnitude n)

abbrev pub sign_text : Bool → List ℕ
sign_text minus = if minus then codes "-" else []

abbrev pub base_text : Bool → List ℕ
base_text hex = if hex then codes "0x" else []

abbrev pub numeral_text : Numeral → List ℕ
numeral_text n = sign_text n.minus ++ base_text n.hex ++ n.digits

abbrev pub are_digits : Bool → List ℕ → Bool
are_digits hex digits = nat_lt 0 (length digits) && list_all (if hex then is_hex_digit else is_digit) digits

abbrev pub is_numeral : Numeral → Bool
is_numeral n = are_digits n.hex n.digits

-- a number with this sign and size is -low to high
abbrev pub is_sized : ℕ → ℕ → Bool → ℕ → Bool
is_sized low high minus size = nat_le size (if minus then low else high)

-- ---- numbers as an instruction's text has them: decimal, without leading zeros, and 0 has no sign

abbrev pub begins_zero : List ℕ → Bool
begins_zero [] = false
begins_zero (c ∷ cs) = c == 48

abbrev pub is_plain_digits : List ℕ → Bool
is_plain_digits digits = are_digits false digits && (not (begins_zero digits) || (length digits == 1))

abbrev pub is_plain : Numeral → Bool
is_plain n = not n.hex && (is_plain_digits n.digits && not (n.minus && begins_zero n.digits))

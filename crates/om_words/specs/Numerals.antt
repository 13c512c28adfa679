-- Numbers in words: decimal digits, as codes of ASCII.
use Rattle.std.specs.Prelude.{ℕ, ◌+◌, ◌-◌, ◌*◌, ◌^◌, nat_le, nat_lt, ◌&&◌, Bool, true, List, [], ◌∷◌, length, if◌then◌else◌, Option, Some, None}

abbrev pub is_digit : ℕ → Bool
is_digit c = nat_le 48 c && nat_le c 57

abbrev pub are_digits : List ℕ → Bool
are_digits [] = true
are_digits (c ∷ cs) = is_digit c && are_digits cs

-- the value of digits that stand behind others of this value
abbrev pub value_behind : ℕ → List ℕ → ℕ
value_behind before [] = before
value_behind before (c ∷ cs) = value_behind (10 * before + (c - 48)) cs

abbrev pub value_of : List ℕ → ℕ
value_of word = value_behind 0 word

-- a number of a sentence: 1 to 20 digits, with a value below 2 ^ 64
abbrev pub is_number : List ℕ → Bool
is_number word = nat_le 1 (length word) && (nat_le (length word) 20 && (are_digits word && nat_lt (value_of word) (2 ^ 64)))

-- the number that a word says, where it says one
abbrev pub number_in : List ℕ → Option ℕ
number_in word = if is_number word then Some (value_of word) else None

-- the same; 0 where it says none
abbrev pub number_said : List ℕ → ℕ
number_said word = if is_number word then value_of word else 0

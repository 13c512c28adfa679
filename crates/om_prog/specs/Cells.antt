-- Cells of memory: bytes, lowest first as on Alpha (Handbook, chapter 2, "Data Types"), and fragments of values
-- that have no number, which are this project's own.
use Rattle.std.specs.Prelude.{ℕ, zero, suc, ◌+◌, ◌-◌, ◌*◌, ◌/◌, ◌%◌, Bool, false, ◌&&◌, ◌==◌, nat_le, nat_lt, if◌then◌else◌, List, [], ◌∷◌, length, Option, Some, None, slice_index_or, option_map}
use Rattle.om_value.specs.declared.value.Value.{Value}
use Rattle.om_value.specs.declared.value.Value.TheVariants.{Num}
use Rattle.om_value.specs.Same.{value_eq}

pub data Cell : Type 0 where
  Byte : (byte : ℕ) → Cell
  -- fragment i of n of a value
  Part : (value : Value) (i n : ℕ) → Cell

-- the n bytes of a number, lowest first
abbrev pub bytes_of : ℕ → ℕ → List Cell
bytes_of zero m = []
bytes_of (suc n) m = Byte (m % 256) ∷ bytes_of n (m / 256)

-- the fragments from i on, count of them, of a value of n
abbrev pub parts_from : Value → ℕ → ℕ → ℕ → List Cell
parts_from v i zero n = []
parts_from v i (suc count) n = Part v i n ∷ parts_from v (i + 1) count n

-- what n cells hold a value: bytes for a number, else its fragments
abbrev pub cells_of : ℕ → Value → List Cell
cells_of n (Num m) = bytes_of n m
cells_of n v = parts_from v 0 n n

-- the bytes, where all cells are bytes
abbrev pub with_byte : Cell → Option (List ℕ) → Option (List ℕ)
with_byte (Byte b) rest = option_map (λ bs. b ∷ bs) rest
with_byte (Part v i n) rest = None

abbrev pub all_bytes : List Cell → Option (List ℕ)
all_bytes [] = Some []
all_bytes (c ∷ cs) = with_byte c (all_bytes cs)

-- the number that bytes spell, lowest first
abbrev pub number_of : List ℕ → ℕ
number_of [] = 0
number_of (b ∷ bs) = b + 256 * number_of bs

-- the cells are fragments i, i + 1, .. to the end, of a value of n
abbrev pub is_part : Value → ℕ → ℕ → Cell → Bool
is_part v i n (Byte b) = false
is_part v i n (Part w j m) = value_eq v w && (i == j) && (n == m)

abbrev pub are_parts : Value → ℕ → ℕ → List Cell → Bool
are_parts v i n [] = i == n
are_parts v i n (c ∷ cs) = is_part v i n c && are_parts v (i + 1) n cs

-- the value that cells hold, where they are its fragments in order
abbrev pub whole_value : List Cell → Option Value
whole_value [] = None
whole_value (Byte b ∷ cs) = None
whole_value (Part v i n ∷ cs) = if are_parts v 0 n (Part v i n ∷ cs) then Some v else None

-- the value that cells hold, if any
abbrev pub or_whole : Option (List ℕ) → List Cell → Option Value
or_whole (Some bs) cs = Some (Num (number_of bs))
or_whole None cs = whole_value cs

abbrev pub value_in : List Cell → Option Value
value_in cs = or_whole (all_bytes cs) cs

-- n cells from x on
abbrev pub cells_from : (ℕ → Cell) → ℕ → ℕ → List Cell
cells_from cell x zero = []
cells_from cell x (suc n) = cell x ∷ cells_from cell (x + 1) n

-- what a load of the n cells from x on finds, if they hold a value
abbrev pub load_cells : (ℕ → Cell) → ℕ → ℕ → Option Value
load_cells cell x n = value_in (cells_from cell x n)

-- the cells after a write of cs at x
abbrev pub store_cells : (ℕ → Cell) → ℕ → List Cell → ℕ → Cell
store_cells cell x cs y =
    if nat_le x y && nat_lt y (x + length cs) then slice_index_or cs (y - x) (Byte 0) else cell y

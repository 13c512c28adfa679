-- Lists of places, and what stands at places of a file.
use Rattle.std.specs.Prelude.{◌≡◌, ◌⊎◌, ℕ, zero, suc, ◌+◌, ◌-◌, ◌*◌, ◌/◌, ◌%◌, ◌^◌, min, Bool, true, false, ◌&&◌, nat_lt, List, [], ◌∷◌, ◌++◌, length, take, drop, Option, Some, None}
pub use Rattle.std.specs.List.{list_any as any_of}
use Rattle.byteorder.specs.Endian.{little_from}

-- the number in the n bytes from a place on, the lowest byte first
abbrev pub number_at : List ℕ → ℕ → ℕ → ℕ
number_at file at n = little_from at n file

-- the n bytes from a place on
abbrev pub bytes_at : List ℕ → ℕ → ℕ → List ℕ
bytes_at file at n = take n (drop at file)

-- f k, f (k + 1), .., n of them
abbrev pub each_from : {X : Type 0} → (ℕ → X) → ℕ → ℕ → List X
each_from f k zero = []
each_from f k (suc n) = f k ∷ each_from f (k + 1) n

-- f 0, f 1, .., n of them
abbrev pub each : {X : Type 0} → (ℕ → X) → ℕ → List X
each f n = each_from f 0 n

-- an item in front of others, where a test says so
abbrev pub put_if : {X : Type 0} → Bool → X → List X → List X
put_if true x xs = x ∷ xs
put_if false x xs = xs

-- among the indices k, k + 1, .. (n of them): what stands for those that a test picks
abbrev pub picked_from : {X : Type 0} → (ℕ → Bool) → (ℕ → X) → ℕ → ℕ → List X
picked_from test place k zero = []
picked_from test place k (suc n) = put_if (test k) (place k) (picked_from test place (k + 1) n)

-- the same among the indices below n
abbrev pub picked : {X : Type 0} → (ℕ → Bool) → (ℕ → X) → ℕ → List X
picked test place n = picked_from test place 0 n

-- f k ++ f (k + 1) ++ .., n of them
abbrev pub joined_from : {X : Type 0} → (ℕ → List X) → ℕ → ℕ → List X
joined_from f k zero = []
joined_from f k (suc n) = f k ++ joined_from f (k + 1) n

-- the same from f 0 on
abbrev pub joined : {X : Type 0} → (ℕ → List X) → ℕ → List X
joined f n = joined_from f 0 n

-- one place, where a test says so
abbrev pub place_if : Bool → ℕ → List ℕ
place_if b at = put_if b at []

-- the lesser of a number and another, if there is another
abbrev pub lesser : ℕ → Option ℕ → Option ℕ
lesser x None = Some x
lesser x (Some y) = Some (min x y)

-- the least of some places, if there are any
abbrev pub least : List ℕ → Option ℕ
least [] = None
least (x ∷ xs) = lesser x (least xs)

-- the lesser of two numbers, if there are any
abbrev pub lesser_of : Option ℕ → Option ℕ → Option ℕ
lesser_of None o = o
lesser_of (Some x) o = lesser x o

-- in a file of `length` bytes, the range of `size` bytes from the offset `at` on is not empty and passes the end
abbrev pub is_past : ℕ → ℕ → ℕ → Bool
is_past length at size = nat_lt 0 size && nat_lt length (at + size)

-- a - b modulo 2 ^ 64
abbrev pub minus_64 : ℕ → ℕ → ℕ
minus_64 a b = (a + (2 ^ 64 - b)) % 2 ^ 64

-- the least multiple of `to` that is not below n
abbrev pub round_up : ℕ → ℕ → ℕ
round_up n to = (n + (to - 1)) / to * to

-- a number stands in a list
abbrev pub IsAmong : List ℕ → ℕ → Type 0
IsAmong [] p = ⊥
IsAmong (x ∷ xs) p = (x ≡ p) ⊎ IsAmong xs p

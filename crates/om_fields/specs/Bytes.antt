-- Lists of bytes that are read and written.
use Rattle.std.specs.Prelude.{◌≡◌, ℕ, zero, suc, ◌+◌, List, [], ◌∷◌, ◌++◌, replicate, flat_map}
use Rattle.byteorder.specs.Endian.{little_from, little_bytes}

-- n bytes of zero
abbrev pub zeros : ℕ → List ℕ
zeros n = replicate n 0

-- words as bytes, four bytes each
abbrev pub word_bytes : List ℕ → List ℕ
word_bytes words = flat_map (little_bytes 4) words

-- the words that stand from a place on
abbrev pub words_at : ℕ → ℕ → List ℕ → List ℕ
words_at place zero bytes = []
words_at place (suc count) bytes = little_from place 4 bytes ∷ words_at (place + 4) count bytes

-- what was written grew by these bytes
pub record Grows (old new bytes : List ℕ) : Type 0 where
  pub by : new ≡ old ++ bytes

-- what was written is still there, and something may follow it
pub record KeepsFront (old new : List ℕ) : Type 0 where
  pub more : List ℕ
  pub grows : Grows old new more

-- Where the zero bytes of a list end.
use Rattle.std.specs.Prelude.{ℕ, zero, suc, ◌==◌, if◌then◌else◌, List, [], ◌∷◌}

-- one byte in front of bytes whose zeros end there
abbrev pub end_behind : ℕ → ℕ → ℕ
end_behind b zero = if b == 0 then 1 else 0
end_behind b (suc n) = suc (suc n)

-- one more than the index of the last zero, or 0
abbrev pub zero_end : List ℕ → ℕ
zero_end [] = 0
zero_end (b ∷ bs) = end_behind b (zero_end bs)

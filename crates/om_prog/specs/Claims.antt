-- Fields by the words of four bytes that they take: each begins at a multiple of its width, which is 4 or 8.
use Rattle.std.specs.Prelude.{◌≡◌, ◌⊎◌, ℕ, ◌+◌, ◌*◌, ◌/◌, ◌%◌, Bool, ◌&&◌, ◌||◌, ◌==◌, nat_lt, nat_le, List}
use Rattle.std.specs.List.{list_any}
use Rattle.std.specs.BTreeSet.{contains}
use Rattle.std.specs.Ordering.{nat_cmp}
use Rattle.om_prog.specs.declared.claims.Claims.{Claims}
use Rattle.om_prog.specs.declared.item.Field.{Field}

pub record IsPlaced (f : Field) : Type 0 where
  pub aligned : f.off % 4 ≡ 0
  pub width : (f.width ≡ 4) ⊎ (f.width ≡ 8)

-- the field takes a word
abbrev pub covers_word : ℕ → Field → Bool
covers_word word f = nat_le f.off (4 * word) && nat_lt (4 * word) (f.off + f.width)

abbrev pub is_claimed : Claims → ℕ → Bool
is_claimed c word = contains nat_cmp c.words word

-- just the words of these fields were claimed
pub record HasClaims (c : Claims) (fields : List Field) : Type 0 where
  pub holds : (word : ℕ) → is_claimed c word ≡ list_any (covers_word word) fields

-- the words of a field
abbrev pub first_word : Field → ℕ
first_word f = f.off / 4

-- one of its words was claimed before
abbrev pub is_taken : Claims → Field → Bool
is_taken c f = is_claimed c (first_word f) || ((f.width == 8) && is_claimed c (first_word f + 1))

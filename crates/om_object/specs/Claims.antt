-- Bytes of fields that were claimed.
use Rattle.std.specs.Prelude.{◌≡◌, ℕ, Bool, false, ◌==◌, nat_lt, if◌then◌else◌, List, [], ◌∷◌, length, slice_index_or}
use Rattle.std.specs.BTreeSet.{contains}
use Rattle.std.specs.Ordering.{nat_cmp}
use Rattle.om_fields.specs.Places.{any_of}
use Rattle.om_object.specs.declared.claimed.Claimed.{Claimed}

-- a byte was claimed: one of the section's own by its mark, another by the set
abbrev pub is_claimed : Claimed → ℕ → Bool
is_claimed c x = if nat_lt x (length c.inside.items) then slice_index_or c.inside.items x false else contains nat_cmp c.outside x

-- just these bytes were claimed
pub record IsSeen (c : Claimed) (seen : List ℕ) : Type 0 where
  pub holds : (x : ℕ) → is_claimed c x ≡ any_of (λ b. b == x) seen

-- what stands in a list and the bytes that were put behind it
abbrev pub behind : List ℕ → List ℕ → List ℕ
behind seen [] = seen
behind seen (b ∷ bs) = behind (b ∷ seen) bs

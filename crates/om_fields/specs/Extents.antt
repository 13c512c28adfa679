-- Where sections lie: none stands twice, ends past 2 ^ 63, or shares an address with another.
use Rattle.std.specs.Prelude.{◌≡◌, ℕ, ◌+◌, ◌^◌, Bool, false, ◌&&◌, ◌||◌, ◌==◌, nat_lt, is_some, List, Option, Some, None}
use Rattle.om_fields.specs.Places.{any_of, each}
use Rattle.om_fields.specs.declared.extents.Extent.{Extent}

-- the n addresses from a on and the m addresses from b on have one in common; an empty range has no address
abbrev pub shares : ℕ → ℕ → ℕ → ℕ → Bool
shares a n b m = nat_lt 0 n && nat_lt 0 m && nat_lt a (b + m) && nat_lt b (a + n)

-- with the sections' numbers, if both are loaded: they have one number, or an address in common
abbrev pub both_loaded : Extent → Extent → Option ℕ → Option ℕ → Bool
both_loaded s t (Some n) (Some m) = (n == m) || shares s.addr s.size t.addr t.size
both_loaded s t (Some n) None = false
both_loaded s t None m = false

-- both are loaded, and have one number or an address in common
abbrev pub collide : Extent → Extent → Bool
collide s t = both_loaded s t s.number t.number

-- a loaded section's end, the address behind its last byte, is past 2 ^ 63
abbrev pub ends_late : Extent → Bool
ends_late s = is_some s.number && nat_lt (2 ^ 63) (s.addr + s.size)

-- it collides with one of these
abbrev pub collides : List Extent → Extent → Bool
collides earlier t = any_of (λ s. collide s t) earlier

-- the k-th of some sections is a loaded one and ends too late, or collides with an earlier one
abbrev pub is_misplaced : (ℕ → Extent) → ℕ → Bool
is_misplaced extent k = ends_late (extent k) || collides (each extent k) (extent k)

-- a list with which just those collide that collide with one of the first k sections
pub record StandFor (extent : ℕ → Extent) (k : ℕ) (loaded : List Extent) : Type 0 where
  pub same : (t : Extent) → collides loaded t ≡ collides (each extent k) t

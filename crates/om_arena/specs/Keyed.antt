-- What a contract sees of `Slots`. No public clause cites this module.
use Rattle.std.specs.Prelude.{◌≡◌, ◌≢◌, ℕ, ◌+◌, ◌-◌, ◌^◌, ◌≤◌, List, Option, Some, None, is_some, count_by, slice_index_or, slice_set, refl}
use Rattle.std.specs.Coded.{Coded, code_by, coded×, coded_ℕ, coded_list, coded_option}

-- the value or nothing at each key from 0 on, and how many values fit with no memory
pub record Keyed (X : Type 0) : Type 0 where
  pub slots : List (Option X)
  pub capacity : ℕ

-- how many keys there are: each has 32 bits, and one number of 32 bits is left for no key
abbrev pub key_count : ℕ
key_count = 2 ^ 32 - 1

-- stored as the pair of its parts
abbrev pub keyed_code : {X : Type 0} → Coded X → Coded (Keyed X)
keyed_code {X} code =
    code_by
    (List (Option X) × ℕ)
    (coded× (coded_list (coded_option code)) coded_ℕ)
    (λ s. (s.slots, s.capacity))
    (λ p. record { slots = p.0; capacity = p.1 })
    (λ _. refl)

module _ {X : Type 0} where
  -- the value at a key
  abbrev pub get : Keyed X → ℕ → Option X
  get s key = slice_index_or s.slots key None

  -- how many keys have a value
  abbrev pub live_count : Keyed X → ℕ
  live_count s = count_by is_some s.slots

  -- so many more values fit with no memory
  abbrev pub HasRoomFor : Keyed X → ℕ → Type 0
  HasRoomFor s more = live_count s + more ≤ s.capacity

  -- another value under this key
  abbrev pub with_slot : Keyed X → ℕ → X → Keyed X
  with_slot s key value = record s { slots = slice_set s.slots key (Some value) }

  -- the new slots have this at the key, and what the old have at every other
  pub record Updates (old new : Keyed X) (key : ℕ) (slot : Option X) : Type 0 where
    pub changed : get new key ≡ slot
    pub others : (other : ℕ) → other ≢ key → get new other ≡ get old other

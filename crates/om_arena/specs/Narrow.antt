-- How `Slots` keep their values under keys of 32 bits. No public clause cites this module.
use Rattle.std.specs.Prelude.{◌≡◌, ℕ, ◌+◌, ◌<◌, ◌≤◌, List, map, min, Option, Some, None, is_some, count_by, slice_index_or, Bool, true, false}
use Rattle.slab.specs.Slab.{Slab}
use Rattle.om_arena.specs.Keyed.{key_count}
use Rattle.om_arena.specs.declared.slots.Slot.{Slot}
use Rattle.om_arena.specs.declared.slots.Slot.TheVariants.{Barred, Held}

module _ {X : Type 0} where
  -- the value of a slot, if it has one
  abbrev pub held : Slot X → Option X
  held Barred = None
  held (Held value) = Some value

  -- the value under a key, if there is one
  abbrev pub found : Option (Slot X) → Option X
  found None = None
  found (Some slot) = held slot

  abbrev pub is_barred : Option (Slot X) → Bool
  is_barred None = false
  is_barred (Some Barred) = true
  is_barred (Some (Held value)) = false

  -- a key is barred only where it has more than 32 bits, and such a key has no value
  pub record IsNarrow (slots : List (Option (Slot X))) : Type 0 where
    pub barred : (key : ℕ) → key < key_count → is_barred (slice_index_or slots key None) ≡ false
    pub held : (key : ℕ) → key_count ≤ key → found (slice_index_or slots key None) ≡ None

  -- one more value fits with no memory
  abbrev pub HasNarrowRoom : Slab (Slot X) → Type 0
  HasNarrowRoom s = count_by is_some (map found s.slots) + 1 ≤ min s.capacity key_count

  -- each key finds the same value
  abbrev pub SameFound : List (Option (Slot X)) → List (Option (Slot X)) → Type 0
  SameFound old new = (key : ℕ) → found (slice_index_or new key None) ≡ found (slice_index_or old key None)

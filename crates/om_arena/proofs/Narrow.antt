-- Room, counts and keys of the slots of a slab, some of which may be barred.
use Rattle.std.proofs.Common.{◌≡◌, ◌≢◌, ℕ, zero, suc, ◌+◌, ◌-◌, ◌<◌, ◌≤◌, List, [], ◌∷◌, map, length, get_or, Option, Some, None, is_some, IsSome, count_by, cond, true, false, refl, sym, ap, subst, ◌∙◌, inl, inr, arith, true≢false}
use Rattle.std.proofs.lemmas.Bool.{cases_eq, cases_lt}
use Rattle.std.proofs.lemmas.List.Sums.{sum_by-cons}
use Rattle.slab.specs.Slab.{Slab, Updates}
use Rattle.om_arena.specs.Keyed.{key_count, Updates as KeyedUpdates}
use Rattle.om_arena.specs.Narrow.{held, found, is_barred, IsNarrow, HasNarrowRoom, SameFound}
use Rattle.om_arena.specs.declared.slots.Slot.{Slot}
use Rattle.om_arena.specs.declared.slots.Slot.TheVariants.{Barred, Held}

abbrev one : {A : Type 0} → Option A → ℕ
one o = cond (is_some o) 1 0

-- ---- counts

module _ {A : Type 0} where
  -- lists that find the same have as many values
  pub count_same : (xs ys : List (Option A)) → ((key : ℕ) → get_or ys key None ≡ get_or xs key None) → count_by is_some ys ≡ count_by is_some xs
  count_same [] [] same = refl
  count_same [] (y ∷ ys) same =
      let here : one y ≡ 0 = ap one (same 0) in
      omega (arith, count_same [] ys (λ k. same (suc k)), sum_by-cons one y ys)
  count_same (x ∷ xs) [] same =
      let here : 0 ≡ one x = ap one (same 0) in
      omega (arith, count_same xs [] (λ k. same (suc k)), sum_by-cons one x xs)
  count_same (x ∷ xs) (y ∷ ys) same =
      let here : one y ≡ one x = ap one (same 0) in
      omega (arith, count_same xs ys (λ k. same (suc k)), sum_by-cons one x xs, sum_by-cons one y ys)

  -- one value more under one key, and every other key finds the same
  pub count_more : (xs ys : List (Option A)) (key : ℕ) (value : A) → get_or xs key None ≡ None → get_or ys key None ≡ Some value → ((other : ℕ) → other ≢ key → get_or ys other None ≡ get_or xs other None) → count_by is_some ys ≡ count_by is_some xs + 1
  count_more [] [] key value was is others = absurd (cc)
  count_more [] (y ∷ ys) zero value was is others =
      let here : one y ≡ 1 = ap one is in
      let rest = count_same [] ys (λ k. others (suc k) (λ e. absurd (omega (arith, e)))) in
      omega (arith, sum_by-cons one y ys)
  count_more [] (y ∷ ys) (suc key) value was is others =
      let here : one y ≡ 0 = ap one (others 0 (λ e. absurd (omega (arith, e)))) in
      let rest = count_more [] ys key value refl is (λ k d. others (suc k) (λ e. d (omega (arith, e)))) in
      omega (arith, sum_by-cons one y ys)
  count_more (x ∷ xs) [] zero value was is others = absurd (cc)
  count_more (x ∷ xs) [] (suc key) value was is others = absurd (cc)
  count_more (x ∷ xs) (y ∷ ys) zero value was is others =
      let here : one y ≡ 1 = ap one is in
      let none : one x ≡ 0 = ap one was in
      let rest = count_same xs ys (λ k. others (suc k) (λ e. absurd (omega (arith, e)))) in
      omega (arith, sum_by-cons one x xs, sum_by-cons one y ys)
  count_more (x ∷ xs) (y ∷ ys) (suc key) value was is others =
      let here : one y ≡ one x = ap one (others 0 (λ e. absurd (omega (arith, e)))) in
      let rest = count_more xs ys key value was is (λ k d. others (suc k) (λ e. d (omega (arith, e)))) in
      omega (arith, sum_by-cons one x xs, sum_by-cons one y ys)

module _ {X : Type 0} where
  -- ---- what a key finds

  pub found_at : (slots : List (Option (Slot X))) (key : ℕ) → get_or (map found slots) key None ≡ found (get_or slots key None)
  found_at [] key = refl
  found_at (slot ∷ rest) zero = refl
  found_at (slot ∷ rest) (suc key) = found_at rest key

  -- there are at least as many slots in use as values
  pub live_within : (slots : List (Option (Slot X))) → count_by is_some (map found slots) ≤ count_by is_some slots
  live_within [] = omega arith
  live_within (slot ∷ rest) =
      omega (arith, live_within rest, least slot, sum_by-cons one slot rest, sum_by-cons one (found slot) (map found rest))
    where
      least : (slot : Option (Slot X)) → one (found slot) ≤ one slot
      least None = omega arith
      least (Some Barred) = omega arith
      least (Some (Held value)) = omega arith

  -- where none of the first n keys is barred, the barred ones are at most as many as the others
  pub few_barred : (slots : List (Option (Slot X))) (n more : ℕ) → length slots ≤ n + more → ((key : ℕ) → key < n → is_barred (get_or slots key None) ≡ false) → count_by is_some slots ≤ count_by is_some (map found slots) + more
  few_barred [] n more long none = omega arith
  few_barred (slot ∷ rest) zero zero long none = absurd (omega (arith, long))
  few_barred (slot ∷ rest) zero (suc more) long none =
      omega (arith, few_barred rest zero more (omega (arith, long)) (λ k below. absurd (omega (arith, below))), most slot, sum_by-cons one slot rest, sum_by-cons one (found slot) (map found rest))
    where
      most : (slot : Option (Slot X)) → one slot ≤ one (found slot) + 1
      most None = omega arith
      most (Some Barred) = omega arith
      most (Some (Held value)) = omega arith
  few_barred (slot ∷ rest) (suc n) more long none =
      omega (arith, few_barred rest n more (omega (arith, long)) (λ k below. none (suc k) (omega (arith, below))), as_many slot (none 0 (omega arith)), sum_by-cons one slot rest, sum_by-cons one (found slot) (map found rest))
    where
      as_many : (slot : Option (Slot X)) → is_barred slot ≡ false → one slot ≤ one (found slot)
      as_many None free = omega arith
      as_many (Some Barred) free = absurd (true≢false free)
      as_many (Some (Held value)) free = omega arith

  -- where one more value fits, the slab has room for one more
  pub room_stands : (s : Slab (Slot X)) → IsNarrow s.slots → HasNarrowRoom s → length s.slots ≤ s.capacity → count_by is_some s.slots + 1 ≤ s.capacity
  room_stands s narrow room long =
      omega (arith, room, few_barred s.slots key_count (s.capacity - key_count) (omega (arith, long)) narrow.barred)

  -- ---- changes

  -- slabs that find the same have as many values
  pub live_same : (old new : List (Option (Slot X))) → SameFound old new → count_by is_some (map found new) ≡ count_by is_some (map found old)
  live_same old new same =
      count_same (map found old) (map found new) (λ k. found_at new k ∙ same k ∙ sym (found_at old k))

  -- one value more under a key that had none
  pub live_more : (old new : Slab (Slot X)) (key : ℕ) (value : X) → found (get_or old.slots key None) ≡ None → found (get_or new.slots key None) ≡ Some value → ((other : ℕ) → other ≢ key → found (get_or new.slots other None) ≡ found (get_or old.slots other None)) → count_by is_some (map found new.slots) ≡ count_by is_some (map found old.slots) + 1
  live_more old new key value was is others =
      count_more (map found old.slots) (map found new.slots) key value (found_at old.slots key ∙ was) (found_at new.slots key ∙ is)
      (λ k differs. found_at new.slots k ∙ others k differs ∙ sym (found_at old.slots k))

  -- a key of 32 bits is not barred, and one of more gets no value
  pub narrow_updated : (old new : Slab (Slot X)) (key : ℕ) (slot : Option (Slot X)) → Updates old new key slot → (key < key_count → is_barred slot ≡ false) → (key_count ≤ key → found slot ≡ None) → IsNarrow old.slots → IsNarrow new.slots
  narrow_updated old new key slot u below above is = record {
    barred = λ k within. elim (cases_eq k key) [
      | inl same ↦ ap (λ (n : ℕ). is_barred (get_or new.slots n None)) same ∙ ap is_barred u.changed ∙ below (omega (arith, within, same))
      | inr differs ↦ ap is_barred (u.others k differs) ∙ is.barred k within
    ];
    held = λ k beyond. elim (cases_eq k key) [
      | inl same ↦ ap (λ (n : ℕ). found (get_or new.slots n None)) same ∙ ap found u.changed ∙ above (omega (arith, beyond, same))
      | inr differs ↦ ap found (u.others k differs) ∙ is.held k beyond
    ];
  }

  -- a vacant key that is barred finds as little as before
  pub barred_same : (first : List (Option (Slot X))) (old new : Slab (Slot X)) (key : ℕ) → SameFound first old.slots → get_or old.slots key None ≡ None → Updates old new key (Some Barred) → SameFound first new.slots
  barred_same first old new key same was u k = elim (cases_eq k key) [
    | inl here ↦
        ap (λ (n : ℕ). found (get_or new.slots n None)) here
        ∙ ap found u.changed
        ∙ sym (ap found was)
        ∙ sym (ap (λ (n : ℕ). found (get_or old.slots n None)) here)
        ∙ same k
    | inr differs ↦ ap found (u.others k differs) ∙ same k
  ]

  -- what the values under the keys are after an insertion
  pub found_updated : (first : List (Option (Slot X))) (old new : Slab (Slot X)) (key : ℕ) (value : X) (a b : ℕ) → SameFound first old.slots → Updates old new key (Some (Held value)) → KeyedUpdates (record { slots = map found first; capacity = a }) (record { slots = map found new.slots; capacity = b }) key (Some value)
  found_updated first old new key value a b same u = record {
    changed = found_at new.slots key ∙ ap found u.changed;
    others = λ k differs. found_at new.slots k ∙ ap found (u.others k differs) ∙ same k ∙ sym (found_at first k);
  }

  pub live_inserted : (first : List (Option (Slot X))) (old new : Slab (Slot X)) (key : ℕ) (value : X) → SameFound first old.slots → get_or old.slots key None ≡ None → Updates old new key (Some (Held value)) → count_by is_some (map found new.slots) ≡ count_by is_some (map found first) + 1
  live_inserted first old new key value same was u =
      omega (arith, live_same first old.slots same, live_more old new key value (ap found was) (ap found u.changed) (λ k differs. ap found (u.others k differs)))

  -- a key that finds a value has 32 bits
  pub key_below : (slots : List (Option (Slot X))) (key : ℕ) → IsNarrow slots → IsSome (get_or (map found slots) key None) → key < key_count
  key_below slots key is present = elim (cases_lt key key_count) [
    | inl below ↦ below
    | inr beyond ↦ absurd (true≢false (sym (subst IsSome (found_at slots key ∙ is.held key beyond) present)))
  ]

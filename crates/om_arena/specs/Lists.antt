-- What a contract sees of an `Arena`: its lists and its spare room, and each call's edit of the lists.
use Rattle.std.specs.Prelude.{◌≡◌, ◌≢◌, ℕ, ◌<◌, ◌≤◌, ◌+◌, zero, suc, eqb, List, [], ◌∷◌, ◌++◌, length, Option, Some, None, is_some, IsSome, slice_index_or, slice_set, if◌then◌else◌, refl, ⊤}
use Rattle.std.specs.Map.{lookup, keys_of}
use Rattle.std.specs.Coded.{Coded, code_by, coded×, coded_ℕ, coded_list}

-- the lists by their numbers, each as its ids with their values in order, and how many more values
-- can be inserted with no memory
pub record Arena (T : Type 0) : Type 0 where
  pub lists : List (List (ℕ × T))
  pub spare : ℕ

-- an arena is stored as the pair of its parts
abbrev pub arena_code : {T : Type 0} → Coded T → Coded (Arena T)
arena_code {T} code =
    code_by
    (List (List (ℕ × T)) × ℕ)
    (coded× (coded_list (coded_list (coded× coded_ℕ code))) coded_ℕ)
    (λ a. (a.lists, a.spare))
    (λ p. record { lists = p.0; spare = p.1 })
    (λ _. refl)

-- the id is none of these
abbrev pub IsApart : ℕ → List ℕ → Type 0
IsApart id [] = ⊤
IsApart id (other ∷ rest) = (id ≢ other) × IsApart id rest

-- no id is there twice
abbrev pub AreApart : List ℕ → Type 0
AreApart [] = ⊤
AreApart (id ∷ rest) = IsApart id rest × AreApart rest

module _ {T : Type 0} where
  -- ---- one list

  -- the id at the front, if there is one
  abbrev pub first_id : List (ℕ × T) → Option ℕ
  first_id [] = None
  first_id (item ∷ rest) = Some item.0

  -- the id right after this one, if there is one
  abbrev pub id_after : ℕ → List (ℕ × T) → Option ℕ
  id_after id [] = None
  id_after id (item ∷ rest) = if eqb id item.0 then first_id rest else id_after id rest

  -- with one more item right after this id
  abbrev pub with_after : ℕ → ℕ × T → List (ℕ × T) → List (ℕ × T)
  with_after at new [] = []
  with_after at new (item ∷ rest) = if eqb at item.0 then item ∷ new ∷ rest else item ∷ with_after at new rest

  -- without the item of this id
  abbrev pub without : ℕ → List (ℕ × T) → List (ℕ × T)
  without id [] = []
  without id (item ∷ rest) = if eqb id item.0 then rest else item ∷ without id rest

  -- with this value under the id
  abbrev pub with_value : ℕ → T → List (ℕ × T) → List (ℕ × T)
  with_value id value [] = []
  with_value id value (item ∷ rest) = (if eqb id item.0 then (item.0, value) else item) ∷ with_value id value rest

  -- ---- all lists

  -- the number of the list that has the id, or how many lists there are
  abbrev pub home : ℕ → List (List (ℕ × T)) → ℕ
  home id [] = zero
  home id (items ∷ rest) = if is_some (lookup (eqb id) items) then zero else suc (home id rest)

  -- the ids and values of a list, in order
  abbrev pub items : Arena T → ℕ → List (ℕ × T)
  items a list = slice_index_or a.lists list []

  -- the ids of a list, in order
  abbrev pub ids : Arena T → ℕ → List ℕ
  ids a list = keys_of (items a list)

  -- the value under an id, if it is live
  abbrev pub value_of : Arena T → ℕ → Option T
  value_of a id = lookup (eqb id) (items a (home id a.lists))

  -- the list has been added
  abbrev pub IsList : Arena T → ℕ → Type 0
  IsList a list = list < length a.lists

  -- the id stands in a list
  abbrev pub IsLive : Arena T → ℕ → Type 0
  IsLive a id = IsSome (value_of a id)

  -- the id right after this one in its list, if there is one
  abbrev pub next_of : Arena T → ℕ → Option ℕ
  next_of a id = id_after id (items a (home id a.lists))

  -- ---- the edits

  -- an item at the end of a list
  abbrev pub pushed : Arena T → ℕ → ℕ × T → List (List (ℕ × T))
  pushed a list new = slice_set a.lists list (items a list ++ new ∷ [])

  -- an item right after this id
  abbrev pub inserted : Arena T → ℕ → ℕ × T → List (List (ℕ × T))
  inserted a at new =
      let list = home at a.lists in
      slice_set a.lists list (with_after at new (items a list))

  -- the item of this id taken out
  abbrev pub unlinked : Arena T → ℕ → List (List (ℕ × T))
  unlinked a id =
      let list = home id a.lists in
      slice_set a.lists list (without id (items a list))

  -- another value under this id
  abbrev pub written : Arena T → ℕ → T → Arena T
  written a id value =
      let list = home id a.lists in
      record a { lists = slice_set a.lists list (with_value id value (items a list)) }

  -- ---- laws

  -- the id stands in this list at this place
  pub record Stands (a : Arena T) (id list place : ℕ) : Type 0 where
    pub is_list : IsList a list
    pub is_place : place < length (ids a list)
    pub found : slice_index_or (ids a list) place 0 ≡ id

  -- no id stands at two places, in one list or in two
  abbrev pub IdsDiffer : Arena T → Type 0
  IdsDiffer a = (id list place other_list other_place : ℕ)
      → Stands a id list place → Stands a id other_list other_place
      → (list ≡ other_list) × (place ≡ other_place)

  -- no list has an id twice
  abbrev pub ListsAreApart : Arena T → Type 0
  ListsAreApart a = (list : ℕ) → AreApart (ids a list)

  -- the list that has an id is its home
  abbrev pub HomesHold : Arena T → Type 0
  HomesHold a = (id list : ℕ) → IsSome (lookup (eqb id) (items a list)) → home id a.lists ≡ list

  -- each live id stands at a place in its list
  abbrev pub LiveIdsStand : Arena T → Type 0
  LiveIdsStand a = (id : ℕ) → IsLive a id → (place : ℕ) × Stands a id (home id a.lists) place

  -- each id that stands at a place is live
  abbrev pub StandingIdsLive : Arena T → Type 0
  StandingIdsLive a = (id list place : ℕ) → Stands a id list place → IsLive a id

  -- a call left its spare room at most one less
  abbrev pub TakesOne : Arena T → Arena T → Type 0
  TakesOne before after = before.spare ≤ after.spare + 1

  -- so many calls in a row each left it at most one less
  abbrev pub TakeOneEach : ℕ → Arena T → Arena T → Type 0
  TakeOneEach zero first last = first.spare ≤ last.spare
  TakeOneEach (suc n) first last = (next : Arena T) × TakesOne first next × TakeOneEach n next last

-- after fewer insertions than there was room for there is room for one more
abbrev pub RoomLasts : Type 0 → Type 0
RoomLasts T = (n : ℕ) (first last : Arena T) → n < first.spare → TakeOneEach n first last → 0 < last.spare

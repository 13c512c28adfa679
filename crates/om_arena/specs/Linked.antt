-- How an `Arena` lays out its lists. No public clause cites this module.
use Rattle.std.specs.Prelude.{◌≡◌, ℕ, zero, suc, ◌<◌, eqb, List, [], ◌∷◌, map, length, Option, Some, None, IsSome, slice_index_or, slice_set, option_map, if◌then◌else◌, Bool, true, false}
use Rattle.std.specs.Map.{lookup, keys_of}
use Rattle.om_arena.specs.Keyed.{Keyed, get}
use Rattle.om_arena.specs.Lists.{AreApart}
use Rattle.om_arena.specs.declared.links.Node.{Node}
use Rattle.om_arena.specs.declared.links.Ends.{Ends}

-- ---- what comes after what, in a list of ids

abbrev pub same : Option ℕ → Option ℕ → Bool
same None None = true
same None (Some _) = false
same (Some _) None = false
same (Some a) (Some b) = eqb a b

abbrev pub head : List ℕ → Option ℕ
head [] = None
head (id ∷ rest) = Some id

-- what comes after `k`, where the list stands after `from`; after the last id comes nothing
abbrev pub next_in : Option ℕ → List ℕ → Option ℕ → Option (Option ℕ)
next_in from [] k = if same from k then Some None else None
next_in from (id ∷ rest) k = if same from k then Some (Some id) else next_in (Some id) rest k

-- ---- the ends

abbrev pub no_ends : Ends
no_ends = record { first = None; last = None }

-- the ends where `to` comes after `at`
abbrev pub ends_after : List Ends → ℕ → Option ℕ → Option ℕ → List Ends
ends_after ends list None to = slice_set ends list (record (slice_index_or ends list no_ends) { first = to })
ends_after ends list (Some id) to = ends

-- the ends where `to` comes before `at`
abbrev pub ends_before : List Ends → ℕ → Option ℕ → Option ℕ → List Ends
ends_before ends list None to = slice_set ends list (record (slice_index_or ends list no_ends) { last = to })
ends_before ends list (Some id) to = ends

module _ {T : Type 0} where
  -- ---- the lists, read along the links

  abbrev pub walked : Option (Node T) → ℕ → (Option ℕ → List (ℕ × T)) → List (ℕ × T)
  walked None id on = []
  walked (Some node) id on = (id, node.value) ∷ on node.link.after

  -- at most so many items from here on
  abbrev pub walk : List (Option (Node T)) → ℕ → Option ℕ → List (ℕ × T)
  walk nodes zero at = []
  walk nodes (suc most) None = []
  walk nodes (suc most) (Some id) = walked (slice_index_or nodes id None) id (walk nodes most)

  -- every list
  abbrev pub lists_of : List (Option (Node T)) → List Ends → List (List (ℕ × T))
  lists_of nodes ends = map (λ e. walk nodes (length nodes) e.first) ends

  -- ---- the links, where an absent id stands for both ends of its list

  abbrev pub in_list : ℕ → Option (Node T) → Option (Node T)
  in_list list None = None
  in_list list (Some node) = if eqb node.link.list list then Some node else None

  -- what comes after an id of the list
  abbrev pub next_at : List (Option (Node T)) → List Ends → ℕ → Option ℕ → Option (Option ℕ)
  next_at nodes ends list None = Some ((slice_index_or ends list no_ends).first)
  next_at nodes ends list (Some id) = option_map (λ (n : Node T). n.link.after) (in_list list (slice_index_or nodes id None))

  -- what comes before an id of the list
  abbrev pub prev_at : List (Option (Node T)) → List Ends → ℕ → Option ℕ → Option (Option ℕ)
  prev_at nodes ends list None = Some ((slice_index_or ends list no_ends).last)
  prev_at nodes ends list (Some id) = option_map (λ (n : Node T). n.link.before) (in_list list (slice_index_or nodes id None))

  -- the value of an id of the list
  abbrev pub value_at : List (Option (Node T)) → ℕ → ℕ → Option T
  value_at nodes list id = option_map (λ (n : Node T). n.value) (in_list list (slice_index_or nodes id None))

  -- the lists are what the links say: `next` goes through each from its front, `prev` back
  pub record Agrees (lists : List (List (ℕ × T))) (next prev : ℕ → Option ℕ → Option (Option ℕ)) (value : ℕ → ℕ → Option T) : Type 0 where
    pub apart : (list : ℕ) → AreApart (keys_of (slice_index_or lists list []))
    pub values : (list id : ℕ) → value list id ≡ lookup (eqb id) (slice_index_or lists list [])
    pub nexts : (list : ℕ) (k : Option ℕ) → next list k ≡ next_in None (keys_of (slice_index_or lists list [])) k
    pub back : (list : ℕ) (j k : Option ℕ) → next list j ≡ Some k → prev list k ≡ Some j

  pub record Represents (lists : List (List (ℕ × T))) (nodes : List (Option (Node T))) (ends : List Ends) : Type 0 where
    pub as_many : length ends ≡ length lists
    pub agrees : Agrees lists (next_at nodes ends) (prev_at nodes ends) (value_at nodes)

  abbrev pub IsLinked : List (Option (Node T)) → List Ends → Type 0
  IsLinked nodes ends = Represents (lists_of nodes ends) nodes ends

  -- ---- writes of links

  -- the nodes where `to` comes after `at`
  abbrev pub slots_after : List (Option (Node T)) → Option ℕ → Option ℕ → List (Option (Node T))
  slots_after nodes None to = nodes
  slots_after nodes (Some id) to = slice_set nodes id (option_map (λ (n : Node T). record n { link = record (n.link) { after = to } }) (slice_index_or nodes id None))

  -- the nodes where `to` comes before `at`
  abbrev pub slots_before : List (Option (Node T)) → Option ℕ → Option ℕ → List (Option (Node T))
  slots_before nodes None to = nodes
  slots_before nodes (Some id) to = slice_set nodes id (option_map (λ (n : Node T). record n { link = record (n.link) { before = to } }) (slice_index_or nodes id None))

  -- there is such a place: its list has ends, its id a node
  abbrev pub CanWrite : Keyed (Node T) → List Ends → ℕ → Option ℕ → Type 0
  CanWrite nodes ends list None = list < length ends
  CanWrite nodes ends list (Some id) = IsSome (get nodes id)

-- What the answers of an arena's calls need, over plain nodes and ends.
use Rattle.std.proofs.Common.{◌≡◌, ℕ, zero, suc, ◌-◌, ◌<◌, Bool, true, false, eqb, List, [], ◌∷◌, ◌++◌, length, get_or, set, Option, Some, None, is_some, IsSome, count_by, refl, sym, ap, subst, ◌∙◌, inl, inr, arith, cond}
use Rattle.std.proofs.lemmas.Bool.{cases_lt}
use Rattle.std.proofs.lemmas.List.{append_assoc, append-nil, map-append, get_or_past, length-set, length-append}
use Rattle.std.proofs.lemmas.List.Sums.{sum_by-set}
use Rattle.std.specs.Map.{lookup, keys_of}
use Rattle.om_arena.specs.Keyed.{Keyed, get}
use Rattle.om_arena.specs.Linked.{head, next_in, Represents, IsLinked, next_at, prev_at, value_at, lists_of, no_ends, slots_after, slots_before, ends_after, ends_before, CanWrite}
use Rattle.om_arena.specs.Lists.{IsApart, AreApart, home, with_after, without, with_value, written, first_id, id_after}
use Rattle.om_arena.specs.Inserted.{IsInserted}
use Rattle.om_arena.specs.declared.links.Link.{Link}
use Rattle.om_arena.specs.declared.links.Links.{Links}
use Rattle.om_arena.specs.declared.links.Node.{Node}
use Rattle.om_arena.specs.declared.links.Ends.{Ends}
use Rattle.om_arena.proofs.Orders.{last_or, last_or-push, lookup-absent, first_id-head, with_value-absent, IsApart-back, IsApart-without, Split}
use Rattle.om_arena.proofs.Edits.{Writing}
use Rattle.om_arena.proofs.Edits as edits
use Rattle.om_arena.proofs.Walks.{node_with, Becomes, becomes}
use Rattle.om_arena.proofs.Writes.{same_part, new_part, other_part}
use Rattle.om_arena.proofs.Changes.{next_between, prev_between, new_apart, insertion_becomes, removal_becomes, Removes, lives}

-- one more item that is the default changes no read
pub get_or-default : {A : Type 0} (xs : List A) (d : A) (i : ℕ) → get_or (xs ++ d ∷ []) i d ≡ get_or xs i d
get_or-default [] d zero = refl
get_or-default [] d (suc i) = refl
get_or-default (x ∷ xs) d zero = refl
get_or-default (x ∷ xs) d (suc i) = get_or-default xs d i

-- inside the list the default does not matter
pub get_or-within : {A : Type 0} (xs : List A) (i : ℕ) (d e : A) → i < length xs → get_or xs i d ≡ get_or xs i e
get_or-within [] i d e within = absurd (omega arith)
get_or-within (x ∷ xs) zero d e within = refl
get_or-within (x ∷ xs) (suc i) d e within = get_or-within xs i d e (omega arith)

module _ {T : Type 0} where
  keys_joined : (pre post : List (ℕ × T)) → keys_of (pre ++ post) ≡ keys_of pre ++ keys_of post
  keys_joined pre post = map-append (λ e. e.0) pre post

  -- ---- a new list

  pub list_added : (nodes : List (Option (Node T))) (ends : List Ends) → IsLinked nodes ends → Becomes (lists_of nodes ends ++ [] ∷ []) nodes (ends ++ no_ends ∷ [])
  list_added nodes ends r = becomes (lists_of nodes ends ++ [] ∷ []) nodes (ends ++ no_ends ∷ []) (record {
    as_many = omega (arith, r.as_many, length-append ends (no_ends ∷ []), length-append (lists_of nodes ends) ([] ∷ []));
    agrees = record {
      apart = λ l. subst (λ (xs : List (ℕ × T)). AreApart (keys_of xs)) (sym (get_or-default (lists_of nodes ends) [] l)) (r.agrees.apart l);
      values = λ l id. r.agrees.values l id ∙ ap (lookup (eqb id)) (sym (get_or-default (lists_of nodes ends) [] l));
      nexts = λ l k. next l k ∙ r.agrees.nexts l k ∙ ap (λ (xs : List (ℕ × T)). next_in None (keys_of xs) k) (sym (get_or-default (lists_of nodes ends) [] l));
      back = λ l j k follows. prev l k ∙ r.agrees.back l j k (sym (next l j) ∙ follows);
    };
  })
    where
      next : (l : ℕ) (k : Option ℕ) → next_at nodes (ends ++ no_ends ∷ []) l k ≡ next_at nodes ends l k
      next l None = ap (λ (e : Ends). Some (e.first)) (get_or-default ends no_ends l)
      next l (Some id) = refl

      prev : (l : ℕ) (k : Option ℕ) → prev_at nodes (ends ++ no_ends ∷ []) l k ≡ prev_at nodes ends l k
      prev l None = ap (λ (e : Ends). Some (e.last)) (get_or-default ends no_ends l)
      prev l (Some id) = refl

  pub linked_either : (nodes : List (Option (Node T))) (ends ends' : List Ends) (b : Bool) → IsLinked nodes ends → ends' ≡ cond b (ends ++ no_ends ∷ []) ends → IsLinked nodes ends'
  linked_either nodes ends ends' true r e = subst (λ (es : List Ends). IsLinked nodes es) (sym e) ((list_added nodes ends r).linked)
  linked_either nodes ends ends' false r e = subst (λ (es : List Ends). IsLinked nodes es) (sym e) r

  pub empty_linked : IsLinked {T = T} [] []
  empty_linked = record {
    as_many = refl;
    agrees = record {
      apart = λ l. tt;
      values = λ l id. refl;
      nexts = next;
      back = back;
    };
  }
    where
      next : (l : ℕ) (k : Option ℕ) → next_at {T = T} [] [] l k ≡ next_in None [] k
      next l None = refl
      next l (Some id) = refl

      back : (l : ℕ) (j k : Option ℕ) → next_at {T = T} [] [] l j ≡ Some k → prev_at {T = T} [] [] l k ≡ Some j
      back l None None e = refl
      back l None (Some k) e = absurd (cc)
      back l (Some j) k e = absurd (cc)

  -- ---- reads

  module _ (lists : List (List (ℕ × T))) (nodes : List (Option (Node T))) (ends : List Ends) (r : Represents lists nodes ends) where
    pub first_at : (list : ℕ) (e : Ends) → list < length lists → e ≡ get_or ends list e → e.first ≡ first_id (get_or lists list [])
    first_at list e within is =
        let at : e ≡ get_or ends list no_ends = is ∙ get_or-within ends list e no_ends (omega (arith, r.as_many)) in
        let h : Some ((get_or ends list no_ends).first) ≡ Some (head (keys_of (get_or lists list []))) = next_between lists nodes ends r list [] (get_or lists list []) refl in
        let plain : (get_or ends list no_ends).first ≡ head (keys_of (get_or lists list [])) = cc in
        ap (λ (x : Ends). x.first) at ∙ plain ∙ first_id-head (get_or lists list [])

    pub last_at : (list : ℕ) (e : Ends) → list < length lists → e ≡ get_or ends list e → e.last ≡ last_or None (keys_of (get_or lists list []))
    last_at list e within is =
        let at : e ≡ get_or ends list no_ends = is ∙ get_or-within ends list e no_ends (omega (arith, r.as_many)) in
        let h : Some ((get_or ends list no_ends).last) ≡ Some (last_or None (keys_of (get_or lists list []))) = prev_between lists nodes ends r list (get_or lists list []) [] (sym (append-nil (get_or lists list []))) in
        let plain : (get_or ends list no_ends).last ≡ last_or None (keys_of (get_or lists list [])) = cc in
        ap (λ (x : Ends). x.last) at ∙ plain

  pub can_after : (s : Keyed (Node T)) (ends : List Ends) (list : ℕ) (at : Option ℕ) (x : Option ℕ) → list < length ends → next_at s.slots ends list at ≡ Some x → CanWrite s ends list at
  can_after s ends list None x within known = within
  can_after s ends list (Some id) x within known = let f = node_with (λ (n : Node T). n.link.after) (get s id) list x known in ap is_some f.1

  pub can_before : (s : Keyed (Node T)) (ends : List Ends) (list : ℕ) (at : Option ℕ) (x : Option ℕ) → list < length ends → prev_at s.slots ends list at ≡ Some x → CanWrite s ends list at
  can_before s ends list None x within known = within
  can_before s ends list (Some id) x within known = let f = node_with (λ (n : Node T). n.link.before) (get s id) list x known in ap is_some f.1

  -- ---- the node under a live id, as it was read

  pub record Reads (lists : List (List (ℕ × T))) (nodes : List (Option (Node T))) (ends : List Ends) (id : ℕ) (n : Node T) : Type 0 where
    pub own : n.link.list ≡ home id lists
    pub within : home id lists < length lists
    pub place : Split id (get_or lists (home id lists) [])
    pub has : n.value ≡ place.value
    pub before : n.link.before ≡ last_or None (keys_of place.pre)
    pub after : n.link.after ≡ head (keys_of place.post)

  pub reads : (lists : List (List (ℕ × T))) (nodes : List (Option (Node T))) (ends : List Ends) (id : ℕ) (n : Node T) → Represents lists nodes ends → IsSome (lookup (eqb id) (get_or lists (home id lists) [])) → get_or nodes id None ≡ Some n → Reads lists nodes ends id n
  reads lists nodes ends id n r present is =
      let l = lives lists nodes ends id r present in
      let same : n ≡ l.node = let a = l.is in cc in
      record {
        own = ap (λ (x : Node T). x.link.list) same ∙ l.own;
        within = l.within;
        place = l.place;
        has = ap (λ (x : Node T). x.value) same ∙ l.has;
        before = ap (λ (x : Node T). x.link.before) same ∙ l.before;
        after = ap (λ (x : Node T). x.link.after) same ∙ l.after;
      }

  pub has_node : (lists : List (List (ℕ × T))) (nodes : List (Option (Node T))) (ends : List Ends) (id : ℕ) → Represents lists nodes ends → IsSome (lookup (eqb id) (get_or lists (home id lists) [])) → IsSome (get_or nodes id None)
  has_node lists nodes ends id r present = ap is_some ((lives lists nodes ends id r present).is)

  pub next_is : (lists : List (List (ℕ × T))) (nodes : List (Option (Node T))) (ends : List Ends) (id : ℕ) (n : Node T) → Reads lists nodes ends id n → n.link.after ≡ id_after id (get_or lists (home id lists) [])
  next_is lists nodes ends id n l = l.after ∙ first_id-head (l.place.post) ∙ sym l.place.after

  -- the node stands before the one that comes after it
  pub before_next : (lists : List (List (ℕ × T))) (nodes : List (Option (Node T))) (ends : List Ends) (id : ℕ) (n : Node T) → Represents lists nodes ends → Reads lists nodes ends id n → prev_at nodes ends n.link.list n.link.after ≡ Some (Some id)
  before_next lists nodes ends id n r l =
      let s = l.place in
      let list = home id lists in
      ap (λ (x : ℕ). prev_at nodes ends x n.link.after) l.own
      ∙ ap (prev_at nodes ends list) l.after
      ∙ prev_between lists nodes ends r list (s.pre ++ (id, s.value) ∷ []) s.post (s.whole ∙ sym (append_assoc s.pre ((id, s.value) ∷ []) s.post))
      ∙ ap (λ (k : Option ℕ). Some k) (ap (last_or None) (keys_joined s.pre ((id, s.value) ∷ [])) ∙ last_or-push None (keys_of s.pre) id)

  -- ---- insertions

  pub pushes : (lists : List (List (ℕ × T))) (old new : Links T) (link : Link) (v : T) (id : ℕ) (e : Ends) → Represents lists old.nodes.slots old.ends.items → link.list < length lists → e ≡ get_or old.ends.items link.list e → link.before ≡ e.last → link.after ≡ None → IsInserted old new link v id → get old.nodes id ≡ None → Becomes (set lists link.list (get_or lists link.list [] ++ (id, v) ∷ [])) new.nodes.slots new.ends.items
  pushes lists old new link v id e r within is before after i vacant =
      subst (λ (es : List Ends). Becomes (set lists link.list (get_or lists link.list [] ++ (id, v) ∷ [])) new.nodes.slots es) (sym i.ends)
      (subst (λ (ns : List (Option (Node T))). Becomes (set lists link.list (get_or lists link.list [] ++ (id, v) ∷ [])) ns (ends_before (ends_after old.ends.items link.list link.before (Some id)) link.list link.after (Some id))) (sym i.slots)
      (insertion_becomes lists old.nodes.slots i.placed.slots old.ends.items (record { value = v; link = link }) id (get_or lists link.list []) [] vacant i.updates.changed i.updates.others r within (sym (append-nil (get_or lists link.list [])))
      (before ∙ last_at lists old.nodes.slots old.ends.items r link.list e within is) after))

  pub inserts : (lists : List (List (ℕ × T))) (old new : Links T) (link : Link) (v : T) (id at : ℕ) (n : Node T) → Represents lists old.nodes.slots old.ends.items → Reads lists old.nodes.slots old.ends.items at n → link ≡ record { list = n.link.list; before = Some at; after = n.link.after } → IsInserted old new link v id → get old.nodes id ≡ None → Becomes (set lists (home at lists) (with_after at (id, v) (get_or lists (home at lists) []))) new.nodes.slots new.ends.items
  inserts lists old new link v id at n r l is i vacant =
      let s = l.place in
      let list = home at lists in
      let pre = s.pre ++ (at, s.value) ∷ [] in
      let own : link.list ≡ list = ap (λ (x : Link). x.list) is ∙ l.own in
      let whole : get_or lists link.list [] ≡ pre ++ s.post = ap (λ (x : ℕ). get_or lists x []) own ∙ s.whole ∙ sym (append_assoc s.pre ((at, s.value) ∷ []) s.post) in
      let last : last_or None (keys_of pre) ≡ Some at = ap (last_or None) (keys_joined s.pre ((at, s.value) ∷ [])) ∙ last_or-push None (keys_of s.pre) at in
      let edit : set lists link.list (pre ++ (id, v) ∷ s.post) ≡ set lists list (with_after at (id, v) (get_or lists list [])) =
      ap (λ (x : ℕ). set lists x (pre ++ (id, v) ∷ s.post)) own
      ∙ ap (set lists list) (append_assoc s.pre ((at, s.value) ∷ []) ((id, v) ∷ s.post) ∙ sym (s.inserts (id, v))) in
      let b = insertion_becomes lists old.nodes.slots i.placed.slots old.ends.items (record { value = v; link = link }) id pre s.post vacant i.updates.changed i.updates.others r
      (subst (λ (x : ℕ). x < length lists) (sym own) l.within) whole
      (ap (λ (x : Link). x.before) is ∙ sym last)
      (ap (λ (x : Link). x.after) is ∙ l.after) in
      subst (λ (es : List Ends). Becomes (set lists list (with_after at (id, v) (get_or lists list []))) new.nodes.slots es) (sym i.ends)
      (subst (λ (ns : List (Option (Node T))). Becomes (set lists list (with_after at (id, v) (get_or lists list []))) ns (ends_before (ends_after old.ends.items link.list link.before (Some id)) link.list link.after (Some id))) (sym i.slots)
      (subst (λ (ls : List (List (ℕ × T))). Becomes ls (slots_before (slots_after i.placed.slots link.before (Some id)) link.after (Some id)) (ends_before (ends_after old.ends.items link.list link.before (Some id)) link.list link.after (Some id))) edit b))

  -- an id that has no node is not live
  pub not_live : (lists : List (List (ℕ × T))) (nodes : List (Option (Node T))) (ends : List Ends) (id list : ℕ) → Represents lists nodes ends → get_or nodes id None ≡ None → lookup (eqb id) (get_or lists list []) ≡ None
  not_live lists nodes ends id list r vacant = lookup-absent (get_or lists list []) id (new_apart lists nodes ends r list id vacant)

  -- ---- a removal

  pub removes : (lists : List (List (ℕ × T))) (nodes : List (Option (Node T))) (ends : List Ends) (id : ℕ) (n : Node T) → Represents lists nodes ends → (l : Reads lists nodes ends id n) → get_or nodes id None ≡ Some n → Removes lists nodes ends n.link id l.place.pre l.place.post
  removes lists nodes ends id n r l is =
      removal_becomes lists nodes ends n id l.place.pre l.place.post l.place.value is r
      (subst (λ (x : ℕ). x < length lists) (sym l.own) l.within)
      (ap (λ (x : ℕ). get_or lists x []) l.own ∙ l.place.whole)
      l.before l.after

  pub removed_list : (lists : List (List (ℕ × T))) (nodes : List (Option (Node T))) (ends : List Ends) (id : ℕ) (n : Node T) (l : Reads lists nodes ends id n) → set lists n.link.list (l.place.pre ++ l.place.post) ≡ set lists (home id lists) (without id (get_or lists (home id lists) []))
  removed_list lists nodes ends id n l =
      ap (λ (x : ℕ). set lists x (l.place.pre ++ l.place.post)) l.own ∙ ap (set lists (home id lists)) (sym l.place.removes)

  -- the two writes after a removal can be made, and leave the list without the id
  pub record Unlinks (lists : List (List (ℕ × T))) (left : List (Option (Node T))) (ends : List Ends) (id : ℕ) (link : Link) : Type 0 where
    pub fits : link.list < length ends
    pub can_after : next_at left ends link.list link.before ≡ Some (Some id)
    pub second : (nodes1 : List (Option (Node T))) (ends1 : List Ends) → nodes1 ≡ slots_after left link.before link.after → ends1 ≡ ends_after ends link.list link.before link.after → (link.list < length ends1) × (prev_at nodes1 ends1 link.list link.after ≡ Some (Some id))
    pub done : (nodes1 nodes2 : List (Option (Node T))) (ends1 ends2 : List Ends) → nodes1 ≡ slots_after left link.before link.after → ends1 ≡ ends_after ends link.list link.before link.after → nodes2 ≡ slots_before nodes1 link.after link.before → ends2 ≡ ends_before ends1 link.list link.after link.before → Becomes (set lists (home id lists) (without id (get_or lists (home id lists) []))) nodes2 ends2

  pub unlinks : (lists : List (List (ℕ × T))) (nodes left : List (Option (Node T))) (ends : List Ends) (id key : ℕ) (n : Node T) → Represents lists nodes ends → IsSome (lookup (eqb id) (get_or lists (home id lists) [])) → key ≡ id → get_or nodes key None ≡ Some n → left ≡ set nodes key None → Unlinks lists left ends id n.link
  unlinks lists nodes left ends id key n r present same is gone =
      let here : get_or nodes id None ≡ Some n = ap (λ (k : ℕ). get_or nodes k None) (sym same) ∙ is in
      let l = reads lists nodes ends id n r present here in
      let u = removes lists nodes ends id n r l here in
      let cleared : left ≡ set nodes id None = gone ∙ ap (λ (k : ℕ). set nodes k None) same in
      record {
        fits = u.fits;
        can_after = ap (λ (ns : List (Option (Node T))). next_at ns ends n.link.list n.link.before) cleared ∙ u.can_after;
        second = λ nodes1 ends1 a b. (
          subst (λ (es : List Ends). n.link.list < length es) (sym b) u.still_fits,
          ap (λ (ns : List (Option (Node T))). prev_at ns ends1 n.link.list n.link.after) (a ∙ ap (λ (ns : List (Option (Node T))). slots_after ns n.link.before n.link.after) cleared)
              ∙ ap (λ (es : List Ends). prev_at (slots_after (set nodes id None) n.link.before n.link.after) es n.link.list n.link.after) b
              ∙ u.can_before,
        );
        done = λ nodes1 nodes2 ends1 ends2 a b c d.
            subst (λ (ls : List (List (ℕ × T))). Becomes ls nodes2 ends2) (removed_list lists nodes ends id n l)
            (subst (λ (ns : List (Option (Node T))). Becomes (set lists n.link.list (l.place.pre ++ l.place.post)) ns ends2) (sym (c ∙ ap (λ (ns : List (Option (Node T))). slots_before ns n.link.after n.link.before) (a ∙ ap (λ (ns : List (Option (Node T))). slots_after ns n.link.before n.link.after) cleared)))
            (subst (λ (es : List Ends). Becomes (set lists n.link.list (l.place.pre ++ l.place.post)) (slots_before (slots_after (set nodes id None) n.link.before n.link.after) n.link.after n.link.before) es) (sym (d ∙ ap (λ (es : List Ends). ends_before es n.link.list n.link.after n.link.before) b))
            u.becomes));
      }

  -- ---- a write

  pub writes : (lists : List (List (ℕ × T))) (nodes : List (Option (Node T))) (ends : List Ends) (id : ℕ) (n : Node T) (w : T) → Represents lists nodes ends → Reads lists nodes ends id n → get_or nodes id None ≡ Some n → Becomes (set lists (home id lists) (with_value id w (get_or lists (home id lists) []))) (set nodes id (Some (record { value = w; link = n.link }))) ends
  writes lists nodes ends id n w r l is =
      let m : Node T = record { value = w; link = n.link } in
      let list = home id lists in
      let s = l.place in
      let keys : keys_of (get_or lists list []) ≡ keys_of s.pre ++ id ∷ keys_of s.post = ap keys_of s.whole ∙ keys_joined s.pre ((id, s.value) ∷ s.post) in
      let apart : IsApart id (keys_of s.pre ++ keys_of s.post) = IsApart-without (keys_of s.pre) (keys_of s.post) id (subst AreApart keys (r.agrees.apart list)) in
      let edit : with_value id w (get_or lists list []) ≡ s.pre ++ (id, w) ∷ s.post =
      s.writes w ∙ ap (λ (xs : List (ℕ × T)). s.pre ++ (id, w) ∷ xs) (with_value-absent s.post id w (IsApart-back id (keys_of s.pre) (keys_of s.post) apart)) in
      let nodes' = set nodes id (Some m) in
      let e : Writing lists list s.pre s.post id s.value w (next_at nodes ends) (prev_at nodes ends) (next_at nodes' ends) (prev_at nodes' ends) (value_at nodes) (value_at nodes') = record {
        within = l.within;
        whole = s.whole;
        old = r.agrees;
        next_same = next m refl refl;
        prev_same = prev m refl refl;
        value_new = new_part nodes id n m is refl (λ (x : Node T). x.value) list l.own;
        value_others = λ k j differ. other_part nodes id n m is refl (λ (x : Node T). x.value) list k j l.own differ;
      } in
      subst (λ (xs : List (ℕ × T)). Becomes (set lists list xs) nodes' ends) (sym edit)
      (becomes (set lists list (s.pre ++ (id, w) ∷ s.post)) nodes' ends (record {
        as_many = r.as_many ∙ sym (length-set lists list (s.pre ++ (id, w) ∷ s.post));
        agrees = edits.rewritten lists list s.pre s.post id s.value w (next_at nodes ends) (prev_at nodes ends) (next_at nodes' ends) (prev_at nodes' ends) (value_at nodes) (value_at nodes') e;
      }))
    where
      next : (m : Node T) → m.link.list ≡ n.link.list → m.link.after ≡ n.link.after → (k : ℕ) (j : Option ℕ) → next_at (set nodes id (Some m)) ends k j ≡ next_at nodes ends k j
      next m own same k None = refl
      next m own same k (Some j) = same_part nodes id n m is own (λ (x : Node T). x.link.after) same k j

      prev : (m : Node T) → m.link.list ≡ n.link.list → m.link.before ≡ n.link.before → (k : ℕ) (j : Option ℕ) → prev_at (set nodes id (Some m)) ends k j ≡ prev_at nodes ends k j
      prev m own same k None = refl
      prev m own same k (Some j) = same_part nodes id n m is own (λ (x : Node T). x.link.before) same k j

  -- the view after a write: its lists are written, and as many nodes are there
  pub seen_written : (s : Keyed (Node T)) (ends : List Ends) (id key : ℕ) (n m : Node T) (w : T) → get s key ≡ Some n → key ≡ id → Becomes (set (lists_of s.slots ends) (home id (lists_of s.slots ends)) (with_value id w (get_or (lists_of s.slots ends) (home id (lists_of s.slots ends)) []))) (set s.slots id (Some m)) ends → record { lists = lists_of (set s.slots key (Some m)) ends; spare = s.capacity - count_by is_some (set s.slots key (Some m)) } ≡ written (record { lists = lists_of s.slots ends; spare = s.capacity - count_by is_some s.slots }) id w
  seen_written s ends id key n m w is at b =
      ap (λ (ls : List (List (ℕ × T))). record { lists = ls; spare = s.capacity - count_by is_some (set s.slots key (Some m)) }) (ap (λ (k : ℕ). lists_of (set s.slots k (Some m)) ends) at ∙ b.are)
      ∙ ap (λ (k : ℕ). record { lists = set (lists_of s.slots ends) (home id (lists_of s.slots ends)) (with_value id w (get_or (lists_of s.slots ends) (home id (lists_of s.slots ends)) [])); spare = s.capacity - k }) same
    where
      within : key < length s.slots
      within = elim (cases_lt key (length s.slots)) [
        | inl h ↦ h
        | inr beyond ↦ absurd (let none = get_or_past s.slots key None beyond in cc)
      ]

      same : count_by is_some (set s.slots key (Some m)) ≡ count_by is_some s.slots
      same =
          let step = sum_by-set (λ (o : Option (Node T)). cond (is_some o) 1 0) s.slots key (Some m) None within in
          let one : cond {A = ℕ} (is_some (get_or s.slots key None)) 1 0 ≡ 1 = ap (λ (o : Option (Node T)). cond (is_some o) 1 0) is in
          omega (arith, step, one)

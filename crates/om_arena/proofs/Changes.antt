-- What the calls of an arena do to its lists, from what they do to its nodes and ends.
use Rattle.std.proofs.Common.{◌≡◌, ◌⊎◌, ℕ, ◌<◌, eqb, List, [], ◌∷◌, ◌++◌, length, get_or, set, Option, Some, None, IsSome, option_map, refl, sym, ap, subst, ◌∙◌, inl, inr, arith}
use Rattle.std.proofs.lemmas.Bool.{cases_eq, cases_lt}
use Rattle.std.proofs.lemmas.List.{append_assoc, map-append, get_or-set_same, get_or-set_other, get_or_past, length-set}
use Rattle.std.specs.Map.{lookup, keys_of}
use Rattle.om_arena.specs.Linked.{head, next_in, Represents, in_list, next_at, prev_at, value_at, slots_after, slots_before, ends_after, ends_before}
use Rattle.om_arena.specs.Lists.{IsApart, AreApart, home}
use Rattle.om_arena.specs.declared.links.Link.{Link}
use Rattle.om_arena.specs.declared.links.Node.{Node}
use Rattle.om_arena.specs.declared.links.Ends.{Ends}
use Rattle.om_arena.proofs.Orders.{last_or, last_or-push, last_apart, head_apart, next_in-split, absent-lookup, IsApart-front, IsApart-back, IsApart-without, Split, split}
use Rattle.om_arena.proofs.Edits.{Wrote, Lost, Insertion, Removal, Writing}
use Rattle.om_arena.proofs.Edits as edits
use Rattle.om_arena.proofs.Walks.{in_list-own, in_list-other, node_with, Becomes, becomes}
use Rattle.om_arena.proofs.Writes.{write_after, write_before}

pub some_of : {X : Type 0} (o : Option X) → IsSome o → (x : X) × (o ≡ Some x)
some_of None present = absurd (cc)
some_of (Some x) present = (x, refl)

along : {X : Type 0} (a b c d : ℕ → Option ℕ → X) (list : ℕ) (at : Option ℕ) (to : X) → Wrote b c list at to → ((l : ℕ) (k : Option ℕ) → b l k ≡ a l k) → ((l : ℕ) (k : Option ℕ) → d l k ≡ c l k) → Wrote a d list at to
along a b c d list at to w before after = record {
  changed = after list at ∙ w.changed;
  others = λ l k differ. after l k ∙ w.others l k differ ∙ before l k;
}

module _ {T : Type 0} where
  keys_joined : (pre post : List (ℕ × T)) → keys_of (pre ++ post) ≡ keys_of pre ++ keys_of post
  keys_joined pre post = map-append (λ e. e.0) pre post

  -- ---- what a list says of its ids

  module _ (lists : List (List (ℕ × T))) (nodes : List (Option (Node T))) (ends : List Ends) (r : Represents lists nodes ends) where
    pub next_between : (list : ℕ) (pre post : List (ℕ × T)) → get_or lists list [] ≡ pre ++ post → next_at nodes ends list (last_or None (keys_of pre)) ≡ Some (head (keys_of post))
    next_between list pre post whole =
        let keys : keys_of (get_or lists list []) ≡ keys_of pre ++ keys_of post = ap keys_of whole ∙ keys_joined pre post in
        r.agrees.nexts list (last_or None (keys_of pre))
        ∙ ap (λ (ids : List ℕ). next_in None ids (last_or None (keys_of pre))) keys
        ∙ next_in-split None (keys_of pre) (keys_of post) tt (subst AreApart keys (r.agrees.apart list))

    pub prev_between : (list : ℕ) (pre post : List (ℕ × T)) → get_or lists list [] ≡ pre ++ post → prev_at nodes ends list (head (keys_of post)) ≡ Some (last_or None (keys_of pre))
    prev_between list pre post whole = r.agrees.back list (last_or None (keys_of pre)) (head (keys_of post)) (next_between list pre post whole)

    pub new_apart : (list id : ℕ) → get_or nodes id None ≡ None → IsApart id (keys_of (get_or lists list []))
    new_apart list id vacant = absent-lookup (get_or lists list []) id (sym (r.agrees.values list id) ∙ ap (λ (o : Option (Node T)). option_map (λ (n : Node T). n.value) (in_list list o)) vacant)

  -- ---- a new node

  module _ (nodes placed : List (Option (Node T))) (n : Node T) (id : ℕ)
      (vacant : get_or nodes id None ≡ None)
      (here : get_or placed id None ≡ Some n)
      (there : (k : ℕ) → (k ≡ id → ⊥) → get_or placed k None ≡ get_or nodes k None) where
    part_new : {X : Type 0} (of : Node T → X) → option_map of (in_list n.link.list (get_or placed id None)) ≡ Some (of n)
    part_new of = ap (λ (o : Option (Node T)). option_map of (in_list n.link.list o)) here ∙ ap (option_map of) (in_list-own n n.link.list refl)

    part_others : {X : Type 0} (of : Node T → X) (l k : ℕ) → (l ≡ n.link.list → k ≡ id → ⊥) → option_map of (in_list l (get_or placed k None)) ≡ option_map of (in_list l (get_or nodes k None))
    part_others of l k differ = by (cases_eq k id)
      where
        by : (k ≡ id) ⊎ (k ≡ id → ⊥) → option_map of (in_list l (get_or placed k None)) ≡ option_map of (in_list l (get_or nodes k None))
        by (inl at) = subst (λ (j : ℕ). option_map of (in_list l (get_or placed j None)) ≡ option_map of (in_list l (get_or nodes j None))) (sym at)
            (ap (λ (o : Option (Node T)). option_map of (in_list l o)) here
            ∙ ap (option_map of) (in_list-other n l (λ e. differ (sym e) at))
            ∙ sym (ap (λ (o : Option (Node T)). option_map of (in_list l o)) vacant))
        by (inr differs) = ap (λ (o : Option (Node T)). option_map of (in_list l o)) (there k differs)

    pub placed_next : (ends : List Ends) → Wrote (next_at nodes ends) (next_at placed ends) n.link.list (Some id) (Some n.link.after)
    placed_next ends = record { changed = part_new (λ (x : Node T). x.link.after); others = others }
      where
        others : (l : ℕ) (k : Option ℕ) → (l ≡ n.link.list → k ≡ Some id → ⊥) → next_at placed ends l k ≡ next_at nodes ends l k
        others l None differ = refl
        others l (Some k) differ = part_others (λ (x : Node T). x.link.after) l k (λ e f. differ e (ap (λ (j : ℕ). Some j) f))

    pub placed_prev : (ends : List Ends) → Wrote (prev_at nodes ends) (prev_at placed ends) n.link.list (Some id) (Some n.link.before)
    placed_prev ends = record { changed = part_new (λ (x : Node T). x.link.before); others = others }
      where
        others : (l : ℕ) (k : Option ℕ) → (l ≡ n.link.list → k ≡ Some id → ⊥) → prev_at placed ends l k ≡ prev_at nodes ends l k
        others l None differ = refl
        others l (Some k) differ = part_others (λ (x : Node T). x.link.before) l k (λ e f. differ e (ap (λ (j : ℕ). Some j) f))

    pub placed_value : value_at placed n.link.list id ≡ Some n.value
    placed_value = part_new (λ (x : Node T). x.value)

    pub placed_values : (l k : ℕ) → (l ≡ n.link.list → k ≡ id → ⊥) → value_at placed l k ≡ value_at nodes l k
    placed_values l k differ = part_others (λ (x : Node T). x.value) l k differ

  pub insertion_becomes : (lists : List (List (ℕ × T))) (nodes placed : List (Option (Node T))) (ends : List Ends) (n : Node T) (id : ℕ) (pre post : List (ℕ × T)) →
      get_or nodes id None ≡ None →
      get_or placed id None ≡ Some n →
      ((k : ℕ) → (k ≡ id → ⊥) → get_or placed k None ≡ get_or nodes k None) →
      Represents lists nodes ends →
      n.link.list < length lists →
      get_or lists n.link.list [] ≡ pre ++ post →
      n.link.before ≡ last_or None (keys_of pre) →
      n.link.after ≡ head (keys_of post) →
      Becomes (set lists n.link.list (pre ++ (id, n.value) ∷ post))
      (slots_before (slots_after placed n.link.before (Some id)) n.link.after (Some id))
      (ends_before (ends_after ends n.link.list n.link.before (Some id)) n.link.list n.link.after (Some id))
  insertion_becomes lists nodes placed ends n id pre post vacant here there r within whole is_last is_head =
      let list = n.link.list in
      let last : Option ℕ = last_or None (keys_of pre) in
      let front : Option ℕ = head (keys_of post) in
      let old_keys : keys_of (get_or lists list []) ≡ keys_of pre ++ keys_of post = ap keys_of whole ∙ keys_joined pre post in
      let apart : IsApart id (keys_of pre ++ keys_of post) = subst (IsApart id) old_keys (new_apart lists nodes ends r list id vacant) in
      let not_last : last ≡ Some id → ⊥ = last_apart None (keys_of pre) id (λ e. absurd (cc)) (IsApart-front id (keys_of pre) (keys_of post) apart) in
      let not_head : front ≡ Some id → ⊥ = head_apart (keys_of post) id (IsApart-back id (keys_of pre) (keys_of post) apart) in
      let p_next = placed_next nodes placed n id vacant here there ends in
      let p_prev = placed_prev nodes placed n id vacant here there ends in
      let fits : list < length ends = omega (arith, r.as_many) in
      let known1 : next_at placed ends list n.link.before ≡ Some front =
      ap (next_at placed ends list) is_last ∙ p_next.others list last (λ _. not_last) ∙ next_between lists nodes ends r list pre post whole in
      let w1 = write_after placed ends list n.link.before (Some id) front fits known1 in
      let nodes1 = slots_after placed n.link.before (Some id) in
      let ends1 = ends_after ends list n.link.before (Some id) in
      let known2 : prev_at nodes1 ends1 list n.link.after ≡ Some last =
      w1.prev list n.link.after ∙ ap (prev_at placed ends list) is_head ∙ p_prev.others list front (λ _. not_head) ∙ prev_between lists nodes ends r list pre post whole in
      let w2 = write_before nodes1 ends1 list n.link.after (Some id) last (omega (arith, w1.many)) known2 in
      let nodes2 = slots_before nodes1 n.link.after (Some id) in
      let ends2 = ends_before ends1 list n.link.after (Some id) in
      let e : Insertion lists list pre post id n.value (next_at nodes ends) (prev_at nodes ends) (next_at placed ends) (prev_at placed ends) (next_at nodes2 ends2) (prev_at nodes2 ends2) (value_at nodes) (value_at nodes2) = record {
        within = within;
        whole = whole;
        old = r.agrees;
        vacant = λ l. ap (λ (o : Option (Node T)). option_map (λ (x : Node T). x.value) (in_list l o)) vacant;
        no_prev = λ l. ap (λ (o : Option (Node T)). option_map (λ (x : Node T). x.link.before) (in_list l o)) vacant;
        next_new = subst (λ (k : Option ℕ). Wrote (next_at nodes ends) (next_at placed ends) list (Some id) (Some k)) is_head p_next;
        next_last = subst (λ (k : Option ℕ). Wrote (next_at placed ends) (next_at nodes2 ends2) list k (Some (Some id))) is_last
            (along (next_at placed ends) (next_at placed ends) (next_at nodes1 ends1) (next_at nodes2 ends2) list n.link.before (Some (Some id)) w1.next (λ _ _. refl) w2.next);
        prev_new = subst (λ (k : Option ℕ). Wrote (prev_at nodes ends) (prev_at placed ends) list (Some id) (Some k)) is_last p_prev;
        prev_head = subst (λ (k : Option ℕ). Wrote (prev_at placed ends) (prev_at nodes2 ends2) list k (Some (Some id))) is_head
            (along (prev_at placed ends) (prev_at nodes1 ends1) (prev_at nodes2 ends2) (prev_at nodes2 ends2) list n.link.after (Some (Some id)) w2.prev w1.prev (λ _ _. refl));
        value_new = w2.value list id ∙ w1.value list id ∙ placed_value nodes placed n id vacant here there;
        value_others = λ l k differ. w2.value l k ∙ w1.value l k ∙ placed_values nodes placed n id vacant here there l k differ;
      } in
      becomes (set lists list (pre ++ (id, n.value) ∷ post)) nodes2 ends2 (record {
        as_many = omega (arith, w1.many, w2.many, r.as_many, length-set lists list (pre ++ (id, n.value) ∷ post));
        agrees = edits.inserted lists list pre post id n.value (next_at nodes ends) (prev_at nodes ends) (next_at placed ends) (prev_at placed ends) (next_at nodes2 ends2) (prev_at nodes2 ends2) (value_at nodes) (value_at nodes2) e;
      })

  -- ---- a node gone

  module _ (nodes : List (Option (Node T))) (n : Node T) (id : ℕ) (is : get_or nodes id None ≡ Some n) where
    gone : get_or (set nodes id None) id None ≡ None
    gone = elim (cases_lt id (length nodes)) [
      | inl within ↦ get_or-set_same nodes id None None within
      | inr beyond ↦ get_or_past (set nodes id None) id None (omega (arith, length-set nodes id None))
    ]

    part_gone : {X : Type 0} (of : Node T → X) (l : ℕ) → option_map of (in_list l (get_or (set nodes id None) id None)) ≡ None
    part_gone of l = ap (λ (o : Option (Node T)). option_map of (in_list l o)) gone

    part_stays : {X : Type 0} (of : Node T → X) (l k : ℕ) → (k ≡ id → ⊥) → option_map of (in_list l (get_or (set nodes id None) k None)) ≡ option_map of (in_list l (get_or nodes k None))
    part_stays of l k differs = ap (λ (o : Option (Node T)). option_map of (in_list l o)) (get_or-set_other nodes id k None None differs)

    part_alone : {X : Type 0} (of : Node T → X) (l : ℕ) → (l ≡ n.link.list → ⊥) → option_map of (in_list l (get_or nodes id None)) ≡ None
    part_alone of l differs = ap (λ (o : Option (Node T)). option_map of (in_list l o)) is ∙ ap (option_map of) (in_list-other n l (λ e. differs (sym e)))

    lost_next : (ends : List Ends) → Lost (next_at nodes ends) (next_at (set nodes id None) ends) n.link.list id
    lost_next ends = record {
      gone = part_gone (λ (x : Node T). x.link.after);
      others = others;
      alone = part_alone (λ (x : Node T). x.link.after);
    }
      where
        others : (l : ℕ) (k : Option ℕ) → (k ≡ Some id → ⊥) → next_at (set nodes id None) ends l k ≡ next_at nodes ends l k
        others l None differs = refl
        others l (Some k) differs = part_stays (λ (x : Node T). x.link.after) l k (λ e. differs (ap (λ (j : ℕ). Some j) e))

    lost_prev : (ends : List Ends) → Lost (prev_at nodes ends) (prev_at (set nodes id None) ends) n.link.list id
    lost_prev ends = record {
      gone = part_gone (λ (x : Node T). x.link.before);
      others = others;
      alone = part_alone (λ (x : Node T). x.link.before);
    }
      where
        others : (l : ℕ) (k : Option ℕ) → (k ≡ Some id → ⊥) → prev_at (set nodes id None) ends l k ≡ prev_at nodes ends l k
        others l None differs = refl
        others l (Some k) differs = part_stays (λ (x : Node T). x.link.before) l k (λ e. differs (ap (λ (j : ℕ). Some j) e))

  -- the places that a removal writes can be written
  pub record Removes (lists : List (List (ℕ × T))) (nodes : List (Option (Node T))) (ends : List Ends) (link : Link) (id : ℕ) (pre post : List (ℕ × T)) : Type 0 where
    pub can_after : next_at (set nodes id None) ends link.list link.before ≡ Some (Some id)
    pub can_before : prev_at (slots_after (set nodes id None) link.before link.after) (ends_after ends link.list link.before link.after) link.list link.after ≡ Some (Some id)
    pub fits : link.list < length ends
    pub still_fits : link.list < length (ends_after ends link.list link.before link.after)
    pub becomes : Becomes (set lists link.list (pre ++ post))
        (slots_before (slots_after (set nodes id None) link.before link.after) link.after link.before)
        (ends_before (ends_after ends link.list link.before link.after) link.list link.after link.before)

  pub removal_becomes : (lists : List (List (ℕ × T))) (nodes : List (Option (Node T))) (ends : List Ends) (n : Node T) (id : ℕ) (pre post : List (ℕ × T)) (v : T) →
      get_or nodes id None ≡ Some n →
      Represents lists nodes ends →
      n.link.list < length lists →
      get_or lists n.link.list [] ≡ pre ++ (id, v) ∷ post →
      n.link.before ≡ last_or None (keys_of pre) →
      n.link.after ≡ head (keys_of post) →
      Removes lists nodes ends n.link id pre post
  removal_becomes lists nodes ends n id pre post v is r within whole is_last is_head =
      let list = n.link.list in
      let last : Option ℕ = last_or None (keys_of pre) in
      let front : Option ℕ = head (keys_of post) in
      let left : List (Option (Node T)) = set nodes id None in
      let keys : keys_of (get_or lists list []) ≡ keys_of pre ++ id ∷ keys_of post = ap keys_of whole ∙ keys_joined pre ((id, v) ∷ post) in
      let apart : IsApart id (keys_of pre ++ keys_of post) = IsApart-without (keys_of pre) (keys_of post) id (subst AreApart keys (r.agrees.apart list)) in
      let not_last : last ≡ Some id → ⊥ = last_apart None (keys_of pre) id (λ e. absurd (cc)) (IsApart-front id (keys_of pre) (keys_of post) apart) in
      let not_head : front ≡ Some id → ⊥ = head_apart (keys_of post) id (IsApart-back id (keys_of pre) (keys_of post) apart) in
      let l_next = lost_next nodes n id is ends in
      let l_prev = lost_prev nodes n id is ends in
      let fits : list < length ends = omega (arith, r.as_many) in
      let known1 : next_at left ends list n.link.before ≡ Some (Some id) =
      ap (next_at left ends list) is_last ∙ l_next.others list last not_last ∙ next_between lists nodes ends r list pre ((id, v) ∷ post) whole in
      let w1 = write_after left ends list n.link.before n.link.after (Some id) fits known1 in
      let nodes1 = slots_after left n.link.before n.link.after in
      let ends1 = ends_after ends list n.link.before n.link.after in
      let known2 : prev_at nodes1 ends1 list n.link.after ≡ Some (Some id) =
      w1.prev list n.link.after ∙ ap (prev_at left ends list) is_head ∙ l_prev.others list front not_head
      ∙ subst (λ (k : Option ℕ). prev_at nodes ends list front ≡ Some k) (ap (last_or None) (keys_joined pre ((id, v) ∷ [])) ∙ last_or-push None (keys_of pre) id) (prev_between lists nodes ends r list (pre ++ (id, v) ∷ []) post (whole ∙ sym (append_assoc pre ((id, v) ∷ []) post))) in
      let still : list < length ends1 = omega (arith, w1.many) in
      let w2 = write_before nodes1 ends1 list n.link.after n.link.before (Some id) still known2 in
      let nodes2 = slots_before nodes1 n.link.after n.link.before in
      let ends2 = ends_before ends1 list n.link.after n.link.before in
      let e : Removal lists list pre post id v (next_at nodes ends) (prev_at nodes ends) (next_at left ends) (prev_at left ends) (next_at nodes2 ends2) (prev_at nodes2 ends2) (value_at nodes) (value_at nodes2) = record {
        within = within;
        whole = whole;
        old = r.agrees;
        next_lost = l_next;
        next_last = subst (λ (k : Option ℕ). Wrote (next_at left ends) (next_at nodes2 ends2) list last (Some k)) is_head
            (subst (λ (k : Option ℕ). Wrote (next_at left ends) (next_at nodes2 ends2) list k (Some n.link.after)) is_last
            (along (next_at left ends) (next_at left ends) (next_at nodes1 ends1) (next_at nodes2 ends2) list n.link.before (Some n.link.after) w1.next (λ _ _. refl) w2.next));
        prev_lost = l_prev;
        prev_head = subst (λ (k : Option ℕ). Wrote (prev_at left ends) (prev_at nodes2 ends2) list front (Some k)) is_last
            (subst (λ (k : Option ℕ). Wrote (prev_at left ends) (prev_at nodes2 ends2) list k (Some n.link.before)) is_head
            (along (prev_at left ends) (prev_at nodes1 ends1) (prev_at nodes2 ends2) (prev_at nodes2 ends2) list n.link.after (Some n.link.before) w2.prev w1.prev (λ _ _. refl)));
        value_gone = λ l. w2.value l id ∙ w1.value l id ∙ part_gone nodes n id is (λ (x : Node T). x.value) l;
        value_others = λ l k differs. w2.value l k ∙ w1.value l k ∙ part_stays nodes n id is (λ (x : Node T). x.value) l k differs;
        value_alone = part_alone nodes n id is (λ (x : Node T). x.value);
      } in
      record {
        can_after = known1;
        can_before = known2;
        fits = fits;
        still_fits = still;
        becomes = becomes (set lists list (pre ++ post)) nodes2 ends2 (record {
          as_many = omega (arith, w1.many, w2.many, r.as_many, length-set lists list (pre ++ post));
          agrees = edits.removed lists list pre post id v (next_at nodes ends) (prev_at nodes ends) (next_at left ends) (prev_at left ends) (next_at nodes2 ends2) (prev_at nodes2 ends2) (value_at nodes) (value_at nodes2) e;
        });
      }

  -- ---- a live id

  -- where a live id stands, and the node under it
  pub record Lives (lists : List (List (ℕ × T))) (nodes : List (Option (Node T))) (id : ℕ) : Type 0 where
    pub node : Node T
    pub is : get_or nodes id None ≡ Some node
    pub own : node.link.list ≡ home id lists
    pub within : home id lists < length lists
    pub place : Split id (get_or lists (home id lists) [])
    pub has : node.value ≡ place.value
    pub before : node.link.before ≡ last_or None (keys_of place.pre)
    pub after : node.link.after ≡ head (keys_of place.post)

  pub lives : (lists : List (List (ℕ × T))) (nodes : List (Option (Node T))) (ends : List Ends) (id : ℕ) → Represents lists nodes ends → IsSome (lookup (eqb id) (get_or lists (home id lists) [])) → Lives lists nodes id
  lives lists nodes ends id r present =
      let list = home id lists in
      let all = get_or lists list [] in
      let some = some_of (lookup (eqb id) all) present in
      let s = split id all some.0 some.1 in
      let found = node_with (λ (x : Node T). x.value) (get_or nodes id None) list s.value (r.agrees.values list id ∙ s.found) in
      let n = found.0 in
      let nx : next_at nodes ends list (Some id) ≡ Some (head (keys_of s.post)) =
      subst (λ (k : Option ℕ). next_at nodes ends list k ≡ Some (head (keys_of s.post))) (ap (last_or None) (keys_joined s.pre ((id, s.value) ∷ [])) ∙ last_or-push None (keys_of s.pre) id)
      (next_between lists nodes ends r list (s.pre ++ (id, s.value) ∷ []) s.post (s.whole ∙ sym (append_assoc s.pre ((id, s.value) ∷ []) s.post))) in
      let pv : prev_at nodes ends list (Some id) ≡ Some (last_or None (keys_of s.pre)) = prev_between lists nodes ends r list s.pre ((id, s.value) ∷ s.post) s.whole in
      let read : (of : Node T → Option ℕ) → option_map of (in_list list (get_or nodes id None)) ≡ Some (of n) =
      λ (of : Node T → Option ℕ). ap (λ (o : Option (Node T)). option_map of (in_list list o)) found.1 ∙ ap (option_map of) (in_list-own n list found.2) in
      record {
        node = n;
        is = found.1;
        own = found.2;
        within = elim (cases_lt list (length lists)) [
          | inl h ↦ h
          | inr beyond ↦ absurd (let none = get_or_past lists list [] beyond in let f : lookup (eqb id) [] ≡ Some s.value = ap (lookup (eqb id)) (sym none) ∙ s.found in cc)
        ];
        place = s;
        has = found.3;
        before = let h : Some n.link.before ≡ Some (last_or None (keys_of s.pre)) = sym (read (λ (x : Node T). x.link.before)) ∙ pv in cc;
        after = let h : Some n.link.after ≡ Some (head (keys_of s.post)) = sym (read (λ (x : Node T). x.link.after)) ∙ nx in cc;
      }

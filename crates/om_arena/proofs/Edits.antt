-- An arena's lists agree with its links again after an insertion, a removal and a write.
use Rattle.std.proofs.Common.{◌≡◌, ◌⊎◌, ℕ, ◌<◌, eqb, List, [], ◌∷◌, ◌++◌, length, get_or, set, Option, Some, None, sym, ap, subst, ◌∙◌, inl, inr}
use Rattle.std.proofs.lemmas.Bool.{cases_eq}
use Rattle.std.proofs.lemmas.List.{map-append, get_or-set_same, get_or-set_other}
use Rattle.std.specs.Map.{lookup, keys_of}
use Rattle.om_arena.specs.Linked.{head, next_in, Agrees}
use Rattle.om_arena.specs.Lists.{IsApart, AreApart}
use Rattle.om_arena.proofs.Orders.{last_or, cases_same, AreApart-insert, AreApart-without, IsApart-without, next_in-split, next_in-here, next_in-insert, next_in-absent, head_apart, lookup-other, lookup-here, lookup-absent, absent-lookup, IsApart-front, IsApart-back}

-- a function of lists and places, with one value written
pub record Wrote {X : Type 0} (old new : ℕ → Option ℕ → X) (list : ℕ) (at : Option ℕ) (to : X) : Type 0 where
  pub changed : new list at ≡ to
  pub others : (l : ℕ) (k : Option ℕ) → (l ≡ list → k ≡ at → ⊥) → new l k ≡ old l k

-- a function of lists and places, with one id taken out
pub record Lost {X : Type 0} (old new : ℕ → Option ℕ → Option X) (list id : ℕ) : Type 0 where
  pub gone : (l : ℕ) → new l (Some id) ≡ None
  pub others : (l : ℕ) (k : Option ℕ) → (k ≡ Some id → ⊥) → new l k ≡ old l k
  -- it stood in this list alone
  pub alone : (l : ℕ) → (l ≡ list → ⊥) → old l (Some id) ≡ None

module _ {T : Type 0} where
  keys_split : (pre post : List (ℕ × T)) (id : ℕ) (v : T) → keys_of (pre ++ (id, v) ∷ post) ≡ keys_of pre ++ id ∷ keys_of post
  keys_split pre post id v = map-append (λ e. e.0) pre ((id, v) ∷ post)

  keys_joined : (pre post : List (ℕ × T)) → keys_of (pre ++ post) ≡ keys_of pre ++ keys_of post
  keys_joined pre post = map-append (λ e. e.0) pre post

  -- what holds of the changed list, and of each other one, holds of each
  by_list : (P : ℕ → List (ℕ × T) → Type 0) (lists : List (List (ℕ × T))) (list : ℕ) (items : List (ℕ × T)) (l : ℕ) → list < length lists → P list items → ((l ≡ list → ⊥) → P l (get_or lists l [])) → P l (get_or (set lists list items) l [])
  by_list P lists list items l within here there = by (cases_eq l list)
    where
      by : (l ≡ list) ⊎ (l ≡ list → ⊥) → P l (get_or (set lists list items) l [])
      by (inl e) = subst (λ (m : ℕ). P m (get_or (set lists list items) m [])) (sym e) (subst (P list) (sym (get_or-set_same lists list items [] within)) here)
      by (inr differs) = subst (P l) (sym (get_or-set_other lists list l items [] differs)) (there differs)

  pub record Insertion (lists : List (List (ℕ × T))) (list : ℕ) (pre post : List (ℕ × T)) (new : ℕ) (v : T)
      (next prev between back next' prev' : ℕ → Option ℕ → Option (Option ℕ)) (value value' : ℕ → ℕ → Option T) : Type 0 where
    pub within : list < length lists
    pub whole : get_or lists list [] ≡ pre ++ post
    pub old : Agrees lists next prev value
    pub vacant : (l : ℕ) → value l new ≡ None
    pub no_prev : (l : ℕ) → prev l (Some new) ≡ None
    pub next_new : Wrote next between list (Some new) (Some (head (keys_of post)))
    pub next_last : Wrote between next' list (last_or None (keys_of pre)) (Some (Some new))
    pub prev_new : Wrote prev back list (Some new) (Some (last_or None (keys_of pre)))
    pub prev_head : Wrote back prev' list (head (keys_of post)) (Some (Some new))
    pub value_new : value' list new ≡ Some v
    pub value_others : (l id : ℕ) → (l ≡ list → id ≡ new → ⊥) → value' l id ≡ value l id

  module _ (lists : List (List (ℕ × T))) (list : ℕ) (pre post : List (ℕ × T)) (new : ℕ) (v : T)
      (next prev between back next' prev' : ℕ → Option ℕ → Option (Option ℕ)) (value value' : ℕ → ℕ → Option T)
      (e : Insertion lists list pre post new v next prev between back next' prev' value value') where
    old_keys : keys_of (get_or lists list []) ≡ keys_of pre ++ keys_of post
    old_keys = ap keys_of e.whole ∙ keys_joined pre post

    fresh : IsApart new (keys_of pre ++ keys_of post)
    fresh = subst (IsApart new) old_keys (absent-lookup (get_or lists list []) new (sym (e.old.values list new) ∙ e.vacant list))

    apart_old : AreApart (keys_of pre ++ keys_of post)
    apart_old = subst AreApart old_keys (e.old.apart list)

    apart_new : AreApart (keys_of pre ++ new ∷ keys_of post)
    apart_new = AreApart-insert (keys_of pre) (keys_of post) new fresh apart_old

    old_next : (k : Option ℕ) → next list k ≡ next_in None (keys_of pre ++ keys_of post) k
    old_next k = subst (λ (ids : List ℕ). next list k ≡ next_in None ids k) old_keys (e.old.nexts list k)

    next_here : (k : Option ℕ) → next' list k ≡ next_in None (keys_of pre ++ new ∷ keys_of post) k
    next_here k = by (cases_same k (last_or None (keys_of pre))) (cases_same k (Some new))
      where
        by : (k ≡ last_or None (keys_of pre)) ⊎ (k ≡ last_or None (keys_of pre) → ⊥) → (k ≡ Some new) ⊎ (k ≡ Some new → ⊥) → next' list k ≡ next_in None (keys_of pre ++ new ∷ keys_of post) k
        by (inl at) _ = subst (λ (j : Option ℕ). next' list j ≡ next_in None (keys_of pre ++ new ∷ keys_of post) j) (sym at) (e.next_last.changed ∙ sym (next_in-split None (keys_of pre) (new ∷ keys_of post) tt apart_new))
        by (inr not_last) (inl at) =
            e.next_last.others list k (λ _. not_last)
            ∙ subst (λ (j : Option ℕ). between list j ≡ next_in None (keys_of pre ++ new ∷ keys_of post) j) (sym at) (e.next_new.changed ∙ sym (next_in-here None (keys_of pre) (keys_of post) new tt apart_new))
        by (inr not_last) (inr not_new) =
            e.next_last.others list k (λ _. not_last)
            ∙ e.next_new.others list k (λ _. not_new)
            ∙ old_next k
            ∙ sym (next_in-insert None (keys_of pre) (keys_of post) new k not_last not_new)

    next_there : (l : ℕ) (k : Option ℕ) → (l ≡ list → ⊥) → next' l k ≡ next l k
    next_there l k differs = e.next_last.others l k (λ same _. differs same) ∙ e.next_new.others l k (λ same _. differs same)

    prev_there : (l : ℕ) (k : Option ℕ) → (l ≡ list → ⊥) → prev' l k ≡ prev l k
    prev_there l k differs = e.prev_head.others l k (λ same _. differs same) ∙ e.prev_new.others l k (λ same _. differs same)

    value_here : (id : ℕ) → value' list id ≡ lookup (eqb id) (pre ++ (new, v) ∷ post)
    value_here id = by (cases_eq id new)
      where
        by : (id ≡ new) ⊎ (id ≡ new → ⊥) → value' list id ≡ lookup (eqb id) (pre ++ (new, v) ∷ post)
        by (inl at) = subst (λ (i : ℕ). value' list i ≡ lookup (eqb i) (pre ++ (new, v) ∷ post)) (sym at) (e.value_new ∙ sym (lookup-here pre post new v (IsApart-front new (keys_of pre) (keys_of post) fresh)))
        by (inr differs) = e.value_others list id (λ _. differs) ∙ e.old.values list id ∙ ap (lookup (eqb id)) e.whole ∙ sym (lookup-other pre post new v id differs)

    -- nothing but the last of the front had the head of the back after it
    old_head : prev list (head (keys_of post)) ≡ Some (last_or None (keys_of pre))
    old_head = e.old.back list (last_or None (keys_of pre)) (head (keys_of post)) (old_next (last_or None (keys_of pre)) ∙ next_in-split None (keys_of pre) (keys_of post) tt apart_old)

    back_here : (j k : Option ℕ) → next' list j ≡ Some k → prev' list k ≡ Some j
    back_here j k follows = by (cases_same j (last_or None (keys_of pre))) (cases_same j (Some new))
      where
        by : (j ≡ last_or None (keys_of pre)) ⊎ (j ≡ last_or None (keys_of pre) → ⊥) → (j ≡ Some new) ⊎ (j ≡ Some new → ⊥) → prev' list k ≡ Some j
        by (inl at) _ =
            let is_new : k ≡ Some new = let c = e.next_last.changed in let f : next' list (last_or None (keys_of pre)) ≡ Some k = ap (next' list) (sym at) ∙ follows in cc in
            ap (prev' list) is_new
            ∙ e.prev_head.others list (Some new) (λ _ same. head_apart (keys_of post) new (IsApart-back new (keys_of pre) (keys_of post) fresh) (sym same))
            ∙ e.prev_new.changed
            ∙ ap (λ (x : Option ℕ). Some x) (sym at)
        by (inr not_last) (inl at) =
            let f : between list (Some new) ≡ Some k = ap (between list) (sym at) ∙ sym (e.next_last.others list j (λ _. not_last)) ∙ follows in
            let is_head : k ≡ head (keys_of post) = let c = e.next_new.changed in cc in
            ap (prev' list) is_head ∙ e.prev_head.changed ∙ ap (λ (x : Option ℕ). Some x) (sym at)
        by (inr not_last) (inr not_new) =
            let f : next list j ≡ Some k = sym (e.next_new.others list j (λ _. not_new)) ∙ sym (e.next_last.others list j (λ _. not_last)) ∙ follows in
            let p : prev list k ≡ Some j = e.old.back list j k f in
            e.prev_head.others list k (λ _ same. not_last (let h = old_head in let q : prev list (head (keys_of post)) ≡ Some j = ap (prev list) (sym same) ∙ p in cc))
            ∙ e.prev_new.others list k (λ _ same. let h = e.no_prev list in let q : prev list (Some new) ≡ Some j = ap (prev list) (sym same) ∙ p in absurd (cc))
            ∙ p

    pub inserted : Agrees (set lists list (pre ++ (new, v) ∷ post)) next' prev' value'
    inserted = record {
      apart = λ l. by_list (λ _ items. AreApart (keys_of items)) lists list (pre ++ (new, v) ∷ post) l e.within
          (subst AreApart (sym (keys_split pre post new v)) apart_new)
          (λ _. e.old.apart l);
      values = λ l. by_list (λ m items. (id : ℕ) → value' m id ≡ lookup (eqb id) items) lists list (pre ++ (new, v) ∷ post) l e.within
          value_here
          (λ differs id. e.value_others l id (λ same _. differs same) ∙ e.old.values l id);
      nexts = λ l. by_list (λ m items. (k : Option ℕ) → next' m k ≡ next_in None (keys_of items) k) lists list (pre ++ (new, v) ∷ post) l e.within
          (λ k. subst (λ (ids : List ℕ). next' list k ≡ next_in None ids k) (sym (keys_split pre post new v)) (next_here k))
          (λ differs k. next_there l k differs ∙ e.old.nexts l k);
      back = λ l. by_list (λ m items. (j k : Option ℕ) → next' m j ≡ Some k → prev' m k ≡ Some j) lists list (pre ++ (new, v) ∷ post) l e.within
          back_here
          (λ differs j k follows. prev_there l k differs ∙ e.old.back l j k (sym (next_there l j differs) ∙ follows));
    }

  -- ---- a removal

  pub record Removal (lists : List (List (ℕ × T))) (list : ℕ) (pre post : List (ℕ × T)) (id : ℕ) (v : T)
      (next prev between back next' prev' : ℕ → Option ℕ → Option (Option ℕ)) (value value' : ℕ → ℕ → Option T) : Type 0 where
    pub within : list < length lists
    pub whole : get_or lists list [] ≡ pre ++ (id, v) ∷ post
    pub old : Agrees lists next prev value
    pub next_lost : Lost next between list id
    pub next_last : Wrote between next' list (last_or None (keys_of pre)) (Some (head (keys_of post)))
    pub prev_lost : Lost prev back list id
    pub prev_head : Wrote back prev' list (head (keys_of post)) (Some (last_or None (keys_of pre)))
    pub value_gone : (l : ℕ) → value' l id ≡ None
    pub value_others : (l k : ℕ) → (k ≡ id → ⊥) → value' l k ≡ value l k
    pub value_alone : (l : ℕ) → (l ≡ list → ⊥) → value l id ≡ None

  module _ (lists : List (List (ℕ × T))) (list : ℕ) (pre post : List (ℕ × T)) (id : ℕ) (v : T)
      (next prev between back next' prev' : ℕ → Option ℕ → Option (Option ℕ)) (value value' : ℕ → ℕ → Option T)
      (e : Removal lists list pre post id v next prev between back next' prev' value value') where
    whole_keys : keys_of (get_or lists list []) ≡ keys_of pre ++ id ∷ keys_of post
    whole_keys = ap keys_of e.whole ∙ keys_split pre post id v

    apart_whole : AreApart (keys_of pre ++ id ∷ keys_of post)
    apart_whole = subst AreApart whole_keys (e.old.apart list)

    apart_rest : AreApart (keys_of pre ++ keys_of post)
    apart_rest = AreApart-without (keys_of pre) (keys_of post) id apart_whole

    absent : IsApart id (keys_of pre ++ keys_of post)
    absent = IsApart-without (keys_of pre) (keys_of post) id apart_whole

    whole_next : (k : Option ℕ) → next list k ≡ next_in None (keys_of pre ++ id ∷ keys_of post) k
    whole_next k = subst (λ (ids : List ℕ). next list k ≡ next_in None ids k) whole_keys (e.old.nexts list k)

    -- the removed id stood between the two
    was_after : prev list (Some id) ≡ Some (last_or None (keys_of pre))
    was_after = e.old.back list (last_or None (keys_of pre)) (Some id) (whole_next (last_or None (keys_of pre)) ∙ next_in-split None (keys_of pre) (id ∷ keys_of post) tt apart_whole)

    was_before : prev list (head (keys_of post)) ≡ Some (Some id)
    was_before = e.old.back list (Some id) (head (keys_of post)) (whole_next (Some id) ∙ next_in-here None (keys_of pre) (keys_of post) id tt apart_whole)

    left_next : (k : Option ℕ) → next' list k ≡ next_in None (keys_of pre ++ keys_of post) k
    left_next k = by (cases_same k (last_or None (keys_of pre))) (cases_same k (Some id))
      where
        by : (k ≡ last_or None (keys_of pre)) ⊎ (k ≡ last_or None (keys_of pre) → ⊥) → (k ≡ Some id) ⊎ (k ≡ Some id → ⊥) → next' list k ≡ next_in None (keys_of pre ++ keys_of post) k
        by (inl at) _ = subst (λ (j : Option ℕ). next' list j ≡ next_in None (keys_of pre ++ keys_of post) j) (sym at) (e.next_last.changed ∙ sym (next_in-split None (keys_of pre) (keys_of post) tt apart_rest))
        by (inr not_last) (inl at) =
            e.next_last.others list k (λ _. not_last)
            ∙ subst (λ (j : Option ℕ). between list j ≡ next_in None (keys_of pre ++ keys_of post) j) (sym at) (e.next_lost.gone list ∙ sym (next_in-absent None (keys_of pre ++ keys_of post) id (λ n. absurd (cc)) absent))
        by (inr not_last) (inr not_id) =
            e.next_last.others list k (λ _. not_last)
            ∙ e.next_lost.others list k not_id
            ∙ whole_next k
            ∙ next_in-insert None (keys_of pre) (keys_of post) id k not_last not_id

    left_value : (k : ℕ) → value' list k ≡ lookup (eqb k) (pre ++ post)
    left_value k = by (cases_eq k id)
      where
        by : (k ≡ id) ⊎ (k ≡ id → ⊥) → value' list k ≡ lookup (eqb k) (pre ++ post)
        by (inl at) = subst (λ (i : ℕ). value' list i ≡ lookup (eqb i) (pre ++ post)) (sym at) (e.value_gone list ∙ sym (lookup-absent (pre ++ post) id (subst (IsApart id) (sym (keys_joined pre post)) absent)))
        by (inr differs) = e.value_others list k differs ∙ e.old.values list k ∙ ap (lookup (eqb k)) e.whole ∙ lookup-other pre post id v k differs

    left_back : (j k : Option ℕ) → next' list j ≡ Some k → prev' list k ≡ Some j
    left_back j k follows = by (cases_same j (last_or None (keys_of pre))) (cases_same j (Some id))
      where
        by : (j ≡ last_or None (keys_of pre)) ⊎ (j ≡ last_or None (keys_of pre) → ⊥) → (j ≡ Some id) ⊎ (j ≡ Some id → ⊥) → prev' list k ≡ Some j
        by (inl at) _ =
            let is_head : k ≡ head (keys_of post) = let c = e.next_last.changed in let f : next' list (last_or None (keys_of pre)) ≡ Some k = ap (next' list) (sym at) ∙ follows in cc in
            ap (prev' list) is_head ∙ e.prev_head.changed ∙ ap (λ (x : Option ℕ). Some x) (sym at)
        by (inr not_last) (inl at) =
            let f : between list (Some id) ≡ Some k = ap (between list) (sym at) ∙ sym (e.next_last.others list j (λ _. not_last)) ∙ follows in
            let gone = e.next_lost.gone list in
            absurd (cc)
        by (inr not_last) (inr not_id) =
            let f : next list j ≡ Some k = sym (e.next_lost.others list j not_id) ∙ sym (e.next_last.others list j (λ _. not_last)) ∙ follows in
            let p : prev list k ≡ Some j = e.old.back list j k f in
            e.prev_head.others list k (λ _ same. not_id (let h = was_before in let q : prev list (head (keys_of post)) ≡ Some j = ap (prev list) (sym same) ∙ p in cc))
            ∙ e.prev_lost.others list k (λ same. not_last (let h = was_after in let q : prev list (Some id) ≡ Some j = ap (prev list) (sym same) ∙ p in cc))
            ∙ p

    other_next : (l : ℕ) (k : Option ℕ) → (l ≡ list → ⊥) → next' l k ≡ next l k
    other_next l k differs = e.next_last.others l k (λ same _. differs same) ∙ by (cases_same k (Some id))
      where
        by : (k ≡ Some id) ⊎ (k ≡ Some id → ⊥) → between l k ≡ next l k
        by (inl at) = subst (λ (j : Option ℕ). between l j ≡ next l j) (sym at) (e.next_lost.gone l ∙ sym (e.next_lost.alone l differs))
        by (inr not_id) = e.next_lost.others l k not_id

    other_prev : (l : ℕ) (k : Option ℕ) → (l ≡ list → ⊥) → prev' l k ≡ prev l k
    other_prev l k differs = e.prev_head.others l k (λ same _. differs same) ∙ by (cases_same k (Some id))
      where
        by : (k ≡ Some id) ⊎ (k ≡ Some id → ⊥) → back l k ≡ prev l k
        by (inl at) = subst (λ (j : Option ℕ). back l j ≡ prev l j) (sym at) (e.prev_lost.gone l ∙ sym (e.prev_lost.alone l differs))
        by (inr not_id) = e.prev_lost.others l k not_id

    other_value : (l k : ℕ) → (l ≡ list → ⊥) → value' l k ≡ value l k
    other_value l k differs = by (cases_eq k id)
      where
        by : (k ≡ id) ⊎ (k ≡ id → ⊥) → value' l k ≡ value l k
        by (inl at) = subst (λ (i : ℕ). value' l i ≡ value l i) (sym at) (e.value_gone l ∙ sym (e.value_alone l differs))
        by (inr not_id) = e.value_others l k not_id

    pub removed : Agrees (set lists list (pre ++ post)) next' prev' value'
    removed = record {
      apart = λ l. by_list (λ _ items. AreApart (keys_of items)) lists list (pre ++ post) l e.within
          (subst AreApart (sym (keys_joined pre post)) apart_rest)
          (λ _. e.old.apart l);
      values = λ l. by_list (λ m items. (k : ℕ) → value' m k ≡ lookup (eqb k) items) lists list (pre ++ post) l e.within
          left_value
          (λ differs k. other_value l k differs ∙ e.old.values l k);
      nexts = λ l. by_list (λ m items. (k : Option ℕ) → next' m k ≡ next_in None (keys_of items) k) lists list (pre ++ post) l e.within
          (λ k. subst (λ (ids : List ℕ). next' list k ≡ next_in None ids k) (sym (keys_joined pre post)) (left_next k))
          (λ differs k. other_next l k differs ∙ e.old.nexts l k);
      back = λ l. by_list (λ m items. (j k : Option ℕ) → next' m j ≡ Some k → prev' m k ≡ Some j) lists list (pre ++ post) l e.within
          left_back
          (λ differs j k follows. other_prev l k differs ∙ e.old.back l j k (sym (other_next l j differs) ∙ follows));
    }

  -- ---- a write

  pub record Writing (lists : List (List (ℕ × T))) (list : ℕ) (pre post : List (ℕ × T)) (id : ℕ) (v to : T)
      (next prev next' prev' : ℕ → Option ℕ → Option (Option ℕ)) (value value' : ℕ → ℕ → Option T) : Type 0 where
    pub within : list < length lists
    pub whole : get_or lists list [] ≡ pre ++ (id, v) ∷ post
    pub old : Agrees lists next prev value
    pub next_same : (l : ℕ) (k : Option ℕ) → next' l k ≡ next l k
    pub prev_same : (l : ℕ) (k : Option ℕ) → prev' l k ≡ prev l k
    pub value_new : value' list id ≡ Some to
    pub value_others : (l k : ℕ) → (l ≡ list → k ≡ id → ⊥) → value' l k ≡ value l k

  module _ (lists : List (List (ℕ × T))) (list : ℕ) (pre post : List (ℕ × T)) (id : ℕ) (v to : T)
      (next prev next' prev' : ℕ → Option ℕ → Option (Option ℕ)) (value value' : ℕ → ℕ → Option T)
      (e : Writing lists list pre post id v to next prev next' prev' value value') where
    same_keys : keys_of (get_or lists list []) ≡ keys_of (pre ++ (id, to) ∷ post)
    same_keys = ap keys_of e.whole ∙ keys_split pre post id v ∙ sym (keys_split pre post id to)

    front_apart : IsApart id (keys_of pre)
    front_apart =
        let all : AreApart (keys_of pre ++ id ∷ keys_of post) = subst AreApart (ap keys_of e.whole ∙ keys_split pre post id v) (e.old.apart list) in
        IsApart-front id (keys_of pre) (keys_of post) (IsApart-without (keys_of pre) (keys_of post) id all)

    new_value : (k : ℕ) → value' list k ≡ lookup (eqb k) (pre ++ (id, to) ∷ post)
    new_value k = by (cases_eq k id)
      where
        by : (k ≡ id) ⊎ (k ≡ id → ⊥) → value' list k ≡ lookup (eqb k) (pre ++ (id, to) ∷ post)
        by (inl at) = subst (λ (i : ℕ). value' list i ≡ lookup (eqb i) (pre ++ (id, to) ∷ post)) (sym at) (e.value_new ∙ sym (lookup-here pre post id to front_apart))
        by (inr differs) =
            e.value_others list k (λ _. differs)
            ∙ e.old.values list k
            ∙ ap (lookup (eqb k)) e.whole
            ∙ lookup-other pre post id v k differs
            ∙ sym (lookup-other pre post id to k differs)

    pub rewritten : Agrees (set lists list (pre ++ (id, to) ∷ post)) next' prev' value'
    rewritten = record {
      apart = λ l. by_list (λ _ items. AreApart (keys_of items)) lists list (pre ++ (id, to) ∷ post) l e.within
          (subst AreApart same_keys (e.old.apart list))
          (λ _. e.old.apart l);
      values = λ l. by_list (λ m items. (k : ℕ) → value' m k ≡ lookup (eqb k) items) lists list (pre ++ (id, to) ∷ post) l e.within
          new_value
          (λ differs k. e.value_others l k (λ same _. differs same) ∙ e.old.values l k);
      nexts = λ l. by_list (λ m items. (k : Option ℕ) → next' m k ≡ next_in None (keys_of items) k) lists list (pre ++ (id, to) ∷ post) l e.within
          (λ k. subst (λ (ids : List ℕ). next' list k ≡ next_in None ids k) same_keys (e.next_same list k ∙ e.old.nexts list k))
          (λ _ k. e.next_same l k ∙ e.old.nexts l k);
      back = λ l j k follows. e.prev_same l k ∙ e.old.back l j k (sym (e.next_same l j) ∙ follows);
    }

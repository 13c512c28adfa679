-- What one write to the nodes or the ends does to what comes next, what comes before and what stands there.
use Rattle.std.proofs.Common.{◌≡◌, ◌⊎◌, ℕ, ◌<◌, List, length, get_or, set, Option, Some, None, option_map, refl, sym, ap, subst, ◌∙◌, inl, inr}
use Rattle.std.proofs.lemmas.Bool.{cases_eq, cases_lt}
use Rattle.std.proofs.lemmas.List.{get_or-set_same, get_or-set_other, get_or_past, length-set}
use Rattle.om_arena.specs.Linked.{in_list, next_at, prev_at, value_at, no_ends, slots_after, slots_before, ends_after, ends_before}
use Rattle.om_arena.specs.declared.links.Node.{Node}
use Rattle.om_arena.specs.declared.links.Ends.{Ends}
use Rattle.om_arena.proofs.Edits.{Wrote}
use Rattle.om_arena.proofs.Walks.{in_list-own, in_list-other, node_with}

module _ {T : Type 0} where
  some_within : (nodes : List (Option (Node T))) (id : ℕ) (n : Node T) → get_or nodes id None ≡ Some n → id < length nodes
  some_within nodes id n is = elim (cases_lt id (length nodes)) [
    | inl within ↦ within
    | inr beyond ↦ absurd (let none = get_or_past nodes id None beyond in cc)
  ]

  -- one node was changed, and not its list: what is read of the others stays
  module _ (nodes : List (Option (Node T))) (id : ℕ) (n m : Node T) (is : get_or nodes id None ≡ Some n) (own : m.link.list ≡ n.link.list) where
    read_here : get_or (set nodes id (Some m)) id None ≡ Some m
    read_here = get_or-set_same nodes id (Some m) None (some_within nodes id n is)

    read_there : (k : ℕ) → (k ≡ id → ⊥) → get_or (set nodes id (Some m)) k None ≡ get_or nodes k None
    read_there k differs = get_or-set_other nodes id k (Some m) None differs

    pub same_part : {X : Type 0} (of : Node T → X) → of m ≡ of n → (list k : ℕ) → option_map of (in_list list (get_or (set nodes id (Some m)) k None)) ≡ option_map of (in_list list (get_or nodes k None))
    same_part {X} of kept list k = by (cases_eq k id)
      where
        inner : (n.link.list ≡ list) ⊎ (n.link.list ≡ list → ⊥) → option_map of (in_list list (Some m)) ≡ option_map of (in_list list (Some n))
        inner (inl e) = ap (option_map of) (in_list-own m list (own ∙ e)) ∙ ap (λ (x : X). Some x) kept ∙ sym (ap (option_map of) (in_list-own n list e))
        inner (inr differs) = ap (option_map of) (in_list-other m list (λ e. differs (sym own ∙ e))) ∙ sym (ap (option_map of) (in_list-other n list differs))

        by : (k ≡ id) ⊎ (k ≡ id → ⊥) → option_map of (in_list list (get_or (set nodes id (Some m)) k None)) ≡ option_map of (in_list list (get_or nodes k None))
        by (inl e) = subst (λ (j : ℕ). option_map of (in_list list (get_or (set nodes id (Some m)) j None)) ≡ option_map of (in_list list (get_or nodes j None))) (sym e)
            (ap (λ (o : Option (Node T)). option_map of (in_list list o)) read_here ∙ inner (cases_eq n.link.list list) ∙ sym (ap (λ (o : Option (Node T)). option_map of (in_list list o)) is))
        by (inr differs) = ap (λ (o : Option (Node T)). option_map of (in_list list o)) (read_there k differs)

    pub new_part : {X : Type 0} (of : Node T → X) → (list : ℕ) → n.link.list ≡ list → option_map of (in_list list (get_or (set nodes id (Some m)) id None)) ≡ Some (of m)
    new_part of list e = ap (λ (o : Option (Node T)). option_map of (in_list list o)) read_here ∙ ap (option_map of) (in_list-own m list (own ∙ e))

    pub other_part : {X : Type 0} (of : Node T → X) → (list l k : ℕ) → n.link.list ≡ list → (l ≡ list → k ≡ id → ⊥) → option_map of (in_list l (get_or (set nodes id (Some m)) k None)) ≡ option_map of (in_list l (get_or nodes k None))
    other_part {X} of list l k e differ = by (cases_eq k id)
      where
        by : (k ≡ id) ⊎ (k ≡ id → ⊥) → option_map of (in_list l (get_or (set nodes id (Some m)) k None)) ≡ option_map of (in_list l (get_or nodes k None))
        by (inl at) = subst (λ (j : ℕ). option_map of (in_list l (get_or (set nodes id (Some m)) j None)) ≡ option_map of (in_list l (get_or nodes j None))) (sym at)
            (ap (λ (o : Option (Node T)). option_map of (in_list l o)) read_here
            ∙ ap (option_map of) (in_list-other m l (λ f. differ (sym f ∙ own ∙ e) at))
            ∙ sym (ap (λ (o : Option (Node T)). option_map of (in_list l o)) is ∙ ap (option_map of) (in_list-other n l (λ f. differ (sym f ∙ e) at))))
        by (inr differs) = ap (λ (o : Option (Node T)). option_map of (in_list l o)) (read_there k differs)

  -- what a write of what comes next changes
  pub record WroteNext (nodes : List (Option (Node T))) (ends : List Ends) (list : ℕ) (at to : Option ℕ) (nodes' : List (Option (Node T))) (ends' : List Ends) : Type 0 where
    pub next : Wrote (next_at nodes ends) (next_at nodes' ends') list at (Some to)
    pub prev : (l : ℕ) (k : Option ℕ) → prev_at nodes' ends' l k ≡ prev_at nodes ends l k
    pub value : (l id : ℕ) → value_at nodes' l id ≡ value_at nodes l id
    pub many : length ends' ≡ length ends

  pub write_after : (nodes : List (Option (Node T))) (ends : List Ends) (list : ℕ) (at to was : Option ℕ) → list < length ends → next_at nodes ends list at ≡ Some was → WroteNext nodes ends list at to (slots_after nodes at to) (ends_after ends list at to)
  write_after nodes ends list None to was within known = record {
    next = record {
      changed = ap (λ (e : Ends). Some (e.first)) (get_or-set_same ends list new no_ends within);
      others = others;
    };
    prev = prev;
    value = λ l id. refl;
    many = length-set ends list new;
  }
    where
      new : Ends
      new = record (get_or ends list no_ends) { first = to }

      others : (l : ℕ) (k : Option ℕ) → (l ≡ list → k ≡ None → ⊥) → next_at nodes (ends_after ends list None to) l k ≡ next_at nodes ends l k
      others l None differ = ap (λ (e : Ends). Some (e.first)) (get_or-set_other ends list l new no_ends (λ e. differ e refl))
      others l (Some id) differ = refl

      prev : (l : ℕ) (k : Option ℕ) → prev_at nodes (ends_after ends list None to) l k ≡ prev_at nodes ends l k
      prev l None = elim (cases_eq l list) [
        | inl e ↦ subst (λ (m : ℕ). Some ((get_or (set ends list new) m no_ends).last) ≡ Some ((get_or ends m no_ends).last)) (sym e) (ap (λ (x : Ends). Some (x.last)) (get_or-set_same ends list new no_ends within))
        | inr differs ↦ ap (λ (x : Ends). Some (x.last)) (get_or-set_other ends list l new no_ends differs)
      ]
      prev l (Some id) = refl
  write_after nodes ends list (Some id) to was within known = by (node_with (λ (n : Node T). n.link.after) (get_or nodes id None) list was known)
    where
      by : (n : Node T) × (get_or nodes id None ≡ Some n) × (n.link.list ≡ list) × (n.link.after ≡ was) → WroteNext nodes ends list (Some id) to (slots_after nodes (Some id) to) ends
      by found =
          let n = found.0 in
          let m : Node T = record n { link = record (n.link) { after = to } } in
          let written : slots_after nodes (Some id) to ≡ set nodes id (Some m) = ap (λ (o : Option (Node T)). set nodes id (option_map (λ (x : Node T). record x { link = record (x.link) { after = to } }) o)) found.1 in
          subst (λ (ns : List (Option (Node T))). WroteNext nodes ends list (Some id) to ns ends) (sym written) (done n m found.1 found.2 refl refl refl refl)
        where
          done : (n m : Node T) → get_or nodes id None ≡ Some n → n.link.list ≡ list → m.link.list ≡ n.link.list → m.link.before ≡ n.link.before → m.value ≡ n.value → m.link.after ≡ to → WroteNext nodes ends list (Some id) to (set nodes id (Some m)) ends
          done n m is own same_list same_before same_value after = record {
            next = record {
              changed = new_part nodes id n m is same_list (λ (x : Node T). x.link.after) list own ∙ ap (λ (k : Option ℕ). Some k) after;
              others = others;
            };
            prev = prev;
            value = λ l k. same_part nodes id n m is same_list (λ (x : Node T). x.value) same_value l k;
            many = refl;
          }
            where
              others : (l : ℕ) (k : Option ℕ) → (l ≡ list → k ≡ Some id → ⊥) → next_at (set nodes id (Some m)) ends l k ≡ next_at nodes ends l k
              others l None differ = refl
              others l (Some k) differ = other_part nodes id n m is same_list (λ (x : Node T). x.link.after) list l k own (λ e f. differ e (ap (λ (j : ℕ). Some j) f))

              prev : (l : ℕ) (k : Option ℕ) → prev_at (set nodes id (Some m)) ends l k ≡ prev_at nodes ends l k
              prev l None = refl
              prev l (Some k) = same_part nodes id n m is same_list (λ (x : Node T). x.link.before) same_before l k

  -- what a write of what comes before changes
  pub record WrotePrev (nodes : List (Option (Node T))) (ends : List Ends) (list : ℕ) (at to : Option ℕ) (nodes' : List (Option (Node T))) (ends' : List Ends) : Type 0 where
    pub prev : Wrote (prev_at nodes ends) (prev_at nodes' ends') list at (Some to)
    pub next : (l : ℕ) (k : Option ℕ) → next_at nodes' ends' l k ≡ next_at nodes ends l k
    pub value : (l id : ℕ) → value_at nodes' l id ≡ value_at nodes l id
    pub many : length ends' ≡ length ends

  pub write_before : (nodes : List (Option (Node T))) (ends : List Ends) (list : ℕ) (at to was : Option ℕ) → list < length ends → prev_at nodes ends list at ≡ Some was → WrotePrev nodes ends list at to (slots_before nodes at to) (ends_before ends list at to)
  write_before nodes ends list None to was within known = record {
    prev = record {
      changed = ap (λ (e : Ends). Some (e.last)) (get_or-set_same ends list new no_ends within);
      others = others;
    };
    next = next;
    value = λ l id. refl;
    many = length-set ends list new;
  }
    where
      new : Ends
      new = record (get_or ends list no_ends) { last = to }

      others : (l : ℕ) (k : Option ℕ) → (l ≡ list → k ≡ None → ⊥) → prev_at nodes (ends_before ends list None to) l k ≡ prev_at nodes ends l k
      others l None differ = ap (λ (e : Ends). Some (e.last)) (get_or-set_other ends list l new no_ends (λ e. differ e refl))
      others l (Some id) differ = refl

      next : (l : ℕ) (k : Option ℕ) → next_at nodes (ends_before ends list None to) l k ≡ next_at nodes ends l k
      next l None = elim (cases_eq l list) [
        | inl e ↦ subst (λ (m : ℕ). Some ((get_or (set ends list new) m no_ends).first) ≡ Some ((get_or ends m no_ends).first)) (sym e) (ap (λ (x : Ends). Some (x.first)) (get_or-set_same ends list new no_ends within))
        | inr differs ↦ ap (λ (x : Ends). Some (x.first)) (get_or-set_other ends list l new no_ends differs)
      ]
      next l (Some id) = refl
  write_before nodes ends list (Some id) to was within known = by (node_with (λ (n : Node T). n.link.before) (get_or nodes id None) list was known)
    where
      by : (n : Node T) × (get_or nodes id None ≡ Some n) × (n.link.list ≡ list) × (n.link.before ≡ was) → WrotePrev nodes ends list (Some id) to (slots_before nodes (Some id) to) ends
      by found =
          let n = found.0 in
          let m : Node T = record n { link = record (n.link) { before = to } } in
          let written : slots_before nodes (Some id) to ≡ set nodes id (Some m) = ap (λ (o : Option (Node T)). set nodes id (option_map (λ (x : Node T). record x { link = record (x.link) { before = to } }) o)) found.1 in
          subst (λ (ns : List (Option (Node T))). WrotePrev nodes ends list (Some id) to ns ends) (sym written) (done n m found.1 found.2 refl refl refl refl)
        where
          done : (n m : Node T) → get_or nodes id None ≡ Some n → n.link.list ≡ list → m.link.list ≡ n.link.list → m.link.after ≡ n.link.after → m.value ≡ n.value → m.link.before ≡ to → WrotePrev nodes ends list (Some id) to (set nodes id (Some m)) ends
          done n m is own same_list same_after same_value after = record {
            prev = record {
              changed = new_part nodes id n m is same_list (λ (x : Node T). x.link.before) list own ∙ ap (λ (k : Option ℕ). Some k) after;
              others = others;
            };
            next = next;
            value = λ l k. same_part nodes id n m is same_list (λ (x : Node T). x.value) same_value l k;
            many = refl;
          }
            where
              others : (l : ℕ) (k : Option ℕ) → (l ≡ list → k ≡ Some id → ⊥) → prev_at (set nodes id (Some m)) ends l k ≡ prev_at nodes ends l k
              others l None differ = refl
              others l (Some k) differ = other_part nodes id n m is same_list (λ (x : Node T). x.link.before) list l k own (λ e f. differ e (ap (λ (j : ℕ). Some j) f))

              next : (l : ℕ) (k : Option ℕ) → next_at (set nodes id (Some m)) ends l k ≡ next_at nodes ends l k
              next l None = refl
              next l (Some k) = same_part nodes id n m is same_list (λ (x : Node T). x.link.after) same_after l k

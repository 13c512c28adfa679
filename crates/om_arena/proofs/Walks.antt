-- Lists that agree with the links are what a walk along the links finds.
use Rattle.std.proofs.Common.{◌≡◌, ◌⊎◌, ℕ, zero, suc, ◌<◌, ◌≤◌, eqb, List, [], ◌∷◌, ◌++◌, length, get_or, Option, Some, None, option_map, refl, sym, ap, subst, ◌∙◌, inl, inr, arith, eq-eqb, ne_eqb}
use Rattle.std.proofs.lemmas.Bool.{cases_eq, cases_lt}
use Rattle.std.proofs.lemmas.List.{append_assoc, map-append, get_or_past, get_or-map, ext_get_or, length-map}
use Rattle.std.specs.Map.{lookup, keys_of}
use Rattle.om_arena.specs.Linked.{head, next_in, Represents, IsLinked, in_list, next_at, value_at, walked, walk, lists_of, no_ends}
use Rattle.om_arena.specs.Lists.{IsApart, AreApart}
use Rattle.om_arena.specs.declared.links.Node.{Node}
use Rattle.om_arena.specs.declared.links.Ends.{Ends}
use Rattle.om_arena.proofs.Orders.{next_in-split, next_in-here, AreBelow, no_more, lookup-here, IsApart-front, IsApart-without}

-- ---- an id stands at one place

pub apart_at : (id : ℕ) (ids : List ℕ) (i : ℕ) → IsApart id ids → i < length ids → id ≡ get_or ids i 0 → ⊥
apart_at id [] i apart within = absurd (omega arith)
apart_at id (x ∷ ids) zero apart within = apart.0
apart_at id (x ∷ ids) (suc i) apart within = apart_at id ids i apart.1 (omega arith)

pub one_place : (ids : List ℕ) (i j : ℕ) → AreApart ids → i < length ids → j < length ids → get_or ids i 0 ≡ get_or ids j 0 → i ≡ j
one_place [] i j apart a b e = absurd (omega arith)
one_place (x ∷ ids) zero zero apart a b e = refl
one_place (x ∷ ids) zero (suc j) apart a b e = absurd (apart_at x ids j apart.0 (omega arith) e)
one_place (x ∷ ids) (suc i) zero apart a b e = absurd (apart_at x ids i apart.0 (omega arith) (sym e))
one_place (x ∷ ids) (suc i) (suc j) apart a b e = ap (λ (n : ℕ). suc n) (one_place ids i j apart.1 (omega arith) (omega arith) e)

module _ {T : Type 0} where
  -- a node of the list
  pub record IsNode (found : Option (Node T)) (list : ℕ) (value : T) : Type 0 where
    pub node : Node T
    pub is : found ≡ Some node
    pub own : node.link.list ≡ list
    pub has : node.value ≡ value

  pub in_list-own : (n : Node T) (list : ℕ) → n.link.list ≡ list → in_list list (Some n) ≡ Some n
  in_list-own n list own = rw (eq-eqb n.link.list list own)

  pub in_list-other : (n : Node T) (list : ℕ) → (n.link.list ≡ list → ⊥) → in_list list (Some n) ≡ None
  in_list-other n list differs = rw (ne_eqb n.link.list list differs)

  pub node_with : {X : Type 0} (of : Node T → X) (found : Option (Node T)) (list : ℕ) (x : X) → option_map of (in_list list found) ≡ Some x → (n : Node T) × (found ≡ Some n) × (n.link.list ≡ list) × (of n ≡ x)
  node_with of None list x e = absurd (cc)
  node_with {X} of (Some n) list x e = by (cases_eq n.link.list list)
    where
      by : (n.link.list ≡ list) ⊎ (n.link.list ≡ list → ⊥) → (m : Node T) × (Some n ≡ Some m) × (m.link.list ≡ list) × (of m ≡ x)
      by (inl own) = (n, refl, own, let f : Some (of n) ≡ Some x = ap (option_map of) (sym (in_list-own n list own)) ∙ e in cc)
      by (inr differs) = absurd (let f : None ≡ Some x = ap (option_map of) (sym (in_list-other n list differs)) ∙ e in cc)

  -- ---- a walk

  -- the list is what the links say
  record Follows (nodes : List (Option (Node T))) (ends : List Ends) (list : ℕ) (all : List (ℕ × T)) : Type 0 where
    apart : AreApart (keys_of all)
    nexts : (k : Option ℕ) → next_at nodes ends list k ≡ next_in None (keys_of all) k
    values : (id : ℕ) → value_at nodes list id ≡ lookup (eqb id) all

  keys_split : (pre post : List (ℕ × T)) (item : ℕ × T) → keys_of (pre ++ item ∷ post) ≡ keys_of pre ++ item.0 ∷ keys_of post
  keys_split pre post item = map-append (λ e. e.0) pre (item ∷ post)

  -- what stands under an id of the list
  pub record Standing (nodes : List (Option (Node T))) (list id : ℕ) (value : T) (after : Option ℕ) : Type 0 where
    pub node : Node T
    pub is : get_or nodes id None ≡ Some node
    pub own : node.link.list ≡ list
    pub has : node.value ≡ value
    pub before : node.link.after ≡ after

  standing : (nodes : List (Option (Node T))) (ends : List Ends) (list : ℕ) (all done : List (ℕ × T)) (id : ℕ) (v : T) (rest : List (ℕ × T)) → Follows nodes ends list all → all ≡ done ++ (id, v) ∷ rest → Standing nodes list id v (head (keys_of rest))
  standing nodes ends list all done id v rest f e =
      let keys : keys_of all ≡ keys_of done ++ id ∷ keys_of rest = ap keys_of e ∙ keys_split done rest (id, v) in
      let apart : AreApart (keys_of done ++ id ∷ keys_of rest) = subst AreApart keys f.apart in
      let alone : IsApart id (keys_of done) = IsApart-front id (keys_of done) (keys_of rest) (IsApart-without (keys_of done) (keys_of rest) id apart) in
      let found : value_at nodes list id ≡ Some v = f.values id ∙ ap (lookup (eqb id)) e ∙ lookup-here done rest id v alone in
      let n = node_with (λ (n : Node T). n.value) (get_or nodes id None) list v found in
      let next : next_at nodes ends list (Some id) ≡ Some (head (keys_of rest)) = f.nexts (Some id) ∙ ap (λ (ids : List ℕ). next_in None ids (Some id)) keys ∙ next_in-here None (keys_of done) (keys_of rest) id tt apart in
      let read : option_map (λ (n : Node T). n.link.after) (in_list list (Some n.0)) ≡ Some (head (keys_of rest)) = subst (λ (o : Option (Node T)). option_map (λ (n : Node T). n.link.after) (in_list list o) ≡ Some (head (keys_of rest))) n.1 next in
      let plain : Some n.0.link.after ≡ Some (head (keys_of rest)) = ap (option_map (λ (n : Node T). n.link.after)) (sym (in_list-own n.0 list n.2)) ∙ read in
      record { node = n.0; is = n.1; own = n.2; has = n.3; before = cc }

  walk_is : (nodes : List (Option (Node T))) (ends : List Ends) (list : ℕ) (all done items : List (ℕ × T)) (most : ℕ) → Follows nodes ends list all → all ≡ done ++ items → length items ≤ most → walk nodes most (head (keys_of items)) ≡ items
  walk_is nodes ends list all done [] zero f e fits = refl
  walk_is nodes ends list all done [] (suc most) f e fits = refl
  walk_is nodes ends list all done (item ∷ rest) zero f e fits = absurd (omega arith)
  walk_is nodes ends list all done (item ∷ rest) (suc most) f e fits =
      let s = standing nodes ends list all done item.0 item.1 rest f e in
      let step : walked (get_or nodes item.0 None) item.0 (walk nodes most) ≡ (item.0, s.node.value) ∷ walk nodes most s.node.link.after = ap (λ (o : Option (Node T)). walked o item.0 (walk nodes most)) s.is in
      let further = walk_is nodes ends list all (done ++ item ∷ []) rest most f (e ∙ sym (append_assoc done (item ∷ []) rest)) (omega arith) in
      step ∙ ap (λ (v : T). (item.0, v) ∷ walk nodes most s.node.link.after) s.has ∙ ap (λ (k : Option ℕ). item ∷ walk nodes most k) s.before ∙ ap (λ (xs : List (ℕ × T)). item ∷ xs) further

  -- ---- no list is longer than there are nodes

  below : (nodes : List (Option (Node T))) (ends : List Ends) (list : ℕ) (all done items : List (ℕ × T)) → Follows nodes ends list all → all ≡ done ++ items → AreBelow (length nodes) (keys_of items)
  below nodes ends list all done [] f e = tt
  below nodes ends list all done (item ∷ rest) f e = (
    by (standing nodes ends list all done item.0 item.1 rest f e) (get_or_past nodes item.0 None),
    below nodes ends list all (done ++ item ∷ []) rest f (e ∙ sym (append_assoc done (item ∷ []) rest)),
  )
    where
      by : Standing nodes list item.0 item.1 (head (keys_of rest)) → (length nodes ≤ item.0 → get_or nodes item.0 None ≡ None) → item.0 < length nodes
      by s past = elim (cases_lt item.0 (length nodes)) [
        | inl within ↦ within
        | inr beyond ↦ absurd (let none = past beyond in let some = s.is in cc)
      ]

  fits : (nodes : List (Option (Node T))) (ends : List Ends) (list : ℕ) (all : List (ℕ × T)) → Follows nodes ends list all → length all ≤ length nodes
  fits nodes ends list all f = omega (arith, no_more (length nodes) (keys_of all) f.apart (below nodes ends list all [] all f refl), length-map all (λ (e : ℕ × T). e.0))

  -- ---- all lists

  pub lists_agree : (lists : List (List (ℕ × T))) (nodes : List (Option (Node T))) (ends : List Ends) → Represents lists nodes ends → lists_of nodes ends ≡ lists
  lists_agree lists nodes ends r = ext_get_or [] (lists_of nodes ends) lists (length-map ends (λ (e : Ends). walk nodes (length nodes) e.first) ∙ r.as_many) (λ list within. at list (omega (arith, length-map ends (λ (e : Ends). walk nodes (length nodes) e.first))))
    where
      at : (list : ℕ) → list < length ends → get_or (lists_of nodes ends) list [] ≡ get_or lists list []
      at list within =
          let f : Follows nodes ends list (get_or lists list []) = record { apart = r.agrees.apart list; nexts = r.agrees.nexts list; values = r.agrees.values list } in
          let first : Some ((get_or ends list no_ends).first) ≡ Some (head (keys_of (get_or lists list []))) = r.agrees.nexts list None ∙ next_in-split None [] (keys_of (get_or lists list [])) tt (r.agrees.apart list) in
          let front : (get_or ends list no_ends).first ≡ head (keys_of (get_or lists list [])) = cc in
          get_or-map (λ (e : Ends). walk nodes (length nodes) e.first) ends list no_ends [] within
          ∙ ap (walk nodes (length nodes)) front
          ∙ walk_is nodes ends list (get_or lists list []) [] (get_or lists list []) (length nodes) f refl (fits nodes ends list (get_or lists list []) f)

  -- the lists that a change leaves
  pub record Becomes (lists : List (List (ℕ × T))) (nodes : List (Option (Node T))) (ends : List Ends) : Type 0 where
    pub linked : IsLinked nodes ends
    pub are : lists_of nodes ends ≡ lists

  pub becomes : (lists : List (List (ℕ × T))) (nodes : List (Option (Node T))) (ends : List Ends) → Represents lists nodes ends → Becomes lists nodes ends
  becomes lists nodes ends r = record {
    linked = subst (λ (ls : List (List (ℕ × T))). Represents ls nodes ends) (sym (lists_agree lists nodes ends r)) r;
    are = lists_agree lists nodes ends r;
  }

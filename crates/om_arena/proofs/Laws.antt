-- Laws of an arena's ids and of its room.
use Rattle.std.proofs.Common.{◌≡◌, ◌⊎◌, ℕ, zero, suc, ◌<◌, eqb, List, [], ◌∷◌, ◌++◌, length, get_or, Option, Some, None, is_some, IsSome, IfSome, refl, sym, ap, subst, ◌∙◌, inl, inr, arith, cond, eq-eqb, ne_eqb}
use Rattle.std.proofs.lemmas.Bool.{cases_eq}
use Rattle.std.proofs.lemmas.List.{map-append, length-append}
use Rattle.std.specs.Map.{lookup, keys_of}
use Rattle.om_arena.specs.Linked.{Represents}
use Rattle.om_arena.specs.Lists.{Arena, Stands, home, items, first_id, id_after, next_of, IsLive, TakeOneEach}
use Rattle.om_arena.specs.declared.links.Node.{Node}
use Rattle.om_arena.specs.declared.links.Ends.{Ends}
use Rattle.om_arena.proofs.Walks.{node_with, one_place}
use Rattle.om_arena.proofs.Changes.{some_of, lives}

module _ {T : Type 0} where
  pub key_found : (items : List (ℕ × T)) (i : ℕ) → i < length (keys_of items) → (v : T) × (lookup (eqb (get_or (keys_of items) i 0)) items ≡ Some v)
  key_found [] i within = absurd (omega arith)
  key_found (x ∷ rest) zero within = (x.1, rw (eq-eqb x.0 x.0 refl))
  key_found (x ∷ rest) (suc i) within = by (cases_eq (get_or (keys_of rest) i 0) x.0) (key_found rest i (omega arith))
    where
      by : (get_or (keys_of rest) i 0 ≡ x.0) ⊎ (get_or (keys_of rest) i 0 ≡ x.0 → ⊥) → (v : T) × (lookup (eqb (get_or (keys_of rest) i 0)) rest ≡ Some v) → (v : T) × (lookup (eqb (get_or (keys_of rest) i 0)) (x ∷ rest) ≡ Some v)
      by (inl e) _ = (x.1, rw (eq-eqb (get_or (keys_of rest) i 0) x.0 e))
      by (inr differs) further = (further.0, rw (ne_eqb (get_or (keys_of rest) i 0) x.0 differs) further.1)

  -- an id that a list has behind its first item it has
  later_found : (x : ℕ × T) (rest : List (ℕ × T)) (id : ℕ) (v : T) → lookup (eqb id) rest ≡ Some v → (w : T) × (lookup (eqb id) (x ∷ rest) ≡ Some w)
  later_found x rest id v found = by (cases_eq id x.0)
    where
      by : (id ≡ x.0) ⊎ (id ≡ x.0 → ⊥) → (w : T) × (lookup (eqb id) (x ∷ rest) ≡ Some w)
      by (inl e) = (x.1, rw (eq-eqb id x.0 e))
      by (inr differs) = (v, rw (ne_eqb id x.0 differs) found)

  pub first_found : (items : List (ℕ × T)) (id : ℕ) → first_id items ≡ Some id → (v : T) × (lookup (eqb id) items ≡ Some v)
  first_found [] id e = absurd (cc)
  first_found (x ∷ rest) id e = let same : id ≡ x.0 = cc in (x.1, rw (eq-eqb id x.0 same))

  pub after_found : (id : ℕ) (items : List (ℕ × T)) (next : ℕ) → id_after id items ≡ Some next → (v : T) × (lookup (eqb next) items ≡ Some v)
  after_found id [] next e = absurd (cc)
  after_found id (x ∷ rest) next e = by (cases_eq id x.0) (after_found id rest next) (first_found rest next)
    where
      by : (id ≡ x.0) ⊎ (id ≡ x.0 → ⊥) → (id_after id rest ≡ Some next → (v : T) × (lookup (eqb next) rest ≡ Some v)) → (first_id rest ≡ Some next → (v : T) × (lookup (eqb next) rest ≡ Some v)) → (v : T) × (lookup (eqb next) (x ∷ rest) ≡ Some v)
      by (inl same) _ at_front = let f = at_front (rw (eq-eqb id x.0 same) at e) in later_found x rest next f.0 f.1
      by (inr differs) behind _ = let f = behind (rw (ne_eqb id x.0 differs) at e) in later_found x rest next f.0 f.1

  -- where a list has the id, the home of the id has it
  pub at_home : (lists : List (List (ℕ × T))) (id list : ℕ) (v : T) → lookup (eqb id) (get_or lists list []) ≡ Some v → IsSome (lookup (eqb id) (get_or lists (home id lists) []))
  at_home [] id list v found = absurd (cc)
  at_home (items ∷ rest) id list v found = by (lookup (eqb id) items) refl (at_home rest id) list found
    where
      by : (o : Option T) → lookup (eqb id) items ≡ o → ((l : ℕ) (w : T) → lookup (eqb id) (get_or rest l []) ≡ Some w → IsSome (lookup (eqb id) (get_or rest (home id rest) []))) → (l : ℕ) → lookup (eqb id) (get_or (items ∷ rest) l []) ≡ Some v → IsSome (lookup (eqb id) (get_or (items ∷ rest) (cond (is_some (lookup (eqb id) items)) 0 (suc (home id rest))) []))
      by (Some w) is further l f = rw (is, is) refl
      by None is further zero f = absurd (cc)
      by None is further (suc l) f = rw is (further l v f)

module _ {T : Type 0} (lists : List (List (ℕ × T))) (spare : ℕ) (nodes : List (Option (Node T))) (ends : List Ends) (r : Represents lists nodes ends) where
  stands_found : (id list place : ℕ) → Stands (record { lists = lists; spare = spare }) id list place → (v : T) × (lookup (eqb id) (get_or lists list []) ≡ Some v)
  stands_found id list place s =
      let f = key_found (get_or lists list []) place s.is_place in
      (f.0, ap (λ (k : ℕ). lookup (eqb k) (get_or lists list [])) (sym s.found) ∙ f.1)

  stands_in : (id list place : ℕ) → Stands (record { lists = lists; spare = spare }) id list place → (n : Node T) × (get_or nodes id None ≡ Some n) × (n.link.list ≡ list)
  stands_in id list place s =
      let f = stands_found id list place s in
      let n = node_with (λ (x : Node T). x.value) (get_or nodes id None) list f.0 (r.agrees.values list id ∙ f.1) in
      (n.0, n.1, n.2)

  pub differ : (id list place other_list other_place : ℕ) → Stands (record { lists = lists; spare = spare }) id list place → Stands (record { lists = lists; spare = spare }) id other_list other_place → (list ≡ other_list) × (place ≡ other_place)
  differ id list place other_list other_place a b =
      let m = stands_in id list place a in
      let n = stands_in id other_list other_place b in
      let same : list ≡ other_list = let node : m.0 ≡ n.0 = let p = m.1 in let q = n.1 in cc in sym m.2 ∙ ap (λ (x : Node T). x.link.list) node ∙ n.2 in
      let here : Stands (record { lists = lists; spare = spare }) id list other_place = subst (λ (l : ℕ). Stands (record { lists = lists; spare = spare }) id l other_place) (sym same) b in
      (same, one_place (keys_of (get_or lists list [])) place other_place (r.agrees.apart list) a.is_place here.is_place (a.found ∙ sym here.found))

  pub homes : (id list : ℕ) → IsSome (lookup (eqb id) (get_or lists list [])) → home id lists ≡ list
  homes id list present =
      let some = some_of (lookup (eqb id) (get_or lists list [])) present in
      let n = node_with (λ (x : Node T). x.value) (get_or nodes id None) list some.0 (r.agrees.values list id ∙ some.1) in
      let l = lives lists nodes ends id r (at_home lists id list some.0 some.1) in
      let same : n.0 ≡ l.node = let p = n.1 in let q = l.is in cc in
      sym l.own ∙ ap (λ (x : Node T). x.link.list) (sym same) ∙ n.2

  pub stand : (id : ℕ) → IsSome (lookup (eqb id) (get_or lists (home id lists) [])) → (place : ℕ) × Stands (record { lists = lists; spare = spare }) id (home id lists) place
  stand id present =
      let l = lives lists nodes ends id r present in
      let s = l.place in
      let keys : keys_of (get_or lists (home id lists) []) ≡ keys_of s.pre ++ id ∷ keys_of s.post = ap keys_of s.whole ∙ map-append (λ e. e.0) s.pre ((id, s.value) ∷ s.post) in (
        length (keys_of s.pre),
        record {
          is_list = l.within;
          is_place = subst (λ (ids : List ℕ). length (keys_of s.pre) < length ids) (sym keys) (omega (arith, length-append (keys_of s.pre) (id ∷ keys_of s.post)));
          found = subst (λ (ids : List ℕ). get_or ids (length (keys_of s.pre)) 0 ≡ id) (sym keys) (at_length (keys_of s.pre) id (keys_of s.post));
        },
      )
    where
      at_length : (pre : List ℕ) (x : ℕ) (post : List ℕ) → get_or (pre ++ x ∷ post) (length pre) 0 ≡ x
      at_length [] x post = refl
      at_length (y ∷ pre) x post = at_length pre x post

  pub live : (id list place : ℕ) → Stands (record { lists = lists; spare = spare }) id list place → IsSome (lookup (eqb id) (get_or lists (home id lists) []))
  live id list place s = let f = stands_found id list place s in at_home lists id list f.0 f.1

pub room_lasts : {T : Type 0} → (n : ℕ) (first last : Arena T) → n < first.spare → TakeOneEach n first last → 0 < last.spare
room_lasts zero first last room took = omega arith
room_lasts (suc n) first last room took = room_lasts n took.0 last (omega (arith, took.1)) took.2

-- ---- what is read is live

module _ {T : Type 0} where
  pub first_live : (a : Arena T) (list : ℕ) (found : Option ℕ) → found ≡ first_id (items a list) → IfSome found (λ id. IsLive a id)
  first_live a list None e = tt
  first_live a list (Some id) e = let f = first_found (items a list) id (sym e) in at_home a.lists id list f.0 f.1

  pub next_live : (a : Arena T) (id : ℕ) (found : Option ℕ) → found ≡ next_of a id → IfSome found (λ next. IsLive a next)
  next_live a id None e = tt
  next_live a id (Some next) e = let f = after_found id (items a (home id a.lists)) next (sym e) in at_home a.lists next (home id a.lists) f.0 f.1

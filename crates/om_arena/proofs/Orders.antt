-- Lists of ids: what comes after what when one is put in or taken out.
use Rattle.std.proofs.Common.{◌≡◌, ◌⊎◌, ℕ, zero, suc, ◌<◌, ◌≤◌, true, false, eqb, List, [], ◌∷◌, ◌++◌, length, Option, Some, None, refl, sym, ap, subst, inl, inr, arith, cond, eq-eqb, ne_eqb}
use Rattle.std.proofs.lemmas.Bool.{cases_eq}
use Rattle.std.proofs.lemmas.List.{append_assoc, length-append}
use Rattle.std.specs.Map.{lookup, keys_of}
use Rattle.om_arena.specs.Linked.{same, head, next_in}
use Rattle.om_arena.specs.Lists.{IsApart, AreApart, first_id, id_after, with_after, without, with_value}

-- the last id, or what comes before the list
abbrev pub last_or : Option ℕ → List ℕ → Option ℕ
last_or from [] = from
last_or from (id ∷ rest) = last_or (Some id) rest

abbrev pub IsFresh : Option ℕ → List ℕ → Type 0
IsFresh None ids = Unit {0}
IsFresh (Some id) ids = IsApart id ids

pub same_self : (k : Option ℕ) → same k k ≡ true
same_self None = refl
same_self (Some id) = eq-eqb id id refl

pub same_other : (a b : Option ℕ) → (a ≡ b → ⊥) → same a b ≡ false
same_other None None differ = absurd (differ refl)
same_other None (Some b) differ = refl
same_other (Some a) None differ = refl
same_other (Some a) (Some b) differ = ne_eqb a b (λ e. differ (ap (λ x. Some x) e))

pub cases_same : (a b : Option ℕ) → (a ≡ b) ⊎ (a ≡ b → ⊥)
cases_same None None = inl refl
cases_same None (Some b) = inr (λ e. absurd (cc))
cases_same (Some a) None = inr (λ e. absurd (cc))
cases_same (Some a) (Some b) = by (cases_eq a b)
  where
    by : (a ≡ b) ⊎ (a ≡ b → ⊥) → (Some a ≡ Some b) ⊎ (Some a ≡ Some b → ⊥)
    by (inl e) = inl (ap (λ x. Some x) e)
    by (inr differ) = inr (λ e. differ (cc))

-- ---- apart

pub IsApart-append : (id : ℕ) (pre post : List ℕ) → IsApart id pre → IsApart id post → IsApart id (pre ++ post)
IsApart-append id [] post a b = b
IsApart-append id (x ∷ pre) post a b = (a.0, IsApart-append id pre post a.1 b)

pub IsApart-front : (id : ℕ) (pre post : List ℕ) → IsApart id (pre ++ post) → IsApart id pre
IsApart-front id [] post a = tt
IsApart-front id (x ∷ pre) post a = (a.0, IsApart-front id pre post a.1)

pub IsApart-back : (id : ℕ) (pre post : List ℕ) → IsApart id (pre ++ post) → IsApart id post
IsApart-back id [] post a = a
IsApart-back id (x ∷ pre) post a = IsApart-back id pre post a.1

pub AreApart-insert : (pre post : List ℕ) (new : ℕ) → IsApart new (pre ++ post) → AreApart (pre ++ post) → AreApart (pre ++ new ∷ post)
AreApart-insert [] post new fresh apart = (fresh, apart)
AreApart-insert (x ∷ pre) post new fresh apart = (
  IsApart-append x pre (new ∷ post) (IsApart-front x pre post apart.0) (λ e. fresh.0 (sym e), IsApart-back x pre post apart.0),
  AreApart-insert pre post new fresh.1 apart.1,
)

pub AreApart-without : (pre post : List ℕ) (id : ℕ) → AreApart (pre ++ id ∷ post) → AreApart (pre ++ post)
AreApart-without [] post id apart = apart.1
AreApart-without (x ∷ pre) post id apart = (
  IsApart-append x pre post (IsApart-front x pre (id ∷ post) apart.0) (IsApart-back x pre (id ∷ post) apart.0).1,
  AreApart-without pre post id apart.1,
)

pub IsApart-without : (pre post : List ℕ) (id : ℕ) → AreApart (pre ++ id ∷ post) → IsApart id (pre ++ post)
IsApart-without [] post id apart = apart.0
IsApart-without (x ∷ pre) post id apart = (
  λ e. (IsApart-back x pre (id ∷ post) apart.0).0 (sym e),
  IsApart-without pre post id apart.1,
)

-- ---- ids that are apart and below a number are no more than that number

abbrev pub AreBelow : ℕ → List ℕ → Type 0
AreBelow m [] = Unit {0}
AreBelow m (x ∷ ids) = (x < m) × AreBelow m ids

find_id : (id : ℕ) (ids : List ℕ) → IsApart id ids ⊎ ((pre : List ℕ) × (post : List ℕ) × (ids ≡ pre ++ id ∷ post))
find_id id [] = inl tt
find_id id (x ∷ ids) = by (cases_eq id x) (find_id id ids)
  where
    by : (id ≡ x) ⊎ (id ≡ x → ⊥) → IsApart id ids ⊎ ((pre : List ℕ) × (post : List ℕ) × (ids ≡ pre ++ id ∷ post)) → IsApart id (x ∷ ids) ⊎ ((pre : List ℕ) × (post : List ℕ) × (x ∷ ids ≡ pre ++ id ∷ post))
    by (inl e) _ = inr ([], ids, ap (λ (y : ℕ). y ∷ ids) (sym e))
    by (inr differs) (inl apart) = inl (differs, apart)
    by (inr differs) (inr found) = inr (x ∷ found.0, found.1, ap (λ (ys : List ℕ). x ∷ ys) found.2)

AreBelow-less : (m : ℕ) (ids : List ℕ) → AreBelow (suc m) ids → IsApart m ids → AreBelow m ids
AreBelow-less m [] below apart = tt
AreBelow-less m (x ∷ ids) below apart =
    let d : m ≡ x → ⊥ = apart.0 in
    (omega (arith, below.0), AreBelow-less m ids below.1 apart.1)

AreBelow-without : (m : ℕ) (pre post : List ℕ) (id : ℕ) → AreBelow m (pre ++ id ∷ post) → AreBelow m (pre ++ post)
AreBelow-without m [] post id below = below.1
AreBelow-without m (x ∷ pre) post id below = (below.0, AreBelow-without m pre post id below.1)

pub no_more : (m : ℕ) (ids : List ℕ) → AreApart ids → AreBelow m ids → length ids ≤ m
no_more zero [] apart below = omega arith
no_more zero (x ∷ ids) apart below = absurd (omega (arith, below.0))
no_more (suc m) ids apart below = by (find_id m ids) (no_more m)
  where
    by : IsApart m ids ⊎ ((pre : List ℕ) × (post : List ℕ) × (ids ≡ pre ++ m ∷ post)) → ((rest : List ℕ) → AreApart rest → AreBelow m rest → length rest ≤ m) → length ids ≤ suc m
    by (inl away) further = omega (arith, further ids apart (AreBelow-less m ids below away))
    by (inr found) further =
        let pre = found.0 in
        let post = found.1 in
        let all : AreApart (pre ++ m ∷ post) = subst AreApart found.2 apart in
        let under : AreBelow (suc m) (pre ++ m ∷ post) = subst (AreBelow (suc m)) found.2 below in
        let fits = further (pre ++ post) (AreApart-without pre post m all) (AreBelow-less m (pre ++ post) (AreBelow-without (suc m) pre post m under) (IsApart-without pre post m all)) in
        omega (arith, fits, length-append pre post, length-append pre (m ∷ post), ap length found.2)

-- ---- what comes next

pub last_or-push : (from : Option ℕ) (ids : List ℕ) (id : ℕ) → last_or from (ids ++ id ∷ []) ≡ Some id
last_or-push from [] id = refl
last_or-push from (x ∷ ids) id = last_or-push (Some x) ids id

fresh_differs : (from : Option ℕ) (x : ℕ) (pre post : List ℕ) → IsFresh from (x ∷ (pre ++ post)) → same from (last_or (Some x) pre) ≡ false
fresh_differs None x [] post fresh = refl
fresh_differs (Some f) x [] post fresh = ne_eqb f x fresh.0
fresh_differs None x (y ∷ pre) post fresh = fresh_differs None y pre post tt
fresh_differs (Some f) x (y ∷ pre) post fresh = fresh_differs (Some f) y pre post fresh.1

-- after what stands before `post` comes its head
pub next_in-split : (from : Option ℕ) (pre post : List ℕ) → IsFresh from (pre ++ post) → AreApart (pre ++ post) → next_in from (pre ++ post) (last_or from pre) ≡ Some (head post)
next_in-split from [] [] fresh apart = rw (same_self from)
next_in-split from [] (x ∷ post) fresh apart = rw (same_self from)
next_in-split from (x ∷ pre) post fresh apart = rw (fresh_differs from x pre post fresh) (next_in-split (Some x) pre post apart.0 apart.1)

-- after an id comes the head of what follows it
pub next_in-here : (from : Option ℕ) (pre post : List ℕ) (id : ℕ) → IsFresh from (pre ++ id ∷ post) → AreApart (pre ++ id ∷ post) → next_in from (pre ++ id ∷ post) (Some id) ≡ Some (head post)
next_in-here from pre post id fresh apart =
    let whole : (pre ++ id ∷ []) ++ post ≡ pre ++ id ∷ post = append_assoc pre (id ∷ []) post in
    let step = next_in-split from (pre ++ id ∷ []) post (subst (IsFresh from) (sym whole) fresh) (subst AreApart (sym whole) apart) in
    subst (λ (ids : List ℕ). next_in from ids (Some id) ≡ Some (head post)) whole (rw last_or-push at step)

-- one more id changes only what comes after it and after what stands before it
pub next_in-insert : (from : Option ℕ) (pre post : List ℕ) (new : ℕ) (k : Option ℕ) → (k ≡ last_or from pre → ⊥) → (k ≡ Some new → ⊥) → next_in from (pre ++ new ∷ post) k ≡ next_in from (pre ++ post) k
next_in-insert from [] [] new k last other = rw (same_other from k (λ e. last (sym e)), same_other (Some new) k (λ e. other (sym e)))
next_in-insert from [] (x ∷ post) new k last other = rw (same_other from k (λ e. last (sym e)), same_other (Some new) k (λ e. other (sym e)))
next_in-insert from (x ∷ pre) post new k last other = ap (λ r. cond (same from k) (Some (Some x)) r) (next_in-insert (Some x) pre post new k last other)

-- nothing comes after an id that is not there
pub next_in-absent : (from : Option ℕ) (ids : List ℕ) (id : ℕ) → (from ≡ Some id → ⊥) → IsApart id ids → next_in from ids (Some id) ≡ None
next_in-absent from [] id differs apart = rw (same_other from (Some id) differs)
next_in-absent from (x ∷ ids) id differs apart = rw (same_other from (Some id) differs) (next_in-absent (Some x) ids id (λ e. apart.0 (cc)) apart.1)

pub last_or-some : (from : Option ℕ) (ids : List ℕ) (id : ℕ) → last_or None ids ≡ Some id → last_or from ids ≡ Some id
last_or-some from [] id e = absurd (cc)
last_or-some from (x ∷ ids) id e = e

pub last_apart : (from : Option ℕ) (ids : List ℕ) (id : ℕ) → (from ≡ Some id → ⊥) → IsApart id ids → last_or from ids ≡ Some id → ⊥
last_apart from [] id differs apart e = differs e
last_apart from (x ∷ ids) id differs apart e = last_apart (Some x) ids id (λ same. apart.0 (cc)) apart.1 e

pub head_apart : (ids : List ℕ) (id : ℕ) → IsApart id ids → head ids ≡ Some id → ⊥
head_apart [] id apart e = absurd (cc)
head_apart (x ∷ ids) id apart e = apart.0 (cc)

-- ---- items

module _ {T : Type 0} where
  pub lookup-other : (pre post : List (ℕ × T)) (new : ℕ) (value : T) (k : ℕ) → (k ≡ new → ⊥) → lookup (eqb k) (pre ++ (new, value) ∷ post) ≡ lookup (eqb k) (pre ++ post)
  lookup-other [] post new value k differs = rw (ne_eqb k new differs)
  lookup-other (x ∷ pre) post new value k differs = ap (λ r. cond (eqb k x.0) (Some x.1) r) (lookup-other pre post new value k differs)

  pub lookup-here : (pre post : List (ℕ × T)) (new : ℕ) (value : T) → IsApart new (keys_of pre) → lookup (eqb new) (pre ++ (new, value) ∷ post) ≡ Some value
  lookup-here [] post new value apart = rw (eq-eqb new new refl)
  lookup-here (x ∷ pre) post new value apart = rw (ne_eqb new x.0 apart.0) (lookup-here pre post new value apart.1)

  pub lookup-absent : (items : List (ℕ × T)) (id : ℕ) → IsApart id (keys_of items) → lookup (eqb id) items ≡ None
  lookup-absent [] id apart = refl
  lookup-absent (x ∷ rest) id apart = rw (ne_eqb id x.0 apart.0) (lookup-absent rest id apart.1)

  pub absent-lookup : (items : List (ℕ × T)) (id : ℕ) → lookup (eqb id) items ≡ None → IsApart id (keys_of items)
  absent-lookup [] id none = tt
  absent-lookup (x ∷ rest) id none = by (cases_eq id x.0) (absent-lookup rest id)
    where
      by : (id ≡ x.0) ⊎ (id ≡ x.0 → ⊥) → (lookup (eqb id) rest ≡ None → IsApart id (keys_of rest)) → IsApart id (keys_of (x ∷ rest))
      by (inl e) further =
          let t : eqb id x.0 ≡ true = eq-eqb id x.0 e in
          let found : Some x.1 ≡ None = rw t at none in
          absurd (cc)
      by (inr differs) further =
          let t : eqb id x.0 ≡ false = ne_eqb id x.0 differs in
          (differs, further (rw t at none))

  pub first_id-head : (items : List (ℕ × T)) → head (keys_of items) ≡ first_id items
  first_id-head [] = refl
  first_id-head (x ∷ rest) = refl

  -- where an id stands: what is before it, and what is after
  pub record Split (id : ℕ) (items : List (ℕ × T)) : Type 0 where
    pub pre : List (ℕ × T)
    pub value : T
    pub post : List (ℕ × T)
    pub whole : items ≡ pre ++ (id, value) ∷ post
    pub found : lookup (eqb id) items ≡ Some value
    pub after : id_after id items ≡ first_id post
    pub inserts : (new : ℕ × T) → with_after id new items ≡ pre ++ (id, value) ∷ new ∷ post
    pub removes : without id items ≡ pre ++ post
    pub writes : (to : T) → with_value id to items ≡ pre ++ (id, to) ∷ with_value id to post

  pub split : (id : ℕ) (items : List (ℕ × T)) (value : T) → lookup (eqb id) items ≡ Some value → Split id items
  split id [] value found = absurd (cc)
  split id (x ∷ rest) value found = by (cases_eq id x.0) (split id rest value)
    where
      by : (id ≡ x.0) ⊎ (id ≡ x.0 → ⊥) → (lookup (eqb id) rest ≡ Some value → Split id rest) → Split id (x ∷ rest)
      by (inl e) further =
          let t : eqb id x.0 ≡ true = eq-eqb id x.0 e in
          let at : x ≡ (id, x.1) = ap (λ i. (i, x.1)) (sym e) in
          record {
            pre = [];
            value = x.1;
            post = rest;
            whole = ap (λ y. y ∷ rest) at;
            found = rw t;
            after = rw t;
            inserts = λ new. rw t (ap (λ y. y ∷ new ∷ rest) at);
            removes = rw t;
            writes = λ to. rw t (ap (λ i. (i, to) ∷ with_value id to rest) (sym e));
          }
      by (inr differs) further =
          let t : eqb id x.0 ≡ false = ne_eqb id x.0 differs in
          let s = further (rw t at found) in
          record {
            pre = x ∷ s.pre;
            value = s.value;
            post = s.post;
            whole = ap (λ ys. x ∷ ys) s.whole;
            found = rw t s.found;
            after = rw t s.after;
            inserts = λ new. rw t (ap (λ ys. x ∷ ys) (s.inserts new));
            removes = rw t (ap (λ ys. x ∷ ys) s.removes);
            writes = λ to. rw t (ap (λ ys. x ∷ ys) (s.writes to));
          }

  -- a list without the id is not written
  pub with_value-absent : (items : List (ℕ × T)) (id : ℕ) (to : T) → IsApart id (keys_of items) → with_value id to items ≡ items
  with_value-absent [] id to apart = refl
  with_value-absent (x ∷ rest) id to apart = rw (ne_eqb id x.0 apart.0) (ap (λ ys. x ∷ ys) (with_value-absent rest id to apart.1))

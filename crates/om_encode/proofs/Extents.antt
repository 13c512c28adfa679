-- Regions of a layout have the sizes that the program gives.
use Rattle.std.proofs.Common.{◌≡◌, ◌⊎◌, inl, inr, ℕ, zero, suc, ◌<◌, Bool, true, false, cond, List, [], ◌∷◌, length, map, Option, Some, None, refl, ap, subst, ◌∙◌, arith, slice_index_or}
use Rattle.std.specs.Prelude.{find, slice_get, Contains, IsPermutation}
use Rattle.std.proofs.lemmas.List.Sorted.{Contains-permutation, IsPermutation-sym}
use Rattle.om_value.specs.declared.value.Region.{Region}
use Rattle.om_value.specs.Same.{region_eq}
use Rattle.om_prog.specs.declared.region.RegionInit.{RegionInit}
use Rattle.om_prog.specs.View.{ProgramView, init_of, size_or_none}
use Rattle.om_prog.specs.Valid.{AreOnce}
use Rattle.om_layout.specs.Layout.{LayoutView, RegionAt}
use Rattle.om_layout.specs.Order.{extent_at, extent_of}
use Rattle.om_lockstep.proofs.Small.{same_region, region_self}

-- sizes of regions are those of the program's
pub record SizesMatch (p : ProgramView) (l : LayoutView) : Type 0 where
  pub known : (r : Region) (e : RegionAt) → find (λ e. region_eq e.region r) l.regions ≡ Some e → size_or_none (init_of p r) ≡ e.size
  pub absent : (r : Region) → find (λ e. region_eq e.region r) l.regions ≡ None → size_or_none (init_of p r) ≡ 0

-- no region is given twice
abbrev AreDistinct : List RegionInit → Type 0
AreDistinct [] = Unit {0}
AreDistinct (r ∷ rs) = (find (λ q. region_eq q.region r.region) rs ≡ None) × AreDistinct rs

found_at : (rs : List RegionInit) (r : Region) (x : RegionInit) → find (λ q. region_eq q.region r) rs ≡ Some x → (k : ℕ) × (slice_get rs k ≡ Some x) × (region_eq x.region r ≡ true)
found_at [] r x e = cc
found_at (v ∷ vs) r x e = by_test (found_at vs r x) (region_eq v.region r) refl e
  where
    by_test :
        (find (λ q. region_eq q.region r) vs ≡ Some x → (k : ℕ) × (slice_get vs k ≡ Some x) × (region_eq x.region r ≡ true)) → (b : Bool) →
        region_eq v.region r ≡ b → cond b (Some v) (find (λ q. region_eq q.region r) vs) ≡ Some x →
        (k : ℕ) × (slice_get (v ∷ vs) k ≡ Some x) × (region_eq x.region r ≡ true)
    by_test again true t e = let s : v ≡ x = cc in (0, e, subst (λ (y : RegionInit). region_eq y.region r ≡ true) s t)
    by_test again false t e = let i = again e in (suc i.0, i.1, i.2)

distinct : (rs : List RegionInit) → ((j k : ℕ) (a b : RegionInit) → j < k → slice_get rs j ≡ Some a → slice_get rs k ≡ Some b → region_eq a.region b.region ≡ false) → AreDistinct rs
distinct [] h = tt
distinct (r ∷ rs) h = (by_find (find (λ q. region_eq q.region r.region) rs) refl, distinct rs (λ j k a b l e f. h (suc j) (suc k) a b (omega (arith, l)) e f))
  where
    by_find : (o : Option RegionInit) → find (λ q. region_eq q.region r.region) rs ≡ o → find (λ q. region_eq q.region r.region) rs ≡ None
    by_find None e = e
    by_find (Some x) e =
        let i = found_at rs r.region x e in
        let f = h 0 (suc i.0) r x (omega arith) refl i.1 in
        let s = same_region x.region r.region i.2 in
        let t : region_eq r.region x.region ≡ true = ap (region_eq r.region) s ∙ region_self r.region in
        absurd (differ t f)
      where
        differ : {b : Bool} → b ≡ true → b ≡ false → ⊥
        differ e f = cc

abbrev Extent : Type 0
Extent = Region × ℕ

abbrev extent : Region → ℕ → Extent
extent r n = (r, n)

further : (y x : Extent) (ys : List Extent) → Contains ys x → Contains (y ∷ ys) x
further y x ys c = let h = c.1 in (suc c.0, omega (arith, h), c.2)

first : (y x : Extent) (ys : List Extent) → y ≡ x → Contains (y ∷ ys) x
first y x ys e = (0, omega arith, e)

either : (y x : Extent) (ys : List Extent) → Contains (y ∷ ys) x → (y ≡ x) ⊎ Contains ys x
either y x ys c = by_index c.0 c.1 c.2
  where
    by_index : (k : ℕ) → k < length (y ∷ ys) → slice_index_or (y ∷ ys) k x ≡ x → (y ≡ x) ⊎ Contains ys x
    by_index zero h e = inl e
    by_index (suc k) h e = inr (k, omega (arith, h), e)

module _ {A : Type 0} (region : A → Region) (size : A → ℕ) where
  found_in : (rs : List A) (r : Region) (e : A) → find (λ q. region_eq (region q) r) rs ≡ Some e → Contains (map (λ q. extent (region q) (size q)) rs) (extent r (size e))
  found_in [] r e f = cc
  found_in (v ∷ vs) r e f = by_test (λ f. found_in vs r e f) (region_eq (region v) r) refl f
    where
      by_test : (find (λ q. region_eq (region q) r) vs ≡ Some e → Contains (map (λ q. extent (region q) (size q)) vs) (extent r (size e))) → (b : Bool) → region_eq (region v) r ≡ b → cond b (Some v) (find (λ q. region_eq (region q) r) vs) ≡ Some e → Contains (map (λ q. extent (region q) (size q)) (v ∷ vs)) (extent r (size e))
      by_test again true t f =
          let k : v ≡ e = cc in
          let s = same_region (region v) r t in
          first (extent (region v) (size v)) (extent r (size e)) (map (λ q. extent (region q) (size q)) vs) (ap (λ (q : Region). extent q (size v)) s ∙ ap (λ (a : A). extent r (size a)) k)
      by_test again false t f = further (extent (region v) (size v)) (extent r (size e)) (map (λ q. extent (region q) (size q)) vs) (again f)

  found_some : (rs : List A) (r : Region) (n : ℕ) → Contains (map (λ q. extent (region q) (size q)) rs) (extent r n) → find (λ q. region_eq (region q) r) rs ≡ None → ⊥
  found_some [] r n c f = let h = c.1 in omega (arith, h)
  found_some (v ∷ vs) r n c f = by_case (λ c f. found_some vs r n c f) (either (extent (region v) (size v)) (extent r n) (map (λ q. extent (region q) (size q)) vs) c)
    where
      here : (b : Bool) → region_eq (region v) r ≡ b → cond b (Some v) (find (λ q. region_eq (region q) r) vs) ≡ None → (region_eq (region v) r ≡ false) × (find (λ q. region_eq (region q) r) vs ≡ None)
      here true t f = cc
      here false t f = (t, f)

      by_case : (Contains (map (λ q. extent (region q) (size q)) vs) (extent r n) → find (λ q. region_eq (region q) r) vs ≡ None → ⊥) → ((extent (region v) (size v)) ≡ (extent r n)) ⊎ Contains (map (λ q. extent (region q) (size q)) vs) (extent r n) → ⊥
      by_case again (inl e) =
          let h = here (region_eq (region v) r) refl f in
          let s : region v ≡ r = ap (λ (x : Extent). x.0) e in
          let t : region_eq (region v) r ≡ true = subst (λ q. region_eq (region v) q ≡ true) s (region_self (region v)) in
          differ t h.0
        where
          differ : {b : Bool} → b ≡ true → b ≡ false → ⊥
          differ e f = cc
      by_case again (inr c) = let h = here (region_eq (region v) r) refl f in again c h.1

-- where each region is given once its extent has its size
size_found : (rs : List RegionInit) (r : Region) (n : ℕ) → AreDistinct rs → Contains (map extent_of rs) (extent r n) → size_or_none (find (λ q. region_eq q.region r) rs) ≡ n
size_found [] r n d c = let h = c.1 in absurd (omega (arith, h))
size_found (v ∷ vs) r n d c = by_test (λ c. size_found vs r n d.1 c) (region_eq v.region r) refl (either (extent v.region v.size) (extent r n) (map extent_of vs) c)
  where
    by_test : (Contains (map extent_of vs) (extent r n) → size_or_none (find (λ q. region_eq q.region r) vs) ≡ n) → (b : Bool) → region_eq v.region r ≡ b → ((extent v.region v.size) ≡ (extent r n)) ⊎ Contains (map extent_of vs) (extent r n) → size_or_none (cond b (Some v) (find (λ q. region_eq q.region r) vs)) ≡ n
    by_test again true t (inl e) = ap (λ (x : Extent). x.1) e
    by_test again true t (inr c) =
        let s = same_region v.region r t in
        let none : find (λ q. region_eq q.region r) vs ≡ None = subst (λ r. find (λ q. region_eq q.region r) vs ≡ None) s d.0 in
        absurd (found_some (λ (q : RegionInit). q.region) (λ (q : RegionInit). q.size) vs r n c none)
    by_test again false t (inl e) =
        let s : v.region ≡ r = ap (λ (x : Extent). x.0) e in
        let k : region_eq v.region r ≡ true = subst (λ q. region_eq v.region q ≡ true) s (region_self v.region) in
        absurd (differ k t)
      where
        differ : {b : Bool} → b ≡ true → b ≡ false → ⊥
        differ e f = cc
    by_test again false t (inr c) = again c

sizes_by : (p : ProgramView) (l : LayoutView) → AreDistinct p.regions → IsPermutation (map extent_at l.regions) (map extent_of p.regions) → SizesMatch p l
sizes_by p l d perm = record {
  known =
      λ r e f. size_found p.regions r e.size d
      (Contains-permutation (map extent_at l.regions) (map extent_of p.regions) (extent r e.size) perm
      (found_in (λ (q : RegionAt). q.region) (λ (q : RegionAt). q.size) l.regions r e f));
  absent = λ r f. by_init r (init_of p r) refl f;
}
  where
    by_init : (r : Region) (o : Option RegionInit) → init_of p r ≡ o → find (λ e. region_eq e.region r) l.regions ≡ None → size_or_none (init_of p r) ≡ 0
    by_init r None e f = ap size_or_none e
    by_init r (Some o) e f =
        let c = found_in (λ (q : RegionInit). q.region) (λ (q : RegionInit). q.size) p.regions r o e in
        let b = Contains-permutation (map extent_of p.regions) (map extent_at l.regions) (extent r o.size) (IsPermutation-sym (map extent_at l.regions) (map extent_of p.regions) perm) c in
        absurd (found_some (λ (q : RegionAt). q.region) (λ (q : RegionAt). q.size) l.regions r o.size b f)

pub sizes_match : (p : ProgramView) (l : LayoutView) → AreOnce p.regions → IsPermutation (map extent_at l.regions) (map extent_of p.regions) → SizesMatch p l
sizes_match p l once perm = sizes_by p l (distinct p.regions once.apart) perm

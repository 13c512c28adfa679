-- A layout has the regions of the program.
use Rattle.std.proofs.Common.{◌≡◌, inl, inr, ℕ, zero, suc, Bool, true, false, cond, List, [], ◌∷◌, map, Option, Some, None, refl, sym, ap, ◌∙◌, subst}
use Rattle.std.specs.Prelude.{find, slice_get, is_some, IsPermutation}
use Rattle.std.proofs.lemmas.Bool.{true≢false}
use Rattle.std.proofs.lemmas.List.Sorted.{IsPermutation-sym}
use Rattle.om_value.specs.declared.value.Region.{Region}
use Rattle.om_value.specs.declared.value.Region.TheVariants.{Sec, Common, Stack, Heap}
use Rattle.om_value.specs.declared.value.Target.{Target}
use Rattle.om_value.specs.declared.value.Target.TheVariants as target
use Rattle.om_value.specs.Same.{region_eq}
use Rattle.om_prog.specs.declared.region.RegionInit.{RegionInit}
use Rattle.om_prog.specs.View.{ProgramView, init_of}
use Rattle.om_prog.specs.Valid.{IsProgram, is_given, is_target}
use Rattle.om_prog.proofs.Found.{same_region}
use Rattle.om_graph.specs.View.{GraphView, Has}
use Rattle.om_graph.proofs.OfProgram.{of_map, to_map}
use Rattle.om_layout.specs.Layout.{LayoutView, RegionAt, is_region, region_there}
use Rattle.om_layout.specs.Order.{extent_at, extent_of, IsDataLayout}
use Rattle.om_layout.proofs.FewSlots.{region_self}
use Rattle.om_shrink.specs.Placed.{IsData, IsThere}
use Rattle.om_shrink.proofs.Distances.{shuffled}

pub found_has : {A : Type 0} (f : A → Bool) (xs : List A) (x : A) → find f xs ≡ Some x → Has xs x × (f x ≡ true)
found_has f [] x e = cc
found_has {A} f (y ∷ xs) x e = by_test (f y) refl e (found_has f xs x)
  where
    by_test : (b : Bool) → f y ≡ b → cond b (Some y) (find f xs) ≡ Some x → (find f xs ≡ Some x → Has xs x × (f x ≡ true)) → Has (y ∷ xs) x × (f x ≡ true)
    by_test true t e i = let s : y ≡ x = cc in (inl s, ap f (sym s) ∙ t)
    by_test false t e i = let r = i e in (inr r.0, r.1)

has_found : {A : Type 0} (f : A → Bool) (xs : List A) (x : A) → Has xs x → f x ≡ true → (y : A) × (find f xs ≡ Some y)
has_found f [] x h t = absurd h
has_found {A} f (y ∷ xs) x (inl s) t = let e = ap f s ∙ t in (y, rw e refl)
has_found {A} f (y ∷ xs) x (inr h) t = by_test (f y) (has_found f xs x h t)
  where
    by_test : (b : Bool) → (z : A) × (find f xs ≡ Some z) → (z : A) × (cond b (Some y) (find f xs) ≡ Some z)
    by_test true i = (y, refl)
    by_test false i = i

pub has_index : {A : Type 0} (xs : List A) (x : A) → Has xs x → (k : ℕ) × (slice_get xs k ≡ Some x)
has_index [] x h = absurd h
has_index (y ∷ xs) x (inl s) = (zero, ap (λ z. Some z) s)
has_index (y ∷ xs) x (inr h) = let r = has_index xs x h in (suc r.0, r.1)

given_data : (r : Region) → is_given r ≡ true → IsData r
given_data (Sec i n) h = tt
given_data (Common n) h = tt
given_data Stack h = true≢false (sym h)
given_data Heap h = true≢false (sym h)

module _ (p : ProgramView) (prog : IsProgram p) (g : GraphView) (l : LayoutView) (lay : IsDataLayout p g l) where
  region_is_there : (r : Region) (i : RegionInit) → init_of p r ≡ Some i → IsData r × ((e : RegionAt) × (region_there l r ≡ Some e))
  region_is_there r i e =
      let f = found_has (λ i. region_eq i.region r) p.regions i e in
      let s : i.region ≡ r = same_region i.region r f.1 in
      let k = has_index p.regions i f.0 in
      let given = ((prog.regions).each k.0 i k.1).form.given in
      let at = shuffled (map extent_of p.regions) (map extent_at l.regions) (extent_of i) (IsPermutation-sym _ _ lay.extents) (to_map extent_of p.regions i f.0) in
      let x = of_map extent_at l.regions (extent_of i) at in
      let t : (x.0).region ≡ r = ap (λ (y : Region × ℕ). y.0) x.2 ∙ s in
      (given_data r (subst (λ (y : Region). is_given y ≡ true) s given), has_found (is_region r) l.regions x.0 x.1 (ap (λ (y : Region). region_eq y r) t ∙ region_self r))

  pub target_is_there : (t : Target) → is_target p t ≡ true → IsThere l t
  target_is_there (target.Num n) h = tt
  target_is_there (target.Code q) h = tt
  target_is_there (target.Ptr r x) h = by_init (init_of p r) refl h
    where
      by_init : (o : Option RegionInit) → init_of p r ≡ o → is_some o ≡ true → IsThere l (target.Ptr r x)
      by_init None e h = absurd (true≢false (sym h))
      by_init (Some i) e h = region_is_there r i e

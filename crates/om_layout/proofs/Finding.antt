-- One more slot, one more region; and where a place's position stands.
use Rattle.std.proofs.Common.{◌≡◌, ℕ, zero, suc, ◌+◌, ◌/◌, ◌<◌, ◌≤◌, min, Bool, true, false, cond, ◌||◌, List, [], ◌∷◌, ◌++◌, length, Option, Some, None, refl, ap, sym, ◌∙◌, arith}
use Rattle.std.specs.Prelude.{find, take, sum, slice_index_or, option_map, is_some}
use Rattle.std.specs.List.{list_any}
use Rattle.std.specs.BTreeMap.{BTreeMap, get}
use Rattle.std.specs.Ordering.{is_eq}
use Rattle.std.proofs.lemmas.List.{get_or_past, get_or_default}
use Rattle.std.proofs.lemmas.List.Sums.{sum_by-cons}
use Rattle.om_value.specs.declared.value.Place.{Place}
use Rattle.om_value.specs.declared.value.Region.{Region}
use Rattle.om_value.specs.declared.value.Target.{Target}
use Rattle.om_value.specs.Same.{region_eq, target_eq}
use Rattle.om_prog.specs.Keys.{region_cmp, target_cmp}
use Rattle.om_prog.specs.Valid.{with_target}
use Rattle.om_prog.proofs.Found.{same_region, same_target}
use Rattle.om_prog.proofs.Keyed.{region_keys, target_keys}
use Rattle.om_layout.specs.Layout.{RegionAt, LayoutView, is_region, slot_number, place_number, position_of}
use Rattle.om_layout.specs.Order.{place_count}
use Rattle.om_layout.specs.Found.{HasNumbers, HasRegions, HasPlaces}

-- ---- slots

pub is_there : (ts : List Target) (t : Target) → is_some (slot_number ts t) ≡ list_any (λ u. target_eq u t) ts
is_there [] t = refl
is_there (u ∷ us) t = by_test (target_eq u t) (slot_number us t) (is_there us t)
  where
    by_test : (b : Bool) (n : Option ℕ) → is_some n ≡ list_any (λ u. target_eq u t) us → is_some (cond b (Some 0) (option_map suc n)) ≡ (b || list_any (λ u. target_eq u t) us)
    by_test true n e = refl
    by_test false None e = e
    by_test false (Some n) e = e

number_new : (ts : List Target) (t q : Target) → slot_number ts q ≡ None → target_eq t q ≡ true → slot_number (ts ++ t ∷ []) q ≡ Some (length ts)
number_new [] t q n e = rw e refl
number_new (u ∷ us) t q n e = by_test (target_eq u q) (slot_number us q) refl n (λ s. number_new us t q s e)
  where
    by_test :
        (b : Bool) (m : Option ℕ) → slot_number us q ≡ m → cond b (Some 0) (option_map suc m) ≡ None →
        (slot_number us q ≡ None → slot_number (us ++ t ∷ []) q ≡ Some (length us)) →
        cond b (Some 0) (option_map suc (slot_number (us ++ t ∷ []) q)) ≡ Some (suc (length us))
    by_test true m s n again = cc
    by_test false (Some m) s n again = cc
    by_test false None s n again = ap (option_map suc) (again s)

pub number_below : (ts : List Target) (t : Target) (n : ℕ) → slot_number ts t ≡ Some n → n < length ts
number_below [] t n e = cc
number_below (u ∷ us) t n e = by_test (target_eq u t) (slot_number us t) refl e (λ m s. number_below us t m s)
  where
    by_test :
        (b : Bool) (o : Option ℕ) → slot_number us t ≡ o → cond b (Some 0) (option_map suc o) ≡ Some n →
        ((m : ℕ) → slot_number us t ≡ Some m → m < length us) → n < suc (length us)
    by_test true o s e again = let f : 0 ≡ n = cc in omega (arith, f)
    by_test false None s e again = cc
    by_test false (Some m) s e again = let f : suc m ≡ n = cc in let l = again m s in omega (arith, f, l)

number_old : (ts : List Target) (t q : Target) → target_eq t q ≡ false → slot_number (ts ++ t ∷ []) q ≡ slot_number ts q
number_old [] t q e = rw e refl
number_old (u ∷ us) t q e = ap (λ n. cond (target_eq u q) (Some 0) (option_map suc n)) (number_old us t q e)

pub numbers_more :
    (ts : List Target) (m n : BTreeMap Target ℕ) (t : Target) → HasNumbers ts m → slot_number ts t ≡ None →
    ((q : Target) → get target_cmp n q ≡ cond (is_eq (target_cmp t q)) (Some (length ts)) (get target_cmp m q)) → HasNumbers (ts ++ t ∷ []) n
numbers_more ts m n t has none up = record { each = each }
  where
    each : (q : Target) → get target_cmp n q ≡ slot_number (ts ++ t ∷ []) q
    each q = up q ∙ rw (target_keys t q, has.each q) (by_test (target_eq t q) refl)
      where
        by_test : (b : Bool) → target_eq t q ≡ b → cond b (Some (length ts)) (slot_number ts q) ≡ slot_number (ts ++ t ∷ []) q
        by_test true e = sym (number_new ts t q (ap (slot_number ts) (sym (same_target t q e)) ∙ none) e)
        by_test false e = sym (number_old ts t q e)

pub none_from : {A : Type 0} (o : Option A) → is_some o ≡ false → o ≡ None
none_from None e = refl
none_from (Some x) e = cc

pub with_old : (ts : List Target) (t : Target) → list_any (λ u. target_eq u t) ts ≡ true → ts ≡ with_target ts t
with_old ts t e = rw e refl

pub with_new : (ts : List Target) (t : Target) → list_any (λ u. target_eq u t) ts ≡ false → ts ++ t ∷ [] ≡ with_target ts t
with_new ts t e = rw e refl

-- ---- regions

found_new : (rs : List RegionAt) (e : RegionAt) (q : Region) → find (is_region q) rs ≡ None → region_eq e.region q ≡ true → find (is_region q) (rs ++ e ∷ []) ≡ Some e
found_new [] e q n t = rw t refl
found_new (r ∷ rs) e q n t = by_test (region_eq r.region q) n (λ m. found_new rs e q m t)
  where
    by_test :
        (b : Bool) → cond b (Some r) (find (is_region q) rs) ≡ None → (find (is_region q) rs ≡ None → find (is_region q) (rs ++ e ∷ []) ≡ Some e) →
        cond b (Some r) (find (is_region q) (rs ++ e ∷ [])) ≡ Some e
    by_test true n again = cc
    by_test false n again = again n

found_old : (rs : List RegionAt) (e : RegionAt) (q : Region) → region_eq e.region q ≡ false → find (is_region q) (rs ++ e ∷ []) ≡ find (is_region q) rs
found_old [] e q t = rw t refl
found_old (r ∷ rs) e q t = ap (cond (region_eq r.region q) (Some r)) (found_old rs e q t)

pub regions_more :
    (rs : List RegionAt) (m n : BTreeMap Region RegionAt) (e : RegionAt) → HasRegions rs m → find (is_region e.region) rs ≡ None →
    ((q : Region) → get region_cmp n q ≡ cond (is_eq (region_cmp e.region q)) (Some e) (get region_cmp m q)) → HasRegions (rs ++ e ∷ []) n
regions_more rs m n e has none up = record { each = each }
  where
    each : (q : Region) → get region_cmp n q ≡ find (is_region q) (rs ++ e ∷ [])
    each q = up q ∙ rw (region_keys e.region q, has.each q) (by_test (region_eq e.region q) refl)
      where
        by_test : (b : Bool) → region_eq e.region q ≡ b → cond b (Some e) (find (is_region q) rs) ≡ find (is_region q) (rs ++ e ∷ [])
        by_test true t = sym (found_new rs e q (ap (λ (r : Region). find (is_region r) rs) (sym (same_region e.region q t)) ∙ none) t)
        by_test false t = sym (found_old rs e q t)

-- ---- positions

pub within : (counts : List ℕ) (o k : ℕ) → o < length counts → k ≤ slice_index_or counts o 0 → sum (take o counts) + o + k < place_count counts
within [] o k h l = absurd (omega (arith, h))
within (n ∷ ns) zero k h l = omega (arith, l)
within (n ∷ ns) (suc o) k h l =
    let s = sum_by-cons (λ x. x) n (take o ns) in
    let r = within ns o k (omega (arith, h)) l in
    omega (arith, s, r)

beyond : (counts : List ℕ) (o : ℕ) → length counts ≤ o → place_count counts ≤ sum (take o counts) + o
beyond [] o h = omega arith
beyond (n ∷ ns) zero h = absurd (omega (arith, h))
beyond (n ∷ ns) (suc o) h =
    let s = sum_by-cons (λ x. x) n (take o ns) in
    let r = beyond ns o (omega (arith, h)) in
    omega (arith, s, r)

pub no_position : (l : LayoutView) (starts : List ℕ) (q : Place) → HasPlaces l.counts starts l.positions → length starts ≤ q.obj → position_of l q ≡ 0
no_position l starts q has h =
    let a = has.as_many in
    let b = has.places in
    let c = beyond l.counts q.obj (omega (arith, a, h)) in
    get_or_past l.positions (place_number l.counts q) 0 (omega (arith, b, c))

min_most : (m n : ℕ) → min m n ≤ m
min_most m n = grind arith

pub inside : (counts starts positions : List ℕ) (q : Place) → HasPlaces counts starts positions → q.obj < length starts → place_number counts q < length positions
inside counts starts positions q has h =
    let a = has.as_many in
    let b = has.places in
    let m = min_most (slice_index_or counts q.obj 0) ((q.off + 3) / 4) in
    let c = within counts q.obj (min (slice_index_or counts q.obj 0) ((q.off + 3) / 4)) (omega (arith, a, h)) m in
    omega (arith, b, c)

min_swapped : (m n : ℕ) → min m n ≡ min n m
min_swapped m n = grind arith

-- a place's number, as it is read
pub number_read :
    (counts starts positions : List ℕ) (q : Place) (s n m : ℕ) → HasPlaces counts starts positions → q.obj < length starts →
    s ≡ slice_index_or starts q.obj s → n ≡ slice_index_or counts q.obj n → m ≡ min ((q.off + 3) / 4) n → s + m ≡ place_number counts q
number_read counts starts positions q s n m has l es en em =
    let a = has.as_many in
    let e = es ∙ get_or_default starts q.obj s 0 l ∙ has.are q.obj (omega (arith, a, l)) in
    let f : n ≡ slice_index_or counts q.obj 0 = en ∙ get_or_default counts q.obj n 0 (omega (arith, a, l)) in
    let g = em ∙ ap (min ((q.off + 3) / 4)) f ∙ min_swapped ((q.off + 3) / 4) (slice_index_or counts q.obj 0) in
    omega (arith, e, g)

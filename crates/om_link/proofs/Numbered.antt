-- Words by their numbers, and the regions of a layout.
use Rattle.std.proofs.Common.{◌≡◌, inl, inr, ◌<◌, ◌≤◌, ℕ, suc, ◌+◌, ◌-◌, ◌*◌, ◌/◌, ◌%◌, min, Bool, true, false, cond, ◌==◌, List, [], ◌∷◌, ◌++◌, length, take, Option, Some, None, refl, sym, ap, ◌∙◌, subst, arith}
use Rattle.std.specs.Prelude.{map, sum, find, slice_get, All}
use Rattle.std.proofs.Math.Decide.{dec_le}
use Rattle.std.proofs.lemmas.Bool.Decides.{nat_tests}
use Rattle.std.proofs.lemmas.List.Sums.{sum_by-cons}
use Rattle.om_value.specs.declared.value.Place.{Place}
use Rattle.om_value.specs.declared.value.Region.{Region}
use Rattle.om_value.specs.declared.value.Region.TheVariants.{Sec, Common, Stack, Heap}
use Rattle.om_value.specs.Same.{region_eq}
use Rattle.om_prog.specs.declared.item.Item.{Item}
use Rattle.om_prog.specs.declared.region.RegionInit.{RegionInit}
use Rattle.om_prog.specs.Act.{Word}
use Rattle.om_prog.specs.Step.{next_place}
use Rattle.om_prog.specs.View.{ProgramView, item_in}
use Rattle.om_prog.specs.Valid.{IsProgram, is_given}
use Rattle.om_graph.specs.View.{GraphView, Has}
use Rattle.om_graph.specs.Index.{index_of}
use Rattle.om_graph.proofs.LiftedWords.{text_words, text_start, texts_words}
use Rattle.om_graph.proofs.OfProgram.{of_map, to_map, index_below, same_some}
use Rattle.om_lockstep.proofs.Small.{same_region}
use Rattle.om_layout.specs.Layout.{LayoutView, RegionAt, region_at, is_region, address_or}
use Rattle.om_layout.specs.Order.{IsDataLayout, extent_at, extent_of}
use Rattle.om_layout.proofs.FewSlots.{region_self}
use Rattle.om_encode.proofs.Valid.{some_at, index_at}
use Rattle.om_link.proofs.OneLayout.{shuffled, one_extent, in_order}

-- ---- words by their numbers

-- each number below that of all words is that of a word
pub record IsNumbered (texts : List (List Item)) (k : ℕ) : Type 0 where
  pub place : Place
  pub item : Item
  pub there : item_in texts place ≡ Some item
  pub index : index_of (map (λ t. length t) texts) place ≡ k

further : (n : ℕ) (ns : List ℕ) (o f : ℕ) → index_of (n ∷ ns) (record { obj = suc o; off = f }) ≡ n + index_of ns (record { obj = o; off = f })
further n ns o f = let s = sum_by-cons (λ x. x) n (take o ns) in omega (arith, s)

min_is : (m n : ℕ) → n ≤ m → min m n ≡ n
min_is m n h = grind arith

pub every_word : (texts : List (List Item)) (k : ℕ) → k < sum (map (λ t. length t) texts) → IsNumbered texts k
every_word [] k h = absurd (omega (arith, h))
every_word (t ∷ ts) k h =
    by_size (dec_le (length t) k)
    (λ le. every_word ts (k - length t) (let s = sum_by-cons (λ (x : ℕ). x) (length t) (map (λ u. length u) ts) in omega (arith, h, s, le)))
  where
    first : k < length t → IsNumbered (t ∷ ts) k
    first lt =
        let x = some_at t k lt in
        let a : (4 * k % 4 == 0) ≡ true = grind (arith, nat_tests) in
        let b : 4 * k / 4 ≡ k = omega arith in
        let m = min_is (length t) ((4 * k + 3) / 4) (omega (arith, lt)) in
        record {
          place = record { obj = 0; off = 4 * k };
          item = x.0;
          there = rw a (ap (slice_get t) b ∙ x.1);
          index = omega (arith, m);
        }

    later : IsNumbered ts (k - length t) → length t ≤ k → IsNumbered (t ∷ ts) k
    later r le = record {
      place = record { obj = suc r.place.obj; off = r.place.off };
      item = r.item;
      there = r.there;
      index = let e = further (length t) (map (λ u. length u) ts) r.place.obj r.place.off in let f = r.index in omega (arith, e, f, le);
    }

    by_size : Dec (length t ≤ k) → (length t ≤ k → IsNumbered ts (k - length t)) → IsNumbered (t ∷ ts) k
    by_size (yes le) again = later (again le) le
    by_size (no lt) again = first (omega (arith, lt))

pub words_length : (k : ℕ) (texts : List (List Item)) → length (texts_words k texts) ≡ sum (map (λ t. length t) texts)
words_length k [] = refl
words_length k (t ∷ ts) =
    let a = both (text_words (text_start k) t) (texts_words (suc k) ts) in
    let b = one (text_start k) t in
    let c = words_length (suc k) ts in
    let s = sum_by-cons (λ (x : ℕ). x) (length t) (map (λ u. length u) ts) in
    omega (arith, a, b, c, s)
  where
    both : (xs ys : List Word) → length (xs ++ ys) ≡ length xs + length ys
    both [] ys = omega arith
    both (x ∷ xs) ys = let i = both xs ys in omega (arith, i)

    one : (at : Place) (is : List Item) → length (text_words at is) ≡ length is
    one at [] = refl
    one at (i ∷ is) = ap suc (one (next_place at) is)

-- ---- regions

pub all_at : {A : Type 0} (P : A → Type 0) (xs : List A) (k : ℕ) (x : A) → All P xs → slice_get xs k ≡ Some x → P x
all_at P xs k x h e = subst P (sym (index_at xs k x x e)) (h k x (index_below xs k x e))

number_of : {A : Type 0} (xs : List A) (x : A) → Has xs x → (k : ℕ) × (slice_get xs k ≡ Some x)
number_of [] x h = absurd h
number_of (y ∷ ys) x (inl e) = (0, ap (λ z. Some z) e)
number_of (y ∷ ys) x (inr h) = let r = number_of ys x h in (suc r.0, r.1)

found_has : (es : List RegionAt) (r : Region) (e : RegionAt) → find (is_region r) es ≡ Some e → Has es e × (e.region ≡ r)
found_has [] r e h = cc
found_has (x ∷ xs) r e h = by_test (region_eq x.region r) refl h (found_has xs r e)
  where
    by_test :
        (b : Bool) → region_eq x.region r ≡ b → cond b (Some x) (find (is_region r) xs) ≡ Some e → (find (is_region r) xs ≡ Some e → Has xs e × (e.region ≡ r)) →
        Has (x ∷ xs) e × (e.region ≡ r)
    by_test true t h again = let s : x ≡ e = cc in (inl s, ap (λ (y : RegionAt). y.region) (sym s) ∙ same_region x.region r t)
    by_test false t h again = let u = again h in (inr u.0, u.1)

none_found : (es : List RegionAt) (r : Region) (e : RegionAt) → find (is_region r) es ≡ None → Has es e → e.region ≡ r → ⊥
none_found [] r e h k s = k
none_found (x ∷ xs) r e h (inl f) s =
    let t : region_eq x.region r ≡ true = ap (λ (y : RegionAt). region_eq y.region r) f ∙ ap (λ (y : Region). region_eq y r) s ∙ region_self r in
    not (sym (ap (λ (b : Bool). cond b (Some x) (find (is_region r) xs)) t) ∙ h)
  where
    not : Some x ≡ None → ⊥
    not e = cc
none_found (x ∷ xs) r e h (inr k) s = by_test (region_eq x.region r) refl h (λ f. none_found xs r e f k s)
  where
    by_test : (b : Bool) → region_eq x.region r ≡ b → cond b (Some x) (find (is_region r) xs) ≡ None → (find (is_region r) xs ≡ None → ⊥) → ⊥
    by_test true t h again = not h
      where
        not : Some x ≡ None → ⊥
        not e = cc
    by_test false t h again = again h

given_at : (l : LayoutView) (r : Region) → is_given r ≡ true → region_at l r ≡ address_or (find (is_region r) l.regions)
given_at l (Sec o n) h = refl
given_at l (Common n) h = refl
given_at l Stack h = cc
given_at l Heap h = cc

module _ (p : ProgramView) (prog : IsProgram p) (g : GraphView) (l : LayoutView) (lay : IsDataLayout p g l) where
  pub record IsRegionOf (r : RegionAt) : Type 0 where
    pub number : ℕ
    pub init : RegionInit
    pub there : slice_get p.regions number ≡ Some init
    pub extent : extent_of init ≡ extent_at r

  pub region_of : (r : RegionAt) → Has l.regions r → IsRegionOf r
  region_of r h =
      let e = shuffled (map extent_at l.regions) (map extent_of p.regions) (extent_at r) lay.extents (to_map extent_at l.regions r h) in
      let q = of_map extent_of p.regions (extent_at r) e in
      let k = number_of p.regions q.0 q.1 in
      record { number = k.0; init = q.0; there = k.1; extent = q.2 }

  one_init : (j k : ℕ) (a b : RegionInit) → slice_get p.regions j ≡ Some a → slice_get p.regions k ≡ Some b → a.region ≡ b.region → a ≡ b
  one_init j k a b e f s = by_less (dec_le (suc j) k) (dec_le (suc k) j)
    where
      same : region_eq a.region b.region ≡ true
      same = ap (region_eq a.region) (sym s) ∙ region_self a.region

      other : region_eq b.region a.region ≡ true
      other = ap (region_eq b.region) s ∙ region_self b.region

      differ : {b : Bool} → b ≡ true → b ≡ false → ⊥
      differ i j = cc

      by_less : Dec (suc j ≤ k) → Dec (suc k ≤ j) → a ≡ b
      by_less (yes lt) d = absurd (differ same (prog.once.apart j k a b (omega (arith, lt)) e f))
      by_less (no n) (yes lt) = absurd (differ other (prog.once.apart k j b a (omega (arith, lt)) f e))
      by_less (no n) (no m) = let i : j ≡ k = omega (arith, n, m) in same_some (sym e ∙ ap (slice_get p.regions) i ∙ f)

  -- a region of a layout is where it says
  pub region_is : (r : RegionAt) (h : Has l.regions r) → (m : IsRegionOf r) → region_at l m.init.region ≡ r.address
  region_is r h m = given_at l m.init.region (prog.regions.each m.number m.init m.there).form.given ∙ by_found (find (is_region m.init.region) l.regions) refl
    where
      region : r.region ≡ m.init.region
      region = ap (λ (x : Region × ℕ). x.0) (sym m.extent)

      by_found : (o : Option RegionAt) → find (is_region m.init.region) l.regions ≡ o → address_or o ≡ r.address
      by_found None f = absurd (none_found l.regions m.init.region r f h region)
      by_found (Some e) f =
          let u = found_has l.regions m.init.region e f in
          let q = region_of e u.0 in
          let s = one_init q.number m.number q.init m.init q.there m.there (ap (λ (x : Region × ℕ). x.0) q.extent ∙ u.1) in
          let t : extent_at e ≡ extent_at r = sym q.extent ∙ ap extent_of s ∙ m.extent in
          ap (λ (x : RegionAt). x.address) (one_extent l.regions (in_order l.regions lay.order) e r u.0 h t)

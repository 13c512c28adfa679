-- Between two places as many words are kept at most as there are.
use Rattle.std.proofs.Common.{◌≡◌, ◌⊎◌, inl, inr, ℕ, zero, suc, ◌+◌, ◌-◌, ◌/◌, ◌%◌, ◌<◌, ◌≤◌, Bool, true, false, cond, List, [], ◌∷◌, length, refl, ap, sym, subst, ◌∙◌, arith}
use Rattle.std.specs.Prelude.{sum, take, min, slice_index_or, pos, ◌-ℤ◌}
use Rattle.std.proofs.lemmas.List.Sums.{sum_by-cons}
use Rattle.std.proofs.lemmas.Int.{ints}
use Rattle.std.proofs.lemmas.Bool.Decides.{nat_tests}
use Rattle.om_isa.specs.Fields.{IsDisp}
use Rattle.om_value.specs.declared.value.Place.{Place}
use Rattle.om_prog.specs.Act.{Word}
use Rattle.om_graph.specs.View.{Has, place_lt}
use Rattle.om_graph.specs.Index.{index_of, InReach}
use Rattle.om_graph.proofs.Labels.{lt_cases}
use Rattle.om_layout.specs.Order.{words_before}
use Rattle.om_layout.specs.Facts.{AreSorted}
use Rattle.om_layout.proofs.Sorted.{AreWordsOf}
use Rattle.om_layout.proofs.Placing.{later_is}

least_both : (k m n : ℕ) → k ≤ m → k ≤ n → k ≤ min m n
least_both k m n a b = grind arith

min_left : (m n : ℕ) → min m n ≤ m
min_left m n = grind arith

min_right : (m n : ℕ) → min m n ≤ n
min_right m n = grind arith

sums_step : (xs : List ℕ) (i j : ℕ) → i < j → sum (take i xs) + slice_index_or xs i 0 ≤ sum (take j xs)
sums_step [] i zero h = absurd (omega arith)
sums_step [] zero (suc j) h = omega arith
sums_step [] (suc i) (suc j) h = omega arith
sums_step (x ∷ xs) i zero h = absurd (omega arith)
sums_step (x ∷ xs) zero (suc j) h = let s = sum_by-cons (λ x. x) x (take j xs) in omega (arith, s)
sums_step (x ∷ xs) (suc i) (suc j) h =
    let s = sum_by-cons (λ x. x) x (take j xs) in
    let t = sum_by-cons (λ x. x) x (take i xs) in
    let r = sums_step xs i j (omega (arith, h)) in
    omega (arith, s, t, r)

sums_all : (xs : List ℕ) (i : ℕ) → sum (take i xs) + slice_index_or xs i 0 ≤ sum xs
sums_all [] zero = omega arith
sums_all [] (suc i) = omega arith
sums_all (x ∷ xs) zero = let s = sum_by-cons (λ x. x) x xs in omega (arith, s)
sums_all (x ∷ xs) (suc i) =
    let s = sum_by-cons (λ x. x) x xs in
    let t = sum_by-cons (λ x. x) x (take i xs) in
    let r = sums_all xs i in
    omega (arith, s, t, r)

not_lt : (p q : Place) → place_lt p q ≡ false → (q.obj < p.obj) ⊎ ((q.obj ≡ p.obj) × (q.off ≤ p.off))
not_lt p q e = grind (arith, nat_tests)

lt_through : (p q r : Place) → place_lt p q ≡ true → place_lt r q ≡ false → place_lt p r ≡ true
lt_through p q r e f = grind (arith, nat_tests)

module _ (counts : List ℕ) where
  abbrev idx : Place → ℕ
  idx q = index_of counts q

  -- a word's place and one behind it
  index_next : (a b : Place) → a.off % 4 ≡ 0 → a.off / 4 < slice_index_or counts a.obj 0 → place_lt a b ≡ true → idx a + 1 ≤ idx b
  index_next a b al inside lt = by_case (lt_cases a b lt)
    where
      by_case : ((a.obj ≡ b.obj) × (a.off < b.off)) ⊎ (a.obj < b.obj) → idx a + 1 ≤ idx b
      by_case (inl h) =
          let m = min_right (slice_index_or counts a.obj 0) ((a.off + 3) / 4) in
          let h1 = h.1 in
          let l = least_both (a.off / 4 + 1) (slice_index_or counts a.obj 0) ((b.off + 3) / 4) (omega (arith, inside)) (omega (arith, al, h1)) in
          let k : sum (take a.obj counts) + min (slice_index_or counts a.obj 0) ((b.off + 3) / 4) ≡ idx b = ap (λ o. sum (take o counts) + min (slice_index_or counts o 0) ((b.off + 3) / 4)) h.0 in
          omega (arith, m, l, k, al)
      by_case (inr h) =
          let m = min_right (slice_index_or counts a.obj 0) ((a.off + 3) / 4) in
          let s = sums_step counts a.obj b.obj h in
          omega (arith, m, s, al, inside)

  index_up : (a b : Place) → place_lt b a ≡ false → idx a ≤ idx b
  index_up a b e = by_case (not_lt b a e)
    where
      by_case : (a.obj < b.obj) ⊎ ((a.obj ≡ b.obj) × (a.off ≤ b.off)) → idx a ≤ idx b
      by_case (inl h) =
          let m = min_left (slice_index_or counts a.obj 0) ((a.off + 3) / 4) in
          let s = sums_step counts a.obj b.obj h in
          omega (arith, m, s)
      by_case (inr h) =
          let h1 = h.1 in
          let m = min_left (slice_index_or counts a.obj 0) ((a.off + 3) / 4) in
          let n = min_right (slice_index_or counts a.obj 0) ((a.off + 3) / 4) in
          let l = least_both (min (slice_index_or counts a.obj 0) ((a.off + 3) / 4)) (slice_index_or counts a.obj 0) ((b.off + 3) / 4) m (omega (arith, n, h1)) in
          let k : sum (take a.obj counts) + min (slice_index_or counts a.obj 0) ((b.off + 3) / 4) ≡ idx b = ap (λ o. sum (take o counts) + min (slice_index_or counts o 0) ((b.off + 3) / 4)) h.0 in
          omega (arith, l, k)

  index_inside : (a : Place) → a.off % 4 ≡ 0 → a.off / 4 < slice_index_or counts a.obj 0 → idx a + 1 ≤ sum counts
  index_inside a al inside =
      let m = min_right (slice_index_or counts a.obj 0) ((a.off + 3) / 4) in
      let s = sums_all counts a.obj in
      omega (arith, m, s, al, inside)

  abbrev AreInside : List Word → Type 0
  AreInside ws = (w : Word) → Has ws w → (w.at.off % 4 ≡ 0) × (w.at.off / 4 < slice_index_or counts w.at.obj 0)

  -- words from a place on, of which some stand before another place
  few_before : (ws : List Word) (k : ℕ) (q : Place) → AreSorted ws → AreInside ws → ((w : Word) → Has ws w → k ≤ idx w.at) → (words_before ws q ≡ 0) ⊎ (words_before ws q + k ≤ idx q)
  few_before [] k q s i h = inl refl
  few_before (w ∷ ws) k q s i h =
      by_test (place_lt w.at q) refl
      (few_before ws k q s.1 (λ x m. i x (inr m)) (λ x m. h x (inr m)))
      (few_before ws (idx w.at + 1) q s.1 (λ x m. i x (inr m)) (λ x m. index_next w.at x.at (i w (inl refl)).0 (i w (inl refl)).1 (later_is w ws x s.0 m)))
    where
      by_test :
          (b : Bool) → place_lt w.at q ≡ b → (words_before ws q ≡ 0) ⊎ (words_before ws q + k ≤ idx q) →
          (words_before ws q ≡ 0) ⊎ (words_before ws q + (idx w.at + 1) ≤ idx q) →
          (cond b (suc (words_before ws q)) (words_before ws q) ≡ 0) ⊎ (cond b (suc (words_before ws q)) (words_before ws q) + k ≤ idx q)
      by_test false e r n = r
      by_test true e r (inl z) =
          let a = index_next w.at q (i w (inl refl)).0 (i w (inl refl)).1 e in
          let b = h w (inl refl) in
          inr (omega (arith, a, b, z))
      by_test true e r (inr n) = let b = h w (inl refl) in inr (omega (arith, b, n))

  -- of two places in order
  between : (ws : List Word) (p q : Place) → AreSorted ws → AreInside ws → place_lt q p ≡ false → words_before ws q ≤ words_before ws p + (idx q - idx p)
  between [] p q s i o = omega arith
  between (w ∷ ws) p q s i o =
      by_test (place_lt w.at p) refl
      (between ws p q s.1 (λ x m. i x (inr m)) o)
      (λ f. few_before (w ∷ ws) (idx p) q s i f)
    where
      by_test :
          (b : Bool) → place_lt w.at p ≡ b → words_before ws q ≤ words_before ws p + (idx q - idx p) →
          (((x : Word) → Has (w ∷ ws) x → idx p ≤ idx x.at) → (words_before (w ∷ ws) q ≡ 0) ⊎ (words_before (w ∷ ws) q + idx p ≤ idx q)) →
          words_before (w ∷ ws) q ≤ cond b (suc (words_before ws p)) (words_before ws p) + (idx q - idx p)
      by_test true e r n = let t = lt_through w.at p q e o in rw t (omega (arith, r))
      by_test false e r n = by_few (n above)
        where
          above : (x : Word) → Has (w ∷ ws) x → idx p ≤ idx x.at
          above x (inl m) = subst (λ (y : Word). idx p ≤ idx y.at) m (index_up p w.at e)
          above x (inr m) =
              let a = index_up p w.at e in
              let b = index_next w.at x.at (i w (inl refl)).0 (i w (inl refl)).1 (later_is w ws x s.0 m) in
              omega (arith, a, b)

          by_few : (words_before (w ∷ ws) q ≡ 0) ⊎ (words_before (w ∷ ws) q + idx p ≤ idx q) → words_before (w ∷ ws) q ≤ words_before ws p + (idx q - idx p)
          by_few (inl z) = omega (arith, z)
          by_few (inr m) = omega (arith, m)

  up : (ws : List Word) (p q : Place) → place_lt q p ≡ false → words_before ws p ≤ words_before ws q
  up [] p q o = omega arith
  up (w ∷ ws) p q o = by_test (place_lt w.at p) refl (place_lt w.at q) refl (up ws p q o)
    where
      by_test :
          (b : Bool) → place_lt w.at p ≡ b → (c : Bool) → place_lt w.at q ≡ c → words_before ws p ≤ words_before ws q →
          cond b (suc (words_before ws p)) (words_before ws p) ≤ cond c (suc (words_before ws q)) (words_before ws q)
      by_test true e true f h = omega (arith, h)
      by_test true e false f h = absurd (differ (sym (lt_through w.at p q e o) ∙ f))
        where
          differ : true ≡ false → ⊥
          differ e = cc
      by_test false e true f h = omega (arith, h)
      by_test false e false f h = h

  -- what is in reach by all words is in reach by the kept ones
  pub reach : (ws : List Word) → AreWordsOf counts ws → (at q : Place) → InReach counts at q → IsDisp ((pos (words_before ws q) -ℤ pos (words_before ws at)) -ℤ pos 1)
  reach ws are at q r = by_order (place_lt q at) refl
    where
      inside : AreInside ws
      inside w h = (are.aligned w h, are.inside w h)

      by_order : (b : Bool) → place_lt q at ≡ b → IsDisp ((pos (words_before ws q) -ℤ pos (words_before ws at)) -ℤ pos 1)
      by_order false e =
          let a = between ws at q are.sorted inside e in
          let u = up ws at q e in
          let m = index_up at q e in
          let r0 = r.0 in
          let r1 = r.1 in
          (omega (arith, ints, a, u, m, r0, r1), omega (arith, ints, a, u, m, r0, r1))
      by_order true e =
          let f = lt_flip q at e in
          let a = between ws q at are.sorted inside f in
          let u = up ws q at f in
          let m = index_up q at f in
          let r0 = r.0 in
          let r1 = r.1 in
          (omega (arith, ints, a, u, m, r0, r1), omega (arith, ints, a, u, m, r0, r1))
        where
          lt_flip : (p q : Place) → place_lt p q ≡ true → place_lt q p ≡ false
          lt_flip p q e = grind (arith, nat_tests)

  -- no more words are kept than there are
  few_from : (ws : List Word) (k : ℕ) → k ≤ sum counts → AreSorted ws → AreInside ws → ((w : Word) → Has ws w → k ≤ idx w.at) → length ws + k ≤ sum counts
  few_from [] k le s i h = omega (arith, le)
  few_from (w ∷ ws) k le s i h =
      let a = index_inside w.at (i w (inl refl)).0 (i w (inl refl)).1 in
      let b = h w (inl refl) in
      let r = few_from ws (idx w.at + 1) a s.1 (λ x m. i x (inr m)) (λ x m. index_next w.at x.at (i w (inl refl)).0 (i w (inl refl)).1 (later_is w ws x s.0 m)) in
      omega (arith, b, r)

  pub few_words : (ws : List Word) → AreWordsOf counts ws → length ws ≤ sum counts
  few_words ws are = let r = few_from ws 0 (omega arith) are.sorted (λ w h. (are.aligned w h, are.inside w h)) (λ w h. omega arith) in omega (arith, r)

-- The numbers of words before the places of a text, from place to place.
use Rattle.std.proofs.Common.{◌≡◌, ◌⊎◌, inl, inr, ℕ, zero, suc, ◌+◌, ◌*◌, ◌/◌, ◌%◌, ◌<◌, ◌≤◌, min, ◌==◌, Bool, true, false, cond, List, [], ◌∷◌, ◌++◌, length, Some, refl, ap, sym, subst, ◌∙◌, arith}
use Rattle.std.specs.Prelude.{map, take, sum, slice_get, slice_index_or}
use Rattle.std.proofs.lemmas.Bool.Decides.{nat_tests}
use Rattle.std.proofs.lemmas.List.{get_or_append_left, get_or_push, length_push, take_all}
use Rattle.std.proofs.lemmas.List.Sums.{sum_by-cons}
use Rattle.om_value.specs.declared.value.Place.{Place}
use Rattle.om_value.specs.Same.{place_eq}
use Rattle.om_prog.specs.Act.{Word}
use Rattle.om_prog.specs.Step.{next_place}
use Rattle.om_graph.specs.View.{Has, place_lt}
use Rattle.om_layout.specs.Facts.{IsBeforeAll, AreSorted}
use Rattle.om_layout.specs.Layout.{place_number}
use Rattle.om_layout.specs.Order.{IsPlaceOf, words_before, place_count}
use Rattle.om_layout.specs.Placing.{AreTextWords, HasPositions, IsDone}
use Rattle.om_layout.proofs.Placing.{got_within}

abbrev pub place : ℕ → ℕ → Place
place obj off = record { obj = obj; off = off }

-- ---- from a place to the next

abbrev pub is_at : Place → List Place → ℕ → Bool
is_at q [] i = false
is_at q (p ∷ ps) zero = place_eq p q
is_at q (p ∷ ps) (suc i) = is_at q ps i

eq_lt_next : (p q : Place) → place_eq p q ≡ true → place_lt p (next_place q) ≡ true
eq_lt_next p q e = grind (arith, nat_tests, e)

not_next : (p q : Place) → p.off % 4 ≡ 0 → q.off % 4 ≡ 0 → place_lt p q ≡ false → place_eq p q ≡ false → place_lt p (next_place q) ≡ false
not_next p q a b e f = grind (arith, nat_tests, a, b, e, f)

lt_then_next : (p q : Place) → place_lt p q ≡ true → place_lt p (next_place q) ≡ true
lt_then_next p q e = grind (arith, nat_tests, e)

later_not : (p x q : Place) → place_lt p x ≡ true → place_lt p q ≡ false → place_lt x q ≡ false
later_not p x q e f = grind (arith, nat_tests, e, f)

later_not_next : (p x q : Place) → x.off % 4 ≡ 0 → q.off % 4 ≡ 0 → place_lt p x ≡ true → place_lt p q ≡ false → place_lt x (next_place q) ≡ false
later_not_next p x q a b e f = grind (arith, nat_tests, a, b, e, f)

none_of : (w : Word) (ws : List Word) (q : Place) → IsBeforeAll w ws → ((x : Word) → Has ws x → place_lt w.at x.at ≡ true → place_lt x.at q ≡ false) → words_before ws q ≡ 0
none_of w [] q h f = refl
none_of w (x ∷ xs) q h f = let e = f x (inl refl) h.0 in rw e (none_of w xs q h.1 (λ y k. f y (inr k)))

pub step : (ws : List Word) (q : Place) → AreSorted ws → ((w : Word) → Has ws w → w.at.off % 4 ≡ 0) → q.off % 4 ≡ 0 → words_before ws (next_place q) ≡ cond (is_at q (map (λ w. w.at) ws) (words_before ws q)) (suc (words_before ws q)) (words_before ws q)
step [] q s al b = refl
step (w ∷ ws) q s al b = by_lt (place_lt w.at q) refl (step ws q s.1 (λ x k. al x (inr k)) b)
  where
    aligned : w.at.off % 4 ≡ 0
    aligned = al w (inl refl)

    by_eq : (t : Bool) → place_eq w.at q ≡ t → place_lt w.at q ≡ false → cond (place_lt w.at (next_place q)) (suc (words_before ws (next_place q))) (words_before ws (next_place q)) ≡ cond t 1 0
    by_eq true e f =
        let n = eq_lt_next w.at q e in
        let z = none_of w ws (next_place q) s.0 (λ x k g. later_not_next w.at x.at q (al x (inr k)) b g f) in
        rw (n, z) refl
    by_eq false e f =
        let n = not_next w.at q aligned b f e in
        let z = none_of w ws (next_place q) s.0 (λ x k g. later_not_next w.at x.at q (al x (inr k)) b g f) in
        rw (n, z) refl

    by_lt :
        (t : Bool) → place_lt w.at q ≡ t →
        words_before ws (next_place q) ≡ cond (is_at q (map (λ (w : Word). w.at) ws) (words_before ws q)) (suc (words_before ws q)) (words_before ws q) →
        words_before (w ∷ ws) (next_place q) ≡ cond (is_at q (map (λ w. w.at) (w ∷ ws)) (words_before (w ∷ ws) q)) (suc (words_before (w ∷ ws) q)) (words_before (w ∷ ws) q)
    by_lt true e r =
        let n = lt_then_next w.at q e in
        rw (e, n, r) (by_at (is_at q (map (λ w. w.at) ws) (words_before ws q)))
      where
        by_at : (t : Bool) → suc (cond t (suc (words_before ws q)) (words_before ws q)) ≡ cond t (suc (suc (words_before ws q))) (suc (words_before ws q))
        by_at true = refl
        by_at false = refl
    by_lt false e r =
        let z = none_of w ws q s.0 (λ x k g. later_not w.at x.at q g e) in
        rw (e, z) (by_eq (place_eq w.at q) refl e)

-- no word stands behind a text's end
end_lt : (p : Place) (obj count : ℕ) → (p.obj ≡ obj → p.off / 4 < count) → place_lt p (place obj (4 * (count + 1))) ≡ place_lt p (place (obj + 1) 0)
end_lt p obj count h = by_obj (p.obj == obj) refl
  where
    by_obj : (t : Bool) → (p.obj == obj) ≡ t → place_lt p (place obj (4 * (count + 1))) ≡ place_lt p (place (obj + 1) 0)
    by_obj true e = let o : p.obj ≡ obj = grind (arith, nat_tests, e) in let k = h o in grind (arith, nat_tests, o, k)
    by_obj false e = grind (arith, nat_tests, e)

pub text_end : (ws : List Word) (obj count : ℕ) → ((w : Word) → Has ws w → w.at.obj ≡ obj → w.at.off / 4 < count) → words_before ws (place obj (4 * (count + 1))) ≡ words_before ws (place (obj + 1) 0)
text_end [] obj count h = refl
text_end (w ∷ ws) obj count h =
    let e = end_lt w.at obj count (h w (inl refl)) in
    let r = text_end ws obj count (λ x k. h x (inr k)) in
    rw (e, r) refl

pub at_first : (ws : List Word) → words_before ws (place 0 0) ≡ 0
at_first [] = refl
at_first (w ∷ ws) = let e = none_first w.at in rw e (at_first ws)
  where
    none_first : (p : Place) → place_lt p (place 0 0) ≡ false
    none_first p = grind (arith, nat_tests)

-- ---- positions

min_is : (m n : ℕ) → n ≤ m → min m n ≡ n
min_is m n h = grind (arith, h)

-- a place's number
number_is : (counts : List ℕ) (q : Place) → IsPlaceOf counts q → place_number counts q ≡ sum (take q.obj counts) + q.obj + q.off / 4
number_is counts q h =
    let a = h.aligned in
    let i = h.inside in
    let up : (q.off + 3) / 4 ≡ q.off / 4 = omega (arith, a) in
    let m = min_is (slice_index_or counts q.obj 0) ((q.off + 3) / 4) (omega (arith, up, i)) in
    omega (arith, up, m)

firsts_step : (counts : List ℕ) (i j : ℕ) → i < j → j ≤ length counts → sum (take i counts) + slice_index_or counts i 0 ≤ sum (take j counts)
firsts_step [] i j h l = absurd (omega (arith, h, l))
firsts_step (x ∷ xs) i zero h l = absurd (omega (arith, h))
firsts_step (x ∷ xs) zero (suc j) h l = let s = sum_by-cons (λ (n : ℕ). n) x (take j xs) in omega (arith, s)
firsts_step (x ∷ xs) (suc i) (suc j) h l =
    let s = sum_by-cons (λ (n : ℕ). n) x (take j xs) in
    let t = sum_by-cons (λ (n : ℕ). n) x (take i xs) in
    let r = firsts_step xs i j (omega (arith, h)) (omega (arith, l)) in
    omega (arith, s, t, r)

-- a place that is done has its position
number_small : (counts : List ℕ) (obj word : ℕ) (q : Place) → obj ≤ length counts → IsPlaceOf counts q → IsDone obj word q → place_number counts q < sum (take obj counts) + obj + word
number_small counts obj word q l h (inl d) =
    let n = number_is counts q h in
    let s = firsts_step counts q.obj obj d l in
    let i = h.inside in
    omega (arith, n, s, i, d)
number_small counts obj word q l h (inr d) =
    let n = number_is counts q h in
    let e = ap (λ o. sum (take o counts)) d.0 in
    let o = d.0 in
    let w = d.1 in
    omega (arith, n, e, o, w)

done_cases : (obj word : ℕ) (q : Place) → IsDone obj (suc word) q → IsDone obj word q ⊎ ((q.obj ≡ obj) × (q.off / 4 ≡ word))
done_cases obj word q (inl d) = inl (inl d)
done_cases obj word q (inr d) = by_word (nat_lt_or (q.off / 4) word d.1)
  where
    nat_lt_or : (m n : ℕ) → m < suc n → (m < n) ⊎ (m ≡ n)
    nat_lt_or m n h = grind (arith, h)

    by_word : (q.off / 4 < word) ⊎ (q.off / 4 ≡ word) → IsDone obj word q ⊎ ((q.obj ≡ obj) × (q.off / 4 ≡ word))
    by_word (inl l) = inl (inr (d.0, l))
    by_word (inr e) = inr (d.0, e)

same_place : (q : Place) (obj word : ℕ) → q.off % 4 ≡ 0 → q.obj ≡ obj → q.off / 4 ≡ word → q ≡ place obj (4 * word)
same_place q obj word a o w = let e : q.off ≡ 4 * word = omega (arith, a, w) in both q.obj q.off obj (4 * word) o e
  where
    both : (a b c d : ℕ) → a ≡ c → b ≡ d → place a b ≡ place c d
    both a b c d e f = rw (e, f) refl

pub position_more :
    (counts : List ℕ) (ws : List Word) (obj word x : ℕ) (ps qs : List ℕ) → obj < length counts → HasPositions counts ws obj word ps → qs ≡ ps ++ x ∷ [] → x ≡ words_before ws (place obj (4 * word)) →
    HasPositions counts ws obj (suc word) qs
position_more counts ws obj word x ps qs l h e is = subst (HasPositions counts ws obj (suc word)) (sym e) (record {
  as_many = let a = length_push ps x in let b = h.as_many in omega (arith, a, b);
  each = λ q p d. by_case q p (done_cases obj word q d);
})
  where
    by_case : (q : Place) → IsPlaceOf counts q → IsDone obj word q ⊎ ((q.obj ≡ obj) × (q.off / 4 ≡ word)) → slice_index_or (ps ++ x ∷ []) (place_number counts q) 0 ≡ words_before ws q
    by_case q p (inl d) =
        let s = number_small counts obj word q (omega (arith, l)) p d in
        let m = h.as_many in
        get_or_append_left ps (x ∷ []) 0 (place_number counts q) (omega (arith, s, m)) ∙ h.each q p d
    by_case q p (inr d) =
        let n = number_is counts q p in
        let s = ap (λ o. sum (take o counts)) d.0 in
        let o = d.0 in
        let w = d.1 in
        let m = h.as_many in
        get_or_push ps x 0 (place_number counts q) (omega (arith, n, s, o, w, m)) ∙ is ∙ ap (words_before ws) (sym (same_place q obj word p.aligned d.0 d.1))

sum_next : (counts : List ℕ) (i n : ℕ) → slice_get counts i ≡ Some n → sum (take (suc i) counts) ≡ sum (take i counts) + n
sum_next [] i n e = cc
sum_next (x ∷ xs) zero n e = let s = sum_by-cons (λ (k : ℕ). k) x [] in let f : x ≡ n = cc in omega (arith, s, f)
sum_next (x ∷ xs) (suc i) n e =
    let s = sum_by-cons (λ (k : ℕ). k) x (take (suc i) xs) in
    let t = sum_by-cons (λ (k : ℕ). k) x (take i xs) in
    let r = sum_next xs i n e in
    omega (arith, s, t, r)

got : (xs : List ℕ) (i n : ℕ) → slice_get xs i ≡ Some n → slice_index_or xs i 0 ≡ n
got [] i n e = cc
got (x ∷ xs) zero n e = cc
got (x ∷ xs) (suc i) n e = got xs i n e

-- a whole text is that of all places before the next object
pub text_done : (counts : List ℕ) (ws : List Word) (obj count : ℕ) (ps : List ℕ) → slice_get counts obj ≡ Some count → HasPositions counts ws obj (count + 1) ps → HasPositions counts ws (obj + 1) 0 ps
text_done counts ws obj count ps e h = record {
  as_many = let a = h.as_many in let s = sum_next counts obj count e in let o : obj + 1 ≡ suc obj = omega arith in let t = ap (λ n. sum (take n counts)) o in omega (arith, a, s, t);
  each = λ q p d. h.each q p (by_case q p d);
}
  where
    by_case : (q : Place) → IsPlaceOf counts q → IsDone (obj + 1) 0 q → IsDone obj (count + 1) q
    by_case q p (inl d) = by_obj (lt_or q.obj obj (omega (arith, d)))
      where
        lt_or : (m n : ℕ) → m < suc n → (m < n) ⊎ (m ≡ n)
        lt_or m n h = grind (arith, h)

        by_obj : (q.obj < obj) ⊎ (q.obj ≡ obj) → IsDone obj (count + 1) q
        by_obj (inl l) = inl l
        by_obj (inr o) =
            let i = p.inside in
            let g = ap (λ n. slice_index_or counts n 0) o ∙ got counts obj count e in
            inr (o, omega (arith, i, g))
    by_case q p (inr d) = absurd (let w = d.1 in omega (arith, w))

pub none_placed : (counts : List ℕ) (ws : List Word) → HasPositions counts ws 0 0 []
none_placed counts ws = record {
  as_many = refl;
  each = λ q p d. absurd (none q d);
}
  where
    none : (q : Place) → IsDone 0 0 q → ⊥
    none q (inl d) = omega (arith, d)
    none q (inr d) = let w = d.1 in omega (arith, w)

all_places : (counts : List ℕ) → sum counts + length counts ≡ place_count counts
all_places [] = refl
all_places (n ∷ ns) = let s = sum_by-cons (λ (k : ℕ). k) n ns in let r = all_places ns in omega (arith, s, r)

pub count_is : (counts : List ℕ) (ws : List Word) (ps : List ℕ) → HasPositions counts ws (length counts) 0 ps → length ps ≡ place_count counts
count_is counts ws ps h =
    let a = h.as_many in
    let t = ap sum (take_all (length counts) counts (omega arith)) in
    let n = all_places counts in
    omega (arith, a, t, n)

-- ---- the steps of the loop over a text

pub at_here : (q : Place) (ps : List Place) (i : ℕ) (d : Place) (b : Bool) → i < length ps → place_eq (slice_index_or ps i d) q ≡ b → is_at q ps i ≡ b
at_here q [] i d b l e = absurd (omega (arith, l))
at_here q (p ∷ ps) zero d b l e = e
at_here q (p ∷ ps) (suc i) d b l e = at_here q ps i d b (omega (arith, l)) e

pub at_past : (q : Place) (ps : List Place) (i : ℕ) → length ps ≤ i → is_at q ps i ≡ false
at_past q [] i l = refl
at_past q (p ∷ ps) zero l = absurd (omega (arith, l))
at_past q (p ∷ ps) (suc i) l = at_past q ps i (omega (arith, l))

pub next_step :
    (counts : List ℕ) (ws : List Word) (places : List Place) (obj word n m : ℕ) → AreTextWords counts ws → places ≡ map (λ (w : Word). w.at) ws →
    n ≡ words_before ws (place obj (4 * word)) → m ≡ cond (is_at (place obj (4 * word)) places n) (suc n) n → m ≡ words_before ws (place obj (4 * (word + 1)))
next_step counts ws places obj word n m are e f g =
    let q = place obj (4 * word) in
    let o : 4 * word + 4 ≡ 4 * (word + 1) = omega arith in
    g ∙ ap (λ (ps : List Place). cond (is_at q ps n) (suc n) n) e
    ∙ ap (λ k. cond (is_at q (map (λ (w : Word). w.at) ws) k) (suc k) k) f
    ∙ sym (step ws q are.sorted are.aligned (omega arith)) ∙ ap (λ k. words_before ws (place obj k)) o

pub next_end :
    (counts : List ℕ) (ws : List Word) (obj count word n : ℕ) → AreTextWords counts ws → slice_get counts obj ≡ Some count → word ≡ count + 1 →
    n ≡ words_before ws (place obj (4 * word)) → n ≡ words_before ws (place (obj + 1) 0)
next_end counts ws obj count word n are e f g =
    g ∙ ap (λ k. words_before ws (place obj (4 * k))) f
    ∙ text_end ws obj count (λ w h o. let i = are.inside w h in let k = ap (λ m. slice_index_or counts m 0) o ∙ got counts obj count e in omega (arith, i, k))

pub position_step :
    (counts : List ℕ) (ws : List Word) (obj count word x : ℕ) (ps qs : List ℕ) → slice_get counts obj ≡ Some count → HasPositions counts ws obj word ps → qs ≡ ps ++ x ∷ [] →
    x ≡ words_before ws (place obj (4 * word)) → HasPositions counts ws obj (word + 1) qs
position_step counts ws obj count word x ps qs s h e is =
    let a : suc word ≡ word + 1 = omega arith in
    subst (λ k. HasPositions counts ws obj k qs) a (position_more counts ws obj word x ps qs (got_within counts obj count s) h e is)

pub text_placed :
    (counts : List ℕ) (ws : List Word) (obj count word : ℕ) (ps : List ℕ) → slice_get counts obj ≡ Some count → word ≡ count + 1 → HasPositions counts ws obj word ps →
    HasPositions counts ws (obj + 1) 0 ps
text_placed counts ws obj count word ps s e h = text_done counts ws obj count ps s (subst (λ k. HasPositions counts ws obj k ps) e h)

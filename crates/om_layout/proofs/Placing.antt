-- In order of object and offset the positions are the numbers of words before.
use Rattle.std.proofs.Common.{◌≡◌, inl, inr, ℕ, zero, suc, ◌+◌, ◌%◌, ◌<◌, ◌≤◌, Bool, true, false, cond, ◌&&◌, ◌==◌, nat_le, List, [], ◌∷◌, length, Some, refl, ap, sym, subst, ◌∙◌, arith}
use Rattle.std.specs.Prelude.{slice_get}
use Rattle.std.proofs.lemmas.Bool.{eqb-true, leb-true}
use Rattle.std.proofs.lemmas.Bool.Decides.{nat_tests}
use Rattle.om_value.specs.declared.value.Place.{Place}
use Rattle.om_prog.specs.Act.{Word}
use Rattle.om_prog.specs.Step.{next_place}
use Rattle.om_graph.specs.View.{Has, place_lt}
use Rattle.om_graph.specs.Run.{next_word, from_place}
use Rattle.om_layout.specs.Order.{words_before}
use Rattle.om_layout.specs.Facts.{ArePositions, IsBeforeAll, AreSorted}

pub and_true : (a b : Bool) → (a && b) ≡ true → (a ≡ true) × (b ≡ true)
and_true true b e = (refl, e)
and_true false b e = cc

lt_next : (p q : Place) → place_lt p q ≡ true → place_lt p (next_place q) ≡ true
lt_next p q e = grind (arith, nat_tests)

self_lt : (p : Place) → place_lt p p ≡ false
self_lt p = grind (arith, nat_tests)

lt_self_next : (p : Place) → place_lt p (next_place p) ≡ true
lt_self_next p = grind (arith, nat_tests)

lt_back : (p q : Place) → place_lt p q ≡ true → place_lt q p ≡ false
lt_back p q e = grind (arith, nat_tests)

not_lt_next : (p q : Place) → p.off % 4 ≡ 0 → q.off % 4 ≡ 0 → place_lt p q ≡ true → place_lt q (next_place p) ≡ false
not_lt_next p q a b e =
    let k : p.off < q.off → p.off + 4 ≤ q.off = λ h. omega arith in
    grind (arith, nat_tests, k)

-- a place between: p is before w, and v is before p in this text or in an earlier one
before_found : (v w p : Place) → place_lt v w ≡ true → w.obj ≡ p.obj → p.off ≤ w.off → ((v.obj == p.obj) && nat_le p.off v.off) ≡ false → place_lt v p ≡ true
before_found v w p e o h f = grind (arith, nat_tests)

not_before : (v x p : Place) → ((v.obj == p.obj) && nat_le p.off v.off) ≡ true → place_lt v x ≡ true → place_lt x p ≡ false
not_before v x p e f = grind (arith, nat_tests)

not_before_self : (v p : Place) → ((v.obj == p.obj) && nat_le p.off v.off) ≡ true → place_lt v p ≡ false
not_before_self v p e = grind (arith, nat_tests)

-- ---- words after a word

pub later_is : (v : Word) (ws : List Word) (w : Word) → IsBeforeAll v ws → Has ws w → place_lt v.at w.at ≡ true
later_is v [] w h k = absurd k
later_is v (x ∷ xs) w h (inl e) = subst (λ y. place_lt v.at y.at ≡ true) e h.0
later_is v (x ∷ xs) w h (inr k) = later_is v xs w h.1 k

none_before : (v : Word) (ws : List Word) (q : Place) → IsBeforeAll v ws → ((x : Place) → place_lt v.at x ≡ true → place_lt x q ≡ false) → words_before ws q ≡ 0
none_before v [] q h f = refl
none_before v (x ∷ xs) q h f = let e = f x.at h.0 in rw e (none_before v xs q h.1 f)

pub found_has : (ws : List Word) (p : Place) (w : Word) → next_word ws p ≡ Some w → Has ws w × (from_place p w ≡ true)
found_has [] p w e = cc
found_has (v ∷ vs) p w e = by_test (λ e. found_has vs p w e) (from_place p v) refl e
  where
    by_test : (next_word vs p ≡ Some w → Has vs w × (from_place p w ≡ true)) → (b : Bool) → from_place p v ≡ b → cond b (Some v) (next_word vs p) ≡ Some w → Has (v ∷ vs) w × (from_place p w ≡ true)
    by_test again true t e = let k : v ≡ w = cc in (inl k, subst (λ y. from_place p y ≡ true) k t)
    by_test again false t e = let r = again e in (inr r.0, r.1)

-- ---- the number of words before

one_before : (v : Word) (vs : List Word) (q : Place) → place_lt v.at q ≡ true → words_before (v ∷ vs) q ≡ suc (words_before vs q)
one_before v vs q e = rw e refl

none_more : (v : Word) (vs : List Word) (q : Place) → place_lt v.at q ≡ false → words_before (v ∷ vs) q ≡ words_before vs q
none_more v vs q e = rw e refl

-- a word stands at the number of words before it
pub stands_at : (ws : List Word) (w : Word) → AreSorted ws → Has ws w → slice_get ws (words_before ws w.at) ≡ Some w
stands_at [] w h k = absurd k
stands_at (v ∷ vs) w h (inl e) =
    let z : words_before (v ∷ vs) v.at ≡ 0 = none_more v vs v.at (self_lt v.at) ∙ none_before v vs v.at h.0 (λ x f. lt_back v.at x f) in
    subst (λ y. slice_get (v ∷ vs) (words_before (v ∷ vs) y.at) ≡ Some y) e (ap (slice_get (v ∷ vs)) z)
stands_at (v ∷ vs) w h (inr k) =
    let z = one_before v vs w.at (later_is v vs w h.0 k) in
    ap (slice_get (v ∷ vs)) z ∙ stands_at vs w h.1 k

pub found_before : (ws : List Word) (p : Place) (w : Word) → AreSorted ws → next_word ws p ≡ Some w → words_before ws p ≡ words_before ws w.at
found_before [] p w h e = cc
found_before (v ∷ vs) p w h e = by_test (λ e. found_before vs p w h.1 e) (from_place p v) refl e
  where
    by_test : (next_word vs p ≡ Some w → words_before vs p ≡ words_before vs w.at) → (b : Bool) → from_place p v ≡ b → cond b (Some v) (next_word vs p) ≡ Some w → words_before (v ∷ vs) p ≡ words_before (v ∷ vs) w.at
    by_test again true t e =
        let k : v ≡ w = cc in
        let here = none_more v vs p (not_before_self v.at p t) ∙ none_before v vs p h.0 (λ x f. not_before v.at x p t f) in
        let there : words_before (v ∷ vs) v.at ≡ 0 = none_more v vs v.at (self_lt v.at) ∙ none_before v vs v.at h.0 (λ x f. lt_back v.at x f) in
        here ∙ sym there ∙ ap (λ (y : Word). words_before (v ∷ vs) y.at) k
    by_test again false t e =
        let f = found_has vs p w e in
        let before = later_is v vs w h.0 f.0 in
        let same = and_true (w.at.obj == p.obj) (nat_le p.off w.at.off) f.1 in
        let obj : w.at.obj ≡ p.obj = eqb-true w.at.obj p.obj same.0 in
        let off : p.off ≤ w.at.off = leb-true p.off w.at.off same.1 in
        one_before v vs p (before_found v.at w.at p before obj off t) ∙ ap suc (again e) ∙ sym (one_before v vs w.at before)

pub next_before : (ws : List Word) (w : Word) → AreSorted ws → ((x : Word) → Has ws x → x.at.off % 4 ≡ 0) → Has ws w → words_before ws (next_place w.at) ≡ suc (words_before ws w.at)
next_before [] w h al k = absurd k
next_before (v ∷ vs) w h al (inl e) =
    let z : words_before (v ∷ vs) v.at ≡ 0 = none_more v vs v.at (self_lt v.at) ∙ none_before v vs v.at h.0 (λ x f. lt_back v.at x f) in
    let n : words_before vs (next_place v.at) ≡ 0 = next_none v vs h.0 (al v (inl refl)) (λ x k. al x (inr k)) in
    subst (λ (y : Word). words_before (v ∷ vs) (next_place y.at) ≡ suc (words_before (v ∷ vs) y.at)) e
    (one_before v vs (next_place v.at) (lt_self_next v.at) ∙ ap suc n ∙ ap suc (sym z))
  where
    next_none : (v : Word) (vs : List Word) → IsBeforeAll v vs → v.at.off % 4 ≡ 0 → ((x : Word) → Has vs x → x.at.off % 4 ≡ 0) → words_before vs (next_place v.at) ≡ 0
    next_none v [] h a al = refl
    next_none v (x ∷ xs) h a al = none_more x xs (next_place v.at) (not_lt_next v.at x.at a (al x (inl refl)) h.0) ∙ next_none v xs h.1 a (λ y k. al y (inr k))
next_before (v ∷ vs) w h al (inr k) =
    let before = later_is v vs w h.0 k in
    one_before v vs (next_place w.at) (lt_next v.at w.at before) ∙ ap suc (next_before vs w h.1 (λ x j. al x (inr j)) k) ∙ ap suc (sym (one_before v vs w.at before))

pub most_before : (ws : List Word) (q : Place) → words_before ws q ≤ length ws
most_before [] q = omega arith
most_before (w ∷ ws) q = by_test (place_lt w.at q) (most_before ws q)
  where
    by_test : (b : Bool) → words_before ws q ≤ length ws → cond b (suc (words_before ws q)) (words_before ws q) ≤ suc (length ws)
    by_test true h = omega arith
    by_test false h = omega arith

pub got_within : {A : Type 0} (xs : List A) (k : ℕ) (x : A) → slice_get xs k ≡ Some x → k < length xs
got_within [] k x e = cc
got_within (y ∷ ys) zero x e = omega arith
got_within (y ∷ ys) (suc k) x e = let h = got_within ys k x e in omega arith

-- the positions of the layout
pub in_order : (G : Place → Type 0) (ws : List Word) → AreSorted ws → ((x : Word) → Has ws x → x.at.off % 4 ≡ 0) → ArePositions G ws (words_before ws)
in_order G ws h al = record {
  inside = λ w k. got_within ws (words_before ws w.at) w (stands_at ws w h k);
  once = λ v w j k e. let a = stands_at ws v h j in let b = stands_at ws w h k in let c = ap (slice_get ws) e in cc;
  follows = λ w k n. next_before ws w h al k ∙ omega arith;
  found = λ q w good e. found_before ws q w h e;
  most = λ q. most_before ws q;
}

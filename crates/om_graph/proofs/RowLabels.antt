-- The labels of rows, in order, and those of the touched ones.
use Rattle.std.proofs.Common.{◌≡◌, ◌⊎◌, inl, inr, ◌<◌, ◌≤◌, ℕ, zero, suc, Bool, true, false, cond, List, [], ◌∷◌, ◌++◌, length, set, drop, refl, sym, ap, ◌∙◌, subst, arith}
use Rattle.std.specs.Prelude.{map, find}
use Rattle.std.proofs.lemmas.Bool.{true≢false, cases_order, false_from_ne_true}
use Rattle.om_value.specs.declared.value.Place.{Place}
use Rattle.om_value.specs.Same.{place_eq}
use Rattle.om_graph.specs.declared.parts.Row.{Row}
use Rattle.om_graph.specs.View.{Has, InPlaceOrder, place_lt, touch}
use Rattle.om_graph.specs.Laid.{no_row, row_at, labels_of, touched_of, cleared_row}
use Rattle.om_graph.proofs.Labels.{same_place, self_eq, lt_cases}
use Rattle.om_graph.proofs.RowBlocks.{IsAt, at_bound, at_get, at_read}

-- ---- order

pub not_before : (p q : Place) → place_lt p q ≡ true → place_lt q p ≡ true → ⊥
not_before p q a b = by_cases (lt_cases p q a) (lt_cases q p b)
  where
    by_cases : ((p.obj ≡ q.obj) × (p.off < q.off)) ⊎ (p.obj < q.obj) → ((q.obj ≡ p.obj) × (q.off < p.off)) ⊎ (q.obj < p.obj) → ⊥
    by_cases (inl x) (inl y) = let u = x.1 in let v = y.1 in absurd (omega (arith, u, v))
    by_cases (inl x) (inr y) = let u = x.0 in absurd (omega (arith, u, y))
    by_cases (inr x) (inl y) = let v = y.0 in absurd (omega (arith, x, v))
    by_cases (inr x) (inr y) = absurd (omega (arith, x, y))

pub not_itself : (p : Place) → place_lt p p ≡ true → ⊥
not_itself p e = not_before p p e e

pub before_differs : (p q : Place) → place_lt p q ≡ true → place_eq q p ≡ false
before_differs p q e = false_from_ne_true (place_eq q p) (λ h. not_itself p (subst (λ (x : Place). place_lt p x ≡ true) (same_place q p h) e))

pub before_not_behind : (p q : Place) → place_lt p q ≡ true → place_lt q p ≡ false
before_not_behind p q e = false_from_ne_true (place_lt q p) (λ h. not_before p q e h)

pub at_has : (rows : List Row) (j : ℕ) (r : Row) → IsAt rows j r → Has (labels_of rows) r.label
at_has [] j r at = absurd at
at_has (x ∷ rows) zero r at = inl (ap (λ (y : Row). y.label) at)
at_has (x ∷ rows) (suc j) r at = inr (at_has rows j r at)

pub order_lt : (rows : List Row) (j k : ℕ) (x y : Row) → InPlaceOrder (labels_of rows) → IsAt rows j x → IsAt rows k y → j < k → place_lt x.label y.label ≡ true
order_lt [] j k x y o a b l = absurd a
order_lt (z ∷ rows) zero zero x y o a b l = absurd (omega (arith, l))
order_lt (z ∷ rows) zero (suc k) x y o a b l = subst (λ (w : Row). place_lt w.label y.label ≡ true) a (o.0 y.label (at_has rows k y b))
order_lt (z ∷ rows) (suc j) zero x y o a b l = absurd (omega (arith, l))
order_lt (z ∷ rows) (suc j) (suc k) x y o a b l = order_lt rows j k x y o.1 a b (omega (arith, l))

-- ---- labels

pub labels_same : (rows : List Row) (j : ℕ) (r r' : Row) → IsAt rows j r → r'.label ≡ r.label → labels_of (set rows j r') ≡ labels_of rows
labels_same [] j r r' at e = absurd at
labels_same (x ∷ rows) zero r r' at e = ap (λ (q : Place). q ∷ labels_of rows) (e ∙ ap (λ (y : Row). y.label) (sym at))
labels_same (x ∷ rows) (suc j) r r' at e = ap (λ (l : List Place). x.label ∷ l) (labels_same rows j r r' at e)

pub labels_added : (rows : List Row) (r : Row) → labels_of (rows ++ r ∷ []) ≡ labels_of rows ++ r.label ∷ []
labels_added [] r = refl
labels_added (x ∷ rows) r = ap (λ (l : List Place). x.label ∷ l) (labels_added rows r)

pub labels_cleared : (rows : List Row) → labels_of (map cleared_row rows) ≡ labels_of rows
labels_cleared [] = refl
labels_cleared (x ∷ rows) = ap (λ (l : List Place). x.label ∷ l) (labels_cleared rows)

-- ---- the touched ones

pub touched_added : (rows : List Row) (r : Row) → r.touched ≡ false → touched_of (rows ++ r ∷ []) ≡ touched_of rows
touched_added [] r e = rw e refl
touched_added (x ∷ rows) r e = by_touched x.touched (touched_added rows r e)
  where
    by_touched : (v : Bool) → touched_of (rows ++ r ∷ []) ≡ touched_of rows → cond v (x.label ∷ touched_of (rows ++ r ∷ [])) (touched_of (rows ++ r ∷ [])) ≡ cond v (x.label ∷ touched_of rows) (touched_of rows)
    by_touched true i = ap (λ (l : List Place). x.label ∷ l) i
    by_touched false i = i

pub touched_cleared : (rows : List Row) → touched_of (map cleared_row rows) ≡ []
touched_cleared [] = refl
touched_cleared (x ∷ rows) = touched_cleared rows

touched_has : (rows : List Row) (q : Place) → Has (touched_of rows) q → Has (labels_of rows) q
touched_has [] q h = h
touched_has (x ∷ rows) q h = by_touched x.touched h (touched_has rows q)
  where
    by_touched : (v : Bool) → Has (cond v (x.label ∷ touched_of rows) (touched_of rows)) q → (Has (touched_of rows) q → Has (labels_of rows) q) → Has (x.label ∷ labels_of rows) q
    by_touched true (inl e) i = inl e
    by_touched true (inr h) i = inr (i h)
    by_touched false h i = inr (i h)

-- a label before all these is put in front of them
touch_front : (p : Place) (l : List Place) → ((q : Place) → Has l q → place_lt p q ≡ true) → touch p l ≡ p ∷ l
touch_front p [] first = refl
touch_front p (q ∷ l) first =
    let lt = first q (inl refl) in
    let ne : place_eq p q ≡ false = false_from_ne_true (place_eq p q) (λ h. not_itself q (subst (λ (x : Place). place_lt x q ≡ true) (same_place p q h) lt)) in
    rw (ne, lt) refl

touch_itself : (p : Place) (l : List Place) → touch p (p ∷ l) ≡ p ∷ l
touch_itself p l = let e = self_eq p in rw e refl

touch_behind : (p q : Place) (l m : List Place) → place_lt q p ≡ true → touch p l ≡ m → touch p (q ∷ l) ≡ q ∷ m
touch_behind p q l m lt e =
    let a = before_differs q p lt in
    let b = before_not_behind q p lt in
    rw (a, b, e) refl

pub touched_set :
    (rows : List Row) (j : ℕ) (r r' : Row) → InPlaceOrder (labels_of rows) → IsAt rows j r → r'.label ≡ r.label → r'.touched ≡ true →
    touched_of (set rows j r') ≡ touch r.label (touched_of rows)
touched_set [] j r r' o at same t = absurd at
touched_set (x ∷ rows) zero r r' o at same t =
    let here : x.label ≡ r.label = ap (λ (y : Row). y.label) at in
    rw (t, same) (subst (λ (q : Place). q ∷ touched_of rows ≡ touch q (cond x.touched (x.label ∷ touched_of rows) (touched_of rows))) here (by_touched x.touched))
  where
    by_touched : (v : Bool) → x.label ∷ touched_of rows ≡ touch x.label (cond v (x.label ∷ touched_of rows) (touched_of rows))
    by_touched true = sym (touch_itself x.label (touched_of rows))
    by_touched false = sym (touch_front x.label (touched_of rows) (λ q h. o.0 q (touched_has rows q h)))
touched_set (x ∷ rows) (suc j) r r' o at same t = by_touched x.touched (touched_set rows j r r' o.1 at same t)
  where
    by_touched :
        (v : Bool) → touched_of (set rows j r') ≡ touch r.label (touched_of rows) →
        cond v (x.label ∷ touched_of (set rows j r')) (touched_of (set rows j r')) ≡ touch r.label (cond v (x.label ∷ touched_of rows) (touched_of rows))
    by_touched true i = sym (touch_behind r.label x.label (touched_of rows) (touched_of (set rows j r')) (o.0 r.label (at_has rows j r at)) (sym i))
    by_touched false i = i

-- the first touched one behind a place, where it is known how many rows are not behind it
pub touched_after :
    (p : Place) (rows : List Row) (c : ℕ) → ((i : ℕ) → i < c → place_lt p (row_at rows i).label ≡ false) →
    ((i : ℕ) → c ≤ i → i < length rows → place_lt p (row_at rows i).label ≡ true) →
    find (place_lt p) (touched_of rows) ≡ find (λ q. true) (touched_of (drop c rows))
touched_after p [] zero below above = refl
touched_after p [] (suc c) below above = refl
touched_after p (x ∷ rows) zero below above = by_touched x.touched (above 0 (omega arith) (omega arith)) (touched_after p rows zero (λ i h. absurd (omega (arith, h))) (λ i h g. above (suc i) (omega arith) (omega (arith, g))))
  where
    by_touched :
        (v : Bool) → place_lt p x.label ≡ true → find (place_lt p) (touched_of rows) ≡ find (λ q. true) (touched_of rows) →
        find (place_lt p) (cond v (x.label ∷ touched_of rows) (touched_of rows)) ≡ find (λ q. true) (cond v (x.label ∷ touched_of rows) (touched_of rows))
    by_touched true t i = rw t refl
    by_touched false t i = i
touched_after p (x ∷ rows) (suc c) below above = by_touched x.touched (below 0 (omega arith)) (touched_after p rows c (λ i h. below (suc i) (omega (arith, h))) (λ i h g. above (suc i) (omega (arith, h)) (omega (arith, g))))
  where
    by_touched :
        (v : Bool) → place_lt p x.label ≡ false → find (place_lt p) (touched_of rows) ≡ find (λ q. true) (touched_of (drop c rows)) →
        find (place_lt p) (cond v (x.label ∷ touched_of rows) (touched_of rows)) ≡ find (λ q. true) (touched_of (drop c rows))
    by_touched true f i = rw f i
    by_touched false f i = i

-- ---- the row of a label

-- where c rows have labels before a place, only the one behind those can have it
pub located :
    (p : Place) (rows : List Row) (c k : ℕ) (x : Row) → InPlaceOrder (labels_of rows) →
    ((i : ℕ) → i < c → place_lt (row_at rows i).label p ≡ true) → (c < length rows → place_lt (row_at rows c).label p ≡ false) →
    IsAt rows k x → place_eq x.label p ≡ true → k ≡ c
located p rows c k x o below above at e = by_order (cases_order k c)
  where
    same : x.label ≡ p
    same = same_place x.label p e

    by_order : (k ≡ c) ⊎ ((k < c) ⊎ (c < k)) → k ≡ c
    by_order (inl h) = h
    by_order (inr (inl h)) =
        let is : row_at rows k ≡ x = at_get rows k x no_row at in
        let lt : place_lt x.label p ≡ true = subst (λ (y : Row). place_lt y.label p ≡ true) is (below k h) in
        absurd (not_itself p (subst (λ (q : Place). place_lt q p ≡ true) same lt))
    by_order (inr (inr h)) =
        let within : c < length rows = let b = at_bound rows k x at in omega (arith, b, h) in
        let lt : place_lt (row_at rows c).label x.label ≡ true = order_lt rows c k (row_at rows c) x o (at_read rows c no_row (row_at rows c) within refl) at h in
        absurd (true≢false (sym (subst (λ (q : Place). place_lt (row_at rows c).label q ≡ true) same lt) ∙ above within))

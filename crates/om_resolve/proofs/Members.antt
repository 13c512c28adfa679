-- What stands in lists.
use Rattle.std.proofs.Common.{◌≡◌, ◌⊎◌, inl, inr, ℕ, zero, suc, ◌+◌, ◌<◌, Bool, true, false, cond, List, [], ◌∷◌, ◌++◌, Option, Some, None, refl, ap, sym, subst, ◌∙◌, arith}
use Rattle.std.specs.Prelude.{find, slice_get, option_map}
use Rattle.std.specs.Option.{option_to_list}
use Rattle.om_fields.specs.Places.{joined_from, joined}

abbrev pub In : {X : Type 0} → List X → X → Type 0
In [] x = ⊥
In (y ∷ ys) x = (y ≡ x) ⊎ In ys x

pub in_front : {X : Type 0} (xs ys : List X) (x : X) → In xs x → In (xs ++ ys) x
in_front [] ys x h = absurd h
in_front (z ∷ xs) ys x (inl e) = inl e
in_front (z ∷ xs) ys x (inr h) = inr (in_front xs ys x h)

pub in_back : {X : Type 0} (xs ys : List X) (x : X) → In ys x → In (xs ++ ys) x
in_back [] ys x h = h
in_back (z ∷ xs) ys x h = inr (in_back xs ys x h)

pub in_either : {X : Type 0} (xs ys : List X) (x : X) → In (xs ++ ys) x → In xs x ⊎ In ys x
in_either [] ys x h = inr h
in_either (z ∷ xs) ys x (inl e) = inl (inl e)
in_either (z ∷ xs) ys x (inr h) = step (in_either xs ys x h)
  where
    step : In xs x ⊎ In ys x → In (z ∷ xs) x ⊎ In ys x
    step (inl k) = inl (inr k)
    step (inr k) = inr k

-- in a joined list, an item is in one of the lists
pub record InJoined {X : Type 0} (f : ℕ → List X) (n : ℕ) (x : X) : Type 0 where
  pub index : ℕ
  pub below : index < n
  pub here : In (f index) x

from_joined : {X : Type 0} (f : ℕ → List X) (k n : ℕ) (x : X) → In (joined_from f k n) x → (j : ℕ) × (j < n) × In (f (k + j)) x
from_joined f k zero x h = absurd h
from_joined f k (suc n) x h = by_side (from_joined f (k + 1) n x) (in_either (f k) (joined_from f (k + 1) n) x h)
  where
    by_side : (In (joined_from f (k + 1) n) x → (j : ℕ) × (j < n) × In (f (k + 1 + j)) x) → In (f k) x ⊎ In (joined_from f (k + 1) n) x → (j : ℕ) × (j < suc n) × In (f (k + j)) x
    by_side rest (inl i) = let e : k ≡ k + 0 = omega arith in (0, omega arith, subst (λ j. In (f j) x) e i)
    by_side rest (inr i) =
        let r = rest i in
        let e : k + 1 + r.0 ≡ k + suc r.0 = omega arith in
        (suc r.0, omega (arith, r.1), subst (λ j. In (f j) x) e r.2)

pub in_joined : {X : Type 0} (f : ℕ → List X) (n : ℕ) (x : X) → In (joined f n) x → InJoined f n x
in_joined f n x h =
    let r = from_joined f 0 n x h in
    let e : 0 + r.0 ≡ r.0 = omega arith in
    record { index = r.0; below = r.1; here = subst (λ j. In (f j) x) e r.2 }

to_joined : {X : Type 0} (f : ℕ → List X) (k n j : ℕ) (x : X) → j < n → In (f (k + j)) x → In (joined_from f k n) x
to_joined f k zero j x b h = absurd (omega arith)
to_joined f k (suc n) zero x b h = let e : k + 0 ≡ k = omega arith in in_front (f k) (joined_from f (k + 1) n) x (subst (λ j. In (f j) x) e h)
to_joined f k (suc n) (suc j) x b h =
    let e : k + suc j ≡ k + 1 + j = omega arith in
    in_back (f k) (joined_from f (k + 1) n) x (to_joined f (k + 1) n j x (omega arith) (subst (λ j. In (f j) x) e h))

pub joined_in : {X : Type 0} (f : ℕ → List X) (n j : ℕ) (x : X) → j < n → In (f j) x → In (joined f n) x
joined_in f n j x b h = let e : j ≡ 0 + j = omega arith in to_joined f 0 n j x b (subst (λ j. In (f j) x) e h)

pub in_option : {X Y : Type 0} (f : X → Y) (o : Option X) (y : Y) → In (option_to_list (option_map f o)) y → (x : X) × (o ≡ Some x) × (f x ≡ y)
in_option f None y h = absurd h
in_option f (Some x) y (inl e) = (x, refl, e)
in_option f (Some x) y (inr h) = absurd h

pub option_in : {X Y : Type 0} (f : X → Y) (o : Option X) (x : X) → o ≡ Some x → In (option_to_list (option_map f o)) (f x)
option_in f None x e = cc
option_in f (Some z) x e = let same : z ≡ x = cc in inl (ap f same)

pub in_given : {X : Type 0} (o : Option X) (x : X) → In (option_to_list o) x → o ≡ Some x
in_given None x h = absurd h
in_given (Some y) x (inl e) = ap (λ z. Some z) e
in_given (Some y) x (inr h) = absurd h

-- an item at an index is in the list
pub got_in : {X : Type 0} (xs : List X) (k : ℕ) (x : X) → slice_get xs k ≡ Some x → In xs x
got_in [] k x h = cc
got_in (y ∷ ys) zero x h = let same : y ≡ x = cc in inl same
got_in (y ∷ ys) (suc k) x h = inr (got_in ys k x h)

-- what is found is there, and meets the test; and where an item meets it something is found
pub found_in : {X : Type 0} (test : X → Bool) (xs : List X) (x : X) → find test xs ≡ Some x → In xs x × (test x ≡ true)
found_in test [] x h = cc
found_in test (y ∷ ys) x h = by_test (found_in test ys x) (test y) refl h
  where
    by_test : (find test ys ≡ Some x → In ys x × (test x ≡ true)) → (b : Bool) → test y ≡ b → cond b (Some y) (find test ys) ≡ Some x → In (y ∷ ys) x × (test x ≡ true)
    by_test rest true e h = let same : y ≡ x = cc in (inl same, ap test (sym same) ∙ e)
    by_test rest false e h = let r = rest h in (inr r.0, r.1)

pub something_found : {X : Type 0} (test : X → Bool) (xs : List X) (x : X) → In xs x → test x ≡ true → (y : X) × (find test xs ≡ Some y)
something_found test [] x h t = absurd h
something_found test (y ∷ ys) x h t = by_test (something_found test ys x) (test y) refl h
  where
    by_test : (In ys x → test x ≡ true → (z : _) × (find test ys ≡ Some z)) → (b : Bool) → test y ≡ b → In (y ∷ ys) x → (z : _) × (cond b (Some y) (find test ys) ≡ Some z)
    by_test rest true e h = (y, refl)
    by_test rest false e (inl same) = let never : true ≡ false = sym t ∙ ap test (sym same) ∙ e in absurd cc
    by_test rest false e (inr h) = rest h t

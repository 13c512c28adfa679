-- The least of some places.
use Rattle.std.proofs.Common.{◌≡◌, ℕ, ◌≤◌, List, [], ◌∷◌, refl, arith}
use Rattle.std.specs.Prelude.{◌⊎◌, Option, Some, None}
use Rattle.om_fields.specs.Places.{least, lesser, IsAmong}

among_lesser : (x : ℕ) (xs : List ℕ) (p : ℕ) (o : Option ℕ) → ((q : ℕ) → o ≡ Some q → IsAmong xs q) → lesser x o ≡ Some p → (x ≡ p) ⊎ IsAmong xs p
among_lesser x xs p None ih h = grind arith
among_lesser x xs p (Some y) ih h = let f = ih y refl in grind arith

pub least-among : (xs : List ℕ) (p : ℕ) → least xs ≡ Some p → IsAmong xs p
least-among [] p h = cc
least-among (x ∷ xs) p h = among_lesser x xs p (least xs) (λ q e. least-among xs q e) h

below_lesser : (x p q : ℕ) (xs : List ℕ) (o : Option ℕ) → ((m : ℕ) → o ≡ Some m → IsAmong xs q → m ≤ q) → (o ≡ None → IsAmong xs q → ⊥) → lesser x o ≡ Some p → (x ≡ q) ⊎ IsAmong xs q → p ≤ q
below_lesser x p q xs None le nil h a = grind arith
below_lesser x p q xs (Some y) le nil h a = let f = le y refl in grind arith

pub least-none : (xs : List ℕ) (p : ℕ) → least xs ≡ None → IsAmong xs p → ⊥
least-none [] p h a = a
least-none (x ∷ xs) p h a = none_lesser x (least xs) h
  where
    none_lesser : (x : ℕ) (o : Option ℕ) → lesser x o ≡ None → ⊥
    none_lesser x None h = cc
    none_lesser x (Some y) h = cc

pub least-below : (xs : List ℕ) (p q : ℕ) → least xs ≡ Some p → IsAmong xs q → p ≤ q
least-below [] p q h a = absurd a
least-below (x ∷ xs) p q h a = below_lesser x p q xs (least xs) (λ m e b. least-below xs m q e b) (λ e b. least-none xs q e b) h a

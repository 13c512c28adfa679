-- Lists of which each item stands in a relation to all later ones.
use Rattle.std.proofs.Common.{◌≡◌, ◌⊎◌, inl, inr, ℕ, zero, suc, ◌+◌, ◌<◌, ◌≤◌, List, [], ◌∷◌, ◌++◌, Option, Some, None, refl, subst, arith}
use Rattle.std.specs.Prelude.{slice_get}
use Rattle.std.specs.Option.{option_to_list}
use Rattle.om_fields.specs.Places.{joined_from, joined}
use Rattle.om_resolve.proofs.Members.{In, in_either, got_in}

abbrev pub Pairwise : {X : Type 0} → (X → X → Type 0) → List X → Type 0
Pairwise R [] = Unit {0}
Pairwise R (x ∷ xs) = ((y : _) → In xs y → R x y) × Pairwise R xs

pub pairwise_at : {X : Type 0} (R : X → X → Type 0) (xs : List X) (j k : ℕ) (x y : X) → Pairwise R xs → j < k → slice_get xs j ≡ Some x → slice_get xs k ≡ Some y → R x y
pairwise_at R [] j k x y h b e f = cc
pairwise_at R (z ∷ zs) zero zero x y h b e f = absurd (omega arith)
pairwise_at R (z ∷ zs) zero (suc k) x y h b e f = let same : z ≡ x = cc in subst (λ z. R z y) same (h.0 y (got_in zs k y f))
pairwise_at R (z ∷ zs) (suc j) zero x y h b e f = absurd (omega arith)
pairwise_at R (z ∷ zs) (suc j) (suc k) x y h b e f = pairwise_at R zs j k x y h.1 (omega arith) e f

pub pairwise_append : {X : Type 0} (R : X → X → Type 0) (xs ys : List X) → Pairwise R xs → Pairwise R ys → ((x y : X) → In xs x → In ys y → R x y) → Pairwise R (xs ++ ys)
pairwise_append R [] ys h k across = k
pairwise_append {X = X} R (x ∷ xs) ys h k across = (λ y i. by_side y (in_either xs ys y i), pairwise_append R xs ys h.1 k (λ a b i j. across a b (inr i) j))
  where
    by_side : (y : X) → In xs y ⊎ In ys y → R x y
    by_side y (inl i) = h.0 y i
    by_side y (inr i) = across x y (inl refl) i

pairwise_from : {X : Type 0} (R : X → X → Type 0) (f : ℕ → List X) (k n : ℕ) → ((i : ℕ) → i < k + n → Pairwise R (f i)) → ((i j : ℕ) (x y : X) → i < j → j < k + n → In (f i) x → In (f j) y → R x y) → Pairwise R (joined_from f k n)
pairwise_from R f k zero inner outer = tt
pairwise_from {X = X} R f k (suc n) inner outer =
    pairwise_append R (f k) (joined_from f (k + 1) n) (inner k (omega arith))
    (pairwise_from R f (k + 1) n (λ i b. inner i (omega arith)) (λ i j x y b c. outer i j x y b (omega arith)))
    (λ x y i j. later x y i (k + 1) n (omega arith) (omega arith) j)
  where
    later : (x y : X) → In (f k) x → (m c : ℕ) → k < m → m + c ≤ k + suc n → In (joined_from f m c) y → R x y
    later x y i m zero low high h = absurd h
    later x y i m (suc c) low high h = by_side (in_either (f m) (joined_from f (m + 1) c) y h) (λ j. later x y i (m + 1) c (omega arith) (omega arith) j)
      where
        by_side : In (f m) y ⊎ In (joined_from f (m + 1) c) y → (In (joined_from f (m + 1) c) y → R x y) → R x y
        by_side (inl j) rest = outer k m x y low (omega arith) i j
        by_side (inr j) rest = rest j

pub pairwise_joined : {X : Type 0} (R : X → X → Type 0) (f : ℕ → List X) (n : ℕ) → ((i : ℕ) → i < n → Pairwise R (f i)) → ((i j : ℕ) (x y : X) → i < j → j < n → In (f i) x → In (f j) y → R x y) → Pairwise R (joined f n)
pairwise_joined R f n inner outer = pairwise_from R f 0 n (λ i b. inner i (omega arith)) (λ i j x y b c. outer i j x y b (omega arith))

pub pairwise_option : {X : Type 0} (R : X → X → Type 0) (o : Option X) → Pairwise R (option_to_list o)
pairwise_option R None = tt
pairwise_option R (Some x) = (λ y h. absurd h, tt)

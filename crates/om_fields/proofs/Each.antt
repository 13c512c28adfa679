-- Lists of what a function gives at each index.
use Rattle.std.proofs.Common.{◌≡◌, ℕ, zero, suc, ◌+◌, ◌<◌, [], ◌∷◌, ◌++◌, length, get_or, refl, ap, ◌∙◌, arith}
use Rattle.om_fields.specs.Places.{each_from, each}

pub each_from-snoc : {X : Type 0} (f : ℕ → X) (k n : ℕ) → each_from f k (suc n) ≡ each_from f k n ++ f (k + n) ∷ []
each_from-snoc f k zero = let e : k + 0 ≡ k = omega arith in rw e refl
each_from-snoc f k (suc n) =
    let e : k + 1 + n ≡ k + suc n = omega arith in
    ap (λ xs. f k ∷ xs) (each_from-snoc f (k + 1) n ∙ ap (λ i. each_from f (k + 1) n ++ f i ∷ []) e)

pub each-snoc : {X : Type 0} (f : ℕ → X) (n : ℕ) → each f (n + 1) ≡ each f n ++ f n ∷ []
each-snoc f n =
    let e : n + 1 ≡ suc n = omega arith in
    let g : 0 + n ≡ n = omega arith in
    rw e (each_from-snoc f 0 n ∙ ap (λ i. each f n ++ f i ∷ []) g)

pub each_from-length : {X : Type 0} (f : ℕ → X) (k n : ℕ) → length (each_from f k n) ≡ n
each_from-length f k zero = refl
each_from-length f k (suc n) = ap suc (each_from-length f (k + 1) n)

pub each_from-get : {X : Type 0} (f : ℕ → X) (k n i : ℕ) (d : X) → i < n → get_or (each_from f k n) i d ≡ f (k + i)
each_from-get f k zero i d h = absurd (omega arith)
each_from-get f k (suc n) zero d h = let e : k + 0 ≡ k = omega arith in rw e refl
each_from-get f k (suc n) (suc i) d h =
    let e : k + 1 + i ≡ k + suc i = omega arith in
    each_from-get f (k + 1) n i d (omega arith) ∙ ap f e

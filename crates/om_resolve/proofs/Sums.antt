-- Sums over lists that are made from functions of an index.
use Rattle.std.proofs.Common.{◌≡◌, ℕ, zero, suc, ◌+◌, ◌*◌, ◌<◌, ◌≤◌, List, [], ◌∷◌, length, refl, ap, sym, ◌∙◌, arith, slice_index_or}
use Rattle.std.specs.Prelude.{sum_by}
use Rattle.std.proofs.lemmas.List.{length-append}
use Rattle.std.proofs.lemmas.List.Sums.{sum_by-cons, sum_by-append}
use Rattle.om_fields.specs.Places.{each_from, joined_from}

-- g k + g (k + 1) + .., n of them
abbrev pub total_from : (ℕ → ℕ) → ℕ → ℕ → ℕ
total_from g k zero = 0
total_from g k (suc n) = g k + total_from g (k + 1) n

pub each_sum : {X : Type 0} (w : X → ℕ) (f : ℕ → X) (k n : ℕ) → sum_by w (each_from f k n) ≡ total_from (λ j. w (f j)) k n
each_sum w f k zero = refl
each_sum w f k (suc n) = sum_by-cons w (f k) (each_from f (k + 1) n) ∙ ap (λ s. w (f k) + s) (each_sum w f (k + 1) n)

pub joined_sum : {X : Type 0} (w : X → ℕ) (f : ℕ → List X) (k n : ℕ) → sum_by w (joined_from f k n) ≡ total_from (λ j. sum_by w (f j)) k n
joined_sum w f k zero = refl
joined_sum w f k (suc n) = sum_by-append w (f k) (joined_from f (k + 1) n) ∙ ap (λ s. sum_by w (f k) + s) (joined_sum w f (k + 1) n)

pub joined_length : {X : Type 0} (f : ℕ → List X) (k n : ℕ) → length (joined_from f k n) ≡ total_from (λ j. length (f j)) k n
joined_length f k zero = refl
joined_length f k (suc n) = length-append (f k) (joined_from f (k + 1) n) ∙ ap (λ s. length (f k) + s) (joined_length f (k + 1) n)

-- the sum over a list, by its items
pub total_is : {Y : Type 0} (b : Y → ℕ) (d : Y) (ys : List Y) (g : ℕ → ℕ) (k : ℕ) → ((j : ℕ) → j < length ys → g (k + j) ≡ b (slice_index_or ys j d)) → total_from g k (length ys) ≡ sum_by b ys
total_is b d [] g k h = refl
total_is b d (y ∷ ys) g k h =
    let z : k ≡ k + 0 = omega arith in
    let first : g k ≡ b y = ap g z ∙ h 0 (omega arith) in
    let rest =
    total_is b d ys g (k + 1)
    (λ j below. let e : k + 1 + j ≡ k + suc j = omega arith in ap g e ∙ h (suc j) (omega (arith, below))) in
    ap (λ s. s + total_from g (k + 1) (length ys)) first ∙ ap (λ s. b y + s) rest ∙ sym (sum_by-cons b y ys)

pub total_most : (g : ℕ → ℕ) (most k n : ℕ) → ((j : ℕ) → g j ≤ most) → total_from g k n ≤ most * n
total_most g most k zero h = omega arith
total_most g most k (suc n) h =
    let a = h k in
    let r = total_most g most (k + 1) n h in
    grind (arith, a, r)

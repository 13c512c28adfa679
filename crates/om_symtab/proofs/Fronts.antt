-- The bytes before the first zero, and where the zeros of a list end, by index.
use Rattle.std.proofs.Common.{◌≡◌, ℕ, zero, suc, ◌<◌, ◌≤◌, Bool, false, List, [], ◌∷◌, length, refl, ap, ◌∙◌, arith, get_or, cond}
use Rattle.std.specs.Prelude.{take, drop, take_while, not, ◌==◌}
use Rattle.std.proofs.lemmas.List.Sums.{take_while-cons}
use Rattle.om_symtab.specs.Zeros.{zero_end}

abbrev pub not_zero : ℕ → Bool
not_zero c = not (c == 0)

goes-on : (b : ℕ) (rest : List ℕ) → (b == 0) ≡ false → cond (not_zero b) (b ∷ rest) [] ≡ b ∷ rest
goes-on b rest e = rw e refl

pub before-at : (bs : List ℕ) (i : ℕ) → i < length bs → ((j : ℕ) → j < i → (get_or bs j 0 == 0) ≡ false) → get_or bs i 0 ≡ 0
    → take_while (λ c. not (c == 0)) bs ≡ take i bs
before-at [] i h below here = absurd (omega arith)
before-at (b ∷ bs) zero h below here = rw here refl
before-at (b ∷ bs) (suc i) h below here =
    take_while-cons not_zero b bs ∙ goes-on b _ (below 0 (omega arith))
    ∙ ap (λ cs. b ∷ cs) (before-at bs i (omega arith) (λ j g. below (suc j) (omega arith)) here)

pub before-all : (bs : List ℕ) → ((j : ℕ) → j < length bs → (get_or bs j 0 == 0) ≡ false) → take_while (λ c. not (c == 0)) bs ≡ bs
before-all [] below = refl
before-all (b ∷ bs) below =
    take_while-cons not_zero b bs ∙ goes-on b _ (below 0 (omega arith))
    ∙ ap (λ cs. b ∷ cs) (before-all bs (λ j g. below (suc j) (omega arith)))

pub zeros-here : (bs : List ℕ) (i : ℕ) → i < length bs → zero_end (drop (suc i) bs) ≡ 0 → get_or bs i 0 ≡ 0 → zero_end bs ≡ suc i
zeros-here [] i h past here = absurd (omega arith)
zeros-here (b ∷ bs) zero h past here = rw (past, here) refl
zeros-here (b ∷ bs) (suc i) h past here = let e = zeros-here bs i (omega arith) past here in rw e refl

pub zeros-none : (bs : List ℕ) (i : ℕ) → i < length bs → zero_end (drop (suc i) bs) ≡ 0 → (get_or bs i 0 == 0) ≡ false → zero_end (drop i bs) ≡ 0
zeros-none [] i h past here = absurd (omega arith)
zeros-none (b ∷ bs) zero h past here = rw (past, here) refl
zeros-none (b ∷ bs) (suc i) h past here = zeros-none bs i (omega arith) past here

pub zeros-end : (bs : List ℕ) → zero_end (drop (length bs) bs) ≡ 0
zeros-end [] = refl
zeros-end (b ∷ bs) = zeros-end bs

pub drop-past : (bs : List ℕ) (i : ℕ) → length bs ≤ i → drop i bs ≡ []
drop-past [] zero h = refl
drop-past [] (suc i) h = refl
drop-past (b ∷ bs) zero h = absurd (omega arith)
drop-past (b ∷ bs) (suc i) h = drop-past bs i (omega arith)

-- Clearing the bytes that the complement of b names keeps just those that b names.
use Rattle.std.proofs.Common.{◌≡◌, ◌-◌, ◌^◌, ◌<◌, ◌==◌, ℕ, zero, suc, refl, arith, if◌then◌else◌, Bool}
use Rattle.std.specs.Int.{w64, bit_at, bit_not, byte_at, byte_worth, sum_through}
use Rattle.std.proofs.lemmas.Nat.Bits.{bit_at_not, bit_at-lt}
use Rattle.om_alpha.specs.Arithmetic.{bytes_where}

-- a bit and its complement
flipped : (x : ℕ) → x < 2 → (1 - x == 0) ≡ (x == 1)
flipped zero few = refl
flipped (suc zero) few = refl
flipped (suc (suc x)) few = let bad : ⊥ = omega (arith, few) in elim bad [ ]

tests_agree : (b i : ℕ) → b < 2 ^ 64 → i < 64 → (bit_at (bit_not w64 b) i == 0) ≡ (bit_at b i == 1)
tests_agree b i wide low = rw (bit_at_not w64 b i wide low) (flipped (bit_at b i) (bit_at-lt b i))

-- sums of bytes that are kept by tests that agree
sums_agree : (keeps same : ℕ → Bool) (a count : ℕ) → count < 64 → ((i : ℕ) → i < 64 → keeps i ≡ same i) →
    sum_through (λ i. byte_worth i (if keeps i then byte_at i a else 0)) count
    ≡ sum_through (λ i. byte_worth i (if same i then byte_at i a else 0)) count
sums_agree keeps same a zero few agree = rw (agree 0 (omega arith)) refl
sums_agree keeps same a (suc count) few agree =
    rw (agree (suc count) few, sums_agree keeps same a count (omega (arith, few)) agree) refl

pub kept_bytes : (a b : ℕ) → b < 2 ^ 64 →
    bytes_where (λ i. bit_at (bit_not w64 b) i == 0) a ≡ bytes_where (λ i. bit_at b i == 1) a
kept_bytes a b wide = sums_agree (λ i. bit_at (bit_not w64 b) i == 0) (λ i. bit_at b i == 1) a 7 (omega arith) (λ i low. tests_agree b i wide low)

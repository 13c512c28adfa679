-- Sums and tests of all numbers below a number.
use Rattle.std.proofs.Common.{◌≡◌, ℕ, zero, suc, ◌+◌, ◌<◌, ◌≤◌, Bool, true, false, refl, ap, ◌∙◌, arith}
use native.Mathlib.Decide.{dec_lt}
use Rattle.std.specs.Prelude.{◌&&◌}
use Rattle.om_image.specs.declared.part.Part.{Part}
use Rattle.om_image.specs.declared.part.Part.TheVariants.{Object, Table, Slot, Extent, Word}
use Rattle.om_image.specs.MapFields.{sum_below, all_below, extent_of}
use Rattle.om_image.proofs.Deciding.{both_of}

pub sum_next : (f : ℕ → ℕ) (n : ℕ) → sum_below f (n + 1) ≡ sum_below f n + f n
sum_next f n = let e : n + 1 ≡ suc n = omega arith in rw e refl

-- one number is within the sum
pub sum_above : (f : ℕ → ℕ) (n k : ℕ) → k < n → sum_below f k + f k ≤ sum_below f n
sum_above f zero k h = absurd (omega arith)
sum_above f (suc n) k h = by_index (dec_lt k n) (λ g. sum_above f n k g)
  where
    by_index : Dec (k < n) → (k < n → sum_below f k + f k ≤ sum_below f n) → sum_below f k + f k ≤ sum_below f n + f n
    by_index (yes g) ih = let e = ih g in omega (arith, e)
    by_index (no g) ih = let e : k ≡ n = omega arith in rw e (omega arith)

and_false : (a b : Bool) → a ≡ false → (a && b) ≡ false
and_false a b h = rw h refl

and_fails : (a b : Bool) → b ≡ false → (a && b) ≡ false
and_fails true b h = h
and_fails false b h = refl

and_true : (a b : Bool) → a ≡ true → b ≡ true → (a && b) ≡ true
and_true a b h g = rw (h, g) refl

pub all_true : (test : ℕ → Bool) (n : ℕ) → ((j : ℕ) → j < n → test j ≡ true) → all_below test n ≡ true
all_true test zero h = refl
all_true test (suc n) h = and_true (all_below test n) (test n) (all_true test n (λ j b. h j (omega arith))) (h n (omega arith))

pub all_fails : (test : ℕ → Bool) (n i : ℕ) → i < n → test i ≡ false → all_below test n ≡ false
all_fails test zero i h f = absurd (omega arith)
all_fails test (suc n) i h f = by_index (dec_lt i n) (λ g. all_fails test n i g f)
  where
    by_index : Dec (i < n) → (i < n → all_below test n ≡ false) → (all_below test n && test n) ≡ false
    by_index (yes g) ih = and_false (all_below test n) (test n) (ih g)
    by_index (no g) ih = let e : n ≡ i = omega arith in and_fails (all_below test n) (test n) (ap test e ∙ f)

pub all_each : (test : ℕ → Bool) (n : ℕ) → all_below test n ≡ true → (j : ℕ) → j < n → test j ≡ true
all_each test zero h j b = absurd (omega arith)
all_each test (suc n) h j b = by_index (dec_lt j n) (λ g. all_each test n both.0 j g)
  where
    both : (all_below test n ≡ true) × (test n ≡ true)
    both = both_of (all_below test n) (test n) h

    by_index : Dec (j < n) → (j < n → test j ≡ true) → test j ≡ true
    by_index (yes g) ih = ih g
    by_index (no g) ih = let e : j ≡ n = omega arith in ap test e ∙ both.1

-- one more number of which the test holds
pub true_further : (test : ℕ → Bool) (k : ℕ) → ((j : ℕ) → j < k → test j ≡ true) → test k ≡ true → (j : ℕ) → j < k + 1 → test j ≡ true
true_further test k below e j h = by_index (dec_lt j k)
  where
    by_index : Dec (j < k) → test j ≡ true
    by_index (yes g) = below j g
    by_index (no g) = let f : j ≡ k = omega arith in ap test f ∙ e

-- the items before one are no longer than those before a later one
pub extent_grows : (part : Part) (k n : ℕ) → k < n → extent_of part (k + 1) ≤ extent_of part n
extent_grows Object k n h = omega (arith, h)
extent_grows Table k n h = omega (arith, h)
extent_grows Slot k n h = omega (arith, h)
extent_grows Extent k n h = omega (arith, h)
extent_grows Word k n h = omega (arith, h)

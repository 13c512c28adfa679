-- Places that a test picks by their indices.
use Rattle.std.proofs.Common.{◌≡◌, inl, inr, subst, ℕ, zero, suc, ◌+◌, ◌<◌, ◌≤◌, Bool, true, false, List, refl, ap, sym, ◌∙◌, arith}
use native.Mathlib.Decide.{dec_le, dec_lt}
use Rattle.std.specs.Prelude.{Option, Some, None, option_map}
use Rattle.om_fields.specs.Places.{least, IsAmong, put_if, picked_from, picked}
use Rattle.om_fields.proofs.Least.{least-among, least-none, least-below}

-- the least, by what it is
least_by : (xs : List ℕ) (p : ℕ) (o : Option ℕ) → least xs ≡ o → IsAmong xs p → ((q : ℕ) → IsAmong xs q → p ≤ q) → o ≡ Some p
least_by xs p None e a low = absurd (least-none xs p e a)
least_by xs p (Some m) e a low =
    let f = low m (least-among xs m e) in
    let g = least-below xs m p e a in
    let h : m ≡ p = omega (arith, f, g) in
    ap Some h

pub least-is : (xs : List ℕ) (p : ℕ) → IsAmong xs p → ((q : ℕ) → IsAmong xs q → p ≤ q) → least xs ≡ Some p
least-is xs p a low = least_by xs p (least xs) refl a low

none_by : (xs : List ℕ) (o : Option ℕ) → least xs ≡ o → ((q : ℕ) → IsAmong xs q → ⊥) → o ≡ None
none_by xs None e out = refl
none_by xs (Some m) e out = absurd (out m (least-among xs m e))

pub least-is_none : (xs : List ℕ) → ((q : ℕ) → IsAmong xs q → ⊥) → least xs ≡ None
least-is_none xs out = none_by xs (least xs) refl out

-- an index that a test picks
pub record IsPicked (test : ℕ → Bool) (place : ℕ → ℕ) (low high p : ℕ) : Type 0 where
  pub i : ℕ
  pub above : low ≤ i
  pub below : i < high
  pub holds : test i ≡ true
  pub is : place i ≡ p

picked_later : {test : ℕ → Bool} {place : ℕ → ℕ} {p : ℕ} (k n : ℕ) → IsPicked test place (k + 1) (k + 1 + n) p → IsPicked test place k (k + suc n) p
picked_later k n r = record {
  i = r.i;
  above = let f = r.above in omega (arith, f);
  below = let f = r.below in omega (arith, f);
  holds = r.holds;
  is = r.is;
}

pub among-picked : (test : ℕ → Bool) (place : ℕ → ℕ) (k n p : ℕ) → IsAmong (picked_from test place k n) p → IsPicked test place k (k + n) p
among-picked test place k zero p a = absurd a
among-picked test place k (suc n) p a = by_test (test k) refl (among-picked test place (k + 1) n p) a
  where
    by_test : (b : Bool) → test k ≡ b → (IsAmong (picked_from test place (k + 1) n) p → IsPicked test place (k + 1) (k + 1 + n) p)
        → IsAmong (put_if b (place k) (picked_from test place (k + 1) n)) p → IsPicked test place k (k + suc n) p
    by_test true e ih (inl h) = record { i = k; above = omega arith; below = omega arith; holds = e; is = h }
    by_test true e ih (inr h) = picked_later k n (ih h)
    by_test false e ih h = picked_later k n (ih h)

among_put : (b : Bool) (x p : ℕ) (xs : List ℕ) → IsAmong xs p → IsAmong (put_if b x xs) p
among_put true x p xs a = inr a
among_put false x p xs a = a

pub picked-among : (test : ℕ → Bool) (place : ℕ → ℕ) (k n i : ℕ) → k ≤ i → i < k + n → test i ≡ true → IsAmong (picked_from test place k n) (place i)
picked-among test place k zero i low high e = absurd (omega arith)
picked-among test place k (suc n) i low high e =
    by_index (dec_le i k) (λ h. picked-among test place (k + 1) n i h (omega arith) e)
  where
    by_index : Dec (i ≤ k) → (k + 1 ≤ i → IsAmong (picked_from test place (k + 1) n) (place i)) → IsAmong (put_if (test k) (place k) (picked_from test place (k + 1) n)) (place i)
    by_index (yes h) ih =
        let f : i ≡ k = omega arith in
        let t : test k ≡ true = ap test (sym f) ∙ e in
        rw (f, t) (inl refl)
    by_index (no h) ih = among_put (test k) (place k) (place i) (picked_from test place (k + 1) n) (ih (omega arith))

-- places that rise with their indices
abbrev pub Rises : (ℕ → ℕ) → Type 0
Rises place = (i j : ℕ) → i < j → place i < place j

-- the first index that a test picks has the least place
pub picked-first : (test : ℕ → Bool) (place : ℕ → ℕ) (n i : ℕ) → Rises place → i < n → test i ≡ true → ((j : ℕ) → j < i → test j ≡ false) → least (picked test place n) ≡ Some (place i)
picked-first test place n i rises high e below = least-is (picked test place n) (place i) (picked-among test place 0 n i (omega arith) (omega arith) e) low
  where
    low_by : (j : ℕ) → test j ≡ true → Dec (j < i) → place i ≤ place j
    low_by j t (yes h) = let f = below j h in cc
    low_by j t (no h) = by_eq (dec_le j i)
      where
        by_eq : Dec (j ≤ i) → place i ≤ place j
        by_eq (yes g) = let f : j ≡ i = omega arith in rw f (omega arith)
        by_eq (no g) = let f = rises i j (omega arith) in omega (arith, f)

    low : (q : ℕ) → IsAmong (picked test place n) q → place i ≤ q
    low q a =
        let r = among-picked test place 0 n q a in
        subst (λ x. place i ≤ x) r.is (low_by r.i r.holds (dec_lt r.i i))

pub picked-none : (test : ℕ → Bool) (place : ℕ → ℕ) (n : ℕ) → ((j : ℕ) → j < n → test j ≡ false) → least (picked test place n) ≡ None
picked-none test place n below = least-is_none (picked test place n) out
  where
    out : (q : ℕ) → IsAmong (picked test place n) q → ⊥
    out q a = let r = among-picked test place 0 n q a in let h = r.below in let f = below r.i (omega (arith, h)) in let g = r.holds in cc

-- one more index that a test does not pick
pub none-further : (test : ℕ → Bool) (k : ℕ) → ((j : ℕ) → j < k → test j ≡ false) → test k ≡ false → (j : ℕ) → j < k + 1 → test j ≡ false
none-further test k below e j h = by_index (dec_lt j k)
  where
    by_index : Dec (j < k) → test j ≡ false
    by_index (yes g) = below j g
    by_index (no g) = let f : j ≡ k = omega arith in ap test f ∙ e

-- where no place is picked, the test holds nowhere
pub none-picked : (test : ℕ → Bool) (place : ℕ → ℕ) (n : ℕ) → least (picked test place n) ≡ None → (j : ℕ) → j < n → test j ≡ false
none-picked test place n e j h = by_test (test j) refl
  where
    by_test : (b : Bool) → test j ≡ b → b ≡ false
    by_test false t = refl
    by_test true t = absurd (least-none (picked test place n) (place j) e (picked-among test place 0 n j (omega arith) (omega arith) t))

-- what the least index that a test picks tells
pub record IsFirst (test : ℕ → Bool) (n i : ℕ) : Type 0 where
  pub below : i < n
  pub holds : test i ≡ true
  pub earlier : (j : ℕ) → j < i → test j ≡ false

pub first-picked : (test : ℕ → Bool) (n i : ℕ) → least (picked test (λ j. j) n) ≡ Some i → IsFirst test n i
first-picked test n i e = by_index (among-picked test (λ j. j) 0 n i (least-among (picked test (λ j. j) n) i e))
  where
    earlier_by : (j : ℕ) → j < i → i < n → (b : Bool) → test j ≡ b → b ≡ false
    earlier_by j h g false t = refl
    earlier_by j h g true t =
        let f = least-below (picked test (λ k. k) n) i j e (picked-among test (λ k. k) 0 n j (omega arith) (omega arith) t) in
        absurd (omega (arith, h, f))

    by_index : IsPicked test (λ j. j) 0 (0 + n) i → IsFirst test n i
    by_index r =
        let same : r.i ≡ i = r.is in
        let high : i < n = let b = r.below in omega (arith, b, same) in
        record {
          below = high;
          holds = ap test (sym same) ∙ r.holds;
          earlier = λ j h. earlier_by j h high (test j) refl;
        }

pub indices-rise : Rises (λ j. j)
indices-rise i j h = h

-- the least place is that of the least index
pub least-placed : (test : ℕ → Bool) (place : ℕ → ℕ) (n : ℕ) → Rises place → option_map place (least (picked test (λ j. j) n)) ≡ least (picked test place n)
least-placed test place n rises = by_least (least (picked test (λ j. j) n)) refl
  where
    by_least : (o : Option ℕ) → least (picked test (λ j. j) n) ≡ o → option_map place o ≡ least (picked test place n)
    by_least None e = sym (picked-none test place n (none-picked test (λ j. j) n e))
    by_least (Some i) e = let f = first-picked test n i e in sym (picked-first test place n i rises f.below f.holds f.earlier)

-- Fields that share no byte, by the words that they take.
use Rattle.std.proofs.Common.{◌≡◌, ◌⊎◌, inl, inr, ℕ, zero, suc, ◌+◌, ◌*◌, ◌/◌, ◌%◌, ◌<◌, Bool, true, false, ◌&&◌, ◌||◌, ◌==◌, List, [], ◌∷◌, ◌++◌, length, take, Some, refl, sym, ap, ◌∙◌, subst, arith}
use Rattle.std.specs.Prelude.{not, nat_lt, nat_le}
use Rattle.std.specs.List.{slice_get, list_any}
use Rattle.std.proofs.lemmas.Bool.{true≢false}
use Rattle.std.proofs.lemmas.Bool.Decides.{nat_tests}
use Rattle.std.proofs.lemmas.List.Folds.{list_any-append}
use Rattle.om_prog.specs.declared.claims.Claims.{Claims}
use Rattle.om_prog.specs.declared.item.Field.{Field}
use Rattle.om_prog.specs.Valid.{are_apart, AreApart}
use Rattle.om_prog.specs.Claims.{IsPlaced, covers_word, is_claimed, HasClaims, first_word, is_taken}
use Rattle.om_prog.proofs.Found.{some_is, take_get, snoc_get, get_below}

-- ---- lists

any_some : {A : Type 0} → (p : A → Bool) (xs : List A) → list_any p xs ≡ true → (k : ℕ) × (y : A) × (slice_get xs k ≡ Some y) × (p y ≡ true)
any_some p [] e = absurd (true≢false (sym e))
any_some {A = A} p (x ∷ xs) e = by_case (p x) refl e (λ f. any_some p xs f)
  where
    by_case :
        (b : Bool) → p x ≡ b → (b || list_any p xs) ≡ true → (list_any p xs ≡ true → (k : ℕ) × (y : A) × (slice_get xs k ≡ Some y) × (p y ≡ true)) →
        (k : ℕ) × (y : A) × (slice_get (x ∷ xs) k ≡ Some y) × (p y ≡ true)
    by_case true f e rest = (0, x, refl, f)
    by_case false f e rest = let r = rest e in (suc r.0, r.1, r.2, r.3)

any_none : {A : Type 0} → (p : A → Bool) (xs : List A) → list_any p xs ≡ false → (k : ℕ) (y : A) → slice_get xs k ≡ Some y → p y ≡ false
any_none p [] e k y f = cc
any_none p (x ∷ xs) e k y f = by_case (p x) refl e k f (λ g k. any_none p xs g k y)
  where
    by_case :
        (b : Bool) → p x ≡ b → (b || list_any p xs) ≡ false → (k : ℕ) → slice_get (x ∷ xs) k ≡ Some y →
        (list_any p xs ≡ false → (k : ℕ) → slice_get xs k ≡ Some y → p y ≡ false) → p y ≡ false
    by_case true g e k f rest = absurd (true≢false e)
    by_case false g e zero f rest = subst (λ z. p z ≡ false) (some_is x y f) g
    by_case false g e (suc k) f rest = rest e k f

module _ (xs : List Field) (x : Field) (apart : AreApart xs) (last : (j : ℕ) (g : Field) → slice_get xs j ≡ Some g → are_apart g x ≡ true) where
  apart_last : (j : ℕ) (g : Field) → (slice_get xs j ≡ Some g) ⊎ ((j ≡ length xs) × (x ≡ g)) → j < length xs → are_apart g x ≡ true
  apart_last j g (inl e) below = last j g e
  apart_last j g (inr e) below = let f = e.0 in absurd (grind (arith, f, below))

  apart_first :
      (j k : ℕ) (a b : Field) → j < k → slice_get xs k ≡ Some b → (slice_get xs j ≡ Some a) ⊎ ((j ≡ length xs) × (x ≡ a)) → are_apart a b ≡ true
  apart_first j k a b below f (inl e) = apart.apart j k a b below e f
  apart_first j k a b below f (inr e) = let g = e.0 in let h = get_below xs k b f in absurd (grind (arith, g, h, below))

  apart_at :
      (j k : ℕ) (a b : Field) → j < k → slice_get (xs ++ x ∷ []) j ≡ Some a → (slice_get xs k ≡ Some b) ⊎ ((k ≡ length xs) × (x ≡ b)) →
      are_apart a b ≡ true
  apart_at j k a b below e (inl f) = apart_first j k a b below f (snoc_get xs x j a e)
  apart_at j k a b below e (inr f) =
      let g = f.0 in
      subst (λ (z : Field). are_apart a z ≡ true) f.1 (apart_last j a (snoc_get xs x j a e) (grind (arith, g, below)))

  pub apart_more : AreApart (xs ++ x ∷ [])
  apart_more = record { apart = λ j k a b below e f. apart_at j k a b below e (snoc_get xs x k b f) }

-- ---- words

quarter : (off : ℕ) → off % 4 ≡ 0 → off ≡ 4 * (off / 4)
quarter off e = omega arith

four_covers : (q w : ℕ) → (nat_le (4 * q) (4 * w) && nat_lt (4 * w) (4 * q + 4)) ≡ ((q == w) || false)
four_covers q w = grind (arith, nat_tests)

eight_covers : (q w : ℕ) → (nat_le (4 * q) (4 * w) && nat_lt (4 * w) (4 * q + 8)) ≡ ((q == w) || (q + 1 == w))
eight_covers q w = grind (arith, nat_tests)

covers_at :
    (off width w q : ℕ) → off ≡ 4 * q → (width ≡ 4) ⊎ (width ≡ 8) →
    (nat_le off (4 * w) && nat_lt (4 * w) (off + width)) ≡ ((q == w) || ((width == 8) && (q + 1 == w)))
covers_at off width w q e (inl f) = rw (e, f) (four_covers q w)
covers_at off width w q e (inr f) = rw (e, f) (eight_covers q w)

covers_is : (f : Field) (w : ℕ) → IsPlaced f → covers_word w f ≡ ((first_word f == w) || ((f.width == 8) && (first_word f + 1 == w)))
covers_is f w h = covers_at f.off f.width w (f.off / 4) (quarter f.off h.aligned) h.width

or_false : (b : Bool) → (b || false) ≡ b
or_false true = refl
or_false false = refl

or_turned : (a b : Bool) → (a || b) ≡ (b || a)
or_turned true true = refl
or_turned true false = refl
or_turned false true = refl
or_turned false false = refl

pub claims_more :
    (old new : Claims) (fs : List Field) (f : Field) → HasClaims old fs → IsPlaced f →
    ((w : ℕ) → is_claimed new w ≡ (((first_word f == w) || ((f.width == 8) && (first_word f + 1 == w))) || is_claimed old w)) →
    HasClaims new (fs ++ f ∷ [])
claims_more old new fs f h placed now = record {
  holds = λ w.
      now w ∙ or_turned ((first_word f == w) || ((f.width == 8) && (first_word f + 1 == w))) (is_claimed old w) ∙
      sym (list_any-append (covers_word w) fs (f ∷ []) ∙ rw (or_false (covers_word w f), covers_is f w placed, sym (h.holds w)) refl);
}

-- ---- sharing

four_free : (a wa q : ℕ) → (nat_le a (4 * q) && nat_lt (4 * q) (a + wa)) ≡ false → a % 4 ≡ 0 → not (nat_lt a (4 * q + 4) && nat_lt (4 * q) (a + wa)) ≡ true
four_free a wa q e f = grind (arith, nat_tests, e, f)

eight_free :
    (a wa q : ℕ) → (nat_le a (4 * q) && nat_lt (4 * q) (a + wa)) ≡ false → (nat_le a (4 * (q + 1)) && nat_lt (4 * (q + 1)) (a + wa)) ≡ false →
    a % 4 ≡ 0 → 0 < wa → not (nat_lt a (4 * q + 8) && nat_lt (4 * q) (a + wa)) ≡ true
eight_free a wa q e g f p = grind (arith, nat_tests, e, f, g, p)

positive : (w : ℕ) → (w ≡ 4) ⊎ (w ≡ 8) → 0 < w
positive w (inl e) = subst (λ n. 0 < n) (sym e) (omega arith)
positive w (inr e) = subst (λ n. 0 < n) (sym e) (omega arith)

free_at :
    (a wa off width q : ℕ) → off ≡ 4 * q → (width ≡ 4) ⊎ (width ≡ 8) → a % 4 ≡ 0 → 0 < wa →
    (nat_le a (4 * q) && nat_lt (4 * q) (a + wa)) ≡ false →
    ((width == 8) ≡ true → (nat_le a (4 * (q + 1)) && nat_lt (4 * (q + 1)) (a + wa)) ≡ false) →
    not (nat_lt a (off + width) && nat_lt off (a + wa)) ≡ true
free_at a wa off width q e (inl f) m p first second = rw (e, f) (four_free a wa q first m)
free_at a wa off width q e (inr f) m p first second = rw (e, f) (eight_free a wa q first (second (ap (λ n. n == 8) f)) m p)

neither : (a b : Bool) → (a || b) ≡ false → (a ≡ false) × (b ≡ false)
neither false false e = (refl, refl)
neither true b e = absurd (true≢false e)
neither false true e = absurd (true≢false e)

second_of : (a b : Bool) → (a && b) ≡ false → a ≡ true → b ≡ false
second_of true b e f = e
second_of false b e f = absurd (true≢false (sym f))

pub free_apart :
    (old : Claims) (fs : List Field) (f : Field) → HasClaims old fs → IsPlaced f → ((j : ℕ) (g : Field) → slice_get fs j ≡ Some g → IsPlaced g) →
    is_taken old f ≡ false → (j : ℕ) (g : Field) → slice_get fs j ≡ Some g → are_apart g f ≡ true
free_apart old fs f h placed all free j g e =
    let both = neither _ _ free in
    let gp = all j g e in
    free_at g.off g.width f.off f.width (f.off / 4) (quarter f.off placed.aligned) placed.width gp.aligned (positive g.width gp.width)
    (any_none (covers_word (first_word f)) fs (sym (h.holds (first_word f)) ∙ both.0) j g e)
    (λ eight. any_none (covers_word (first_word f + 1)) fs (sym (h.holds (first_word f + 1)) ∙ second_of _ _ both.1 eight) j g e)

first_shares : (a wa q w : ℕ) → (nat_le a (4 * q) && nat_lt (4 * q) (a + wa)) ≡ true → 0 < w → not (nat_lt a (4 * q + w) && nat_lt (4 * q) (a + wa)) ≡ false
first_shares a wa q w e p = grind (arith, nat_tests, e, p)

second_shares : (a wa q : ℕ) → (nat_le a (4 * (q + 1)) && nat_lt (4 * (q + 1)) (a + wa)) ≡ true → not (nat_lt a (4 * q + 8) && nat_lt (4 * q) (a + wa)) ≡ false
second_shares a wa q e = grind (arith, nat_tests, e)

first_met :
    (a wa off w q : ℕ) → off ≡ 4 * q → 0 < w → (nat_le a (4 * q) && nat_lt (4 * q) (a + wa)) ≡ true → not (nat_lt a (off + w) && nat_lt off (a + wa)) ≡ false
first_met a wa off w q e p h = rw (e) (first_shares a wa q w h p)

second_met :
    (a wa off w q : ℕ) → off ≡ 4 * q → w ≡ 8 → (nat_le a (4 * (q + 1)) && nat_lt (4 * (q + 1)) (a + wa)) ≡ true → not (nat_lt a (off + w) && nat_lt off (a + wa)) ≡ false
second_met a wa off w q e p h = rw (e, p) (second_shares a wa q h)

either : (a b : Bool) → (a || b) ≡ true → (a ≡ true) ⊎ (b ≡ true)
either true b e = inl refl
either false b e = inr e

both_are : (a b : Bool) → (a && b) ≡ true → (a ≡ true) × (b ≡ true)
both_are true true e = (refl, refl)
both_are true false e = absurd (true≢false (sym e))
both_are false b e = absurd (true≢false (sym e))

is_eight : (w : ℕ) → (w == 8) ≡ true → w ≡ 8
is_eight w e = grind (arith, nat_tests, e)

module _ (old : Claims) (all : List Field) (i : ℕ) (f : Field) (h : HasClaims old (take i all)) (placed : IsPlaced f) (e : slice_get all i ≡ Some f) (apart : AreApart all) where
  met : (k : ℕ) (g : Field) → slice_get (take i all) k ≡ Some g → are_apart g f ≡ false → ⊥
  met k g found shares = let earlier = take_get i all k g found in true≢false (sym (apart.apart k i g f earlier.0 earlier.1 e) ∙ shares)

  shared_by :
      (is_claimed old (first_word f) ≡ true) ⊎ (((f.width == 8) && is_claimed old (first_word f + 1)) ≡ true) → ⊥
  shared_by (inl t) =
      let r = any_some (covers_word (first_word f)) (take i all) (sym (h.holds (first_word f)) ∙ t) in
      met r.0 r.1 r.2 (first_met r.1.off r.1.width f.off f.width (f.off / 4) (quarter f.off placed.aligned) (positive f.width placed.width) r.3)
  shared_by (inr t) =
      let b = both_are _ _ t in
      let r = any_some (covers_word (first_word f + 1)) (take i all) (sym (h.holds (first_word f + 1)) ∙ b.1) in
      met r.0 r.1 r.2 (second_met r.1.off r.1.width f.off f.width (f.off / 4) (quarter f.off placed.aligned) (is_eight f.width b.0) r.3)

  pub taken_shares : is_taken old f ≡ true → ⊥
  taken_shares t = shared_by (either _ _ t)

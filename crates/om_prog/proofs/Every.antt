-- What holds of each element of a list, found element by element.
use Rattle.std.proofs.Common.{◌≡◌, ℕ, ◌+◌, ◌<◌, ◌≤◌, Bool, true, false, ◌==◌, List, length, Some, refl, sym, ap, ◌∙◌, subst, arith}
use Rattle.std.specs.Prelude.{get_or, count_by, IsTrue, ◌↔◌}
use Rattle.std.specs.List.{slice_get}
use Rattle.std.proofs.lemmas.Bool.{true≢false, eqb-true}
use Rattle.std.proofs.lemmas.Bool.Decides.{nat_tests}
use Rattle.om_prog.specs.declared.item.Item.{Item}
use Rattle.om_prog.specs.Valid.{is_low_of}
use Rattle.om_prog.specs.Making.{AreMarks, up_to_two, word_place}
use Rattle.om_prog.proofs.Found.{some_is, get_below}

module _ {A : Type 0} (P : ℕ → A → Type 0) (xs : List A) (i : ℕ) where
  -- P holds of the elements before i
  abbrev pub Before : Type 0
  Before = (k : ℕ) (y : A) → k < i → slice_get xs k ≡ Some y → P k y

  step_at :
      (x : A) → slice_get xs i ≡ Some x → Before → P i x → (k : ℕ) (y : A) (b : Bool) → (k == i) ≡ b → k < i + 1 → slice_get xs k ≡ Some y → P k y
  step_at x e all now k y true f below g =
      let same = eqb-true k i f in
      let here = subst (λ n. slice_get xs n ≡ Some y) same g in
      subst (λ n. P n y) (sym same) (subst (λ z. P i z) (some_is x y (sym e ∙ here)) now)
  step_at x e all now k y false f below g = all k y (grind (arith, nat_tests, f, below)) g

  pub step_each : (x : A) → slice_get xs i ≡ Some x → Before → P i x → (k : ℕ) (y : A) → k < i + 1 → slice_get xs k ≡ Some y → P k y
  step_each x e all now k y below g = step_at x e all now k y (k == i) refl below g

  pub all_each : length xs ≤ i → Before → (k : ℕ) (y : A) → slice_get xs k ≡ Some y → P k y
  all_each long all k y g = let within = get_below xs k y g in all k y (grind (arith, long, within)) g

pub yes : {P : Type 0} → P → IsTrue true ↔ P
yes p = ((λ t. p), (λ q. refl))

pub no_way : {P : Type 0} → (P → ⊥) → IsTrue false ↔ P
no_way n = ((λ t. absurd (true≢false (sym t))), (λ p. absurd (n p)))

pub denied : {P : Type 0} → (b : Bool) → b ≡ false → IsTrue b ↔ P → P → ⊥
denied b e iff p = true≢false (sym (iff.1 p) ∙ e)

one_is : (n : ℕ) → (up_to_two n == 1) ≡ (n == 1)
one_is n = grind (arith, nat_tests)

pub named_is :
    (obj : ℕ) (text : List Item) (marks : List ℕ) (k : ℕ) → AreMarks obj text text marks → k < length text →
    (get_or marks k 0 == 1) ≡ (count_by (is_low_of (word_place obj k)) text == 1)
named_is obj text marks k h below = ap (λ n. n == 1) (h.each k below) ∙ one_is (count_by (is_low_of (word_place obj k)) text)

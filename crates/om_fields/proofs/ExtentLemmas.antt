-- Sections that stand for the earlier ones.
use Rattle.std.proofs.Common.{◌≡◌, ℕ, ◌+◌, Bool, true, false, ◌||◌, List, [], ◌∷◌, ◌++◌, refl, ap, sym, ◌∙◌}
use Rattle.std.specs.Prelude.{Option, Some, None, is_none}
use Rattle.om_fields.specs.Places.{any_of, each}
use Rattle.om_fields.specs.declared.extents.Extent.{Extent}
use Rattle.om_fields.specs.Extents.{both_loaded, collide, collides, StandFor}
use Rattle.om_fields.proofs.Each.{each-snoc}

or-regroup : (a b c : Bool) → (a || (b || c)) ≡ ((a || b) || c)
or-regroup true b c = refl
or-regroup false b c = refl

or-none : (b : Bool) → (b || false) ≡ b
or-none true = refl
or-none false = refl

any-append : (t : Extent → Bool) (xs ys : List Extent) → any_of t (xs ++ ys) ≡ (any_of t xs || any_of t ys)
any-append t [] ys = refl
any-append t (x ∷ xs) ys = ap (λ b. t x || b) (any-append t xs ys) ∙ or-regroup (t x) (any_of t xs) (any_of t ys)

any-snoc : (t : Extent → Bool) (xs : List Extent) (x : Extent) → any_of t (xs ++ x ∷ []) ≡ (any_of t xs || t x)
any-snoc t xs x = any-append t xs (x ∷ []) ∙ ap (λ b. any_of t xs || b) (or-none (t x))

collides_next : (extent : ℕ → Extent) (k : ℕ) (t : Extent) → collides (each extent (k + 1)) t ≡ (collides (each extent k) t || collide (extent k) t)
collides_next extent k t = ap (λ (es : List Extent). collides es t) (each-snoc extent k) ∙ any-snoc (λ s. collide s t) (each extent k) (extent k)

-- nothing stands for no sections
pub stand_for_none : (extent : ℕ → Extent) → StandFor extent 0 []
stand_for_none extent = record { same = λ t. refl }

unloaded_by : (s t : Extent) (n : Option ℕ) → n ≡ None → both_loaded s t n t.number ≡ false
unloaded_by s t n e = rw e refl

-- a section that is not loaded collides with none
pub stand_for_unloaded : (extent : ℕ → Extent) (k : ℕ) (loaded : List Extent) → StandFor extent k loaded → (extent k).number ≡ None → StandFor extent (k + 1) loaded
stand_for_unloaded extent k loaded stands none = record {
  same = λ t.
      stands.same t ∙ sym (or-none (collides (each extent k) t))
      ∙ ap (λ (b : Bool). collides (each extent k) t || b) (sym (unloaded_by (extent k) t (extent k).number none))
      ∙ sym (collides_next extent k t);
}

pub stand_for_more : (extent : ℕ → Extent) (k : ℕ) (loaded : List Extent) → StandFor extent k loaded → StandFor extent (k + 1) (loaded ++ extent k ∷ [])
stand_for_more extent k loaded stands = record {
  same = λ t.
      any-snoc (λ s. collide s t) loaded (extent k)
      ∙ ap (λ (b : Bool). b || collide (extent k) t) (stands.same t)
      ∙ sym (collides_next extent k t);
}

pub none_is : (o : Option ℕ) → is_none o ≡ true → o ≡ None
none_is None e = refl
none_is (Some n) e = cc

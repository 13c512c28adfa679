-- The rules of symbolic values agree with each other.
use Rattle.std.proofs.Common.{◌≡◌, inl, inr, ℕ, ◌^◌, ◌<◌, Bool, true, false, ◌&&◌, List, [], ◌∷◌, refl, ap, sym, ◌∙◌, arith, cond}
use Rattle.std.specs.Prelude.{Option, Some, None, ◌==◌}
use Rattle.std.specs.Option.{option_or}
use Rattle.std.specs.Int.Bits.{or_zero_r, xor_zero_r}
use Rattle.std.proofs.lemmas.Bool.Decides.{nat_tests}
use Rattle.om_alpha.specs.declared.op.Width.TheVariants.{Quad}
use Rattle.om_alpha.specs.declared.op.Scale.TheVariants.{One}
use Rattle.om_alpha.specs.declared.op.Cmp.{Cmp}
use Rattle.om_alpha.specs.declared.op.AluOp.{AluOp}
use Rattle.om_alpha.specs.declared.op.AluOp.TheVariants.{Add, Sub, And, Bis, Xor, Bic, Compare, ExtLow, ExtHigh, InsLow, InsHigh, MskLow, MskHigh}
use Rattle.om_alpha.specs.Arithmetic.{alu_result}
use Rattle.om_value.specs.declared.value.Place.{Place}
use Rattle.om_value.specs.declared.value.Region.{Region}
use Rattle.om_value.specs.declared.value.Target.{Target}
use Rattle.om_value.specs.declared.value.Value.{Value}
use Rattle.om_value.specs.declared.value.Value.TheVariants.{Num, Ptr, Code, Gp, Half, GpOff}
use Rattle.om_value.specs.Lift.{is_and, is_clear, is_small, comparison, on_numbers, moves_pointer, keeps_value, distance, compares, above_small, low_bits, named_bytes, from_gp, lifted}
use Rattle.om_value_laws.specs.Rules.{HasWidth, given, Gives, RulesAgree}

-- ---- the first of some rules

or-first : (o p : Option Value) (v : Value) → o ≡ Some v → option_or o p ≡ Some v
or-first o p v e = rw e refl

or-none : (o : Option Value) → option_or o None ≡ o
or-none None = refl
or-none (Some v) = refl

never : (v : Value) → None ≡ Some v → ⊥
never v e = cc

abbrev first_of : List (Option Value) → Option Value
first_of [] = None
first_of (o ∷ os) = option_or o (first_of os)

first-gives : (os : List (Option Value)) (v : Value) → first_of os ≡ Some v → Gives os v
first-gives [] v e = never v e
first-gives (None ∷ os) v e = inr (first-gives os v e)
first-gives (Some w ∷ os) v e = inl e

none-gives : (os : List (Option Value)) → ((v : Value) → Gives os v → ⊥) → first_of os ≡ None
none-gives [] h = refl
none-gives (None ∷ os) h = none-gives os (λ v g. h v (inr g))
none-gives (Some w ∷ os) h = absurd (h w (inl refl))

-- ---- tests

and-none : (t : Bool) (w v : Value) → cond (t && false) (Some w) None ≡ Some v → ⊥
and-none true w v e = cc
and-none false w v e = cc

record IsKept (t : Bool) (a v : Value) : Type 0 where
  holds : t ≡ true
  same : a ≡ v

kept-by : (t : Bool) (a v : Value) → cond t (Some a) None ≡ Some v → IsKept t a v
kept-by true a v e = record { holds = refl; same = cc }
kept-by false a v e = absurd (never v e)

is-zero : (n : ℕ) → (n == 0) ≡ true → n ≡ 0
is-zero n e = grind (arith, nat_tests)

module _ (sa sb : ℕ) (v : Value) where
  -- ---- rule 1

  moves-pn : (op : AluOp) (r : Region) (x n : ℕ) → moves_pointer op (Ptr r x) (Num n) ≡ Some v → lifted op (Ptr r x) sa (Num n) sb ≡ Some v
  unfolding lifted on_numbers moves_pointer
  moves-pn (Add One Quad) r x n e = e
  moves-pn (Sub One Quad) r x n e = e
  moves-pn op r x n e = absurd (never v e)

  moves-np : (op : AluOp) (n : ℕ) (r : Region) (x : ℕ) → moves_pointer op (Num n) (Ptr r x) ≡ Some v → lifted op (Num n) sa (Ptr r x) sb ≡ Some v
  unfolding lifted on_numbers moves_pointer
  moves-np (Add s Quad) n r x e = e
  moves-np op n r x e = absurd (never v e)

  moves-gives : (op : AluOp) (a b : Value) → moves_pointer op a b ≡ Some v → lifted op a sa b sb ≡ Some v
  unfolding moves_pointer
  moves-gives op (Ptr r x) (Num n) e = moves-pn op r x n e
  moves-gives op (Num n) (Ptr r x) e = moves-np op n r x e
  moves-gives op a b e = absurd (never v e)

  -- ---- rule 2

  keeps-nn : (op : AluOp) (m n : ℕ) → m < 2 ^ 64 → keeps_value op (Num m) (Num n) ≡ Some v → lifted op (Num m) sa (Num n) sb ≡ Some v
  unfolding lifted on_numbers keeps_value
  keeps-nn (Add One Quad) m n w e =
      let k = kept-by (n == 0) (Num m) v e in
      let zero = is-zero n k.holds in
      ap (λ (i : ℕ). Some (Num i)) (omega (arith, zero, w)) ∙ ap Some k.same
  keeps-nn (Sub One Quad) m n w e =
      let k = kept-by (n == 0) (Num m) v e in
      let zero = is-zero n k.holds in
      ap (λ (i : ℕ). Some (Num i)) (omega (arith, zero, w)) ∙ ap Some k.same
  keeps-nn Bis m n w e =
      let k = kept-by (n == 0) (Num m) v e in
      ap (λ (i : ℕ). Some (Num (alu_result Bis m i))) (is-zero n k.holds) ∙ ap (λ (i : ℕ). Some (Num i)) (or_zero_r m) ∙ ap Some k.same
  keeps-nn Xor m n w e =
      let k = kept-by (n == 0) (Num m) v e in
      ap (λ (i : ℕ). Some (Num (alu_result Xor m i))) (is-zero n k.holds) ∙ ap (λ (i : ℕ). Some (Num i)) (xor_zero_r m) ∙ ap Some k.same
  keeps-nn op m n w e = absurd (never v e)

  keeps-pn : (op : AluOp) (r : Region) (x n : ℕ) → x < 2 ^ 64 → keeps_value op (Ptr r x) (Num n) ≡ Some v → lifted op (Ptr r x) sa (Num n) sb ≡ Some v
  unfolding lifted on_numbers moves_pointer keeps_value
  keeps-pn (Add One Quad) r x n w e =
      let k = kept-by (n == 0) (Ptr r x) v e in
      let zero = is-zero n k.holds in
      ap (λ (i : ℕ). Some (Ptr r i)) (omega (arith, zero, w)) ∙ ap Some k.same
  keeps-pn (Sub One Quad) r x n w e =
      let k = kept-by (n == 0) (Ptr r x) v e in
      let zero = is-zero n k.holds in
      ap (λ (i : ℕ). Some (Ptr r i)) (omega (arith, zero, w)) ∙ ap Some k.same
  keeps-pn Bis r x n w e = rw e refl
  keeps-pn Xor r x n w e = rw e refl
  keeps-pn op r x n w e = absurd (never v e)

  keeps-np : (op : AluOp) (n : ℕ) (r : Region) (x : ℕ) → x < 2 ^ 64 → keeps_value op (Num n) (Ptr r x) ≡ Some v → lifted op (Num n) sa (Ptr r x) sb ≡ Some v
  unfolding lifted on_numbers moves_pointer keeps_value
  keeps-np (Add One Quad) n r x w e =
      let k = kept-by (n == 0) (Ptr r x) v e in
      let zero = is-zero n k.holds in
      ap (λ (i : ℕ). Some (Ptr r i)) (omega (arith, zero, w)) ∙ ap Some k.same
  keeps-np Bis n r x w e = rw e refl
  keeps-np Xor n r x w e = rw e refl
  keeps-np op n r x w e = absurd (never v e)

  keeps-code : (op : AluOp) (p : Place) (n : ℕ) → keeps_value op (Code p) (Num n) ≡ Some v → lifted op (Code p) sa (Num n) sb ≡ Some v
  unfolding lifted on_numbers moves_pointer keeps_value
  keeps-code (Add One Quad) p n e = rw e refl
  keeps-code (Sub One Quad) p n e = rw e refl
  keeps-code Bis p n e = rw e refl
  keeps-code Xor p n e = rw e refl
  keeps-code op p n e = absurd (never v e)

  keeps-gp : (op : AluOp) (o n : ℕ) → keeps_value op (Gp o) (Num n) ≡ Some v → lifted op (Gp o) sa (Num n) sb ≡ Some v
  unfolding lifted on_numbers moves_pointer keeps_value
  keeps-gp (Add One Quad) o n e = rw e refl
  keeps-gp (Sub One Quad) o n e = rw e refl
  keeps-gp Bis o n e = rw e refl
  keeps-gp Xor o n e = rw e refl
  keeps-gp op o n e = absurd (never v e)

  keeps-half : (op : AluOp) (p : Place) (n : ℕ) → keeps_value op (Half p) (Num n) ≡ Some v → lifted op (Half p) sa (Num n) sb ≡ Some v
  unfolding lifted on_numbers moves_pointer keeps_value
  keeps-half (Add One Quad) p n e = rw e refl
  keeps-half (Sub One Quad) p n e = rw e refl
  keeps-half Bis p n e = rw e refl
  keeps-half Xor p n e = rw e refl
  keeps-half op p n e = absurd (never v e)

  keeps-off : (op : AluOp) (o : ℕ) (t : Target) (n : ℕ) → keeps_value op (GpOff o t) (Num n) ≡ Some v → lifted op (GpOff o t) sa (Num n) sb ≡ Some v
  unfolding lifted on_numbers moves_pointer keeps_value
  keeps-off (Add One Quad) o t n e = rw e refl
  keeps-off (Sub One Quad) o t n e = rw e refl
  keeps-off Bis o t n e = rw e refl
  keeps-off Xor o t n e = rw e refl
  keeps-off op o t n e = absurd (never v e)

  keeps-gives : (op : AluOp) (a b : Value) → HasWidth a → HasWidth b → keeps_value op a b ≡ Some v → lifted op a sa b sb ≡ Some v
  unfolding lifted on_numbers moves_pointer
  keeps-gives op (Num m) (Num n) wa wb e = keeps-nn op m n wa e
  keeps-gives op (Ptr r x) (Num n) wa wb e = keeps-pn op r x n wa e
  keeps-gives op (Code p) (Num n) wa wb e = keeps-code op p n e
  keeps-gives op (Gp o) (Num n) wa wb e = keeps-gp op o n e
  keeps-gives op (Half p) (Num n) wa wb e = keeps-half op p n e
  keeps-gives op (GpOff o t) (Num n) wa wb e = keeps-off op o t n e
  keeps-gives op (Num n) (Ptr r x) wa wb e = keeps-np op n r x wb e
  keeps-gives op a b wa wb e = rw e refl

  -- ---- rule 3

  apart-pp : (op : AluOp) (r : Region) (x : ℕ) (s : Region) (y : ℕ) → distance op (Ptr r x) (Ptr s y) ≡ Some v → lifted op (Ptr r x) sa (Ptr s y) sb ≡ Some v
  unfolding lifted on_numbers moves_pointer keeps_value distance
  apart-pp (Sub One Quad) r x s y e = rw e refl
  apart-pp op r x s y e = absurd (never v e)

  apart-gives : (op : AluOp) (a b : Value) → distance op a b ≡ Some v → lifted op a sa b sb ≡ Some v
  unfolding distance
  apart-gives op (Ptr r x) (Ptr s y) e = apart-pp op r x s y e
  apart-gives op a b e = absurd (never v e)

  -- ---- rule 4

  compares-by : (c : Cmp) (a b : Value) → compares (Some c) a sa b sb ≡ Some v → lifted (Compare c) a sa b sb ≡ Some v
  unfolding lifted on_numbers moves_pointer keeps_value distance compares
  compares-by c (Ptr r x) (Ptr s y) e = rw e refl
  compares-by c (Code p) (Code q) e = rw e refl
  compares-by c a b e = absurd (never v e)

  compares-gives : (op : AluOp) (a b : Value) → compares (comparison op) a sa b sb ≡ Some v → lifted op a sa b sb ≡ Some v
  unfolding compares
  compares-gives (Compare c) a b e = compares-by c a b e
  compares-gives op a b e = absurd (never v e)

  -- ---- rule 5

  above-by : (c : Cmp) (a b : Value) → above_small (Some c) a sa b sb ≡ Some v → lifted (Compare c) a sa b sb ≡ Some v
  unfolding lifted on_numbers moves_pointer keeps_value distance compares above_small
  above-by c (Num n) (Ptr r x) e = rw e refl
  above-by c (Num n) (Code p) e = rw e refl
  above-by c (Ptr r x) (Num n) e = rw e refl
  above-by c (Code p) (Num n) e = rw e refl
  above-by c (Num n) b e = absurd (and-none (is_small n) _ v e)
  above-by c a (Num n) e = absurd (and-none (is_small n) _ v e)
  above-by c a b e = absurd (never v e)

  above-gives : (op : AluOp) (a b : Value) → above_small (comparison op) a sa b sb ≡ Some v → lifted op a sa b sb ≡ Some v
  unfolding above_small
  above-gives (Compare c) a b e = above-by c a b e
  above-gives op a b e = absurd (never v e)

  -- ---- rule 7

  low-none : (op : AluOp) (a b : Value) → is_and op ≡ false → is_clear op ≡ false → low_bits op a b ≡ Some v → ⊥
  unfolding low_bits
  low-none op (Ptr r x) (Num n) f g e = never v (sym (rw (f, g) refl) ∙ e)
  low-none op (Num n) (Ptr r x) f g e = never v (sym (rw f refl) ∙ e)
  low-none op a b f g e = never v e

  low-by : (op : AluOp) (a b : Value) → low_bits op a b ≡ Some v → lifted op a sa b sb ≡ Some v
  unfolding lifted on_numbers moves_pointer keeps_value distance compares above_small low_bits
  low-by And (Ptr r x) (Num n) e = rw e refl
  low-by And (Num n) (Ptr r x) e = rw e refl
  low-by And a b e = absurd (never v e)
  low-by Bic (Ptr r x) (Num n) e = rw e refl
  low-by Bic (Num n) (Ptr r x) e = absurd (never v e)
  low-by Bic a b e = absurd (never v e)
  low-by op a b e = absurd (low-none op a b refl refl e)

  -- ---- rule 8

  named-np : (op : AluOp) (n : ℕ) (r : Region) (x : ℕ) → named_bytes op (Num n) (Ptr r x) ≡ Some v → lifted op (Num n) sa (Ptr r x) sb ≡ Some v
  unfolding lifted on_numbers moves_pointer keeps_value distance compares above_small low_bits named_bytes
  named-np (ExtLow s) n r x e = e
  named-np (ExtHigh s) n r x e = e
  named-np (InsLow s) n r x e = e
  named-np (InsHigh s) n r x e = e
  named-np (MskLow s) n r x e = e
  named-np (MskHigh s) n r x e = e
  named-np op n r x e = absurd (never v e)

  named-gives : (op : AluOp) (a b : Value) → named_bytes op a b ≡ Some v → lifted op a sa b sb ≡ Some v
  unfolding named_bytes
  named-gives op (Num n) (Ptr r x) e = named-np op n r x e
  named-gives op a b e = absurd (never v e)

  -- ---- rule 9

  gp-by : (op : AluOp) (o p : ℕ) (t : Target) → from_gp op (Gp o) (GpOff p t) ≡ Some v → lifted op (Gp o) sa (GpOff p t) sb ≡ Some v
  unfolding lifted on_numbers moves_pointer keeps_value distance compares above_small low_bits named_bytes from_gp
  gp-by (Add One Quad) o p t e = e
  gp-by op o p t e = absurd (never v e)

  off-by : (op : AluOp) (p : ℕ) (t : Target) (o : ℕ) → from_gp op (GpOff p t) (Gp o) ≡ Some v → lifted op (GpOff p t) sa (Gp o) sb ≡ Some v
  unfolding lifted on_numbers moves_pointer keeps_value distance compares above_small low_bits named_bytes from_gp
  off-by (Add One Quad) p t o e = e
  off-by op p t o e = absurd (never v e)

  gp-gives : (op : AluOp) (a b : Value) → from_gp op a b ≡ Some v → lifted op a sa b sb ≡ Some v
  unfolding from_gp
  gp-gives op (Gp o) (GpOff p t) e = gp-by op o p t e
  gp-gives op (GpOff p t) (Gp o) e = off-by op p t o e
  gp-gives op a b e = absurd (never v e)

  -- ---- each of them

  any-gives : (op : AluOp) (a b : Value) → HasWidth a → HasWidth b → Gives (given op a sa b sb) v → lifted op a sa b sb ≡ Some v
  unfolding lifted
  any-gives op a b wa wb (inl e) = rw e refl
  any-gives op a b wa wb (inr (inl e)) = moves-gives op a b e
  any-gives op a b wa wb (inr (inr (inl e))) = keeps-gives op a b wa wb e
  any-gives op a b wa wb (inr (inr (inr (inl e)))) = apart-gives op a b e
  any-gives op a b wa wb (inr (inr (inr (inr (inl e))))) = compares-gives op a b e
  any-gives op a b wa wb (inr (inr (inr (inr (inr (inl e)))))) = above-gives op a b e
  any-gives op a b wa wb (inr (inr (inr (inr (inr (inr (inl e))))))) = low-by op a b e
  any-gives op a b wa wb (inr (inr (inr (inr (inr (inr (inr (inl e)))))))) = named-gives op a b e
  any-gives op a b wa wb (inr (inr (inr (inr (inr (inr (inr (inr (inl e))))))))) = gp-gives op a b e
  any-gives op a b wa wb (inr (inr (inr (inr (inr (inr (inr (inr (inr e))))))))) = absurd e

is-first : (op : AluOp) (a : Value) (sa : ℕ) (b : Value) (sb : ℕ) → lifted op a sa b sb ≡ first_of (given op a sa b sb)
unfolding lifted
is-first op a sa b sb =
    ap (λ (o : Option Value).
    option_or (on_numbers op a b) (option_or (moves_pointer op a b) (option_or (keeps_value op a b)
    (option_or (distance op a b) (option_or (compares (comparison op) a sa b sb)
    (option_or (above_small (comparison op) a sa b sb) (option_or (low_bits op a b)
    (option_or (named_bytes op a b) o))))))))
    (sym (or-none (from_gp op a b)))

pub rules_agree : RulesAgree
rules_agree op a sa b sb wa wb = record {
  gives = λ v g. any-gives sa sb v op a b wa wb g;
  given_by = λ v e. first-gives (given op a sa b sb) v (sym (is-first op a sa b sb) ∙ e);
  observes = λ e v g. never v (sym e ∙ any-gives sa sb v op a b wa wb g);
  none = λ h. is-first op a sa b sb ∙ none-gives (given op a sa b sb) h;
}

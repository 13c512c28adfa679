-- Each rule on symbolic values is right in numbers.
use Rattle.std.proofs.Common.{◌≡◌, ◌⊎◌, inl, inr, ℕ, ◌+◌, ◌-◌, ◌*◌, ◌/◌, ◌%◌, ◌^◌, ◌<◌, ◌≤◌, Bool, true, false, cond, not, ◌&&◌, ◌||◌, ◌==◌, nat_lt, nat_le, Option, Some, None, refl, ap, sym, subst, ◌∙◌, arith, bit_and}
use Rattle.std.specs.Prelude.{ℤ, pos}
use Rattle.std.specs.Option.{option_or}
use Rattle.std.specs.Int.{w64, cast_unsigned, bit_not}
use Rattle.std.specs.Int.Bits.{or_zero_r, or_zero_l, xor_zero_r, xor_zero_l, or_self, and_self, and_zero_r}
use Rattle.std.proofs.lemmas.Nat.{and_block, and_le_l, and_mask, and_comm}
use Rattle.std.proofs.lemmas.Int.{ints}
use Rattle.std.proofs.lemmas.Bool.{eqb-true, leb-true, ltb-true}
use Rattle.std.proofs.lemmas.Bool.Decides.{nat_tests}
use Rattle.om_alpha.specs.declared.op.Width.TheVariants.{Quad}
use Rattle.om_alpha.specs.declared.op.Scale.{Scale}
use Rattle.om_alpha.specs.declared.op.Scale.TheVariants.{One, Four, Eight}
use Rattle.om_alpha.specs.declared.op.Cmp.{Cmp}
use Rattle.om_alpha.specs.declared.op.Cmp.TheVariants as cmp
use Rattle.om_alpha.specs.declared.op.Cond.{Cond}
use Rattle.om_alpha.specs.declared.op.Cond.TheVariants as test
use Rattle.om_alpha.specs.declared.op.AluOp.{AluOp}
use Rattle.om_alpha.specs.declared.op.AluOp.TheVariants.{Add, Sub, And, Bis, Xor, Bic, Compare, Sextb, Sextw, ExtLow, ExtHigh, InsLow, InsHigh, MskLow, MskHigh}
use Rattle.om_alpha.specs.Arithmetic.{alu_result, overflows, times, compare_is, bit_of, quad, holds}
use Rattle.om_value.specs.declared.value.Region.{Region}
use Rattle.om_value.specs.declared.value.Target.{Target}
use Rattle.om_value.specs.declared.value.Target.TheVariants as target
use Rattle.om_value.specs.declared.value.Value.{Value}
use Rattle.om_value.specs.declared.value.Value.TheVariants.{Num, Ptr, Code, Gp, Half, GpOff}
use Rattle.om_value.specs.Same.{place_eq, region_eq, value_eq}
use Rattle.om_value.specs.Lift.{when, value_of, is_add, is_subtract, is_scaled_add, is_and, is_clear, is_or, is_xor, is_sign_extension, is_byte_operation, comparison, is_equal, is_small, is_inside, low_bit, holds_above, on_numbers, moves_pointer, keeps_value, distance, compares_offsets, compares_pointers, compares, above_small, low_bits, named_bytes, from_gp, lifted, lifted_add, lifted_condition}
use Rattle.om_image.specs.NumAccess.{plus}
use Rattle.om_lockstep.specs.Addresses.{Addresses, IsLaidOut, IsTarget, IsValue, IsSizeOf, Computes, number_of_value, target_number, ptr_number}
use Rattle.om_lockstep.proofs.Small.{when_some, or_some, or_true, and_true, same_region, region_self, same_place, same_value, eqb_self}
use Rattle.om_lockstep.proofs.Fits.{alu_fits}

-- ---- which operation a test on one says

add_only : (op : AluOp) → is_add op ≡ true → op ≡ Add One Quad
add_only (Add One Quad) e = refl
add_only _ e = cc

subtract_only : (op : AluOp) → is_subtract op ≡ true → op ≡ Sub One Quad
subtract_only (Sub One Quad) e = refl
subtract_only _ e = cc

scaled_only : (op : AluOp) → is_scaled_add op ≡ true → (s : Scale) × (op ≡ Add s Quad)
scaled_only (Add s Quad) e = (s, refl)
scaled_only _ e = cc

or_only : (op : AluOp) → is_or op ≡ true → op ≡ Bis
or_only Bis e = refl
or_only _ e = cc

xor_only : (op : AluOp) → is_xor op ≡ true → op ≡ Xor
xor_only Xor e = refl
xor_only _ e = cc

and_only : (op : AluOp) → is_and op ≡ true → op ≡ And
and_only And e = refl
and_only _ e = cc

clear_only : (op : AluOp) → is_clear op ≡ true → op ≡ Bic
clear_only Bic e = refl
clear_only _ e = cc

compare_only : (op : AluOp) (c : Cmp) → comparison op ≡ Some c → op ≡ Compare c
compare_only (Compare d) c e = cc
compare_only _ c e = cc

no_overflow_extending : (op : AluOp) (a b : ℕ) → is_sign_extension op ≡ true → overflows op a b ≡ false
no_overflow_extending Sextb a b e = refl
no_overflow_extending Sextw a b e = refl
no_overflow_extending _ a b e = cc

extends_second : (op : AluOp) (a c b : ℕ) → is_sign_extension op ≡ true → alu_result op a b ≡ alu_result op c b
extends_second Sextb a c b e = refl
extends_second Sextw a c b e = refl
extends_second _ a c b e = cc

no_overflow_bytes : (op : AluOp) (a b : ℕ) → is_byte_operation op ≡ true → overflows op a b ≡ false
no_overflow_bytes (ExtLow s) a b e = refl
no_overflow_bytes (ExtHigh s) a b e = refl
no_overflow_bytes (InsLow s) a b e = refl
no_overflow_bytes (InsHigh s) a b e = refl
no_overflow_bytes (MskLow s) a b e = refl
no_overflow_bytes (MskHigh s) a b e = refl
no_overflow_bytes _ a b e = cc

-- ---- arithmetic

moved_by : (base x n : ℕ) → (1 * ((base + x) % 2 ^ 64) + n) % 2 ^ 64 ≡ (base + (1 * x + n) % 2 ^ 64) % 2 ^ 64
moved_by base x n = omega arith

moved_back : (base x n : ℕ) → (1 * ((base + x) % 2 ^ 64) + (2 ^ 64 - n)) % 2 ^ 64 ≡ (base + (1 * x + (2 ^ 64 - n)) % 2 ^ 64) % 2 ^ 64
moved_back base x n = omega arith

moved_scaled : (s : Scale) (base x n : ℕ) → (times s * n + (base + x) % 2 ^ 64) % 2 ^ 64 ≡ (base + (times s * n + x) % 2 ^ 64) % 2 ^ 64
moved_scaled One base x n = omega arith
moved_scaled Four base x n = omega arith
moved_scaled Eight base x n = omega arith

apart_by : (base x y : ℕ) → x < 2 ^ 64 → y < 2 ^ 64 → (1 * ((base + x) % 2 ^ 64) + (2 ^ 64 - (base + y) % 2 ^ 64)) % 2 ^ 64 ≡ (1 * x + (2 ^ 64 - y)) % 2 ^ 64
apart_by base x y hx hy = omega arith

same_digit : (base x : ℕ) → base % 16 ≡ 0 → (base + x) % 2 ^ 64 % 8 ≡ x % 8
same_digit base x h = omega arith

quad_small : (n : ℕ) → n < 2 ^ 63 → quad n ≡ pos n
quad_small n h = omega (arith, ints)

bool_same : (a b : Bool) → (a ≡ true → b ≡ true) → (b ≡ true → a ≡ true) → a ≡ b
bool_same true true f g = refl
bool_same true false f g = sym (f refl)
bool_same false true f g = g refl
bool_same false false f g = refl

-- comparisons of numbers below 2 ^ 63 do not see where they are counted from
compare_moved : (c : Cmp) (base x y : ℕ) → base + x < 2 ^ 63 → base + y < 2 ^ 63 → compare_is c (base + x) (base + y) ≡ compare_is c x y
compare_moved cmp.Eq base x y hx hy = grind (arith, nat_tests)
compare_moved cmp.Lt base x y hx hy = rw (quad_small (base + x) hx, quad_small (base + y) hy, quad_small x (omega arith), quad_small y (omega arith)) (grind (arith, nat_tests))
compare_moved cmp.Le base x y hx hy = rw (quad_small (base + x) hx, quad_small (base + y) hy, quad_small x (omega arith), quad_small y (omega arith)) (grind (arith, nat_tests))
compare_moved cmp.Ult base x y hx hy = grind (arith, nat_tests)
compare_moved cmp.Ule base x y hx hy = grind (arith, nat_tests)

-- offsets below 2 ^ 63 compare as plain numbers
offsets_compared : (c : Cmp) (x y : ℕ) → (is_equal c ≡ true) ⊎ ((x < 2 ^ 63) × (y < 2 ^ 63)) → compares_offsets c x y ≡ compare_is c x y
offsets_compared cmp.Eq x y h = refl
offsets_compared cmp.Lt x y (inl e) = cc
offsets_compared cmp.Lt x y (inr h) = rw (quad_small x h.0, quad_small y h.1) (grind (arith, nat_tests))
offsets_compared cmp.Le x y (inl e) = cc
offsets_compared cmp.Le x y (inr h) = rw (quad_small x h.0, quad_small y h.1) (grind (arith, nat_tests))
offsets_compared cmp.Ult x y h = refl
offsets_compared cmp.Ule x y h = refl

-- a small number and one above it
compare_above : (c : Cmp) (n b : ℕ) → n < b → b < 2 ^ 63 → compare_is c n b ≡ not (is_equal c)
compare_above cmp.Eq n b h k = grind (arith, nat_tests)
compare_above cmp.Lt n b h k = rw (quad_small n (omega arith), quad_small b k) (grind (arith, nat_tests))
compare_above cmp.Le n b h k = rw (quad_small n (omega arith), quad_small b k) (grind (arith, nat_tests))
compare_above cmp.Ult n b h k = grind (arith, nat_tests)
compare_above cmp.Ule n b h k = grind (arith, nat_tests)

compare_below : (c : Cmp) (a n : ℕ) → n < a → a < 2 ^ 63 → compare_is c a n ≡ false
compare_below cmp.Eq n b h k = grind (arith, nat_tests)
compare_below cmp.Lt n b h k = rw (quad_small n (omega arith), quad_small b (omega arith)) (grind (arith, nat_tests))
compare_below cmp.Le n b h k = rw (quad_small n (omega arith), quad_small b (omega arith)) (grind (arith, nat_tests))
compare_below cmp.Ult n b h k = grind (arith, nat_tests)
compare_below cmp.Ule n b h k = grind (arith, nat_tests)

-- ---- the rules

pub target_value : (t : Target) → IsTarget t → IsValue (value_of t)
target_value (target.Num n) h = h
target_value (target.Ptr r x) h = h
target_value (target.Code p) h = tt

pub target_is : (l : Addresses) (t : Target) → target_number l t ≡ number_of_value l (value_of t)
target_is l (target.Num n) = refl
target_is l (target.Ptr r x) = refl
target_is l (target.Code p) = refl

-- two numbers overflow, and nothing else does
abbrev pub overflows_at : AluOp → Value → Value → Bool
overflows_at op (Num m) (Num n) = overflows op m n
overflows_at op _ _ = false

abbrev IsSound : Addresses → (AluOp → Value → Value → Option Value) → Type 0
IsSound l rule = (op : AluOp) (a b v : Value) → IsValue a → IsValue b → rule op a b ≡ Some v → Computes l op a b v

module _ (l : Addresses) (most : Region → ℕ) (ok : IsLaidOut l most) where
  pub number_below : (v : Value) → IsValue v → number_of_value l v < 2 ^ 64
  number_below (Num n) h = h
  number_below (Ptr r x) h = omega arith
  number_below (Code p) h = omega (arith, ok.code_below p)
  number_below (Gp t) h = omega (arith, ok.gp t)
  number_below (Half p) h = ok.half p
  number_below (GpOff t g) h = omega arith

  -- where the operation is known
  at_op : (op o : AluOp) (a b v : Value) → op ≡ o → Computes l o a b v → Computes l op a b v
  at_op op o a b v e c = subst (λ p. Computes l p a b v) (sym e) c

  -- where the result is known
  at_value : (op : AluOp) (a b v w : Value) → v ≡ w → Computes l op a b v → Computes l op a b w
  at_value op a b v w e c = subst (λ p. Computes l op a b p) e c

  moves_right : (op : AluOp) (r : Region) (x n : ℕ) → (is_add op ≡ true) ⊎ (is_subtract op ≡ true) → Computes l op (Ptr r x) (Num n) (Ptr r (alu_result op x n))
  moves_right op r x n (inl t) =
      subst (λ o. Computes l o (Ptr r x) (Num n) (Ptr r (alu_result o x n))) (sym (add_only op t))
      (record { value = omega arith; number = moved_by (l.region r) x n; fits = refl })
  moves_right op r x n (inr t) =
      subst (λ o. Computes l o (Ptr r x) (Num n) (Ptr r (alu_result o x n))) (sym (subtract_only op t))
      (record { value = omega arith; number = moved_back (l.region r) x n; fits = refl })

  moves_left : (op : AluOp) (r : Region) (x n : ℕ) → is_scaled_add op ≡ true → Computes l op (Num n) (Ptr r x) (Ptr r (alu_result op n x))
  moves_left op r x n t =
      let s = scaled_only op t in
      subst (λ o. Computes l o (Num n) (Ptr r x) (Ptr r (alu_result o n x))) (sym s.1)
      (record { value = omega arith; number = moved_scaled s.0 (l.region r) x n; fits = refl })

  pub pointers_move : IsSound l moves_pointer
  unfolding moves_pointer
  pointers_move op (Ptr r x) (Num n) v ha hb e =
      let w = when_some (is_add op || is_subtract op) (Ptr r (alu_result op x n)) v e in
      at_value op _ _ _ v w.1 (moves_right op r x n (or_true (is_add op) (is_subtract op) w.0))
  pointers_move op (Num n) (Ptr r x) v ha hb e =
      let w = when_some (is_scaled_add op) (Ptr r (alu_result op n x)) v e in
      at_value op _ _ _ v w.1 (moves_left op r x n w.0)
  pointers_move op _ _ v ha hb e = cc

  -- ---- 2. a value and 0

  right_zero : (op : AluOp) (a : Value) → IsValue a → (is_add op || is_or op || is_xor op || is_subtract op) ≡ true → Computes l op a (Num 0) a
  right_zero op a h t = by_last (or_true (is_add op || is_or op || is_xor op) (is_subtract op) t)
    where
      k : number_of_value l a < 2 ^ 64
      k = number_below a h

      by_first : (is_add op ≡ true) ⊎ (is_or op ≡ true) → Computes l op a (Num 0) a
      by_first (inl e) = at_op op (Add One Quad) a (Num 0) a (add_only op e) (record { value = h; number = omega (arith, k); fits = refl })
      by_first (inr e) = at_op op Bis a (Num 0) a (or_only op e) (record { value = h; number = or_zero_r (number_of_value l a); fits = refl })

      by_middle : ((is_add op || is_or op) ≡ true) ⊎ (is_xor op ≡ true) → Computes l op a (Num 0) a
      by_middle (inl e) = by_first (or_true (is_add op) (is_or op) e)
      by_middle (inr e) = at_op op Xor a (Num 0) a (xor_only op e) (record { value = h; number = xor_zero_r (number_of_value l a); fits = refl })

      by_last : ((is_add op || is_or op || is_xor op) ≡ true) ⊎ (is_subtract op ≡ true) → Computes l op a (Num 0) a
      by_last (inl e) = by_middle (or_true (is_add op || is_or op) (is_xor op) e)
      by_last (inr e) = at_op op (Sub One Quad) a (Num 0) a (subtract_only op e) (record { value = h; number = omega (arith, k); fits = refl })

  left_zero : (op : AluOp) (b : Value) → IsValue b → (is_add op || is_or op || is_xor op) ≡ true → Computes l op (Num 0) b b
  left_zero op b h t = by_middle (or_true (is_add op || is_or op) (is_xor op) t)
    where
      k : number_of_value l b < 2 ^ 64
      k = number_below b h

      by_first : (is_add op ≡ true) ⊎ (is_or op ≡ true) → Computes l op (Num 0) b b
      by_first (inl e) = at_op op (Add One Quad) (Num 0) b b (add_only op e) (record { value = h; number = omega (arith, k); fits = refl })
      by_first (inr e) = at_op op Bis (Num 0) b b (or_only op e) (record { value = h; number = or_zero_l (number_of_value l b); fits = refl })

      by_middle : ((is_add op || is_or op) ≡ true) ⊎ (is_xor op ≡ true) → Computes l op (Num 0) b b
      by_middle (inl e) = by_first (or_true (is_add op) (is_or op) e)
      by_middle (inr e) = at_op op Xor (Num 0) b b (xor_only op e) (record { value = h; number = xor_zero_l (number_of_value l b); fits = refl })

  both_same : (op : AluOp) (a : Value) → IsValue a → (is_or op || is_and op) ≡ true → Computes l op a a a
  both_same op a h t = by_op (or_true (is_or op) (is_and op) t)
    where
      by_op : (is_or op ≡ true) ⊎ (is_and op ≡ true) → Computes l op a a a
      by_op (inl e) = at_op op Bis a a a (or_only op e) (record { value = h; number = or_self (number_of_value l a); fits = refl })
      by_op (inr e) = at_op op And a a a (and_only op e) (record { value = h; number = and_self (number_of_value l a); fits = refl })

  keeps_right : (op : AluOp) (a v : Value) (n : ℕ) → IsValue a → when ((is_add op || is_or op || is_xor op || is_subtract op) && (n == 0)) a ≡ Some v → Computes l op a (Num n) v
  keeps_right op a v n h e =
      let w = when_some ((is_add op || is_or op || is_xor op || is_subtract op) && (n == 0)) a v e in
      let t = and_true (is_add op || is_or op || is_xor op || is_subtract op) (n == 0) w.0 in
      let z : n ≡ 0 = eqb-true n 0 t.1 in
      at_value op a (Num n) a v w.1 (subst (λ m. Computes l op a (Num m) a) (sym z) (right_zero op a h t.0))

  keeps_left : (op : AluOp) (b v : Value) (n : ℕ) → IsValue b → when ((is_add op || is_or op || is_xor op) && (n == 0)) b ≡ Some v → Computes l op (Num n) b v
  keeps_left op b v n h e =
      let w = when_some ((is_add op || is_or op || is_xor op) && (n == 0)) b v e in
      let t = and_true (is_add op || is_or op || is_xor op) (n == 0) w.0 in
      let z : n ≡ 0 = eqb-true n 0 t.1 in
      at_value op (Num n) b b v w.1 (subst (λ m. Computes l op (Num m) b b) (sym z) (left_zero op b h t.0))

  keeps_same : (op : AluOp) (a b v : Value) → IsValue a → when ((is_or op || is_and op) && value_eq a b) a ≡ Some v → Computes l op a b v
  keeps_same op a b v h e =
      let w = when_some ((is_or op || is_and op) && value_eq a b) a v e in
      let t = and_true (is_or op || is_and op) (value_eq a b) w.0 in
      let z : a ≡ b = same_value a b t.1 in
      at_value op a b a v w.1 (subst (λ c. Computes l op a c a) z (both_same op a h t.0))

  pub keeps_sound : IsSound l keeps_value
  unfolding keeps_value
  keeps_sound op a (Num n) v ha hb e = keeps_right op a v n ha e
  keeps_sound op (Num n) (Ptr r x) v ha hb e = keeps_left op (Ptr r x) v n hb e
  keeps_sound op (Num n) (Code p) v ha hb e = keeps_left op (Code p) v n hb e
  keeps_sound op (Num n) (Gp t) v ha hb e = keeps_left op (Gp t) v n hb e
  keeps_sound op (Num n) (Half p) v ha hb e = keeps_left op (Half p) v n hb e
  keeps_sound op (Num n) (GpOff t g) v ha hb e = keeps_left op (GpOff t g) v n hb e
  keeps_sound op a b v ha hb e = keeps_same op a b v ha e

  -- ---- 3. distances

  pub distance_sound : IsSound l distance
  unfolding distance
  distance_sound op (Ptr r x) (Ptr s y) v ha hb e =
      let w = when_some (is_subtract op && region_eq r s) (Num (alu_result op x y)) v e in
      let t = and_true (is_subtract op) (region_eq r s) w.0 in
      at_value op (Ptr r x) (Ptr s y) (Num (alu_result op x y)) v w.1
      (subst (λ q. Computes l op (Ptr r x) (Ptr q y) (Num (alu_result op x y))) (same_region r s t.1)
      (subst (λ o. Computes l o (Ptr r x) (Ptr r y) (Num (alu_result o x y))) (sym (subtract_only op t.0))
      (record { value = omega arith; number = apart_by (l.region r) x y ha hb; fits = refl })))
  distance_sound op _ _ v ha hb e = cc

  -- ---- 4. comparisons

  pub inside_number : (r : Region) (x : ℕ) → x ≤ most r → ptr_number l r x ≡ l.region r + x
  inside_number r x h = omega (arith, ok.below r)

  compare_eq : (r : Region) (x y : ℕ) → x < 2 ^ 64 → y < 2 ^ 64 → (ptr_number l r x == ptr_number l r y) ≡ (x == y)
  compare_eq r x y hx hy = bool_same (ptr_number l r x == ptr_number l r y) (x == y) (λ e. let f : ptr_number l r x ≡ ptr_number l r y = eqb-true _ _ e in let g : x ≡ y = omega arith in subst (λ z. (x == z) ≡ true) g (eqb_self x)) (λ e. let f : x ≡ y = eqb-true x y e in subst (λ z. (ptr_number l r x == ptr_number l r z) ≡ true) f (eqb_self _))

  equal_only : (c : Cmp) → is_equal c ≡ true → c ≡ cmp.Eq
  equal_only cmp.Eq e = refl
  equal_only _ e = cc

  bit_value : (b : Bool) → bit_of b < 2 ^ 64
  bit_value true = omega arith
  bit_value false = omega arith

  -- a comparison that gives a known bit
  gives_bit : (c : Cmp) (a b : Value) (t : Bool) → compare_is c (number_of_value l a) (number_of_value l b) ≡ t → Computes l (Compare c) a b (Num (bit_of t))
  gives_bit c a b t e = record { value = bit_value t; number = ap bit_of e; fits = refl }

  same_compared : (c : Cmp) (r : Region) (x v : ℕ) → x < 2 ^ 64 → v < 2 ^ 64 → (is_equal c ≡ true) ⊎ ((x ≤ most r) × (v ≤ most r)) → Computes l (Compare c) (Ptr r x) (Ptr r v) (Num (bit_of (compare_is c x v)))
  same_compared c r x v hx hv (inl e) =
      let k = equal_only c e in
      subst (λ d. Computes l (Compare d) (Ptr r x) (Ptr r v) (Num (bit_of (compare_is d x v)))) (sym k)
      (gives_bit cmp.Eq (Ptr r x) (Ptr r v) (x == v) (compare_eq r x v hx hv))
  same_compared c r x v hx hv (inr h) =
      let p = ok.below r in
      gives_bit c (Ptr r x) (Ptr r v) (compare_is c x v)
      (ap (λ n. compare_is c n (ptr_number l r v)) (inside_number r x h.0) ∙ ap (compare_is c (l.region r + x)) (inside_number r v h.1)
      ∙ compare_moved c (l.region r) x v (omega arith) (omega arith))

  eqb_apart : (a b : ℕ) → (a ≡ b → ⊥) → (a == b) ≡ false
  eqb_apart a b h = by_test (a == b) refl
    where
      by_test : (t : Bool) → (a == b) ≡ t → (a == b) ≡ false
      by_test true e = absurd (h (eqb-true a b e))
      by_test false e = e

  module _ (size : Region → ℕ) (sized : (r : Region) → size r ≤ most r) where
    at_most : (r : Region) (x n : ℕ) → x ≤ n → n ≡ size r → x ≤ most r
    at_most r x n h e = omega (arith, sized r)

    other_compared : (r s : Region) (x y v z : ℕ) → x < y → v < z → y ≡ size r → z ≡ size s → region_eq r s ≡ false → Computes l (Compare cmp.Eq) (Ptr r x) (Ptr s v) (Num 0)
    other_compared r s x y v z hx hv ey ez other =
        let hr = sized r in
        let hs = sized s in
        let mr = ok.below r in
        let ms = ok.below s in
        gives_bit cmp.Eq (Ptr r x) (Ptr s v) false
        (eqb_apart (ptr_number l r x) (ptr_number l s v)
        (λ e. let same : l.region r + x ≡ l.region s + v = omega arith in
        let q : r ≡ s = ok.apart r s x v (omega arith) (omega arith) same in
        differ (subst (λ q. region_eq r q ≡ true) q (region_self r)) other))
      where
        differ : {b : Bool} → b ≡ true → b ≡ false → ⊥
        differ e f = cc

    pointers_compared : (c : Cmp) (r : Region) (x y : ℕ) (s : Region) (u z : ℕ) (v : Value) → x < 2 ^ 64 → u < 2 ^ 64 → y ≡ size r → z ≡ size s → compares_pointers c r x y s u z ≡ Some v → Computes l (Compare c) (Ptr r x) (Ptr s u) v
    unfolding compares_pointers
    pointers_compared c r x y s u z v hx hu ey ez e = by_region (region_eq r s) refl e
      where
        tests : (is_equal c || (nat_le x y && nat_le u z)) ≡ true → r ≡ s → (is_equal c ≡ true) ⊎ ((x ≤ most r) × (u ≤ most r))
        tests t same = by_first (or_true (is_equal c) (nat_le x y && nat_le u z) t)
          where
            by_first : (is_equal c ≡ true) ⊎ ((nat_le x y && nat_le u z) ≡ true) → (is_equal c ≡ true) ⊎ ((x ≤ most r) × (u ≤ most r))
            by_first (inl e) = inl e
            by_first (inr e) =
                let b = and_true (nat_le x y) (nat_le u z) e in
                inr (at_most r x y (leb-true x y b.0) ey, at_most r u z (leb-true u z b.1) (ez ∙ ap size (sym same)))

        small : (is_equal c ≡ true) ⊎ ((x ≤ most r) × (u ≤ most r)) → (is_equal c ≡ true) ⊎ ((x < 2 ^ 63) × (u < 2 ^ 63))
        small (inl e) = inl e
        small (inr h) = let b = ok.below r in inr (omega (arith, h.0), omega (arith, h.1))

        by_region : (t : Bool) → region_eq r s ≡ t → cond t (when (is_equal c || (nat_le x y && nat_le u z)) (Num (bit_of (compares_offsets c x u)))) (when (is_equal c && nat_lt x y && nat_lt u z) (Num 0)) ≡ Some v → Computes l (Compare c) (Ptr r x) (Ptr s u) v
        by_region true t e =
            let w = when_some (is_equal c || (nat_le x y && nat_le u z)) (Num (bit_of (compares_offsets c x u))) v e in
            let same = same_region r s t in
            let by_numbers = offsets_compared c x u (small (tests w.0 same)) in
            at_value (Compare c) (Ptr r x) (Ptr s u) (Num (alu_result (Compare c) x u)) v (sym (ap (λ b. Num (bit_of b)) by_numbers) ∙ w.1)
            (subst (λ q. Computes l (Compare c) (Ptr r x) (Ptr q u) (Num (alu_result (Compare c) x u))) same (same_compared c r x u hx hu (tests w.0 same)))
        by_region false t e =
            let w = when_some (is_equal c && nat_lt x y && nat_lt u z) (Num 0) v e in
            let b = and_true (is_equal c && nat_lt x y) (nat_lt u z) w.0 in
            let d = and_true (is_equal c) (nat_lt x y) b.0 in
            at_value (Compare c) (Ptr r x) (Ptr s u) (Num 0) v w.1
            (subst (λ k. Computes l (Compare k) (Ptr r x) (Ptr s u) (Num 0)) (sym (equal_only c d.0))
            (other_compared r s x y u z (ltb-true x y d.1) (ltb-true u z b.1) ey ez t))

    compares_some : (c : Cmp) (a : Value) (m : ℕ) (b : Value) (n : ℕ) (v : Value) → IsValue a → IsValue b → IsSizeOf size a m → IsSizeOf size b n → compares (Some c) a m b n ≡ Some v → Computes l (Compare c) a b v
    unfolding compares
    compares_some c (Ptr r x) m (Ptr s y) n v ha hb hm hn e = pointers_compared c r x m s y n v ha hb hm hn e
    compares_some c (Code p) m (Code q) n v ha hb hm hn e =
        let w = when_some (is_equal c && place_eq p q) (Num 1) v e in
        let t = and_true (is_equal c) (place_eq p q) w.0 in
        at_value (Compare c) (Code p) (Code q) (Num 1) v w.1
        (subst (λ k. Computes l (Compare k) (Code p) (Code q) (Num 1)) (sym (equal_only c t.0))
        (subst (λ k. Computes l (Compare cmp.Eq) (Code p) (Code k) (Num 1)) (same_place p q t.1)
        (gives_bit cmp.Eq (Code p) (Code p) true (eqb_self (l.code p)))))
    compares_some c _ m _ n v ha hb hm hn e = cc

    pub compares_sound : (op : AluOp) (a : Value) (m : ℕ) (b : Value) (n : ℕ) (v : Value) → IsValue a → IsValue b → ((c : Cmp) → comparison op ≡ Some c → IsSizeOf size a m × IsSizeOf size b n) → (o : Option Cmp) → comparison op ≡ o → compares o a m b n ≡ Some v → Computes l op a b v
    unfolding compares
    compares_sound op a m b n v ha hb h None e f = cc
    compares_sound op a m b n v ha hb h (Some c) e f =
        let s = h c e in
        at_op op (Compare c) a b v (compare_only op c e) (compares_some c a m b n v ha hb s.0 s.1 f)

    -- ---- 5. above small numbers

    inside_is : (a : Value) (m : ℕ) → IsSizeOf size a m → is_inside a m ≡ true → (0x10000 ≤ number_of_value l a) × (number_of_value l a < 2 ^ 63)
    inside_is (Ptr r x) m h e =
        let k : x ≤ most r = at_most r x m (leb-true x m e) h in
        let p = ok.below r in
        let q = ok.above r in
        let n = inside_number r x k in
        (omega arith, omega arith)
    inside_is (Code p) m h e = (ok.code_above p, ok.code_below p)
    inside_is (Num n) m h e = cc
    inside_is (Gp t) m h e = cc
    inside_is (Half p) m h e = cc
    inside_is (GpOff t g) m h e = cc

    above_right : (c : Cmp) (k : ℕ) (b : Value) (n : ℕ) (v : Value) → IsSizeOf size b n → when (is_small k && is_inside b n) (Num (bit_of (not (is_equal c)))) ≡ Some v → Computes l (Compare c) (Num k) b v
    above_right c k b n v h e =
        let w = when_some (is_small k && is_inside b n) (Num (bit_of (not (is_equal c)))) v e in
        let t = and_true (is_small k) (is_inside b n) w.0 in
        let i = inside_is b n h t.1 in
        let s = ltb-true k 0x10000 t.0 in
        at_value (Compare c) (Num k) b _ v w.1 (gives_bit c (Num k) b (not (is_equal c)) (compare_above c k (number_of_value l b) (omega arith) i.1))

    above_left : (c : Cmp) (a : Value) (m k : ℕ) (v : Value) → IsSizeOf size a m → when (is_small k && is_inside a m) (Num 0) ≡ Some v → Computes l (Compare c) a (Num k) v
    above_left c a m k v h e =
        let w = when_some (is_small k && is_inside a m) (Num 0) v e in
        let t = and_true (is_small k) (is_inside a m) w.0 in
        let i = inside_is a m h t.1 in
        let s = ltb-true k 0x10000 t.0 in
        at_value (Compare c) a (Num k) (Num 0) v w.1 (gives_bit c a (Num k) false (compare_below c (number_of_value l a) k (omega arith) i.1))

    above_some : (c : Cmp) (a : Value) (m : ℕ) (b : Value) (n : ℕ) (v : Value) → IsSizeOf size a m → IsSizeOf size b n → above_small (Some c) a m b n ≡ Some v → Computes l (Compare c) a b v
    unfolding above_small
    above_some c (Num k) m b n v hm hn e = above_right c k b n v hn e
    above_some c (Ptr r x) m (Num k) n v hm hn e = above_left c (Ptr r x) m k v hm e
    above_some c (Code p) m (Num k) n v hm hn e = above_left c (Code p) m k v hm e
    above_some c (Gp t) m (Num k) n v hm hn e = above_left c (Gp t) m k v hm e
    above_some c (Half p) m (Num k) n v hm hn e = above_left c (Half p) m k v hm e
    above_some c (GpOff t g) m (Num k) n v hm hn e = above_left c (GpOff t g) m k v hm e
    above_some c _ m _ n v hm hn e = cc

    pub above_sound : (op : AluOp) (a : Value) (m : ℕ) (b : Value) (n : ℕ) (v : Value) → ((c : Cmp) → comparison op ≡ Some c → IsSizeOf size a m × IsSizeOf size b n) → (o : Option Cmp) → comparison op ≡ o → above_small o a m b n ≡ Some v → Computes l op a b v
    unfolding above_small
    above_sound op a m b n v h None e f = cc
    above_sound op a m b n v h (Some c) e f =
        let s = h c e in
        at_op op (Compare c) a b v (compare_only op c e) (above_some c a m b n v s.0 s.1 f)

  -- ---- 7. the low bits of a pointer

  nibble : (base x : ℕ) → base % 16 ≡ 0 → (base + x) % 2 ^ 64 % 16 ≡ x % 16
  nibble base x h = omega arith

  and_small : (a n : ℕ) → n < 16 → bit_and a n ≡ bit_and (a % 16) n
  and_small a n h =
      let p : a ≡ (a / 16) * 2 ^ 4 + a % 16 = omega arith in
      let q : n ≡ 0 * 2 ^ 4 + n = omega arith in
      let b = and_block 4 (a / 16) 0 (a % 16) n (omega arith) h in
      ap (λ k. bit_and k n) p ∙ ap (bit_and ((a / 16) * 2 ^ 4 + a % 16)) q ∙ b ∙ omega (arith, and_zero_r (a / 16))

  -- clearing low bits keeps the rest
  clear_small : (a n : ℕ) → a < 2 ^ 64 → n < 16 → bit_and a (bit_not w64 n) ≡ (a / 16) * 16 + bit_and (a % 16) (15 - n)
  clear_small a n h k =
      let p : a ≡ (a / 16) * 2 ^ 4 + a % 16 = omega arith in
      let q : bit_not w64 n ≡ (2 ^ 60 - 1) * 2 ^ 4 + (15 - n) = omega arith in
      let b = and_block 4 (a / 16) (2 ^ 60 - 1) (a % 16) (15 - n) (omega arith) (omega arith) in
      let m = and_mask (a / 16) 60 in
      ap (λ k. bit_and k (bit_not w64 n)) p ∙ ap (bit_and ((a / 16) * 2 ^ 4 + a % 16)) q ∙ b ∙ omega (arith, m)

  pub low_sound : IsSound l low_bits
  unfolding low_bits
  low_sound op (Ptr r x) (Num n) v ha hb e = by_rule (or_some (when (is_and op && nat_lt n 16) (Num (bit_and x n))) (when (is_clear op && nat_lt n 16) (Ptr r (bit_and x (bit_not w64 n)))) v e)
    where
      by_rule : (when (is_and op && nat_lt n 16) (Num (bit_and x n)) ≡ Some v) ⊎ (when (is_clear op && nat_lt n 16) (Ptr r (bit_and x (bit_not w64 n))) ≡ Some v) → Computes l op (Ptr r x) (Num n) v
      by_rule (inl e) =
          let w = when_some (is_and op && nat_lt n 16) (Num (bit_and x n)) v e in
          let t = and_true (is_and op) (nat_lt n 16) w.0 in
          let s = ltb-true n 16 t.1 in
          at_value op (Ptr r x) (Num n) (Num (bit_and x n)) v w.1
          (at_op op And (Ptr r x) (Num n) (Num (bit_and x n)) (and_only op t.0)
          (record {
            value = omega (arith, and_le_l x n);
            number = and_small (ptr_number l r x) n s ∙ ap (λ k. bit_and k n) (nibble (l.region r) x (ok.aligned r)) ∙ sym (and_small x n s);
            fits = refl;
          }))
      by_rule (inr e) =
          let w = when_some (is_clear op && nat_lt n 16) (Ptr r (bit_and x (bit_not w64 n))) v e in
          let t = and_true (is_clear op) (nat_lt n 16) w.0 in
          let s = ltb-true n 16 t.1 in
          at_value op (Ptr r x) (Num n) (Ptr r (bit_and x (bit_not w64 n))) v w.1
          (at_op op Bic (Ptr r x) (Num n) (Ptr r (bit_and x (bit_not w64 n))) (clear_only op t.0)
          (record {
            value = omega (arith, and_le_l x (bit_not w64 n));
            number =
                let p = clear_small (ptr_number l r x) n (omega arith) s in
                let q = clear_small x n ha s in
                let d = nibble (l.region r) x (ok.aligned r) in
                let f = ap (λ k. bit_and k (15 - n)) d in
                let g = and_le_l (x % 16) (15 - n) in
                let al = ok.aligned r in
                p ∙ omega (arith, q, f, g, al);
            fits = refl;
          }))
  low_sound op (Num n) (Ptr r x) v ha hb e =
      let w = when_some (is_and op && nat_lt n 16) (Num (bit_and n x)) v e in
      let t = and_true (is_and op) (nat_lt n 16) w.0 in
      let s = ltb-true n 16 t.1 in
      at_value op (Num n) (Ptr r x) (Num (bit_and n x)) v w.1
      (at_op op And (Num n) (Ptr r x) (Num (bit_and n x)) (and_only op t.0)
      (record {
        value = omega (arith, and_le_l n x);
        number = and_comm n (ptr_number l r x) ∙ and_small (ptr_number l r x) n s ∙ ap (λ k. bit_and k n) (nibble (l.region r) x (ok.aligned r)) ∙ sym (and_small x n s) ∙ and_comm x n;
        fits = refl;
      }))
  low_sound op _ _ v ha hb e = cc

  -- ---- 8. named bytes

  bytes_same : (op : AluOp) (n a b : ℕ) → is_byte_operation op ≡ true → a % 8 ≡ b % 8 → alu_result op n a ≡ alu_result op n b
  bytes_same (ExtLow s) n a b t e = rw e refl
  bytes_same (ExtHigh s) n a b t e = rw e refl
  bytes_same (InsLow s) n a b t e = rw e refl
  bytes_same (InsHigh s) n a b t e = rw e refl
  bytes_same (MskLow s) n a b t e = rw e refl
  bytes_same (MskHigh s) n a b t e = rw e refl
  bytes_same _ n a b t e = cc

  pub named_sound : IsSound l named_bytes
  unfolding named_bytes
  named_sound op (Num n) (Ptr r x) v ha hb e =
      let w = when_some (is_byte_operation op) (Num (alu_result op n x)) v e in
      at_value op (Num n) (Ptr r x) (Num (alu_result op n x)) v w.1
      (record {
        value = alu_fits op n x ha hb;
        number = bytes_same op n (ptr_number l r x) x w.0 (same_digit (l.region r) x (ok.aligned r));
        fits = no_overflow_bytes op n (ptr_number l r x) w.0;
      })
  named_sound op _ _ v ha hb e = cc

  -- ---- 9. a GP and an offset from it

  gp_right : (o : ℕ) (t : Target) → IsTarget t → Computes l (Add One Quad) (Gp o) (GpOff o t) (value_of t)
  gp_right o t h =
      let g = ok.gp o in
      let k = number_below (value_of t) (target_value t h) in
      let i = target_is l t in
      record { value = target_value t h; number = omega (arith, g, k, i); fits = refl }

  gp_left : (o : ℕ) (t : Target) → IsTarget t → Computes l (Add One Quad) (GpOff o t) (Gp o) (value_of t)
  gp_left o t h =
      let g = ok.gp o in
      let k = number_below (value_of t) (target_value t h) in
      let i = target_is l t in
      record { value = target_value t h; number = omega (arith, g, k, i); fits = refl }

  pub gp_sound : IsSound l from_gp
  unfolding from_gp
  gp_sound op (Gp o) (GpOff p t) v ha hb e =
      let w = when_some (is_add op && (o == p)) (value_of t) v e in
      let b = and_true (is_add op) (o == p) w.0 in
      at_value op (Gp o) (GpOff p t) (value_of t) v w.1
      (at_op op (Add One Quad) (Gp o) (GpOff p t) (value_of t) (add_only op b.0)
      (subst (λ q. Computes l (Add One Quad) (Gp o) (GpOff q t) (value_of t)) (eqb-true o p b.1) (gp_right o t hb)))
  gp_sound op (GpOff p t) (Gp o) v ha hb e =
      let w = when_some (is_add op && (o == p)) (value_of t) v e in
      let b = and_true (is_add op) (o == p) w.0 in
      at_value op (GpOff p t) (Gp o) (value_of t) v w.1
      (at_op op (Add One Quad) (GpOff p t) (Gp o) (value_of t) (add_only op b.0)
      (subst (λ q. Computes l (Add One Quad) (GpOff q t) (Gp o) (value_of t)) (eqb-true o p b.1) (gp_left o t ha)))
  gp_sound op _ _ v ha hb e = cc

  -- ---- numbers, where only /V operations overflow

  extended_number : (op : AluOp) (a v : Value) (n : ℕ) → IsValue a → n < 2 ^ 64 → when (is_sign_extension op) (Num (alu_result op 0 n)) ≡ Some v → Computes l op a (Num n) v
  extended_number op a v n ha hn e =
      let w = when_some (is_sign_extension op) (Num (alu_result op 0 n)) v e in
      at_value op a (Num n) (Num (alu_result op 0 n)) v w.1
      (record {
        value = alu_fits op 0 n (omega arith) hn;
        number = extends_second op (number_of_value l a) 0 n w.0;
        fits = no_overflow_extending op (number_of_value l a) n w.0;
      })

  numbers_sound : (op : AluOp) (a b v : Value) → IsValue a → IsValue b → overflows_at op a b ≡ false → on_numbers op a b ≡ Some v → Computes l op a b v
  unfolding on_numbers
  numbers_sound op (Num m) (Num n) v ha hb o e =
      let w : Num (alu_result op m n) ≡ v = cc in
      at_value op (Num m) (Num n) (Num (alu_result op m n)) v w (record { value = alu_fits op m n ha hb; number = refl; fits = o })
  numbers_sound op (Ptr r x) (Num n) v ha hb o e = extended_number op (Ptr r x) v n ha hb e
  numbers_sound op (Code p) (Num n) v ha hb o e = extended_number op (Code p) v n ha hb e
  numbers_sound op (Gp t) (Num n) v ha hb o e = extended_number op (Gp t) v n ha hb e
  numbers_sound op (Half p) (Num n) v ha hb o e = extended_number op (Half p) v n ha hb e
  numbers_sound op (GpOff t g) (Num n) v ha hb o e = extended_number op (GpOff t g) v n ha hb e
  numbers_sound op _ _ v ha hb o e = cc

  -- what lift gives is what the operation gives on the numbers
  pub lift_sound : (size : Region → ℕ) → ((r : Region) → size r ≤ most r) → (op : AluOp) (a : Value) (m : ℕ) (b : Value) (n : ℕ) (v : Value) → IsValue a → IsValue b → ((c : Cmp) → comparison op ≡ Some c → IsSizeOf size a m × IsSizeOf size b n) → overflows_at op a b ≡ false → lifted op a m b n ≡ Some v → Computes l op a b v
  unfolding lifted
  lift_sound size sized op a m b n v ha hb sizes o e = by_1 (or_some _ _ v e)
    where
      by_8 : (named_bytes op a b ≡ Some v) ⊎ (from_gp op a b ≡ Some v) → Computes l op a b v
      by_8 (inl e) = named_sound op a b v ha hb e
      by_8 (inr e) = gp_sound op a b v ha hb e

      by_7 : (low_bits op a b ≡ Some v) ⊎ (option_or (named_bytes op a b) (from_gp op a b) ≡ Some v) → Computes l op a b v
      by_7 (inl e) = low_sound op a b v ha hb e
      by_7 (inr e) = by_8 (or_some _ _ v e)

      by_6 : (above_small (comparison op) a m b n ≡ Some v) ⊎ (option_or (low_bits op a b) (option_or (named_bytes op a b) (from_gp op a b)) ≡ Some v) → Computes l op a b v
      by_6 (inl e) = above_sound size sized op a m b n v sizes (comparison op) refl e
      by_6 (inr e) = by_7 (or_some _ _ v e)

      by_5 : (compares (comparison op) a m b n ≡ Some v) ⊎ (option_or (above_small (comparison op) a m b n) (option_or (low_bits op a b) (option_or (named_bytes op a b) (from_gp op a b))) ≡ Some v) → Computes l op a b v
      by_5 (inl e) = compares_sound size sized op a m b n v ha hb sizes (comparison op) refl e
      by_5 (inr e) = by_6 (or_some _ _ v e)

      by_4 : (distance op a b ≡ Some v) ⊎ (option_or (compares (comparison op) a m b n) (option_or (above_small (comparison op) a m b n) (option_or (low_bits op a b) (option_or (named_bytes op a b) (from_gp op a b)))) ≡ Some v) → Computes l op a b v
      by_4 (inl e) = distance_sound op a b v ha hb e
      by_4 (inr e) = by_5 (or_some _ _ v e)

      by_3 : (keeps_value op a b ≡ Some v) ⊎ (option_or (distance op a b) (option_or (compares (comparison op) a m b n) (option_or (above_small (comparison op) a m b n) (option_or (low_bits op a b) (option_or (named_bytes op a b) (from_gp op a b))))) ≡ Some v) → Computes l op a b v
      by_3 (inl e) = keeps_sound op a b v ha hb e
      by_3 (inr e) = by_4 (or_some _ _ v e)

      by_2 : (moves_pointer op a b ≡ Some v) ⊎ (option_or (keeps_value op a b) (option_or (distance op a b) (option_or (compares (comparison op) a m b n) (option_or (above_small (comparison op) a m b n) (option_or (low_bits op a b) (option_or (named_bytes op a b) (from_gp op a b)))))) ≡ Some v) → Computes l op a b v
      by_2 (inl e) = pointers_move op a b v ha hb e
      by_2 (inr e) = by_3 (or_some _ _ v e)

      by_1 : (on_numbers op a b ≡ Some v) ⊎ (option_or (moves_pointer op a b) (option_or (keeps_value op a b) (option_or (distance op a b) (option_or (compares (comparison op) a m b n) (option_or (above_small (comparison op) a m b n) (option_or (low_bits op a b) (option_or (named_bytes op a b) (from_gp op a b))))))) ≡ Some v) → Computes l op a b v
      by_1 (inl e) = numbers_sound op a b v ha hb o e
      by_1 (inr e) = by_2 (or_some _ _ v e)

  -- a value and a displacement
  pub lift_add_sound : (a v : Value) (z : ℤ) → IsValue a → cast_unsigned w64 z < 2 ^ 64 → lifted_add a z ≡ Some v → IsValue v × (plus (number_of_value l a) z ≡ number_of_value l v)
  unfolding lifted_add
  lift_add_sound a v z ha hz e =
      let o : overflows_at (Add One Quad) a (Num (cast_unsigned w64 z)) ≡ false = no_overflow_add a (cast_unsigned w64 z) in
      let c = lift_sound (λ r. 0) (λ r. omega arith) (Add One Quad) a 0 (Num (cast_unsigned w64 z)) 0 v ha hz (λ c e. cc) o e in
      (c.value, omega arith ∙ c.number)
    where
      no_overflow_add : (a : Value) (n : ℕ) → overflows_at (Add One Quad) a (Num n) ≡ false
      no_overflow_add (Num m) n = refl
      no_overflow_add _ n = refl

  -- ---- 6. conditions

  tests_above : (c : Cond) (n low : ℕ) → 0 < n → n < 2 ^ 63 → n % 2 ≡ low → holds c n ≡ holds_above c low
  tests_above test.Lbc n low h k e = rw e refl
  tests_above test.Lbs n low h k e = rw e refl
  tests_above test.Eq n low h k e = eqb_apart n 0 (λ z. omega arith)
  tests_above test.Ne n low h k e = ap not (eqb_apart n 0 (λ z. omega arith))
  tests_above test.Lt n low h k e = rw (quad_small n k) (grind (arith, nat_tests))
  tests_above test.Ge n low h k e = rw (quad_small n k) (grind (arith, nat_tests))
  tests_above test.Le n low h k e = rw (quad_small n k) (grind (arith, nat_tests))
  tests_above test.Gt n low h k e = rw (quad_small n k) (grind (arith, nat_tests))

  low_is : (a : Value) (m : ℕ) → is_inside a m ≡ true → number_of_value l a % 2 ≡ low_bit a
  low_is (Ptr r x) m e = let al = ok.aligned r in omega arith
  low_is (Code p) m e = let al = ok.code_aligned p in omega arith
  low_is (Num n) m e = cc
  low_is (Gp t) m e = cc
  low_is (Half p) m e = cc
  low_is (GpOff t g) m e = cc

  condition_inside : (size : Region → ℕ) → ((r : Region) → size r ≤ most r) → (c : Cond) (a : Value) (m : ℕ) (b : Bool) → IsSizeOf size a m → when (is_inside a m) (holds_above c (low_bit a)) ≡ Some b → holds c (number_of_value l a) ≡ b
  condition_inside size sized c a m b h e =
      let w = when_some (is_inside a m) (holds_above c (low_bit a)) b e in
      let i = inside_is size sized a m h w.0 in
      tests_above c (number_of_value l a) (low_bit a) (omega arith) i.1 (low_is a m w.0) ∙ w.1

  pub condition_sound : (size : Region → ℕ) → ((r : Region) → size r ≤ most r) → (c : Cond) (a : Value) (m : ℕ) (b : Bool) → IsSizeOf size a m → lifted_condition c a m ≡ Some b → holds c (number_of_value l a) ≡ b
  unfolding lifted_condition
  condition_sound size sized c (Num n) m b h e = cc
  condition_sound size sized c (Ptr r x) m b h e = condition_inside size sized c (Ptr r x) m b h e
  condition_sound size sized c (Code p) m b h e = condition_inside size sized c (Code p) m b h e
  condition_sound size sized c (Gp t) m b h e = condition_inside size sized c (Gp t) m b h e
  condition_sound size sized c (Half p) m b h e = condition_inside size sized c (Half p) m b h e
  condition_sound size sized c (GpOff t g) m b h e = condition_inside size sized c (GpOff t g) m b h e

-- The bits of masks.
use Rattle.std.proofs.Common.{◌≡◌, ℕ, zero, ◌^◌, ◌==◌, ◌||◌, Bool, true, false, cond, List, [], ◌∷◌, max, refl, arith, sym, ap, ◌∙◌, subst}
use Rattle.std.specs.Prelude.{bit_or}
use Rattle.std.specs.Int.{bit_at}
use Rattle.std.specs.List.{list_any}
use Rattle.std.proofs.lemmas.Nat.Bits.{bit_at_or, bit_at-zero, bit_at-pow_same, bit_at-pow_other}
use Rattle.std.proofs.lemmas.Bool.{eqb-true, eqb-false}
use Rattle.om_isa.specs.Registers.{reg_bit, mask_onto, mask_of, mask_bit}

-- one register
power_bit : (q r : ℕ) (b : Bool) → (q == r) ≡ b → bit_at (2 ^ q) r ≡ cond b 1 0
power_bit q r true e = subst (λ n. bit_at (2 ^ q) n ≡ 1) (eqb-true q r e) (bit_at-pow_same q)
power_bit q r false e = bit_at-pow_other q r (λ h. eqb-false q r e (sym h))

differ : (q r : ℕ) (b : Bool) → (q == r) ≡ b → (q == 31) ≡ true → (r == 31) ≡ false → zero ≡ cond b 1 0
differ q r false e f g = refl
differ q r true e f g = absurd (eqb-false r 31 g (sym (eqb-true q r e) ∙ eqb-true q 31 f))

at_31 : (q r : ℕ) (b c : Bool) → (q == 31) ≡ b → (r == 31) ≡ c → bit_at (cond b 0 (2 ^ q)) r ≡ cond c 0 (cond (q == r) 1 0)
at_31 q r true true e f = bit_at-zero r
at_31 q r true false e f = bit_at-zero r ∙ differ q r (q == r) refl e f
at_31 q r false true e f = bit_at-pow_other q r (λ h. eqb-false q 31 e (sym h ∙ eqb-true r 31 f))
at_31 q r false false e f = power_bit q r (q == r) refl

bits_of_one : (q r : ℕ) → bit_at (reg_bit q) r ≡ cond (r == 31) 0 (cond (q == r) 1 0)
bits_of_one q r = at_31 q r (q == 31) (r == 31) refl refl

joined : (m : ℕ) (a b c : Bool) → max (max m (cond a 0 (cond b 1 0))) (cond a 0 (cond c 1 0)) ≡ max m (cond a 0 (cond (b || c) 1 0))
joined m true b c = omega arith
joined m false true true = omega arith
joined m false true false = omega arith
joined m false false true = omega arith
joined m false false false = omega arith

no_bits : (m : ℕ) (b : Bool) → m ≡ max m (cond b 0 0)
no_bits m true = omega arith
no_bits m false = omega arith

bits_onto : (m : ℕ) (rs : List ℕ) (r : ℕ) → bit_at (mask_onto m rs) r ≡ max (bit_at m r) (mask_bit rs r)
bits_onto m [] r = no_bits (bit_at m r) (r == 31)
bits_onto m (q ∷ qs) r =
    bits_onto (bit_or m (reg_bit q)) qs r
    ∙ ap (λ n. max n (mask_bit qs r)) (bit_at_or m (reg_bit q) r ∙ ap (λ n. max (bit_at m r) n) (bits_of_one q r))
    ∙ joined (bit_at m r) (r == 31) (q == r) (list_any (λ q. q == r) qs)

no_more : (n : ℕ) → max 0 n ≡ n
no_more n = omega arith

pub bits_of_mask : (rs : List ℕ) (r : ℕ) → bit_at (mask_of rs) r ≡ mask_bit rs r
bits_of_mask rs r = bits_onto 0 rs r ∙ ap (λ n. max n (mask_bit rs r)) (bit_at-zero r) ∙ no_more (mask_bit rs r)

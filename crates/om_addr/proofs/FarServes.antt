-- Whether one half serves all uses, from its parts: numbers as calls give them.
use Rattle.std.proofs.lemmas.Bool.{true≢false}
use Rattle.std.proofs.Common.{◌≡◌, Bool, true, false, not, ◌&&◌, refl, sym, ap, ◌∙◌, subst, arith}
use Rattle.std.specs.Prelude.{ℤ, pos, negsuc, ◌+ℤ◌, ◌-ℤ◌, ◌*ℤ◌, ◌≤ℤ◌, int_le, FitsSigned, ◌^◌}
use Rattle.std.specs.Int.{w16, w64, int_div_euclid, cast_signed, cast_unsigned}
use Rattle.std.proofs.lemmas.Int.{ints, to_z-of_z}
use Rattle.om_addr.specs.declared.near.Pointer.{Pointer}
use Rattle.om_addr.specs.Near.{is_small, IsTame}
use Rattle.om_graph.specs.View.{GraphView}
use Rattle.om_addr.specs.declared.loads.Load.{Load}
use Rattle.om_addr.specs.declared.far.Bases.{Bases}
use Rattle.om_addr.specs.FarEdit.{AreShort, high_part, quotient_at, one_half, IsFarEdit}

abbrev pub in_16 : ℤ → ℤ
in_16 z = cast_signed w16 (cast_unsigned w16 z)

abbrev in_64 : ℤ → ℤ
in_64 z = cast_signed w64 (cast_unsigned w64 z)

near_fits : (z : ℤ) → negsuc 4398046511103 ≤ℤ z → z ≤ℤ pos 4398046511104 → FitsSigned w64 z
near_fits z h k = omega (arith, ints, h, k)

high_fits : (w d : ℤ) → d +ℤ pos 32768 ≡ w → negsuc 4398046511103 ≤ℤ d → d ≤ℤ pos 4398046511104 → FitsSigned w64 (int_div_euclid w (pos 65536))
high_fits (pos a) d e h k = omega (arith, ints, e, h, k)
high_fits (negsuc a) d e h k = omega (arith, ints, e, h, k)

high_near : (w d : ℤ) → d +ℤ pos 32768 ≡ w → negsuc 4398046511103 ≤ℤ d → d ≤ℤ pos 4398046511104 → (negsuc 1099511627775 ≤ℤ int_div_euclid w (pos 65536)) × (int_div_euclid w (pos 65536) ≤ℤ pos 1099511627776)
high_near (pos a) d e h k = (omega (arith, ints, e, h, k), omega (arith, ints, e, h, k))
high_near (negsuc a) d e h k = (omega (arith, ints, e, h, k), omega (arith, ints, e, h, k))

rest_fits : (d h : ℤ) → negsuc 4398046511103 ≤ℤ d → d ≤ℤ pos 4398046511104 → negsuc 1099511627775 ≤ℤ h → h ≤ℤ pos 1099511627776 → FitsSigned w64 (d -ℤ (pos 65536 *ℤ h))
rest_fits d h a b c e = omega (arith, ints, a, b, c, e)

quotient_fits : (w off m : ℤ) → off +ℤ m ≡ w → pos 0 ≤ℤ off → off ≤ℤ pos (2 ^ 62) → FitsSigned w16 m → FitsSigned w64 (int_div_euclid w (pos 16))
quotient_fits (pos a) off m e h k f = omega (arith, ints, e, h, k, f)
quotient_fits (negsuc a) off m e h k f = omega (arith, ints, e, h, k, f)

upper : (a b c : ℤ) → a ≤ℤ b → b ≤ℤ c → a ≤ℤ c
upper a b c h k = omega (arith, ints, h, k)

module _ (at : Pointer) (tame : IsTame at) (least most : ℤ) (fl : FitsSigned w16 least) (fm : FitsSigned w16 most) (d e high rest last first : ℤ) where
  pub serves :
      d ≡ at.distance +ℤ in_16 least → negsuc 4398046511103 ≤ℤ d → d ≤ℤ pos 4398046511104 → high ≡ high_part (in_64 d) → e ≡ at.distance +ℤ in_16 most → negsuc 4398046511103 ≤ℤ e → e ≤ℤ pos 4398046511104 →
      rest ≡ in_64 e -ℤ (pos 65536 *ℤ in_64 high) → true ≡ is_small (in_64 high) → true ≡ is_small (in_64 rest) → last ≡ quotient_at at (in_16 most) → first ≡ quotient_at at (in_16 least) →
      (b : Bool) → b ≡ int_le (in_64 last) (in_64 first) → b ≡ one_half at least most
  serves dd dl du hh ee el eu rr s t qq ff b bb =
      bb ∙ ap (λ (z : ℤ). int_le z (in_64 first)) last_is ∙ ap (λ (z : ℤ). int_le (quotient_at at most) z) first_is
      ∙ sym
      (ap (λ (v : Bool). v && is_small ((at.distance +ℤ most) -ℤ (pos 65536 *ℤ high_part (at.distance +ℤ least))) && int_le (quotient_at at most) (quotient_at at least)) (ap is_small (sym high_is ∙ sym high_64) ∙ sym s)
      ∙ ap (λ (v : Bool). v && int_le (quotient_at at most) (quotient_at at least)) (ap is_small (sym rest_is ∙ sym rest_64) ∙ sym t))
    where
      l_16 : in_16 least ≡ least
      l_16 = to_z-of_z w16 least fl

      m_16 : in_16 most ≡ most
      m_16 = to_z-of_z w16 most fm

      d_is : in_64 d ≡ at.distance +ℤ least
      d_is = to_z-of_z w64 d (near_fits d dl du) ∙ dd ∙ ap (λ (z : ℤ). at.distance +ℤ z) l_16

      e_is : in_64 e ≡ at.distance +ℤ most
      e_is = to_z-of_z w64 e (near_fits e el eu) ∙ ee ∙ ap (λ (z : ℤ). at.distance +ℤ z) m_16

      high_of_d : high ≡ high_part d
      high_of_d = hh ∙ ap high_part (to_z-of_z w64 d (near_fits d dl du))

      high_64 : in_64 high ≡ high
      high_64 = to_z-of_z w64 high (subst (λ (z : ℤ). FitsSigned w64 z) (sym high_of_d) (high_fits (d +ℤ pos 32768) d refl dl du))

      high_is : high ≡ high_part (at.distance +ℤ least)
      high_is = hh ∙ ap high_part d_is

      rest_of : rest ≡ e -ℤ (pos 65536 *ℤ high)
      rest_of = rr ∙ ap (λ (z : ℤ). z -ℤ (pos 65536 *ℤ in_64 high)) (to_z-of_z w64 e (near_fits e el eu)) ∙ ap (λ (z : ℤ). e -ℤ (pos 65536 *ℤ z)) high_64

      near : (negsuc 1099511627775 ≤ℤ high) × (high ≤ℤ pos 1099511627776)
      near = subst (λ (z : ℤ). (negsuc 1099511627775 ≤ℤ z) × (z ≤ℤ pos 1099511627776)) (sym high_of_d) (high_near (d +ℤ pos 32768) d refl dl du)

      rest_64 : in_64 rest ≡ rest
      rest_64 = to_z-of_z w64 rest (subst (λ (z : ℤ). FitsSigned w64 z) (sym rest_of) (rest_fits e high el eu near.0 near.1))

      rest_is : rest ≡ (at.distance +ℤ most) -ℤ (pos 65536 *ℤ high_part (at.distance +ℤ least))
      rest_is = rr ∙ ap (λ (z : ℤ). z -ℤ (pos 65536 *ℤ in_64 high)) e_is ∙ ap (λ (z : ℤ). (at.distance +ℤ most) -ℤ (pos 65536 *ℤ z)) (high_64 ∙ high_is)

      quotient_of : (z q m : ℤ) → FitsSigned w16 m → z ≡ m → q ≡ quotient_at at z → in_64 q ≡ quotient_at at m
      quotient_of z q m f w x =
          let same : q ≡ quotient_at at m = x ∙ ap (quotient_at at) w in
          to_z-of_z w64 q (subst (λ (y : ℤ). FitsSigned w64 y) (sym same) (quotient_fits (at.off +ℤ m) at.off m refl tame.off (upper at.off at.size (pos (2 ^ 62)) tame.inside tame.size) f)) ∙ same

      last_is : in_64 last ≡ quotient_at at most
      last_is = quotient_of (in_16 most) last most fm m_16 qq

      first_is : in_64 first ≡ quotient_at at least
      first_is = quotient_of (in_16 least) first least fl l_16 ff

-- what was asked of numbers as calls give them holds of the displacements
pub half_is : (at : Pointer) (a : Bases) → AreShort a → (b : Bool) → one_half at (in_16 a.least) (in_16 a.most) ≡ b → one_half at a.least a.most ≡ b
half_is at a short b h =
    sym (ap (λ (z : ℤ). one_half at z (in_16 a.most)) (to_z-of_z w16 a.least short.least) ∙ ap (λ (z : ℤ). one_half at a.least z) (to_z-of_z w16 a.most short.most)) ∙ h

pub edit_is : (load : Load) (a : Bases) → AreShort a → (g new : GraphView) → IsFarEdit load (in_16 a.least) g new → IsFarEdit load a.least g new
edit_is load a short g new h = subst (λ (z : ℤ). IsFarEdit load z g new) (to_z-of_z w16 a.least short.least) h

distance_fits : (at : Pointer) → IsTame at → FitsSigned w64 at.distance
distance_fits at t = let h = t.above in let k = t.below in omega (arith, ints, h, k)

pub near_is : (at : Pointer) → IsTame at → is_small (in_64 at.distance) ≡ true → is_small at.distance ≡ true
near_is at t h = ap is_small (sym (to_z-of_z w64 at.distance (distance_fits at t))) ∙ h

pub is_not : (b : Bool) → not b ≡ true → b ≡ false
is_not true h = absurd (true≢false (sym h))
is_not false h = refl

pub not_not : (b : Bool) → not b ≡ false → b ≡ true
not_not true h = refl
not_not false h = absurd (true≢false h)

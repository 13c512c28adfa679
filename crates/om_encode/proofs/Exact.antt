-- The displacements of a true map give the numbers that the forms need.
use Rattle.std.proofs.Common.{◌≡◌, ℕ, ◌+◌, ◌^◌, ◌<◌, refl, arith}
use Rattle.std.specs.Prelude.{ℤ, pos, negsuc, ◌+ℤ◌, ◌-ℤ◌, ◌*ℤ◌, FitsSigned}
use Rattle.std.specs.Int.{int_div_euclid, w16, w64, cast_unsigned}
use Rattle.std.proofs.lemmas.Int.{ints}
use Rattle.om_isa.specs.Target.{displaced}
use Rattle.om_image.specs.NumAccess.{plus}
use Rattle.om_isa.specs.Fields.{IsDisp}
use Rattle.om_encode.specs.Halves.{high_part}
use Rattle.om_encode.specs.Fields.{Splits}

pub plus_exact : (n m : ℕ) (d : ℤ) → m < 2 ^ 64 → n < 2 ^ 64 → FitsSigned w16 d → pos n +ℤ d ≡ pos m → plus n (pos 1 *ℤ d) ≡ m
plus_exact n m d hm hn fits e = omega (arith, ints)

pub plus_exact_1 : (n m : ℕ) (d : ℤ) → m < 2 ^ 64 → n < 2 ^ 64 → FitsSigned w16 d → pos n +ℤ d ≡ pos m → plus n d ≡ m
plus_exact_1 n m d hm hn fits e = omega (arith, ints)

pub to_exact : (n m : ℕ) (d : ℤ) → m < 2 ^ 64 → n < 2 ^ 64 → FitsSigned w16 d → d ≡ pos m -ℤ pos n → plus n (pos 1 *ℤ d) ≡ m
to_exact n m d hm hn fits e = omega (arith, ints)

pub splits_same : (z hi lo hi2 lo2 : ℤ) → Splits z hi lo → Splits z hi2 lo2 → hi ≡ hi2
splits_same z hi lo hi2 lo2 a b = omega (arith, ints, a.sum, a.low, b.sum, b.low)

high_of : (w z : ℤ) → z +ℤ pos 32768 ≡ w → (hi lo : ℤ) → Splits z hi lo → int_div_euclid w (pos 65536) ≡ hi
high_of (pos a) z e hi lo s = omega (arith, ints, e, s.sum, s.low)
high_of (negsuc a) z e hi lo s = omega (arith, ints, e, s.sum, s.low)

-- the parts are one, and the high one is that of the distance
pub high_is : (z hi lo : ℤ) → Splits z hi lo → high_part z ≡ hi
high_is z hi lo s = high_of (z +ℤ pos 32768) z refl hi lo s

pub splits_plus : (gp base : ℕ) (hi lo : ℤ) → gp < 2 ^ 64 → Splits (pos gp -ℤ pos base) hi lo → plus (plus base (pos 65536 *ℤ hi)) (pos 1 *ℤ lo) ≡ gp
splits_plus gp base hi lo h s = omega (arith, ints, s.sum, s.low, s.high)

pub use_exact : (gp t : ℕ) (d disp : ℤ) → gp < 2 ^ 64 → t < 2 ^ 64 → FitsSigned w16 d → FitsSigned w16 disp → d ≡ (pos t -ℤ pos gp) +ℤ disp → plus gp d ≡ plus t disp
use_exact gp t d disp hg ht fd fdisp e = omega (arith, ints)

pub use_high : (gp t : ℕ) (z d disp : ℤ) → gp < 2 ^ 64 → t < 2 ^ 64 → FitsSigned w16 z → FitsSigned w16 d → FitsSigned w16 disp → d ≡ ((pos t -ℤ pos gp) -ℤ (pos 65536 *ℤ z)) +ℤ disp → plus (plus gp (pos 65536 *ℤ z)) d ≡ plus t disp
use_high gp t z d disp hg ht fz fd fdisp e = omega (arith, ints)

pub branch_exact : (a q : ℕ) (d : ℤ) → q < 2 ^ 63 → a < 2 ^ 63 → IsDisp d → pos (a + 4) +ℤ (pos 4 *ℤ d) ≡ pos q → displaced a d ≡ q
branch_exact a q d hq ha fits e = omega (arith, ints, fits.0, fits.1)

pub number_exact : (n : ℕ) (d : ℤ) → n < 2 ^ 64 → FitsSigned w16 d → n ≡ cast_unsigned w64 d → plus 0 (pos 1 *ℤ d) ≡ n
number_exact n d h fits e = omega (arith, ints)

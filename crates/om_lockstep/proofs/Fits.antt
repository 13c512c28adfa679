-- The results of operations are quadwords.
use Rattle.std.proofs.Common.{ℕ, zero, suc, ◌-◌, ◌*◌, ◌/◌, ◌%◌, ◌^◌, ◌<◌, ◌≤◌, Bool, true, false, cond, arith, bit_and}
use Rattle.std.specs.Prelude.{ℤ, pos, negsuc, nat_le, ◌==◌, FitsSigned}
use Rattle.std.specs.Int.{w8, w16, w64, cast_signed, bit_at, byte_at, int_shr}
use Rattle.std.proofs.lemmas.Nat.{and_le_l, or_lt, xor_lt}
use Rattle.std.proofs.lemmas.Int.{ints}
use Rattle.std.proofs.Math.Nat.{div-le_self, mul-le-mul_left}
use Rattle.std.proofs.Math.Pow.{pow_mono}
use Rattle.om_alpha.specs.declared.op.Width.{Width}
use Rattle.om_alpha.specs.declared.op.Width.TheVariants.{Long, Quad}
use Rattle.om_alpha.specs.declared.op.Wide.{Wide}
use Rattle.om_alpha.specs.declared.op.Wide.TheVariants as wide
use Rattle.om_alpha.specs.declared.op.AluOp.{AluOp}
use Rattle.om_alpha.specs.declared.op.AluOp.TheVariants.{Add, Sub, Mul, AddV, SubV, MulV, Umulh, Compare, Cmpbge, And, Bis, Xor, Bic, Ornot, Eqv, Sll, Srl, Sra, Zap, Zapnot, Sextb, Sextw, ExtLow, ExtHigh, InsLow, InsHigh, MskLow, MskHigh}
use Rattle.om_alpha.specs.Arithmetic.{alu_result, at_width, sign_extend, long, quad, bit_of, compare_is, wide_ones, byte_of, sum_below, bytes_where}

long_fits : (n : ℕ) → sign_extend (long n) < 2 ^ 64
long_fits n = omega (arith, ints)

byte_extended : (n : ℕ) → sign_extend (cast_signed w8 (n % 2 ^ 8)) < 2 ^ 64
byte_extended n = omega (arith, ints)

word_extended : (n : ℕ) → sign_extend (cast_signed w16 (n % 2 ^ 16)) < 2 ^ 64
word_extended n = omega (arith, ints)

shr_fits : (z : ℤ) (k : ℕ) → FitsSigned w64 z → sign_extend (int_shr z k) < 2 ^ 64
shr_fits (pos n) k h = let d = div-le_self n (2 ^ k) in omega (arith, ints)
shr_fits (negsuc n) k h = let d = div-le_self n (2 ^ k) in omega (arith, ints)

shifted_fits : (n k : ℕ) → n < 2 ^ 64 → sign_extend (int_shr (quad n) k) < 2 ^ 64
shifted_fits n k h = shr_fits (quad n) k (omega (arith, ints))

product_fits : (a b : ℕ) → a < 2 ^ 64 → b < 2 ^ 64 → a * b / 2 ^ 64 < 2 ^ 64
product_fits a b ha hb =
    let p : a * b ≤ a * (2 ^ 64 - 1) = mul-le-mul_left {m = b} {n = 2 ^ 64 - 1} a (omega arith) in
    omega (arith, p)

shift_fits : (a b : ℕ) → a < 2 ^ 64 → a / b < 2 ^ 64
shift_fits a b h = omega (arith, div-le_self a b)

raised_fits : (x b : ℕ) → x < 2 ^ 64 → x * 2 ^ (8 * (b % 8)) / 2 ^ 64 < 2 ^ 64
raised_fits x b h =
    let d : 8 * (b % 8) ≤ 56 = omega arith in
    let p : 2 ^ (8 * (b % 8)) ≤ 2 ^ 56 = pow_mono d in
    let q : x * 2 ^ (8 * (b % 8)) ≤ x * 2 ^ 56 = mul-le-mul_left {m = 2 ^ (8 * (b % 8))} {n = 2 ^ 56} x p in
    omega (arith, q)

wide_small : (w : Wide) → wide_ones w < 2 ^ 64
wide_small wide.Word = omega arith
wide_small wide.Long = omega arith
wide_small wide.Quad = omega arith

pub width_fits : (w : Width) (n : ℕ) → at_width w n < 2 ^ 64
width_fits Long n = long_fits n
width_fits Quad n = omega arith

and_fits : (a b : ℕ) → a < 2 ^ 64 → bit_and a b < 2 ^ 64
and_fits a b h = omega (arith, and_le_l a b)

bit_fits : (b : Bool) → bit_of b ≤ 1
bit_fits true = omega arith
bit_fits false = omega arith

bges : (f : ℕ → Bool) → sum_below (λ i. bit_of (f i) * 2 ^ i) 8 < 2 ^ 64
bges f = omega (arith, bit_fits (f 0), bit_fits (f 1), bit_fits (f 2), bit_fits (f 3), bit_fits (f 4), bit_fits (f 5), bit_fits (f 6), bit_fits (f 7))

byte_fits : (b : Bool) (i n : ℕ) → cond b (byte_at i n) 0 < 256
byte_fits true zero n = omega arith
byte_fits true (suc i) n = omega arith
byte_fits false i n = omega arith

zap_fits : (f : ℕ → Bool) (a : ℕ) → bytes_where f a < 2 ^ 64
zap_fits f a = omega (arith, byte_fits (f 0) 0 a, byte_fits (f 1) 1 a, byte_fits (f 2) 2 a, byte_fits (f 3) 3 a, byte_fits (f 4) 4 a, byte_fits (f 5) 5 a, byte_fits (f 6) 6 a, byte_fits (f 7) 7 a)

pub alu_fits : (op : AluOp) (a b : ℕ) → a < 2 ^ 64 → b < 2 ^ 64 → alu_result op a b < 2 ^ 64
alu_fits (Add s w) a b ha hb = width_fits w _
alu_fits (Sub s w) a b ha hb = width_fits w _
alu_fits (Mul w) a b ha hb = width_fits w _
alu_fits (AddV w) a b ha hb = width_fits w _
alu_fits (SubV w) a b ha hb = width_fits w _
alu_fits (MulV w) a b ha hb = width_fits w _
alu_fits Umulh a b ha hb = product_fits a b ha hb
alu_fits (Compare c) a b ha hb = omega (arith, bit_fits (compare_is c a b))
alu_fits Cmpbge a b ha hb = bges (λ i. nat_le (byte_of b i) (byte_of a i))
alu_fits And a b ha hb = and_fits a b ha
alu_fits Bis a b ha hb = or_lt 64 a b ha hb
alu_fits Xor a b ha hb = xor_lt 64 a b ha hb
alu_fits Bic a b ha hb = and_fits a _ ha
alu_fits Ornot a b ha hb = or_lt 64 a _ ha (omega arith)
alu_fits Eqv a b ha hb = xor_lt 64 a _ ha (omega arith)
alu_fits Sll a b ha hb = omega arith
alu_fits Srl a b ha hb = shift_fits a _ ha
alu_fits Sra a b ha hb = shifted_fits a _ ha
alu_fits Zap a b ha hb = zap_fits (λ i. bit_at b i == 0) a
alu_fits Zapnot a b ha hb = zap_fits (λ i. bit_at b i == 1) a
alu_fits Sextb a b ha hb = byte_extended b
alu_fits Sextw a b ha hb = word_extended b
alu_fits (ExtLow s) a b ha hb = and_fits _ _ (shift_fits a _ ha)
alu_fits (ExtHigh s) a b ha hb = and_fits _ _ (omega arith)
alu_fits (InsLow s) a b ha hb = omega arith
alu_fits (InsHigh s) a b ha hb = let k : bit_and a (wide_ones s) < 2 ^ 64 = omega (arith, and_le_l a (wide_ones s)) in raised_fits _ b k
alu_fits (MskLow s) a b ha hb = and_fits a _ ha
alu_fits (MskHigh s) a b ha hb = and_fits a _ ha

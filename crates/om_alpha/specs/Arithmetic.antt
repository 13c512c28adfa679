-- What the operations compute, over numbers below 2 ^ 64 (Alpha Architecture Handbook, chapter 4, whose
-- section names stand beside the families).
use Rattle.std.specs.Prelude.{ℕ, zero, suc, ◌+◌, ◌-◌, ◌*◌, ◌/◌, ◌%◌, ◌^◌, ℤ, pos, ◌+ℤ◌, ◌-ℤ◌, ◌*ℤ◌, Bool, false, not, ◌||◌, ◌==◌, nat_lt, nat_le, int_lt, int_le, if◌then◌else◌, bit_and, bit_or, bit_xor, negsuc}
use Rattle.std.specs.Int.{w8, w16, w32, w64, cast_signed, cast_unsigned, bit_not, bit_at, byte_at, byte_worth, sum_through, int_shr}
use Rattle.om_alpha.specs.declared.op.Width.{Width}
use Rattle.om_alpha.specs.declared.op.Width.TheVariants.{Long, Quad}
use Rattle.om_alpha.specs.declared.op.Scale.{Scale}
use Rattle.om_alpha.specs.declared.op.Scale.TheVariants.{One, Four, Eight}
use Rattle.om_alpha.specs.declared.op.Cmp.{Cmp}
use Rattle.om_alpha.specs.declared.op.Cmp.TheVariants as cmp
use Rattle.om_alpha.specs.declared.op.Size.{Size}
use Rattle.om_alpha.specs.declared.op.Size.TheVariants as size
use Rattle.om_alpha.specs.declared.op.Wide.{Wide}
use Rattle.om_alpha.specs.declared.op.Wide.TheVariants as wide
use Rattle.om_alpha.specs.declared.op.AluOp.{AluOp}
use Rattle.om_alpha.specs.declared.op.AluOp.TheVariants.{Add, Sub, Mul, AddV, SubV, MulV, Umulh, Compare, Cmpbge, And, Bis, Xor, Bic, Ornot, Eqv, Sll, Srl, Sra, Zap, Zapnot, Sextb, Sextw, ExtLow, ExtHigh, InsLow, InsHigh, MskLow, MskHigh}
use Rattle.om_alpha.specs.declared.op.Cond.{Cond}
use Rattle.om_alpha.specs.declared.op.Cond.TheVariants as cond

-- a quadword, and the low longword of one, as a signed number
abbrev pub quad : ℕ → ℤ
quad n = cast_signed w64 n

abbrev pub long : ℕ → ℤ
long n = cast_signed w32 (n % 2 ^ 32)

-- a signed number as a quadword
abbrev pub sign_extend : ℤ → ℕ
sign_extend z = cast_unsigned w64 z

-- a longword result is the low 32 bits, with the sign
abbrev pub at_width : Width → ℕ → ℕ
at_width Long n = sign_extend (long n)
at_width Quad n = n % 2 ^ 64

abbrev pub times : Scale → ℕ
times One = 1
times Four = 4
times Eight = 8

-- 0 - n modulo 2 ^ 64
abbrev pub negated : ℕ → ℕ
negated n = 2 ^ 64 - n

abbrev pub bit_of : Bool → ℕ
bit_of b = if b then 1 else 0

abbrev pub compare_is : Cmp → ℕ → ℕ → Bool
compare_is cmp.Eq a b = a == b
compare_is cmp.Lt a b = int_lt (quad a) (quad b)
compare_is cmp.Le a b = int_le (quad a) (quad b)
compare_is cmp.Ult a b = nat_lt a b
compare_is cmp.Ule a b = nat_le a b

-- as many ones as the size has bits
abbrev pub size_ones : Size → ℕ
size_ones size.Byte = 2 ^ 8 - 1
size_ones size.Word = 2 ^ 16 - 1
size_ones size.Long = 2 ^ 32 - 1
size_ones size.Quad = 2 ^ 64 - 1

abbrev pub wide_ones : Wide → ℕ
wide_ones wide.Word = 2 ^ 16 - 1
wide_ones wide.Long = 2 ^ 32 - 1
wide_ones wide.Quad = 2 ^ 64 - 1

-- n, b modulo 8 bytes further up, in 128 bits
abbrev pub bytes_up : ℕ → ℕ → ℕ
bytes_up n b = n * 2 ^ (8 * (b % 8))

-- the low and the high quadword of 128 bits
abbrev pub low_quad : ℕ → ℕ
low_quad n = n % 2 ^ 64

abbrev pub high_quad : ℕ → ℕ
high_quad n = n / 2 ^ 64

-- a without the bits of m
abbrev pub without : ℕ → ℕ → ℕ
without a m = bit_and a (bit_not w64 m)

-- the sum of f i for each i below n
abbrev pub sum_below : (ℕ → ℕ) → ℕ → ℕ
sum_below f zero = 0
sum_below f (suc n) = sum_below f n + f n

-- byte i of n
abbrev pub byte_of : ℕ → ℕ → ℕ
byte_of n i = n / 2 ^ (8 * i) % 256

-- a with byte i cleared where the test says no
abbrev pub bytes_where : (ℕ → Bool) → ℕ → ℕ
bytes_where keeps a = sum_through (λ i. byte_worth i (if keeps i then byte_at i a else 0)) 7

-- the result of an operation: one equation a row of the handbook, family by family
abbrev pub alu_result : AluOp → ℕ → ℕ → ℕ
-- "Integer Arithmetic Instructions"
alu_result (Add s w) a b = at_width w (times s * a + b)
alu_result (Sub s w) a b = at_width w (times s * a + negated b)
alu_result (Mul w) a b = at_width w (a * b)
alu_result (AddV w) a b = at_width w (a + b)
alu_result (SubV w) a b = at_width w (a + negated b)
alu_result (MulV w) a b = at_width w (a * b)
alu_result Umulh a b = high_quad (a * b)
alu_result (Compare c) a b = bit_of (compare_is c a b)
-- "Byte-Manipulation Instructions": compare byte
alu_result Cmpbge a b = sum_below (λ i. bit_of (nat_le (byte_of b i) (byte_of a i)) * 2 ^ i) 8
-- "Logical and Shift Instructions"
alu_result And a b = bit_and a b
alu_result Bis a b = bit_or a b
alu_result Xor a b = bit_xor a b
alu_result Bic a b = bit_and a (bit_not w64 b)
alu_result Ornot a b = bit_or a (bit_not w64 b)
alu_result Eqv a b = bit_xor a (bit_not w64 b)
alu_result Sll a b = low_quad (a * 2 ^ (b % 64))
alu_result Srl a b = a / 2 ^ (b % 64)
alu_result Sra a b = sign_extend (int_shr (quad a) (b % 64))
-- "Byte-Manipulation Instructions": zap, sign extension, and data across quadwords
alu_result Zap a b = bytes_where (λ i. bit_at b i == 0) a
alu_result Zapnot a b = bytes_where (λ i. bit_at b i == 1) a
alu_result Sextb a b = sign_extend (cast_signed w8 (b % 2 ^ 8))
alu_result Sextw a b = sign_extend (cast_signed w16 (b % 2 ^ 16))
alu_result (ExtLow s) a b = bit_and (a / 2 ^ (8 * (b % 8))) (size_ones s)
alu_result (ExtHigh s) a b = bit_and (low_quad (a * 2 ^ ((64 - 8 * (b % 8)) % 64))) (wide_ones s)
alu_result (InsLow s) a b = low_quad (bytes_up (bit_and a (size_ones s)) b)
alu_result (InsHigh s) a b = high_quad (bytes_up (bit_and a (wide_ones s)) b)
alu_result (MskLow s) a b = without a (low_quad (bytes_up (size_ones s) b))
alu_result (MskHigh s) a b = without a (high_quad (bytes_up (wide_ones s) b))

-- z is no signed number of the width
abbrev pub is_too_large : Width → ℤ → Bool
is_too_large Long z = int_lt z (negsuc (2 ^ 31 - 1)) || int_lt (pos (2 ^ 31 - 1)) z
is_too_large Quad z = int_lt z (negsuc (2 ^ 63 - 1)) || int_lt (pos (2 ^ 63 - 1)) z

abbrev pub signed : Width → ℕ → ℤ
signed Long n = long n
signed Quad n = quad n

-- a /V operation's exact result does not fit ("Integer Arithmetic Instructions", the /V qualifier)
abbrev pub overflows : AluOp → ℕ → ℕ → Bool
overflows (AddV w) a b = is_too_large w (signed w a +ℤ signed w b)
overflows (SubV w) a b = is_too_large w (signed w a -ℤ signed w b)
overflows (MulV w) a b = is_too_large w (signed w a *ℤ signed w b)
overflows _ a b = false

-- the test on a signed number ("Control Instructions", conditional branch)
abbrev pub holds : Cond → ℕ → Bool
holds cond.Lbc a = a % 2 == 0
holds cond.Lbs a = a % 2 == 1
holds cond.Eq a = a == 0
holds cond.Ne a = not (a == 0)
holds cond.Lt a = int_lt (quad a) (pos 0)
holds cond.Ge a = int_le (pos 0) (quad a)
holds cond.Le a = int_le (quad a) (pos 0)
holds cond.Gt a = int_lt (pos 0) (quad a)

-- Operations on symbolic values. On two numbers they are those of the Alpha Architecture Handbook, chapter 4. On
-- other values they have a value by one of the rules below, which are this project's own: each gives what the
-- handbook's operation gives at every address that the operands may have, where regions start at multiples of
-- 16 at or above 0x10000, do not overlap and end below 2 ^ 63. Where no rule has a value, neither has the
-- operation: its result would show an address.
use Rattle.std.specs.Prelude.{ℕ, ◌%◌, Bool, true, false, not, ◌&&◌, ◌||◌, ◌==◌, nat_lt, nat_le, if◌then◌else◌, bit_and, ℤ, Option, Some, None}
use Rattle.std.specs.Option.{option_or}
use Rattle.std.specs.Int.{w64, cast_unsigned, bit_not}
use Rattle.om_alpha.specs.declared.op.Width.TheVariants.{Quad}
use Rattle.om_alpha.specs.declared.op.Scale.TheVariants.{One}
use Rattle.om_alpha.specs.declared.op.Cmp.{Cmp}
use Rattle.om_alpha.specs.declared.op.Cmp.TheVariants as cmp
use Rattle.om_alpha.specs.declared.op.AluOp.{AluOp}
use Rattle.om_alpha.specs.declared.op.AluOp.TheVariants.{Add, Sub, And, Bis, Xor, Bic, Compare, Sextb, Sextw, ExtLow, ExtHigh, InsLow, InsHigh, MskLow, MskHigh}
use Rattle.om_alpha.specs.declared.op.Cond.{Cond}
use Rattle.om_alpha.specs.declared.op.Cond.TheVariants as cond
use Rattle.om_alpha.specs.Arithmetic.{alu_result, holds, bit_of}
use Rattle.om_value.specs.declared.value.Region.{Region}
use Rattle.om_value.specs.declared.value.Target.{Target}
use Rattle.om_value.specs.declared.value.Target.TheVariants as target
use Rattle.om_value.specs.declared.value.Value.{Value}
use Rattle.om_value.specs.declared.value.Value.TheVariants.{Num, Ptr, Code, Gp, GpOff}
use Rattle.om_value.specs.Same.{place_eq, region_eq, value_eq}

abbrev pub when : {A : Type 0} → Bool → A → Option A
when b x = if b then Some x else None

abbrev pub value_of : Target → Value
value_of (target.Num n) = Num n
value_of (target.Ptr r x) = Ptr r x
value_of (target.Code p) = Code p

-- operations by what a rule asks of them: ADDQ, SUBQ, any of ADDQ, S4ADDQ and S8ADDQ
abbrev pub is_add : AluOp → Bool
is_add (Add One Quad) = true
is_add _ = false

abbrev pub is_subtract : AluOp → Bool
is_subtract (Sub One Quad) = true
is_subtract _ = false

abbrev pub is_scaled_add : AluOp → Bool
is_scaled_add (Add s Quad) = true
is_scaled_add _ = false

abbrev pub is_and : AluOp → Bool
is_and And = true
is_and _ = false

abbrev pub is_clear : AluOp → Bool
is_clear Bic = true
is_clear _ = false

abbrev pub is_or : AluOp → Bool
is_or Bis = true
is_or _ = false

abbrev pub is_xor : AluOp → Bool
is_xor Xor = true
is_xor _ = false

abbrev pub is_sign_extension : AluOp → Bool
is_sign_extension Sextb = true
is_sign_extension Sextw = true
is_sign_extension _ = false

-- EXTxx, INSxx, MSKxx
abbrev pub is_byte_operation : AluOp → Bool
is_byte_operation (ExtLow s) = true
is_byte_operation (ExtHigh s) = true
is_byte_operation (InsLow s) = true
is_byte_operation (InsHigh s) = true
is_byte_operation (MskLow s) = true
is_byte_operation (MskHigh s) = true
is_byte_operation _ = false

abbrev pub comparison : AluOp → Option Cmp
comparison (Compare c) = Some c
comparison _ = None

abbrev pub is_equal : Cmp → Bool
is_equal cmp.Eq = true
is_equal _ = false

-- numbers: the handbook's table; a sign extension looks at the second operand alone
unfoldable pub on_numbers : AluOp → Value → Value → Option Value
on_numbers op (Num m) (Num n) = Some (Num (alu_result op m n))
on_numbers op a (Num n) = when (is_sign_extension op) (Num (alu_result op 0 n))
on_numbers op a b = None

-- rule 1. A pointer and a number: the offset changes, modulo 2 ^ 64. ADDQ either way, SUBQ with the number
-- second, S4ADDQ and S8ADDQ with the number first.
unfoldable pub moves_pointer : AluOp → Value → Value → Option Value
moves_pointer op (Ptr r x) (Num n) = when (is_add op || is_subtract op) (Ptr r (alu_result op x n))
moves_pointer op (Num n) (Ptr r x) = when (is_scaled_add op) (Ptr r (alu_result op n x))
moves_pointer op a b = None

-- rule 2. Any value with 0 (ADDQ, BIS, XOR either way, SUBQ with 0 second), and a value with itself (BIS, AND):
-- that value.
unfoldable pub keeps_value : AluOp → Value → Value → Option Value
keeps_value op a (Num n) = when ((is_add op || is_or op || is_xor op || is_subtract op) && (n == 0)) a
keeps_value op (Num n) b = when ((is_add op || is_or op || is_xor op) && (n == 0)) b
keeps_value op a b = when ((is_or op || is_and op) && value_eq a b) a

-- rule 3. SUBQ of two pointers into one region: the difference of the offsets.
unfoldable pub distance : AluOp → Value → Value → Option Value
distance op (Ptr r x) (Ptr s y) = when (is_subtract op && region_eq r s) (Num (alu_result op x y))
distance op a b = None

-- rule 4. Comparisons of pointers and of places in code. Two offsets of one region compare as plain numbers, in
-- the signed comparisons too, since no region reaches 2 ^ 63.
abbrev pub compares_offsets : Cmp → ℕ → ℕ → Bool
compares_offsets cmp.Eq x y = x == y
compares_offsets cmp.Lt x y = nat_lt x y
compares_offsets cmp.Le x y = nat_le x y
compares_offsets cmp.Ult x y = nat_lt x y
compares_offsets cmp.Ule x y = nat_le x y

-- pointers at x of a region of size y and at v of one of size z: in one region CMPEQ always, the others where
-- both are inside or at the end; in two regions only CMPEQ, where both are inside, and they differ
unfoldable pub compares_pointers : Cmp → Region → ℕ → ℕ → Region → ℕ → ℕ → Option Value
compares_pointers c r x y s v z =
    if region_eq r s
    then when (is_equal c || (nat_le x y && nat_le v z)) (Num (bit_of (compares_offsets c x v)))
    else when (is_equal c && nat_lt x y && nat_lt v z) (Num 0)

unfoldable pub compares : Option Cmp → Value → ℕ → Value → ℕ → Option Value
compares (Some c) (Ptr r x) size_a (Ptr s y) size_b = compares_pointers c r x size_a s y size_b
compares (Some c) (Code p) size_a (Code q) size_b = when (is_equal c && place_eq p q) (Num 1)
compares c a size_a b size_b = None

-- a place in code, or a pointer into its region or to its end
abbrev pub is_inside : Value → ℕ → Bool
is_inside (Ptr r x) size = nat_le x size
is_inside (Code p) size = true
is_inside _ size = false

-- rule 5. Any comparison with a number below 0x10000, where nothing is mapped: the number is the lesser.
abbrev pub is_small : ℕ → Bool
is_small n = nat_lt n 0x10000

unfoldable pub above_small : Option Cmp → Value → ℕ → Value → ℕ → Option Value
above_small (Some c) (Num n) size_a b size_b =
    when (is_small n && is_inside b size_b) (Num (bit_of (not (is_equal c))))
above_small (Some c) a size_a (Num n) size_b = when (is_small n && is_inside a size_a) (Num 0)
above_small c a size_a b size_b = None

-- rule 6 is that of conditions, below

-- rule 7. AND of a pointer and a number below 16, either way: that of the offset, for a region starts at a
-- multiple of 16. BIC of a pointer by a number below 16: the pointer, with the offset so changed.
unfoldable pub low_bits : AluOp → Value → Value → Option Value
low_bits op (Ptr r x) (Num n) =
    option_or
    (when (is_and op && nat_lt n 16) (Num (bit_and x n)))
    (when (is_clear op && nat_lt n 16) (Ptr r (bit_and x (bit_not w64 n))))
low_bits op (Num n) (Ptr r x) = when (is_and op && nat_lt n 16) (Num (bit_and n x))
low_bits op a b = None

-- rule 8. EXT, INS and MSK of a number by a pointer: by the low three bits, which are the offset's.
unfoldable pub named_bytes : AluOp → Value → Value → Option Value
named_bytes op (Num n) (Ptr r x) = when (is_byte_operation op) (Num (alu_result op n x))
named_bytes op a b = None

-- rule 9. ADDQ of an object's global pointer and a target's distance from it, either way: the target.
unfoldable pub from_gp : AluOp → Value → Value → Option Value
from_gp op (Gp o) (GpOff p t) = when (is_add op && (o == p)) (value_of t)
from_gp op (GpOff p t) (Gp o) = when (is_add op && (o == p)) (value_of t)
from_gp op a b = None

-- an operation on two values, which point into regions of these sizes where they are pointers
unfoldable pub lifted : AluOp → Value → ℕ → Value → ℕ → Option Value
lifted op a size_a b size_b =
    option_or (on_numbers op a b) (option_or (moves_pointer op a b) (option_or (keeps_value op a b)
    (option_or (distance op a b) (option_or (compares (comparison op) a size_a b size_b)
    (option_or (above_small (comparison op) a size_a b size_b) (option_or (low_bits op a b)
    (option_or (named_bytes op a b) (from_gp op a b))))))))

-- a value and a displacement: as ADDQ, so that only rules 1 and 2 can speak
unfoldable pub lifted_add : Value → ℤ → Option Value
lifted_add a z = lifted (Add One Quad) a 0 (Num (cast_unsigned w64 z)) 0

-- rule 6. A condition on a place in code, or on a pointer into its region or to its end: it is positive, its low
-- bit is 0, or the offset's.
abbrev pub low_bit : Value → ℕ
low_bit (Ptr r x) = x % 2
low_bit _ = 0

abbrev pub holds_above : Cond → ℕ → Bool
holds_above cond.Lbc low = low == 0
holds_above cond.Lbs low = low == 1
holds_above c low = holds c 1

unfoldable pub lifted_condition : Cond → Value → ℕ → Option Bool
lifted_condition c (Num n) size = Some (holds c n)
lifted_condition c a size = when (is_inside a size) (holds_above c (low_bit a))

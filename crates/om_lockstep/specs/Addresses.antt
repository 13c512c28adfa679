-- Where regions, places, tables and halves are, and the number that a symbolic value is there.
use Rattle.std.specs.Prelude.{◌≡◌, ◌⊎◌, false, ℕ, ◌+◌, ◌-◌, ◌%◌, ◌^◌, ◌<◌, ◌≤◌, Option, Some}
use Rattle.om_alpha.specs.declared.op.AluOp.{AluOp}
use Rattle.om_alpha.specs.declared.op.Width.TheVariants as width
use Rattle.om_alpha.specs.Arithmetic.{alu_result, at_width, overflows}
use Rattle.om_value.specs.declared.value.Place.{Place}
use Rattle.om_value.specs.declared.value.Region.{Region}
use Rattle.om_value.specs.declared.value.Target.{Target}
use Rattle.om_value.specs.declared.value.Target.TheVariants as target
use Rattle.om_value.specs.declared.value.Value.{Value}
use Rattle.om_value.specs.declared.value.Value.TheVariants.{Num, Ptr, Code, Gp, Half, GpOff}
use Rattle.om_prog.specs.Cells.{Cell, Byte, Part}

pub record Addresses : Type 0 where
  pub region : Region → ℕ
  -- of the next kept word at a place or after it
  pub code : Place → ℕ
  -- by table
  pub gp : ℕ → ℕ
  -- what a first half at a place gives
  pub half : Place → ℕ

abbrev pub ptr_number : Addresses → Region → ℕ → ℕ
ptr_number l r x = (l.region r + x) % 2 ^ 64

abbrev pub target_number : Addresses → Target → ℕ
target_number l (target.Num n) = n
target_number l (target.Ptr r x) = ptr_number l r x
target_number l (target.Code p) = l.code p

abbrev pub number_of_value : Addresses → Value → ℕ
number_of_value l (Num n) = n
number_of_value l (Ptr r x) = ptr_number l r x
number_of_value l (Code p) = l.code p
number_of_value l (Gp t) = l.gp t
number_of_value l (Half p) = l.half p
number_of_value l (GpOff t g) = (target_number l g + (2 ^ 64 - l.gp t)) % 2 ^ 64

-- ---- what symbolic values hold

abbrev pub IsTarget : Target → Type 0
IsTarget (target.Num n) = n < 2 ^ 64
IsTarget (target.Ptr r x) = x < 2 ^ 64
IsTarget (target.Code p) = Unit {0}

abbrev pub IsValue : Value → Type 0
IsValue (Num n) = n < 2 ^ 64
IsValue (Ptr r x) = x < 2 ^ 64
IsValue (GpOff t g) = IsTarget g
IsValue _ = Unit {0}

-- what LDL gives of a number is the number
abbrev pub IsLong : ℕ → Type 0
IsLong n = at_width width.Long (n % 2 ^ 32) ≡ n

-- a value stands in eight fragments, or in four, and then LDL gives it back
abbrev pub FitsIn : Addresses → ℕ → Value → Type 0
FitsIn l n v = (n ≡ 8) ⊎ ((n ≡ 4) × IsLong (number_of_value l v))

abbrev pub IsCell : Addresses → Cell → Type 0
IsCell l (Byte b) = b < 256
IsCell l (Part v i n) = IsValue v × FitsIn l n v

-- ---- the facts of a layout, over the largest sizes that regions have

pub record IsLaidOut (l : Addresses) (most : Region → ℕ) : Type 0 where
  pub aligned : (r : Region) → l.region r % 16 ≡ 0
  pub above : (r : Region) → 0x10000 ≤ l.region r
  pub below : (r : Region) → l.region r + most r < 2 ^ 63
  pub apart : (r s : Region) (x y : ℕ) → x < most r → y < most s → l.region r + x ≡ l.region s + y → r ≡ s
  pub code_aligned : (p : Place) → l.code p % 4 ≡ 0
  pub code_above : (p : Place) → 0x10000 ≤ l.code p
  pub code_below : (p : Place) → l.code p < 2 ^ 63
  pub gp : (t : ℕ) → l.gp t < 2 ^ 63
  pub half : (p : Place) → l.half p < 2 ^ 64

-- ---- what an operation on values means in numbers

abbrev pub RuleIsSound : Addresses → (AluOp → Value → Value → Option Value) → Type 0
RuleIsSound l rule =
    (op : AluOp) (a b v : Value) → IsValue a → IsValue b → rule op a b ≡ Some v
    → alu_result op (number_of_value l a) (number_of_value l b) ≡ number_of_value l v

-- the result of the numbers is the number of the result, with no overflow
pub record Computes (l : Addresses) (op : AluOp) (a b v : Value) : Type 0 where
  pub value : IsValue v
  pub number : alu_result op (number_of_value l a) (number_of_value l b) ≡ number_of_value l v
  pub fits : overflows op (number_of_value l a) (number_of_value l b) ≡ false

-- a size that lift is given is that of the region that the value points into
abbrev pub IsSizeOf : (Region → ℕ) → Value → ℕ → Type 0
IsSizeOf size (Ptr r x) n = n ≡ size r
IsSizeOf size _ n = Unit {0}

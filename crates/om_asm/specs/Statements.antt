-- The statements of a text: what they are made of, as it is spelled, and their bytes.
use Rattle.std.specs.Prelude.{ℕ, ◌==◌, ℤ, pos, negsuc, Bool, true, false, not, ◌&&◌, nat_lt, nat_le, if◌then◌else◌, List, [], ◌∷◌, ◌++◌, codes, Option, Some, None}
use Rattle.std.specs.List.{list_any}
use Rattle.om_alpha.specs.declared.op.AluOp.{AluOp}
use Rattle.om_alpha.specs.declared.op.AluOp.TheVariants.{Sextb, Sextw}
use Rattle.om_isa.specs.declared.instr.Instr.{Instr}
use Rattle.om_isa.specs.declared.instr.Instr.TheVariants.{Mem, Jump, Branch, Alu, Cmov, Misc}
use Rattle.om_isa.specs.declared.instr.BrOp.{BrOp}
use Rattle.om_isa.specs.declared.instr.JumpOp.{JumpOp}
use Rattle.om_isa.specs.declared.instr.JumpOp.TheVariants.{Ret}
use Rattle.om_isa.specs.declared.instr.Opnd.{Opnd}
use Rattle.om_isa.specs.declared.instr.Opnd.TheVariants.{R, Lit as Literal}
use Rattle.om_listing.specs.Names.{memory_name, branch_name, move_name}
use Rattle.om_listing.specs.Texts.{register_text, based_text, first_text, operate_start, instr_text}
use Rattle.om_asm.specs.Numerals.{Numeral, magnitude, value_of, signed, numeral_text, is_numeral, is_sized, is_plain}
use Rattle.om_asm.specs.Names.{Name, is_name}

-- ---- expressions: a number; a name; a name with a number behind `+` or `-`

pub data Expr : Type 0 where
  Number : (n : Numeral) → Expr
  Named : (name : Name) → Expr
  Beyond : (name : Name) (minus : Bool) (n : Numeral) → Expr

abbrev pub expr_text : Expr → List ℕ
expr_text (Number n) = numeral_text n
expr_text (Named name) = name
expr_text (Beyond name minus n) = name ++ codes (if minus then "-" else "+") ++ numeral_text n

abbrev pub is_expr : Expr → Bool
is_expr (Number n) = is_numeral n
is_expr (Named name) = is_name name
is_expr (Beyond name minus n) = is_name name && (is_numeral n && not n.minus)

abbrev pub expr_name : Expr → Option Name
expr_name (Number n) = None
expr_name (Named name) = Some name
expr_name (Beyond name minus n) = Some name

-- the number, or the one that is added to the name
abbrev pub expr_number : Expr → ℤ
expr_number (Number n) = value_of n
expr_number (Named name) = pos 0
expr_number (Beyond name minus n) = signed minus (magnitude n)

-- ---- statements

pub data Statement : Type 0 where
  Section : (number : ℕ) → Statement
  Globl : (name : Name) → Statement
  Comm : (name : Name) (n : Numeral) → Statement
  Byte : (n : Numeral) → Statement
  Long : (n : Numeral) → Statement
  Zero : (n : Numeral) → Statement
  Quad : (e : Expr) → Statement
  Gprel : (e : Expr) → Statement
  Lit : (r : ℕ) (e : Expr) → Statement
  Pair : (r : ℕ) (base : Option Name) → Statement
  -- an instruction
  Does : (i : Instr) → Statement
  -- an instruction with this number in place of its displacement or literal, which does not fit
  Unfit : (i : Instr) (n : Numeral) → Statement
  -- a branch to a name
  Goes : (op : BrOp) (ra : ℕ) (name : Name) → Statement

-- the loaded sections other than `.lita`, by their numbers
abbrev pub section_names : List (ℕ × List ℕ)
section_names =
    (1, codes ".text") ∷ (2, codes ".rdata") ∷ (3, codes ".data") ∷ (4, codes ".sdata") ∷ (5, codes ".sbss") ∷ (6, codes ".bss")
    ∷ (8, codes ".lit8") ∷ (9, codes ".lit4") ∷ (15, codes ".rconst") ∷ []

abbrev pub section_text_in : List (ℕ × List ℕ) → ℕ → List ℕ
section_text_in [] n = []
section_text_in (x ∷ xs) n = if x.0 == n then x.1 else section_text_in xs n

abbrev pub section_text : ℕ → List ℕ
section_text n = section_text_in section_names n

abbrev pub pair_base_text : Option Name → List ℕ
pair_base_text None = []
pair_base_text (Some name) = codes "," ++ name

-- the last two operands of an operate instruction with a literal that is spelled so
abbrev pub literal_text : List ℕ → ℕ → List ℕ
literal_text number rc = codes "#" ++ number ++ codes "," ++ register_text rc

-- the text of an instruction with this text in place of its displacement or literal
abbrev pub text_with : Instr → List ℕ → List ℕ
text_with (Mem op ra rb disp) number = first_text (memory_name op) ra ++ (number ++ based_text rb)
text_with (Branch op ra disp) number = first_text (branch_name op) ra ++ number
text_with (Alu op ra rb rc) number = operate_start op ra ++ literal_text number rc
text_with (Cmov cond ra rb rc) number = first_text (move_name cond) ra ++ literal_text number rc
text_with _ number = []

abbrev pub statement_text : Statement → List ℕ
statement_text (Section n) = codes ".section " ++ section_text n
statement_text (Globl name) = codes ".globl " ++ name
statement_text (Comm name n) = codes ".comm " ++ name ++ codes "," ++ numeral_text n
statement_text (Byte n) = codes ".byte " ++ numeral_text n
statement_text (Long n) = codes ".long " ++ numeral_text n
statement_text (Zero n) = codes ".zero " ++ numeral_text n
statement_text (Quad e) = codes ".quad " ++ expr_text e
statement_text (Gprel e) = codes ".gprel " ++ expr_text e
statement_text (Lit r e) = first_text (codes "lit") r ++ expr_text e
statement_text (Pair r base) = codes "pair " ++ register_text r ++ pair_base_text base
statement_text (Does i) = instr_text i
statement_text (Unfit i n) = text_with i (numeral_text n)
statement_text (Goes op ra name) = first_text (branch_name op) ra ++ name

-- ---- which statements there are

-- fields that a text does not show have these numbers
abbrev pub jump_hint : JumpOp → ℕ
jump_hint Ret = 1
jump_hint _ = 0

abbrev pub has_register : Opnd → Bool
has_register (R r) = nat_lt r 32
has_register (Literal n) = true

abbrev pub hidden_ra : AluOp → ℕ → Bool
hidden_ra Sextb ra = ra == 31
hidden_ra Sextw ra = ra == 31
hidden_ra _ ra = nat_lt ra 32

-- registers are in range, and what is not shown is usual
abbrev pub is_spelled : Instr → Bool
is_spelled (Mem op ra rb disp) = nat_lt ra 32 && nat_lt rb 32
is_spelled (Jump kind ra rb hint) = nat_lt ra 32 && (nat_lt rb 32 && (hint == jump_hint kind))
is_spelled (Branch op ra disp) = nat_lt ra 32
is_spelled (Alu op ra rb rc) = hidden_ra op ra && (has_register rb && nat_lt rc 32)
is_spelled (Cmov cond ra rb rc) = nat_lt ra 32 && (has_register rb && nat_lt rc 32)
is_spelled (Misc op ra rb) = (ra == 0) && (rb == 0)
is_spelled _ = true

-- an integer is -low to high
abbrev pub is_between : ℕ → ℕ → ℤ → Bool
is_between low high (pos n) = nat_le n high
is_between low high (negsuc n) = nat_lt n low

abbrev pub operand_fits : Opnd → Bool
operand_fits (R r) = true
operand_fits (Literal n) = nat_lt n 256

-- the displacement or literal is in its field: 16 bits, 21 bits, or 8 bits without a sign
abbrev pub fits : Instr → Bool
fits (Mem op ra rb disp) = is_between 32768 32767 disp
fits (Branch op ra disp) = is_between 1048576 1048575 disp
fits (Alu op ra rb rc) = operand_fits rb
fits (Cmov cond ra rb rc) = operand_fits rb
fits _ = true

-- a number with this sign and size, in that place, is in the field
abbrev pub fits_with : Instr → Bool → ℕ → Bool
fits_with (Mem op ra rb disp) minus size = is_sized 32768 32767 minus size
fits_with (Branch op ra disp) minus size = is_sized 1048576 1048575 minus size
fits_with (Alu op ra rb rc) minus size = is_sized 0 255 minus size
fits_with (Cmov cond ra rb rc) minus size = is_sized 0 255 minus size
fits_with _ minus size = true

abbrev pub is_zero : ℤ → Bool
is_zero (pos n) = n == 0
is_zero (negsuc n) = false

abbrev pub is_zero_literal : Opnd → Bool
is_zero_literal (R r) = false
is_zero_literal (Literal n) = n == 0

-- it has a displacement or a literal, which is 0
abbrev pub has_zero : Instr → Bool
has_zero (Mem op ra rb disp) = is_zero disp
has_zero (Branch op ra disp) = is_zero disp
has_zero (Alu op ra rb rc) = is_zero_literal rb
has_zero (Cmov cond ra rb rc) = is_zero_literal rb
has_zero _ = false

abbrev pub is_pair_base : Option Name → Bool
is_pair_base None = true
is_pair_base (Some name) = is_name name

abbrev pub is_statement : Statement → Bool
is_statement (Section n) = list_any (λ x. x.0 == n) section_names
is_statement (Globl name) = is_name name
is_statement (Comm name n) = is_name name && is_numeral n
is_statement (Byte n) = is_numeral n
is_statement (Long n) = is_numeral n
is_statement (Zero n) = is_numeral n
is_statement (Quad e) = is_expr e
is_statement (Gprel (Number n)) = false
is_statement (Gprel e) = is_expr e
is_statement (Lit r e) = nat_lt r 32 && is_expr e
is_statement (Pair r base) = nat_lt r 32 && is_pair_base base
is_statement (Does i) = is_spelled i && fits i
is_statement (Unfit i n) = is_spelled i && (has_zero i && (is_plain n && not (fits_with i n.minus (magnitude n))))
is_statement (Goes op ra name) = nat_lt ra 32 && is_name name

-- Worked rows of texts.
use Rattle.std.specs.Prelude.{◌≡◌, ℕ, pos, negsuc, true, false, List, [], ◌∷◌, ◌++◌, codes, map, replicate, Option, Some, None, refl}
use Rattle.std.specs.Fmt.{digits}
use Rattle.om_alpha.specs.declared.op.AluOp.TheVariants.{Add, AddV, Sextb}
use Rattle.om_alpha.specs.declared.op.Scale.TheVariants.{One}
use Rattle.om_alpha.specs.declared.op.Width.TheVariants.{Quad}
use Rattle.om_alpha.specs.declared.op.Cond.TheVariants as cond
use Rattle.om_isa.specs.declared.instr.Instr.TheVariants as instr
use Rattle.om_isa.specs.declared.instr.MemOp.TheVariants.{Lda, Ldq, StqU}
use Rattle.om_isa.specs.declared.instr.BrOp.TheVariants.{Br, If}
use Rattle.om_isa.specs.declared.instr.JumpOp.TheVariants.{Jsr, Ret, Jcr}
use Rattle.om_isa.specs.declared.instr.MiscOp.TheVariants.{Wmb}
use Rattle.om_isa.specs.declared.instr.Opnd.TheVariants.{R, Lit}
use Rattle.om_listing.specs.Texts.{register_text, operand_text, based_text, address_text, first_text, result_text, instr_text}
use Rattle.om_asm.specs.declared.instructions.Said.TheVariants.{Does, Unfit}
use Rattle.om_asm.specs.Numerals.{Numeral, value_of}
use Rattle.om_asm.specs.Statements.{Statement, Does as Makes, Unfit as TooLarge, Globl, Comm, Quad as Quadword, Beyond, statement_text, is_statement}
use Rattle.om_asm.specs.Lines.{Line, Label, line_text, is_line, lines_of}
use Rattle.om_asm.specs.Forms.{form_of}
use Rattle.om_asm.specs.Reading.{cut_at, register_at, decimal_at, number_at, base_at, address_at, operand_at, result_at, memory_said, jump_said, branch_said, extension_said, three_said, move_said, said_in}

-- ---- instructions that are read

pub row_read : map said_in
    (codes "ldq r1,-8(r30)" ∷ codes "lda r0,32767(r31)" ∷ codes "stq_u r2,-32768(r3)" ∷ codes "beq r1,3" ∷ codes "br r31,-1"
    ∷ codes "jsr r26,(r27)" ∷ codes "ret r31,(r26)" ∷ codes "jsr_coroutine r1,(r2)" ∷ codes "addq r1,r2,r3" ∷ codes "addq/v r1,#8,r3"
    ∷ codes "addq r1,#255,r3" ∷ codes "sextb r2,r3" ∷ codes "cmoveq r1,r2,r3" ∷ codes "wmb" ∷ codes "fnop" ∷ codes "halt" ∷ codes "callsys" ∷ [])
    ≡ Some (Does (instr.Mem Ldq 1 30 (negsuc 7))) ∷ Some (Does (instr.Mem Lda 0 31 (pos 32767)))
    ∷ Some (Does (instr.Mem StqU 2 3 (negsuc 32767))) ∷ Some (Does (instr.Branch (If cond.Eq) 1 (pos 3))) ∷ Some (Does (instr.Branch Br 31 (negsuc 0)))
    ∷ Some (Does (instr.Jump Jsr 26 27 0)) ∷ Some (Does (instr.Jump Ret 31 26 1)) ∷ Some (Does (instr.Jump Jcr 1 2 0))
    ∷ Some (Does (instr.Alu (Add One Quad) 1 (R 2) 3)) ∷ Some (Does (instr.Alu (AddV Quad) 1 (Lit 8) 3))
    ∷ Some (Does (instr.Alu (Add One Quad) 1 (Lit 255) 3)) ∷ Some (Does (instr.Alu Sextb 31 (R 2) 3)) ∷ Some (Does (instr.Cmov cond.Eq 1 (R 2) 3))
    ∷ Some (Does (instr.Misc Wmb 0 0)) ∷ Some (Does instr.Fnop) ∷ Some (Does instr.Halt) ∷ Some (Does instr.Callsys) ∷ []
unfolding cut_at form_of register_at decimal_at number_at base_at address_at operand_at result_at memory_said jump_said branch_said extension_said three_said
    move_said said_in
row_read = refl

-- instructions but for a number that is outside its field
pub row_unfit : map said_in
    (codes "lda r16,32768(r31)" ∷ codes "lda r16,-32769(r31)" ∷ codes "br r31,1048576" ∷ codes "br r31,-1048577" ∷ codes "addq r1,#256,r3"
    ∷ codes "addq r1,#-5,r3" ∷ codes "lda r1,18446744073709551617(r31)" ∷ (codes "lda r1,1" ++ replicate 99 48 ++ codes "(r31)") ∷ [])
    ≡ replicate 8 (Some Unfit)
unfolding cut_at form_of register_at decimal_at number_at base_at address_at operand_at result_at memory_said jump_said branch_said extension_said three_said
    move_said said_in
row_unfit = refl

-- texts that are none: of other operations, registers and numbers, or with blanks, case or operands that differ
pub row_none : map said_in
    ([] ∷ codes "ldx r1,-8(r30)" ∷ codes "LDQ r1,-8(r30)" ∷ codes "ldq  r1,-8(r30)" ∷ codes " ldq r1,-8(r30)" ∷ codes "ldq r1, -8(r30)"
    ∷ codes "ldq r1,-8(r30) " ∷ codes "ldq r1,-8(r32)" ∷ codes "ldq r01,-8(r30)" ∷ codes "ldq r1,-08(r30)" ∷ codes "ldq r1,-0(r30)" ∷ codes "ldq r1,+8(r30)"
    ∷ codes "ldq r1,0x8(r30)" ∷ codes "ldq r1,(r30)" ∷ codes "ldq r1,8" ∷ codes "ldq r1,8(r30" ∷ codes "ldq r1" ∷ codes "ldq" ∷ codes "beq r1,#3" ∷ codes "beq r1,x"
    ∷ codes "jsr r26,r27" ∷ codes "jsr r26,0(r27)" ∷ codes "addq r1,8,r3" ∷ codes "addq r1,#08,r3" ∷ codes "addq r1,r2" ∷ codes "addq r1,r2,r3,r4"
    ∷ codes "sextb r1,r2,r3" ∷ codes "wmb r0" ∷ codes "halt " ∷ codes "call_pal 0" ∷ (codes "lda r1," ++ replicate 64 48 ++ codes "(r31)") ∷ [])
    ≡ replicate 31 None
unfolding cut_at form_of register_at decimal_at number_at base_at address_at operand_at result_at memory_said jump_said branch_said extension_said three_said
    move_said said_in
row_none = refl

-- ---- lines as they are spelled

abbrev pub start : List ℕ
start = codes "__start"

-- a label, a blank, an instruction, a blank and a comment
pub row_line : line_text (record {
  labels = record { blanks = []; name = start } ∷ [];
  before = codes " ";
  statement = Some (Makes (instr.Mem Lda 0 31 (pos 1)));
  behind = codes " ";
  comment = Some (codes " 1");
}) ≡ codes "__start: lda r0,1(r31) ; 1"
unfolding digits first_text register_text address_text based_text
row_line = refl

pub row_is_line : is_line (record {
  labels = record { blanks = []; name = start } ∷ [];
  before = codes " ";
  statement = Some (Makes (instr.Mem Lda 0 31 (pos 1)));
  behind = codes " ";
  comment = Some (codes " 1");
}) ≡ true
unfolding digits register_text
row_is_line = refl

abbrev pub numeral : List ℕ → Numeral
numeral text = record { minus = false; hex = false; digits = text }

-- a number may begin with zeros where it is no instruction's, and be hexadecimal
pub row_numbers : statement_text (Comm (codes "buf") (numeral (codes "024"))) ≡ codes ".comm buf,024"
row_numbers = refl

pub row_hex : value_of (record { minus = true; hex = true; digits = codes "0fF" }) ≡ negsuc 254
row_hex = refl

pub row_beyond : statement_text (Quadword (Beyond (codes "f") true (numeral (codes "4")))) ≡ codes ".quad f-4"
row_beyond = refl

-- a register is no name; a displacement outside its field is spelled as it is, and one inside is none of those
pub row_statements : map is_statement
    (Globl (codes "r5") ∷ Globl (codes "r05") ∷ Globl (codes "R5") ∷ Globl (codes "5r") ∷ Globl (codes "a.b") ∷ Globl (replicate 256 97)
    ∷ TooLarge (instr.Mem Lda 16 31 (pos 0)) (numeral (codes "32768")) ∷ TooLarge (instr.Mem Lda 16 31 (pos 0)) (numeral (codes "32767"))
    ∷ TooLarge (instr.Mem Lda 16 31 (pos 0)) (numeral (codes "032768")) ∷ Makes (instr.Mem Lda 16 31 (pos 32768)) ∷ [])
    ≡ false ∷ true ∷ true ∷ false ∷ false ∷ false ∷ true ∷ false ∷ false ∷ false ∷ []
unfolding digits register_text
row_statements = refl

-- behind the last newline there is one more line
pub row_lines : lines_of (codes "a\n\nb\n") ≡ codes "a" ∷ [] ∷ codes "b" ∷ [] ∷ []
row_lines = refl

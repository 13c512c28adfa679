-- Instructions as text: the name of the operation, and the operands in the order of the assembler
-- (Alpha Architecture Handbook, chapter 4, the format lines of each instruction). That registers are r0 to r31,
-- literals have `#`, and branches show their displacement in words, is this project's own.
use Rattle.std.specs.Prelude.{ℕ, ℤ, List, ◌++◌, codes, decimal, Option, Some, None}
use Rattle.std.specs.Fmt.{signed_decimal}
use Rattle.om_alpha.specs.declared.op.AluOp.{AluOp}
use Rattle.om_alpha.specs.declared.op.AluOp.TheVariants.{Sextb, Sextw}
use Rattle.om_isa.specs.declared.instr.Opnd.{Opnd}
use Rattle.om_isa.specs.declared.instr.Opnd.TheVariants.{R, Lit}
use Rattle.om_isa.specs.declared.instr.Instr.{Instr}
use Rattle.om_isa.specs.declared.instr.Instr.TheVariants.{Mem, Jump, Branch, Alu, Cmov, Misc, Fnop, Halt, Callsys}
use Rattle.om_isa.specs.Words.{instr_of}
use Rattle.om_listing.specs.Names.{memory_name, branch_name, jump_name, barrier_name, operate_name, move_name}

unfoldable pub register_text : ℕ → List ℕ
register_text r = codes "r" ++ decimal r

unfoldable pub operand_text : Opnd → List ℕ
operand_text (R r) = register_text r
operand_text (Lit n) = codes "#" ++ decimal n

-- the address in a register, and one at a displacement in bytes from it
unfoldable pub based_text : ℕ → List ℕ
based_text rb = codes "(" ++ register_text rb ++ codes ")"

unfoldable pub address_text : ℤ → ℕ → List ℕ
address_text disp rb = signed_decimal disp ++ based_text rb

-- the name and the first operand, a register
unfoldable pub first_text : List ℕ → ℕ → List ℕ
first_text name r = name ++ codes " " ++ register_text r ++ codes ","

-- the last two operands of an operate instruction
unfoldable pub result_text : Opnd → ℕ → List ℕ
result_text rb rc = operand_text rb ++ codes "," ++ register_text rc

-- the name and the operands before the last two: Ra, at which the sign extensions do not look
abbrev pub operate_start : AluOp → ℕ → List ℕ
operate_start Sextb ra = operate_name Sextb ++ codes " "
operate_start Sextw ra = operate_name Sextw ++ codes " "
operate_start op ra = first_text (operate_name op) ra

abbrev pub instr_text : Instr → List ℕ
instr_text (Mem op ra rb disp) = first_text (memory_name op) ra ++ address_text disp rb
instr_text (Jump kind ra rb hint) = first_text (jump_name kind) ra ++ based_text rb
instr_text (Branch op ra disp) = first_text (branch_name op) ra ++ signed_decimal disp
instr_text (Alu op ra rb rc) = operate_start op ra ++ result_text rb rc
instr_text (Cmov cond ra rb rc) = first_text (move_name cond) ra ++ result_text rb rc
instr_text (Misc op ra rb) = barrier_name op
instr_text Fnop = codes "fnop"
instr_text Halt = codes "halt"
instr_text Callsys = codes "callsys"

-- a word that is no instruction
abbrev pub found_text : Option Instr → List ℕ
found_text (Some i) = instr_text i
found_text None = codes "?"

-- the text of a word
unfoldable pub word_text : ℕ → List ℕ
word_text w = found_text (instr_of w)

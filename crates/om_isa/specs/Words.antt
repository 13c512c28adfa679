-- Words and instructions, format by format (Alpha Architecture Handbook, chapter 3, "Instruction Formats").
-- `word_of` is the table of formats; `Encodes` is the relation that it states; `instr_of` reads a word back.
use Rattle.std.specs.Prelude.{◌≡◌, ◌↔◌, ℕ, ◌+◌, ◌*◌, ◌^◌, ◌<◌, ◌&&◌, ◌==◌, if◌then◌else◌, Option, Some, None, find, option_map, option_and_then, FitsSigned}
use Rattle.std.specs.Option.{option_or}
use Rattle.std.specs.Int.{w16, cast_signed, cast_unsigned}
use Rattle.om_isa.specs.declared.instr.Opnd.{Opnd}
use Rattle.om_isa.specs.declared.instr.Opnd.TheVariants.{R, Lit}
use Rattle.om_isa.specs.declared.instr.Instr.{Instr}
use Rattle.om_isa.specs.declared.instr.Instr.TheVariants.{Mem, Jump, Branch, Alu, Cmov, Misc, Fnop, Halt, Callsys}
use Rattle.om_isa.specs.Fields.{IsDisp, field, disp_of, disp_bits}
use Rattle.om_isa.specs.Codes.{memory_opcode, branch_opcode, jump_opcode, jump_code, misc_opcode, misc_code, operate_code, move_opcode, move_function, fnop_word, halt_word, callsys_word, memory_ops, branch_ops, jump_ops, misc_ops, operate_ops, conditions}

-- the formats: fields side by side
abbrev pub memory_word : ℕ → ℕ → ℕ → ℕ → ℕ
memory_word opcode ra rb low = opcode * 2 ^ 26 + ra * 2 ^ 21 + rb * 2 ^ 16 + low

abbrev pub branch_word : ℕ → ℕ → ℕ → ℕ
branch_word opcode ra disp = opcode * 2 ^ 26 + ra * 2 ^ 21 + disp

-- bits 20 to 12: a register, or a literal with bit 12 set
abbrev pub operand_bits : Opnd → ℕ
operand_bits (R rb) = rb * 2 ^ 4
operand_bits (Lit n) = n * 2 + 1

abbrev pub operate_word : ℕ × ℕ → ℕ → Opnd → ℕ → ℕ
operate_word code ra rb rc = code.0 * 2 ^ 26 + ra * 2 ^ 21 + operand_bits rb * 2 ^ 12 + code.1 * 2 ^ 5 + rc

-- the one word of an instruction
abbrev pub word_of : Instr → ℕ
word_of (Mem op ra rb disp) = memory_word (memory_opcode op) ra rb (cast_unsigned w16 disp)
word_of (Jump kind ra rb hint) = memory_word jump_opcode ra rb (jump_code kind * 2 ^ 14 + hint)
word_of (Branch op ra disp) = branch_word (branch_opcode op) ra (disp_bits disp)
word_of (Alu op ra rb rc) = operate_word (operate_code op) ra rb rc
word_of (Cmov cond ra rb rc) = operate_word (move_opcode, move_function cond) ra rb rc
word_of (Misc op ra rb) = memory_word misc_opcode ra rb (misc_code op)
word_of Fnop = fnop_word
word_of Halt = halt_word
word_of Callsys = callsys_word

-- the fields of an instruction are in range
abbrev pub IsOperand : Opnd → Type 0
IsOperand (R rb) = rb < 32
IsOperand (Lit n) = n < 256

abbrev pub IsInstr : Instr → Type 0
IsInstr (Mem op ra rb disp) = (ra < 32) × (rb < 32) × FitsSigned w16 disp
IsInstr (Jump kind ra rb hint) = (ra < 32) × (rb < 32) × (hint < 2 ^ 14)
IsInstr (Branch op ra disp) = (ra < 32) × IsDisp disp
IsInstr (Alu op ra rb rc) = (ra < 32) × IsOperand rb × (rc < 32)
IsInstr (Cmov cond ra rb rc) = (ra < 32) × IsOperand rb × (rc < 32)
IsInstr (Misc op ra rb) = (ra < 32) × (rb < 32)
IsInstr Fnop = Unit {0}
IsInstr Halt = Unit {0}
IsInstr Callsys = Unit {0}

-- the word has this instruction
pub record Encodes (w : ℕ) (i : Instr) : Type 0 where
  pub fields : IsInstr i
  pub word : w ≡ word_of i

abbrev pub opcode : ℕ → ℕ
opcode w = field w 26 6

abbrev pub reg_a : ℕ → ℕ
reg_a w = field w 21 5

abbrev pub reg_b : ℕ → ℕ
reg_b w = field w 16 5

abbrev pub reg_c : ℕ → ℕ
reg_c w = field w 0 5

-- reading a word, format by format
unfoldable pub memory_at : ℕ → Option Instr
memory_at w =
    option_map (λ op. Mem op (reg_a w) (reg_b w) (cast_signed w16 (field w 0 16)))
    (find (λ op. memory_opcode op == opcode w) memory_ops)

unfoldable pub branch_at : ℕ → Option Instr
branch_at w =
    option_map (λ op. Branch op (reg_a w) (disp_of (field w 0 21)))
    (find (λ op. branch_opcode op == opcode w) branch_ops)

unfoldable pub jump_at : ℕ → Option Instr
jump_at w =
    if opcode w == jump_opcode
    then option_map (λ kind. Jump kind (reg_a w) (reg_b w) (field w 0 14)) (find (λ kind. jump_code kind == field w 14 2) jump_ops)
    else None

unfoldable pub misc_at : ℕ → Option Instr
misc_at w =
    if opcode w == misc_opcode
    then option_map (λ op. Misc op (reg_a w) (reg_b w)) (find (λ op. misc_code op == field w 0 16) misc_ops)
    else None

unfoldable pub operand_at : ℕ → Option Opnd
operand_at w =
    if field w 12 1 == 1 then Some (Lit (field w 13 8)) else if field w 13 3 == 0 then Some (R (reg_b w)) else None

unfoldable pub operate_at : ℕ → Option Instr
operate_at w =
    option_and_then (λ rb. option_map (λ op. Alu op (reg_a w) rb (reg_c w))
    (find (λ op. ((operate_code op).0 == opcode w) && ((operate_code op).1 == field w 5 7)) operate_ops))
    (operand_at w)

unfoldable pub move_at : ℕ → Option Instr
move_at w =
    if opcode w == move_opcode
    then option_and_then (λ rb. option_map (λ cond. Cmov cond (reg_a w) rb (reg_c w))
    (find (λ cond. move_function cond == field w 5 7) conditions))
    (operand_at w)
    else None

unfoldable pub fixed_at : ℕ → Option Instr
fixed_at w =
    if w == fnop_word then Some Fnop else if w == halt_word then Some Halt else if w == callsys_word then Some Callsys else None

-- the instruction of a word, or none
unfoldable pub instr_of : ℕ → Option Instr
instr_of w =
    option_or (memory_at w) (option_or (branch_at w) (option_or (jump_at w) (option_or (misc_at w)
    (option_or (move_at w) (option_or (operate_at w) (fixed_at w))))))

-- a word has at most one instruction, an instruction with fields in range exactly one word of 32 bits,
-- and reading finds just what the relation says
pub record WordsAreRead : Type 0 where
  pub one_instr : (w : ℕ) (i j : Instr) → Encodes w i → Encodes w j → i ≡ j
  pub a_word : (i : Instr) → IsInstr i → Encodes (word_of i) i × (word_of i < 2 ^ 32)
  pub one_word : (v w : ℕ) (i : Instr) → Encodes v i → Encodes w i → v ≡ w
  pub read : (w : ℕ) (i : Instr) → w < 2 ^ 32 → (instr_of w ≡ Some i) ↔ Encodes w i

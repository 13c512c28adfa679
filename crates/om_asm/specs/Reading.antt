-- How an instruction is read: a text is cut at separators, and each piece is read as a whole.
use Rattle.std.specs.Prelude.{ℕ, ◌+◌, ◌^◌, ◌==◌, min, Bool, true, false, ◌&&◌, nat_lt, if◌then◌else◌, List, [], ◌∷◌, take, drop, position, Option, Some, None, option_map, option_and_then}
use Rattle.om_alpha.specs.declared.op.AluOp.{AluOp}
use Rattle.om_alpha.specs.declared.op.AluOp.TheVariants.{Sextb, Sextw}
use Rattle.om_alpha.specs.declared.op.Cond.{Cond}
use Rattle.om_isa.specs.declared.instr.Instr.{Instr}
use Rattle.om_isa.specs.declared.instr.Instr.TheVariants.{Mem, Branch as Branches, Jump as Jumps, Alu, Cmov, Misc, Fnop as NoOperation, Halt as Halts, Callsys as Calls}
use Rattle.om_isa.specs.declared.instr.MemOp.{MemOp}
use Rattle.om_isa.specs.declared.instr.BrOp.{BrOp}
use Rattle.om_isa.specs.declared.instr.JumpOp.{JumpOp}
use Rattle.om_isa.specs.declared.instr.Opnd.{Opnd}
use Rattle.om_isa.specs.declared.instr.Opnd.TheVariants.{R, Lit}
use Rattle.om_asm.specs.declared.numbers.Number.{Number}
use Rattle.om_asm.specs.declared.operands.Operand.{Operand}
use Rattle.om_asm.specs.declared.operands.Operand.TheVariants.{Register, Literal}
use Rattle.om_asm.specs.declared.instructions.Said.{Said}
use Rattle.om_asm.specs.declared.instructions.Said.TheVariants.{Does, Unfit}
use Rattle.om_asm.specs.declared.forms.Form.{Form}
use Rattle.om_asm.specs.declared.forms.Form.TheVariants.{Memory, Jump, Branch, Operate, Move, Barrier, Fnop, Halt, Callsys}
use Rattle.om_asm.specs.Numerals.{Numeral, magnitude, signed, value_behind, is_sized, is_plain_digits, is_plain}
use Rattle.om_asm.specs.Statements.{jump_hint}
use Rattle.om_asm.specs.Forms.{form_of}

-- ---- pieces

-- the bytes before the first c and those behind it
unfoldable pub cut_at : ℕ → List ℕ → Option (List ℕ × List ℕ)
cut_at c text = option_map (λ n. (take n text, drop (n + 1) text)) (position (λ x. x == c) text)

-- what stands behind a c that a text begins with
abbrev pub behind : ℕ → List ℕ → Option (List ℕ)
behind c [] = None
behind c (x ∷ xs) = if x == c then Some xs else None

abbrev pub paired : {A B : Type 0} → Option A → Option B → Option (A × B)
paired o q = option_and_then (λ a. option_map (λ b. (a, b)) q) o

-- two readings, of what stands before the first c and of what stands behind it
abbrev pub both : {A B : Type 0} → ℕ → (List ℕ → Option A) → (List ℕ → Option B) → List ℕ → Option (A × B)
both c f g text = option_and_then (λ p. paired (f p.0) (g p.1)) (cut_at c text)

abbrev pub if_empty : {A : Type 0} → List ℕ → Option A → Option A
if_empty [] o = o
if_empty (c ∷ cs) o = None

-- a reading of what stands before the first c, which ends the text
abbrev pub ended : {A : Type 0} → ℕ → (List ℕ → Option A) → List ℕ → Option A
ended c f text = option_and_then (λ p. if_empty p.1 (f p.0)) (cut_at c text)

-- ---- registers and numbers

abbrev pub register_of : List ℕ → Option ℕ
register_of digits =
    if is_plain_digits digits && nat_lt (value_behind 10 0 digits) 32 then Some (value_behind 10 0 digits) else None

unfoldable pub register_at : List ℕ → Option ℕ
register_at text = option_and_then register_of (behind 114 text)

abbrev pub decimal : Bool → List ℕ → Numeral
decimal minus digits = record { minus = minus; hex = false; digits = digits }

abbrev pub if_plain : Numeral → Option Numeral
if_plain n = if is_plain n then Some n else None

abbrev pub decimal_by : List ℕ → Option (List ℕ) → Option Numeral
decimal_by text None = if_plain (decimal false text)
decimal_by text (Some digits) = if_plain (decimal true digits)

-- a number without leading zeros, as it is spelled
unfoldable pub decimal_at : List ℕ → Option Numeral
decimal_at text = decimal_by text (behind 45 text)

-- its sign and its size, where all from 2 ^ 64 on count as that
abbrev pub number_of : Numeral → Number
number_of n = record { minus = n.minus; size = min (2 ^ 64) (magnitude n) }

unfoldable pub number_at : List ℕ → Option Number
number_at text = option_map number_of (decimal_at text)

-- ---- operands

abbrev pub closed_at : List ℕ → Option ℕ
closed_at text = ended 41 register_at text

-- a register in parentheses
unfoldable pub base_at : List ℕ → Option ℕ
base_at text = option_and_then closed_at (behind 40 text)

-- a number, and a register in parentheses
unfoldable pub address_at : List ℕ → Option (Number × ℕ)
address_at text = both 40 number_at closed_at text

abbrev pub operand_by : List ℕ → Option (List ℕ) → Option Operand
operand_by text None = option_map Register (register_at text)
operand_by text (Some number) = option_map Literal (number_at number)

unfoldable pub operand_at : List ℕ → Option Operand
operand_at text = operand_by text (behind 35 text)

-- the last two operands of an operate instruction
unfoldable pub result_at : List ℕ → Option (Operand × ℕ)
result_at text = both 44 operand_at register_at text

-- ---- instructions

abbrev pub said : Option Instr → Said
said None = Unfit
said (Some i) = Does i

abbrev pub if_sized : {A : Type 0} → ℕ → ℕ → Number → A → Option A
if_sized low high n x = if is_sized low high n.minus n.size then Some x else None

abbrev pub opnd_of : Operand → Option Opnd
opnd_of (Register r) = Some (R r)
opnd_of (Literal n) = if_sized 0 255 n (Lit n.size)

abbrev pub memory_made : MemOp → ℕ → Number → ℕ → Option Instr
memory_made op ra n rb = if_sized 32768 32767 n (Mem op ra rb (signed n.minus n.size))

abbrev pub branch_made : BrOp → ℕ → Number → Option Instr
branch_made op ra n = if_sized 1048576 1048575 n (Branches op ra (signed n.minus n.size))

abbrev pub operate_made : AluOp → ℕ → Operand → ℕ → Option Instr
operate_made op ra operand rc = option_map (λ rb. Alu op ra rb rc) (opnd_of operand)

abbrev pub move_made : Cond → ℕ → Operand → ℕ → Option Instr
move_made cond ra operand rc = option_map (λ rb. Cmov cond ra rb rc) (opnd_of operand)

unfoldable pub memory_said : MemOp → List ℕ → Option Said
memory_said op text = option_map (λ p. said (memory_made op p.0 p.1.0 p.1.1)) (both 44 register_at address_at text)

unfoldable pub jump_said : JumpOp → List ℕ → Option Said
jump_said kind text = option_map (λ p. Does (Jumps kind p.0 p.1 (jump_hint kind))) (both 44 register_at base_at text)

unfoldable pub branch_said : BrOp → List ℕ → Option Said
branch_said op text = option_map (λ p. said (branch_made op p.0 p.1)) (both 44 register_at number_at text)

unfoldable pub extension_said : AluOp → List ℕ → Option Said
extension_said op text = option_map (λ p. said (operate_made op 31 p.0 p.1)) (result_at text)

unfoldable pub three_said : AluOp → List ℕ → Option Said
three_said op text = option_map (λ p. said (operate_made op p.0 p.1.0 p.1.1)) (both 44 register_at result_at text)

abbrev pub operate_said : AluOp → List ℕ → Option Said
operate_said Sextb text = extension_said Sextb text
operate_said Sextw text = extension_said Sextw text
operate_said op text = three_said op text

unfoldable pub move_said : Cond → List ℕ → Option Said
move_said cond text = option_map (λ p. said (move_made cond p.0 p.1.0 p.1.1)) (both 44 register_at result_at text)

-- an instruction of this form, by its operands
abbrev pub said_with : Form → List ℕ → Option Said
said_with (Memory op) text = memory_said op text
said_with (Jump kind) text = jump_said kind text
said_with (Branch op) text = branch_said op text
said_with (Operate op) text = operate_said op text
said_with (Move cond) text = move_said cond text
said_with _ text = None

-- one that has no operands
abbrev pub said_alone : Form → Option Said
said_alone (Barrier op) = Some (Does (Misc op 0 0))
said_alone Fnop = Some (Does NoOperation)
said_alone Halt = Some (Does Halts)
said_alone Callsys = Some (Does Calls)
said_alone _ = None

abbrev pub said_by : List ℕ → Option (List ℕ × List ℕ) → Option Said
said_by text None = option_and_then said_alone (form_of text)
said_by text (Some p) = option_and_then (λ f. said_with f p.1) (form_of p.0)

-- what a text says, where it is an instruction but for the size of its number
unfoldable pub said_in : List ℕ → Option Said
said_in text = said_by text (cut_at 32 text)

-- the instruction, where it is one
abbrev pub answer_of : Option Said → Option Instr
answer_of None = None
answer_of (Some Unfit) = None
answer_of (Some (Does i)) = Some i

-- The numbers in a word that say which operation it is: opcodes, and the function codes beside them
-- (Alpha Architecture Handbook, appendix C, "Instruction Summary" and "Opcode Summary").
use Rattle.std.specs.Prelude.{ℕ, List, [], ◌∷◌}
use Rattle.om_alpha.specs.declared.op.Width.TheVariants.{Long, Quad}
use Rattle.om_alpha.specs.declared.op.Scale.TheVariants.{One, Four, Eight}
use Rattle.om_alpha.specs.declared.op.Cmp.TheVariants as cmp
use Rattle.om_alpha.specs.declared.op.Size.TheVariants as size
use Rattle.om_alpha.specs.declared.op.Wide.TheVariants as wide
use Rattle.om_alpha.specs.declared.op.AluOp.{AluOp}
use Rattle.om_alpha.specs.declared.op.AluOp.TheVariants.{Add, Sub, Mul, AddV, SubV, MulV, Umulh, Compare, Cmpbge, And, Bis, Xor, Bic, Ornot, Eqv, Sll, Srl, Sra, Zap, Zapnot, Sextb, Sextw, ExtLow, ExtHigh, InsLow, InsHigh, MskLow, MskHigh}
use Rattle.om_alpha.specs.declared.op.Cond.{Cond}
use Rattle.om_alpha.specs.declared.op.Cond.TheVariants as cond
use Rattle.om_isa.specs.declared.instr.MemOp.{MemOp}
use Rattle.om_isa.specs.declared.instr.MemOp.TheVariants.{Lda, Ldah, Ldbu, LdqU, Ldwu, Stw, Stb, StqU, Ldl, Ldq, Stl, Stq}
use Rattle.om_isa.specs.declared.instr.JumpOp.{JumpOp}
use Rattle.om_isa.specs.declared.instr.JumpOp.TheVariants.{Jmp, Jsr, Ret, Jcr}
use Rattle.om_isa.specs.declared.instr.BrOp.{BrOp}
use Rattle.om_isa.specs.declared.instr.BrOp.TheVariants.{Br, Bsr, If}
use Rattle.om_isa.specs.declared.instr.MiscOp.{MiscOp}
use Rattle.om_isa.specs.declared.instr.MiscOp.TheVariants.{Trapb, Excb, Mb, Wmb}

-- opcodes of the memory format (chapter 4, "Memory Integer Load/Store Instructions")
abbrev pub memory_opcode : MemOp → ℕ
memory_opcode Lda = 0x08
memory_opcode Ldah = 0x09
memory_opcode Ldbu = 0x0a
memory_opcode LdqU = 0x0b
memory_opcode Ldwu = 0x0c
memory_opcode Stw = 0x0d
memory_opcode Stb = 0x0e
memory_opcode StqU = 0x0f
memory_opcode Ldl = 0x28
memory_opcode Ldq = 0x29
memory_opcode Stl = 0x2c
memory_opcode Stq = 0x2d

-- opcodes of the branch format (chapter 4, "Control Instructions")
abbrev pub branch_opcode : BrOp → ℕ
branch_opcode Br = 0x30
branch_opcode Bsr = 0x34
branch_opcode (If cond.Lbc) = 0x38
branch_opcode (If cond.Eq) = 0x39
branch_opcode (If cond.Lt) = 0x3a
branch_opcode (If cond.Le) = 0x3b
branch_opcode (If cond.Lbs) = 0x3c
branch_opcode (If cond.Ne) = 0x3d
branch_opcode (If cond.Ge) = 0x3e
branch_opcode (If cond.Gt) = 0x3f

-- the opcode of all jumps, and bits 15 and 14 of one (chapter 4, "Jump")
abbrev pub jump_opcode : ℕ
jump_opcode = 0x1a

abbrev pub jump_code : JumpOp → ℕ
jump_code Jmp = 0
jump_code Jsr = 1
jump_code Ret = 2
jump_code Jcr = 3

-- the opcode of all barriers, and bits 15 to 0 of one (chapter 4, "Miscellaneous Instructions")
abbrev pub misc_opcode : ℕ
misc_opcode = 0x18

abbrev pub misc_code : MiscOp → ℕ
misc_code Trapb = 0x0000
misc_code Excb = 0x0400
misc_code Mb = 0x4000
misc_code Wmb = 0x4400

-- opcode and function of an operation (chapter 4, "Integer Arithmetic Instructions",
-- "Logical and Shift Instructions", "Byte-Manipulation Instructions")
abbrev pub operate_code : AluOp → ℕ × ℕ
operate_code (Add One Long) = (0x10, 0x00)
operate_code (Add Four Long) = (0x10, 0x02)
operate_code (Sub One Long) = (0x10, 0x09)
operate_code (Sub Four Long) = (0x10, 0x0b)
operate_code Cmpbge = (0x10, 0x0f)
operate_code (Add Eight Long) = (0x10, 0x12)
operate_code (Sub Eight Long) = (0x10, 0x1b)
operate_code (Compare cmp.Ult) = (0x10, 0x1d)
operate_code (Add One Quad) = (0x10, 0x20)
operate_code (Add Four Quad) = (0x10, 0x22)
operate_code (Sub One Quad) = (0x10, 0x29)
operate_code (Sub Four Quad) = (0x10, 0x2b)
operate_code (Compare cmp.Eq) = (0x10, 0x2d)
operate_code (Add Eight Quad) = (0x10, 0x32)
operate_code (Sub Eight Quad) = (0x10, 0x3b)
operate_code (Compare cmp.Ule) = (0x10, 0x3d)
operate_code (AddV Long) = (0x10, 0x40)
operate_code (SubV Long) = (0x10, 0x49)
operate_code (Compare cmp.Lt) = (0x10, 0x4d)
operate_code (AddV Quad) = (0x10, 0x60)
operate_code (SubV Quad) = (0x10, 0x69)
operate_code (Compare cmp.Le) = (0x10, 0x6d)
operate_code And = (0x11, 0x00)
operate_code Bic = (0x11, 0x08)
operate_code Bis = (0x11, 0x20)
operate_code Ornot = (0x11, 0x28)
operate_code Xor = (0x11, 0x40)
operate_code Eqv = (0x11, 0x48)
operate_code (MskLow size.Byte) = (0x12, 0x02)
operate_code (ExtLow size.Byte) = (0x12, 0x06)
operate_code (InsLow size.Byte) = (0x12, 0x0b)
operate_code (MskLow size.Word) = (0x12, 0x12)
operate_code (ExtLow size.Word) = (0x12, 0x16)
operate_code (InsLow size.Word) = (0x12, 0x1b)
operate_code (MskLow size.Long) = (0x12, 0x22)
operate_code (ExtLow size.Long) = (0x12, 0x26)
operate_code (InsLow size.Long) = (0x12, 0x2b)
operate_code Zap = (0x12, 0x30)
operate_code Zapnot = (0x12, 0x31)
operate_code (MskLow size.Quad) = (0x12, 0x32)
operate_code Srl = (0x12, 0x34)
operate_code (ExtLow size.Quad) = (0x12, 0x36)
operate_code Sll = (0x12, 0x39)
operate_code (InsLow size.Quad) = (0x12, 0x3b)
operate_code Sra = (0x12, 0x3c)
operate_code (MskHigh wide.Word) = (0x12, 0x52)
operate_code (InsHigh wide.Word) = (0x12, 0x57)
operate_code (ExtHigh wide.Word) = (0x12, 0x5a)
operate_code (MskHigh wide.Long) = (0x12, 0x62)
operate_code (InsHigh wide.Long) = (0x12, 0x67)
operate_code (ExtHigh wide.Long) = (0x12, 0x6a)
operate_code (MskHigh wide.Quad) = (0x12, 0x72)
operate_code (InsHigh wide.Quad) = (0x12, 0x77)
operate_code (ExtHigh wide.Quad) = (0x12, 0x7a)
operate_code (Mul Long) = (0x13, 0x00)
operate_code (Mul Quad) = (0x13, 0x20)
operate_code Umulh = (0x13, 0x30)
operate_code (MulV Long) = (0x13, 0x40)
operate_code (MulV Quad) = (0x13, 0x60)
operate_code Sextb = (0x1c, 0x00)
operate_code Sextw = (0x1c, 0x01)

-- the opcode of all conditional moves, and the function of one (chapter 4, "Conditional Move Integer")
abbrev pub move_opcode : ℕ
move_opcode = 0x11

abbrev pub move_function : Cond → ℕ
move_function cond.Lbs = 0x14
move_function cond.Lbc = 0x16
move_function cond.Eq = 0x24
move_function cond.Ne = 0x26
move_function cond.Lt = 0x44
move_function cond.Ge = 0x46
move_function cond.Le = 0x64
move_function cond.Gt = 0x66

-- the words that stand alone: FNOP, and CALL_PAL with the function of HALT and of callsys
-- (appendix C, the PALcode function codes)
abbrev pub fnop_word : ℕ
fnop_word = 0x5fff041f

abbrev pub halt_word : ℕ
halt_word = 0x00

abbrev pub callsys_word : ℕ
callsys_word = 0x83

-- each operation of a kind, once
abbrev pub memory_ops : List MemOp
memory_ops =
    Lda ∷ Ldah ∷ Ldbu ∷ LdqU ∷ Ldwu ∷ Stw ∷ Stb ∷ StqU ∷ Ldl ∷ Ldq ∷ Stl ∷ Stq ∷ []

abbrev pub branch_ops : List BrOp
branch_ops =
    Br ∷ Bsr ∷ (If cond.Lbc) ∷ (If cond.Eq) ∷ (If cond.Lt) ∷ (If cond.Le) ∷ (If cond.Lbs) ∷
    (If cond.Ne) ∷ (If cond.Ge) ∷ (If cond.Gt) ∷ []

abbrev pub jump_ops : List JumpOp
jump_ops =
    Jmp ∷ Jsr ∷ Ret ∷ Jcr ∷ []

abbrev pub misc_ops : List MiscOp
misc_ops =
    Trapb ∷ Excb ∷ Mb ∷ Wmb ∷ []

abbrev pub operate_ops : List AluOp
operate_ops =
    (Add One Long) ∷ (Add Four Long) ∷ (Sub One Long) ∷ (Sub Four Long) ∷ Cmpbge ∷
    (Add Eight Long) ∷ (Sub Eight Long) ∷ (Compare cmp.Ult) ∷ (Add One Quad) ∷
    (Add Four Quad) ∷ (Sub One Quad) ∷ (Sub Four Quad) ∷ (Compare cmp.Eq) ∷
    (Add Eight Quad) ∷ (Sub Eight Quad) ∷ (Compare cmp.Ule) ∷ (AddV Long) ∷ (SubV Long) ∷
    (Compare cmp.Lt) ∷ (AddV Quad) ∷ (SubV Quad) ∷ (Compare cmp.Le) ∷ And ∷ Bic ∷ Bis ∷
    Ornot ∷ Xor ∷ Eqv ∷ (MskLow size.Byte) ∷ (ExtLow size.Byte) ∷ (InsLow size.Byte) ∷
    (MskLow size.Word) ∷ (ExtLow size.Word) ∷ (InsLow size.Word) ∷ (MskLow size.Long) ∷
    (ExtLow size.Long) ∷ (InsLow size.Long) ∷ Zap ∷ Zapnot ∷ (MskLow size.Quad) ∷ Srl ∷
    (ExtLow size.Quad) ∷ Sll ∷ (InsLow size.Quad) ∷ Sra ∷ (MskHigh wide.Word) ∷
    (InsHigh wide.Word) ∷ (ExtHigh wide.Word) ∷ (MskHigh wide.Long) ∷ (InsHigh wide.Long) ∷
    (ExtHigh wide.Long) ∷ (MskHigh wide.Quad) ∷ (InsHigh wide.Quad) ∷ (ExtHigh wide.Quad) ∷
    (Mul Long) ∷ (Mul Quad) ∷ Umulh ∷ (MulV Long) ∷ (MulV Quad) ∷ Sextb ∷ Sextw ∷ []

abbrev pub conditions : List Cond
conditions =
    cond.Lbs ∷ cond.Lbc ∷ cond.Eq ∷ cond.Ne ∷ cond.Lt ∷ cond.Ge ∷ cond.Le ∷ cond.Gt ∷ []

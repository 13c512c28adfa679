-- The names of operations (Alpha Architecture Handbook, chapter 4, in lower case).
use Rattle.std.specs.Prelude.{ℕ, List, codes}
use Rattle.om_alpha.specs.declared.op.Width.TheVariants.{Long, Quad}
use Rattle.om_alpha.specs.declared.op.Scale.TheVariants.{One, Four, Eight}
use Rattle.om_alpha.specs.declared.op.Cmp.TheVariants as cmp
use Rattle.om_alpha.specs.declared.op.Size.TheVariants as size
use Rattle.om_alpha.specs.declared.op.Wide.TheVariants as wide
use Rattle.om_alpha.specs.declared.op.AluOp.{AluOp}
use Rattle.om_alpha.specs.declared.op.AluOp.TheVariants.{Add, Sub, Mul, AddV, SubV, MulV, Umulh, Compare, Cmpbge, And, Bis, Xor, Bic, Ornot, Eqv, Sll, Srl, Sra, Zap, Zapnot, Sextb, Sextw, ExtLow, ExtHigh, InsLow, InsHigh, MskLow, MskHigh}
use Rattle.om_alpha.specs.declared.op.Cond.{Cond}
use Rattle.om_alpha.specs.declared.op.Cond.TheVariants as cond
use Rattle.om_isa.specs.declared.instr.MemOp.{MemOp}
use Rattle.om_isa.specs.declared.instr.MemOp.TheVariants.{Lda, Ldah, Ldbu, LdqU, Ldwu, Stw, Stb, StqU, Ldl, Ldq, Stl, Stq}
use Rattle.om_isa.specs.declared.instr.JumpOp.{JumpOp}
use Rattle.om_isa.specs.declared.instr.JumpOp.TheVariants.{Jmp, Jsr, Ret, Jcr}
use Rattle.om_isa.specs.declared.instr.BrOp.{BrOp}
use Rattle.om_isa.specs.declared.instr.BrOp.TheVariants.{Br, Bsr, If}
use Rattle.om_isa.specs.declared.instr.MiscOp.{MiscOp}
use Rattle.om_isa.specs.declared.instr.MiscOp.TheVariants.{Trapb, Excb, Mb, Wmb}

-- "Memory Integer Load/Store Instructions"
abbrev pub memory_name : MemOp → List ℕ
memory_name Lda = codes "lda"
memory_name Ldah = codes "ldah"
memory_name Ldbu = codes "ldbu"
memory_name LdqU = codes "ldq_u"
memory_name Ldwu = codes "ldwu"
memory_name Stw = codes "stw"
memory_name Stb = codes "stb"
memory_name StqU = codes "stq_u"
memory_name Ldl = codes "ldl"
memory_name Ldq = codes "ldq"
memory_name Stl = codes "stl"
memory_name Stq = codes "stq"

-- "Control Instructions"
abbrev pub branch_name : BrOp → List ℕ
branch_name Br = codes "br"
branch_name Bsr = codes "bsr"
branch_name (If cond.Lbc) = codes "blbc"
branch_name (If cond.Eq) = codes "beq"
branch_name (If cond.Lt) = codes "blt"
branch_name (If cond.Le) = codes "ble"
branch_name (If cond.Lbs) = codes "blbs"
branch_name (If cond.Ne) = codes "bne"
branch_name (If cond.Ge) = codes "bge"
branch_name (If cond.Gt) = codes "bgt"

-- "Jump"
abbrev pub jump_name : JumpOp → List ℕ
jump_name Jmp = codes "jmp"
jump_name Jsr = codes "jsr"
jump_name Ret = codes "ret"
jump_name Jcr = codes "jsr_coroutine"

-- "Miscellaneous Instructions"
abbrev pub barrier_name : MiscOp → List ℕ
barrier_name Trapb = codes "trapb"
barrier_name Excb = codes "excb"
barrier_name Mb = codes "mb"
barrier_name Wmb = codes "wmb"

-- "Integer Arithmetic Instructions", "Logical and Shift Instructions", "Byte-Manipulation Instructions"
abbrev pub operate_name : AluOp → List ℕ
operate_name (Add One Long) = codes "addl"
operate_name (Add Four Long) = codes "s4addl"
operate_name (Add Eight Long) = codes "s8addl"
operate_name (Add One Quad) = codes "addq"
operate_name (Add Four Quad) = codes "s4addq"
operate_name (Add Eight Quad) = codes "s8addq"
operate_name (Sub One Long) = codes "subl"
operate_name (Sub Four Long) = codes "s4subl"
operate_name (Sub Eight Long) = codes "s8subl"
operate_name (Sub One Quad) = codes "subq"
operate_name (Sub Four Quad) = codes "s4subq"
operate_name (Sub Eight Quad) = codes "s8subq"
operate_name (Mul Long) = codes "mull"
operate_name (Mul Quad) = codes "mulq"
operate_name (AddV Long) = codes "addl/v"
operate_name (AddV Quad) = codes "addq/v"
operate_name (SubV Long) = codes "subl/v"
operate_name (SubV Quad) = codes "subq/v"
operate_name (MulV Long) = codes "mull/v"
operate_name (MulV Quad) = codes "mulq/v"
operate_name Umulh = codes "umulh"
operate_name (Compare cmp.Eq) = codes "cmpeq"
operate_name (Compare cmp.Lt) = codes "cmplt"
operate_name (Compare cmp.Le) = codes "cmple"
operate_name (Compare cmp.Ult) = codes "cmpult"
operate_name (Compare cmp.Ule) = codes "cmpule"
operate_name Cmpbge = codes "cmpbge"
operate_name And = codes "and"
operate_name Bis = codes "bis"
operate_name Xor = codes "xor"
operate_name Bic = codes "bic"
operate_name Ornot = codes "ornot"
operate_name Eqv = codes "eqv"
operate_name Sll = codes "sll"
operate_name Srl = codes "srl"
operate_name Sra = codes "sra"
operate_name Zap = codes "zap"
operate_name Zapnot = codes "zapnot"
operate_name Sextb = codes "sextb"
operate_name Sextw = codes "sextw"
operate_name (ExtLow size.Byte) = codes "extbl"
operate_name (ExtLow size.Word) = codes "extwl"
operate_name (ExtLow size.Long) = codes "extll"
operate_name (ExtLow size.Quad) = codes "extql"
operate_name (ExtHigh wide.Word) = codes "extwh"
operate_name (ExtHigh wide.Long) = codes "extlh"
operate_name (ExtHigh wide.Quad) = codes "extqh"
operate_name (InsLow size.Byte) = codes "insbl"
operate_name (InsLow size.Word) = codes "inswl"
operate_name (InsLow size.Long) = codes "insll"
operate_name (InsLow size.Quad) = codes "insql"
operate_name (InsHigh wide.Word) = codes "inswh"
operate_name (InsHigh wide.Long) = codes "inslh"
operate_name (InsHigh wide.Quad) = codes "insqh"
operate_name (MskLow size.Byte) = codes "mskbl"
operate_name (MskLow size.Word) = codes "mskwl"
operate_name (MskLow size.Long) = codes "mskll"
operate_name (MskLow size.Quad) = codes "mskql"
operate_name (MskHigh wide.Word) = codes "mskwh"
operate_name (MskHigh wide.Long) = codes "msklh"
operate_name (MskHigh wide.Quad) = codes "mskqh"

-- "Conditional Move Integer"
abbrev pub move_name : Cond → List ℕ
move_name cond.Lbs = codes "cmovlbs"
move_name cond.Lbc = codes "cmovlbc"
move_name cond.Eq = codes "cmoveq"
move_name cond.Ne = codes "cmovne"
move_name cond.Lt = codes "cmovlt"
move_name cond.Ge = codes "cmovge"
move_name cond.Le = codes "cmovle"
move_name cond.Gt = codes "cmovgt"

-- Which registers an instruction reads and writes (Alpha Architecture Handbook, chapter 4, the operands of
-- each instruction). That a load into r31 looks at nothing, and what callsys uses, are this project's own.
use Rattle.std.specs.Prelude.{◌≡◌, ℕ, ◌^◌, ◌==◌, List, [], ◌∷◌, if◌then◌else◌, bit_or}
use Rattle.std.specs.Int.{bit_at}
use Rattle.std.specs.List.{list_any}
use Rattle.om_alpha.specs.declared.op.AluOp.{AluOp}
use Rattle.om_alpha.specs.declared.op.AluOp.TheVariants.{Sextb, Sextw}
use Rattle.om_isa.specs.declared.instr.MemOp.{MemOp}
use Rattle.om_isa.specs.declared.instr.MemOp.TheVariants.{Lda, Ldah, Ldbu, LdqU, Ldwu, Stw, Stb, StqU, Ldl, Ldq, Stl, Stq}
use Rattle.om_isa.specs.declared.instr.Access.{Access}
use Rattle.om_isa.specs.declared.instr.Access.TheVariants.{Address, Load, Store}
use Rattle.om_isa.specs.declared.instr.BrOp.{BrOp}
use Rattle.om_isa.specs.declared.instr.BrOp.TheVariants.{Br, Bsr, If}
use Rattle.om_isa.specs.declared.instr.Opnd.{Opnd}
use Rattle.om_isa.specs.declared.instr.Opnd.TheVariants.{R, Lit}
use Rattle.om_isa.specs.declared.instr.Instr.{Instr}
use Rattle.om_isa.specs.declared.instr.Instr.TheVariants.{Mem, Jump, Branch, Alu, Cmov, Misc, Fnop, Halt, Callsys}

-- what a memory operation does
abbrev pub access_of : MemOp → Access
access_of Lda = Address
access_of Ldah = Address
access_of Ldbu = Load
access_of LdqU = Load
access_of Ldwu = Load
access_of Ldl = Load
access_of Ldq = Load
access_of Stw = Store
access_of Stb = Store
access_of StqU = Store
access_of Stl = Store
access_of Stq = Store

abbrev pub operand_regs : Opnd → List ℕ
operand_regs (R r) = r ∷ []
operand_regs (Lit n) = []

abbrev pub memory_reads : Access → ℕ → ℕ → List ℕ
memory_reads Address ra rb = rb ∷ []
memory_reads Load ra rb = if ra == 31 then [] else rb ∷ []
memory_reads Store ra rb = ra ∷ rb ∷ []

abbrev pub memory_writes : Access → ℕ → List ℕ
memory_writes Address ra = ra ∷ []
memory_writes Load ra = ra ∷ []
memory_writes Store ra = []

abbrev pub alu_reads : AluOp → ℕ → List ℕ → List ℕ
alu_reads Sextb ra rest = rest
alu_reads Sextw ra rest = rest
alu_reads _ ra rest = ra ∷ rest

abbrev pub branch_reads : BrOp → ℕ → List ℕ
branch_reads Br ra = []
branch_reads Bsr ra = []
branch_reads (If c) ra = ra ∷ []

abbrev pub branch_writes : BrOp → ℕ → List ℕ
branch_writes Br ra = ra ∷ []
branch_writes Bsr ra = ra ∷ []
branch_writes (If c) ra = []

-- the registers whose numbers the instruction uses, r31 among them
abbrev pub regs_read : Instr → List ℕ
regs_read (Mem op ra rb disp) = memory_reads (access_of op) ra rb
regs_read (Jump kind ra rb hint) = rb ∷ []
regs_read (Branch op ra disp) = branch_reads op ra
regs_read (Alu op ra rb rc) = alu_reads op ra (operand_regs rb)
regs_read (Cmov cond ra rb rc) = ra ∷ rc ∷ operand_regs rb
regs_read (Misc op ra rb) = []
regs_read Fnop = []
regs_read Halt = []
regs_read Callsys = 0 ∷ 16 ∷ 17 ∷ 18 ∷ []

abbrev pub regs_written : Instr → List ℕ
regs_written (Mem op ra rb disp) = memory_writes (access_of op) ra
regs_written (Jump kind ra rb hint) = ra ∷ []
regs_written (Branch op ra disp) = branch_writes op ra
regs_written (Alu op ra rb rc) = rc ∷ []
regs_written (Cmov cond ra rb rc) = rc ∷ []
regs_written (Misc op ra rb) = []
regs_written Fnop = []
regs_written Halt = []
regs_written Callsys = 0 ∷ 19 ∷ []

-- a register as a mask; r31 has none
abbrev pub reg_bit : ℕ → ℕ
reg_bit r = if r == 31 then 0 else 2 ^ r

abbrev pub mask_onto : ℕ → List ℕ → ℕ
mask_onto m [] = m
mask_onto m (r ∷ rs) = mask_onto (bit_or m (reg_bit r)) rs

abbrev pub mask_of : List ℕ → ℕ
mask_of rs = mask_onto 0 rs

-- bit r of a mask says whether the list has register r; bit 31 is never set
abbrev pub mask_bit : List ℕ → ℕ → ℕ
mask_bit rs r = if r == 31 then 0 else if list_any (λ q. q == r) rs then 1 else 0

pub record MasksAreLists : Type 0 where
  pub bits : (rs : List ℕ) (r : ℕ) → bit_at (mask_of rs) r ≡ mask_bit rs r

-- What the word at a place does, in a program and in a rewritten graph, and the scripts that a run runs. LITERAL and
-- GPDISP are relocations of the ECOFF object format; what may stand in the registers that they need, and the acts that
-- rewriting makes, are this project's own.
use Rattle.std.specs.Prelude.{ℕ, Bool, ◌==◌, if◌then◌else◌, List, [], ◌∷◌, Option}
use Rattle.om_isa.specs.declared.instr.BrOp.{BrOp}
use Rattle.om_isa.specs.declared.instr.Instr.{Instr}
use Rattle.om_isa.specs.declared.instr.Instr.TheVariants.{Mem, Cmov}
use Rattle.om_isa.specs.declared.instr.Access.{Access}
use Rattle.om_isa.specs.declared.instr.Access.TheVariants.{Store}
use Rattle.om_isa.specs.Registers.{access_of, regs_read, regs_written, branch_reads, branch_writes}
use Rattle.om_value.specs.declared.value.Place.{Place}
use Rattle.om_value.specs.declared.value.Region.{Region}
use Rattle.om_value.specs.declared.value.Target.{Target}
use Rattle.om_prog.specs.Cells.{Cell}

pub data Act : Type 0 where
  Plain : (instr : Instr) → Act
  -- an LDQ under a LITERAL: over the global pointer of its object it gives the target
  Lit : (ra rb : ℕ) (target : Target) → Act
  -- the halves under a GPDISP: over the base place the first gives a half, over that the second gives the global pointer
  GpHi : (ra rb : ℕ) (base : Place) → Act
  GpLo : (ra rb : ℕ) (hi : Place) → Act
  -- a branch
  To : (op : BrOp) (ra : ℕ) (to : Place) → Act
  -- a LITERAL load that became LDA, or LDAH
  AddrLda : (ra rb : ℕ) (target : Target) → Act
  AddrHi : (ra rb : ℕ) (target : Target) → Act
  -- a load or store over a target: from the half of the load at hi, or from a GP
  UseLo : (instr : Instr) (hi : Place) (target : Target) → Act
  UseGp : (instr : Instr) (gp : ℕ) (target : Target) → Act
  -- what no program holds: it shows an address
  Wrong : Act

-- a word that is there, with its place
pub record Word : Type 0 where
  pub at : Place
  pub act : Act

-- what a run runs
pub record Script : Type 0 where
  -- the next word at a place or after it in its text
  pub fetch : Place → Option Word
  -- whether a place is that of a word of the program
  pub lands : Place → Bool
  -- the table of an object: global pointers are known by it
  pub table : ℕ → ℕ
  pub entry : Place
  pub sizes : Region → ℕ
  pub cells : Region → ℕ → Cell

-- the base register of a load or store
abbrev pub base_of : Instr → ℕ
base_of (Mem op ra rb disp) = rb
base_of _ = 31

-- the register that a store stores
abbrev pub stored_reads : Access → ℕ → List ℕ
stored_reads Store ra = ra ∷ []
stored_reads _ ra = []

-- the registers that a load or store reads apart from its base
abbrev pub used_reads : Instr → List ℕ
used_reads (Mem op ra rb disp) = stored_reads (access_of op) ra
used_reads _ = []

-- the registers that a word reads
abbrev pub act_reads : Act → List ℕ
act_reads (Plain i) = regs_read i
act_reads (Lit ra rb t) = if ra == 31 then [] else rb ∷ []
act_reads (GpHi ra rb base) = rb ∷ []
act_reads (GpLo ra rb hi) = rb ∷ []
act_reads (To op ra q) = branch_reads op ra
act_reads (AddrLda ra rb t) = rb ∷ []
act_reads (AddrHi ra rb t) = rb ∷ []
act_reads (UseLo i hi t) = base_of i ∷ used_reads i
act_reads (UseGp i gp t) = gp ∷ used_reads i
act_reads Wrong = []

-- the registers that a word writes
abbrev pub act_writes : Act → List ℕ
act_writes (Plain i) = regs_written i
act_writes (Lit ra rb t) = ra ∷ []
act_writes (GpHi ra rb base) = ra ∷ []
act_writes (GpLo ra rb hi) = ra ∷ []
act_writes (To op ra q) = branch_writes op ra
act_writes (AddrLda ra rb t) = ra ∷ []
act_writes (AddrHi ra rb t) = ra ∷ []
act_writes (UseLo i hi t) = regs_written i
act_writes (UseGp i gp t) = regs_written i
act_writes Wrong = []

-- the registers that a word may write or leave as they are
abbrev pub plain_keeps : Instr → List ℕ
plain_keeps (Cmov cond ra rb rc) = rc ∷ []
plain_keeps _ = []

abbrev pub act_keeps : Act → List ℕ
act_keeps (Plain i) = plain_keeps i
act_keeps _ = []

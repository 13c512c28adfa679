-- All places in code that a value, a cell, a state or a word holds are places of K.
use Rattle.std.specs.Prelude.{◌≡◌, ◌⊎◌, ℕ}
use Rattle.om_isa.specs.declared.instr.BrOp.{BrOp}
use Rattle.om_isa.specs.declared.instr.BrOp.TheVariants.{If}
use Rattle.om_isa.specs.declared.instr.Instr.{Instr}
use Rattle.om_isa.specs.declared.instr.Instr.TheVariants.{Jump as Jumps}
use Rattle.om_value.specs.declared.value.Place.{Place}
use Rattle.om_value.specs.declared.value.Target.{Target}
use Rattle.om_value.specs.declared.value.Target.TheVariants as target
use Rattle.om_value.specs.declared.value.Value.{Value}
use Rattle.om_value.specs.declared.value.Value.TheVariants.{Code, GpOff}
use Rattle.om_value.specs.declared.value.Region.{Region}
use Rattle.om_prog.specs.Cells.{Cell, Byte, Part}
use Rattle.om_prog.specs.Act.{Act, Plain, Lit, To, AddrLda, UseLo, UseGp}
use Rattle.om_prog.specs.Step.{SymState, next_place}

module _ (K : Place → Type 0) where
  abbrev pub TargetWithin : Target → Type 0
  TargetWithin (target.Code q) = K q
  TargetWithin _ = Unit {0}

  abbrev pub ValueWithin : Value → Type 0
  ValueWithin (Code q) = K q
  ValueWithin (GpOff o t) = TargetWithin t
  ValueWithin _ = Unit {0}

  abbrev pub CellWithin : Cell → Type 0
  CellWithin (Byte b) = Unit {0}
  CellWithin (Part v i n) = ValueWithin v

  pub record StateWithin (s : SymState) : Type 0 where
    pub regs : (r : ℕ) → ValueWithin (s.regs r)
    pub cells : (r : Region) (x : ℕ) → CellWithin (s.cells r x)

  -- a link is written to r31, or its place is one of K
  abbrev pub LinkWithin : ℕ → Place → Type 0
  LinkWithin r at = (r ≡ 31) ⊎ K (next_place at)

  abbrev pub BranchWithin : BrOp → ℕ → Place → Type 0
  BranchWithin (If k) ra at = Unit {0}
  BranchWithin op ra at = LinkWithin ra at

  abbrev pub PlainWithin : Instr → Place → Type 0
  PlainWithin (Jumps kind ra rb hint) at = LinkWithin ra at
  PlainWithin _ at = Unit {0}

  -- what a word brings in
  abbrev pub ActWithin : Place → Act → Type 0
  ActWithin at (Plain i) = PlainWithin i at
  ActWithin at (Lit ra rb t) = TargetWithin t
  ActWithin at (To op ra q) = BranchWithin op ra at
  ActWithin at (AddrLda ra rb t) = TargetWithin t
  ActWithin at (UseLo i hi t) = TargetWithin t
  ActWithin at (UseGp i gp t) = TargetWithin t
  ActWithin at _ = Unit {0}

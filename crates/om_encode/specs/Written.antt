-- The instruction that is written for each kept word, over the numbers of a layout, and what has to fit for that. A memory
-- instruction has a displacement of 16 signed bits and a branch one of 21 (Alpha Architecture Handbook, chapter 3).
use Rattle.std.specs.Prelude.{◌≡◌, ℕ, ◌^◌, ◌<◌, ◌==◌, ℤ, ◌+ℤ◌, ◌-ℤ◌, ◌*ℤ◌, pos, if◌then◌else◌, List, [], ◌∷◌, length, Option, Some, None, option_and_then, slice_get, slice_set, FitsSigned}
use Rattle.std.specs.Int.{w16, w64, cast_signed, cast_unsigned}
use Rattle.std.specs.Option.{option_or}
use Rattle.om_isa.specs.declared.instr.Instr.{Instr}
use Rattle.om_isa.specs.declared.instr.Instr.TheVariants.{Mem, Branch}
use Rattle.om_isa.specs.declared.instr.MemOp.TheVariants.{Lda, Ldah, Ldq}
use Rattle.om_isa.specs.Fields.{IsDisp}
use Rattle.om_value.specs.declared.value.Place.{Place}
use Rattle.om_value.specs.declared.value.Target.{Target}
use Rattle.om_value.specs.declared.value.Target.TheVariants as target
use Rattle.om_prog.specs.declared.item.Role.{Role}
use Rattle.om_prog.specs.declared.item.Role.TheVariants as role
use Rattle.om_prog.specs.Act.{base_of}
use Rattle.om_prog.specs.View.{ProgramView, item_at}
use Rattle.om_graph.specs.declared.op.Op.{Op}
use Rattle.om_graph.specs.declared.op.OpKind.{OpKind}
use Rattle.om_graph.specs.declared.op.OpKind.TheVariants as op
use Rattle.om_graph.specs.declared.op.Last.{Last}
use Rattle.om_graph.specs.declared.op.Last.TheVariants as last
use Rattle.om_layout.specs.Layout.{LayoutView, position_of, code_at, table_at, gp_of, slot_at, address_of}
use Rattle.om_encode.specs.declared.highs.High.{High}
use Rattle.om_encode.specs.Halves.{high_part, from_gp, from_base}
use Rattle.om_encode.specs.Fitting.{low_part, branch_disp}

-- ---- loads and stores over another base

-- the load or store of an instruction over another base, from which its own lies this far
abbrev pub IsOver : Instr → ℕ → ℤ → Instr → Type 0
IsOver (Mem op ra rb disp) base start result = (result ≡ Mem op ra base (start +ℤ disp)) × FitsSigned w16 disp
IsOver _ base start result = ⊥

-- it is one, and the sum has 16 signed bits
abbrev pub FitsOver : Instr → ℤ → Type 0
FitsOver (Mem op ra rb disp) start = FitsSigned w16 (start +ℤ disp)
FitsOver _ start = ⊥

-- ---- high halves

-- what an op gives the half of, if it is a load that became LDAH into this register
abbrev pub high_in : ℕ → OpKind → Option High
high_in r (op.AddrHi ra rb t least) = if ra == r then Some (record { target = t; least = least }) else None
high_in r _ = None

-- by the last of some ops that is one
abbrev pub last_high : ℕ → List Op → Option High
last_high r [] = None
last_high r (o ∷ os) = option_or (last_high r os) (high_in r o.kind)

-- the high halves behind an op
abbrev pub noted : List (Option High) → OpKind → List (Option High)
noted highs (op.AddrHi ra rb t least) = slice_set highs ra (Some (record { target = t; least = least }))
noted highs _ = highs

-- what each register has the high half of behind some ops
pub record AreHighs (os : List Op) (highs : List (Option High)) : Type 0 where
  pub count : length highs ≡ 32
  pub each : (r : ℕ) → r < 32 → slice_get highs r ≡ Some (last_high r os)

-- the base of a load or store is a register that has the high half of this
abbrev pub HasHalf : List (Option High) → Instr → High → Type 0
HasHalf highs i h = base_of i < 32 → slice_get highs (base_of i) ≡ Some (Some h)

-- ---- the second half of a pair

abbrev pub base_in_role : Role → Option Place
base_in_role (role.GpHi base) = Some base
base_in_role _ = None

-- the base place of the pair whose first half stands at a place of the program
abbrev pub pair_base : ProgramView → Place → Option Place
pair_base p hi = option_and_then (λ i. base_in_role i.role) (item_at p hi)

-- ---- what fits

module _ (l : LayoutView) where
  -- a target that lies in memory, as the global pointer of an object does
  pub record IsNear (obj : ℕ) (t : Target) : Type 0 where
    pub gp : gp_of l obj < 2 ^ 48
    pub address : address_of l t < 2 ^ 48

  -- the slot of a target is reached from the global pointer
  pub record HasNearSlot (obj : ℕ) (t : Target) : Type 0 where
    pub slot : ℕ
    pub found : slot_at l (table_at l obj) t ≡ Some slot
    pub gp : gp_of l obj < 2 ^ 48
    pub address : slot < 2 ^ 48
    pub fits : FitsSigned w16 (pos slot -ℤ pos (gp_of l obj))

  -- so is the target itself, or it is a number of 16 signed bits
  abbrev pub FitsLda : ℕ → Target → Type 0
  FitsLda obj (target.Num n) = FitsSigned w16 (cast_signed w64 n)
  FitsLda obj t = IsNear obj t × FitsSigned w16 (from_gp l obj t)

  pub record FitsHigh (obj : ℕ) (t : Target) (least : ℤ) : Type 0 where
    pub near : IsNear obj t
    pub fits : FitsSigned w16 (high_part (from_gp l obj t +ℤ least))

  -- what is left of the distance of a target behind its high part
  abbrev pub behind : ℕ → High → ℤ
  behind obj h = from_gp l obj h.target -ℤ (pos 65536 *ℤ high_part (from_gp l obj h.target +ℤ h.least))

  -- the halves of the distance from a place to the global pointer
  pub record FitsPair (obj : ℕ) (base : Place) : Type 0 where
    pub gp : gp_of l obj < 2 ^ 48
    pub code : code_at l base < 2 ^ 48
    pub high : FitsSigned w16 (high_part (from_base l obj base))
    pub low : FitsSigned w16 (low_part (from_base l obj base))

  -- what the register of a use has the half of
  pub record FitsUse (highs : List (Option High)) (obj : ℕ) (i : Instr) : Type 0 where
    pub half : High
    pub found : HasHalf highs i half
    pub high : FitsHigh obj half.target half.least
    pub over : FitsOver i (behind obj half)

  -- the place of a branch, where it goes, and the way there
  pub record FitsBranch (at q : Place) : Type 0 where
    pub at_position : position_of l at < 2 ^ 24
    pub to_position : position_of l q < 2 ^ 24
    pub disp : IsDisp (branch_disp l at q)

  abbrev pub FitsCond : Place → Instr → Place → Type 0
  FitsCond at (Branch op ra disp) q = FitsBranch at q
  FitsCond at _ q = ⊥

  abbrev pub FitsLast : Last → Type 0
  FitsLast (last.Br at op ra q) = FitsBranch at q
  FitsLast (last.Cond at i q) = FitsCond at i q
  FitsLast (last.Call at op ra q) = FitsBranch at q
  FitsLast _ = Unit {0}

-- the second half of a pair, whose first half stands at a place of the program
pub record FitsLow (p : ProgramView) (l : LayoutView) (obj : ℕ) (hi : Place) : Type 0 where
  pub base : Place
  pub found : pair_base p hi ≡ Some base
  pub pair : FitsPair l obj base

abbrev pub FitsOp : ProgramView → LayoutView → List (Option High) → ℕ → OpKind → Type 0
FitsOp p l highs obj (op.Lit ra rb t) = HasNearSlot l obj t
FitsOp p l highs obj (op.AddrLda ra rb t) = FitsLda l obj t
FitsOp p l highs obj (op.AddrHi ra rb t least) = FitsHigh l obj t least
FitsOp p l highs obj (op.UseLo i hi) = FitsUse l highs obj i
FitsOp p l highs obj (op.UseGp i gp t) = IsNear l obj t × FitsOver i (from_gp l obj t)
FitsOp p l highs obj (op.GpHi ra rb base) = FitsPair l obj base
FitsOp p l highs obj (op.GpLo ra rb hi) = FitsLow p l obj hi
FitsOp p l highs obj _ = Unit {0}

-- ---- what is written

module _ (l : LayoutView) where
  -- LDA of a number, or of a target over the global pointer
  abbrev pub IsLda : ℕ → ℕ → ℕ → Target → Instr → Type 0
  IsLda obj ra rb (target.Num n) result = (d : ℤ) × (result ≡ Mem Lda ra rb d) × (n ≡ cast_unsigned w64 d)
  IsLda obj ra rb t result = result ≡ Mem Lda ra rb (from_gp l obj t)

  -- the word at a block's end, if there is one
  abbrev pub cond_instr : Place → Instr → Place → Instr
  cond_instr at (Branch op ra disp) q = Branch op ra (branch_disp l at q)
  cond_instr at i q = i

  abbrev pub last_instr : Last → Option Instr
  last_instr last.Fall = None
  last_instr last.Off = None
  last_instr (last.Br at op ra q) = Some (Branch op ra (branch_disp l at q))
  last_instr (last.Cond at i q) = Some (cond_instr at i q)
  last_instr (last.Call at op ra q) = Some (Branch op ra (branch_disp l at q))
  last_instr (last.CallBy at i) = Some i
  last_instr (last.JumpBy at i) = Some i

module _ (p : ProgramView) (l : LayoutView) (highs : List (Option High)) (obj : ℕ) where
  abbrev pub IsInstrOf : OpKind → Instr → Type 0
  IsInstrOf (op.Plain i) result = result ≡ i
  IsInstrOf (op.Lit ra rb t) result =
      (a : ℕ) → slot_at l (table_at l obj) t ≡ Some a → result ≡ Mem Ldq ra rb (pos a -ℤ pos (gp_of l obj))
  IsInstrOf (op.AddrLda ra rb t) result = IsLda l obj ra rb t result
  IsInstrOf (op.AddrHi ra rb t least) result = result ≡ Mem Ldah ra rb (high_part (from_gp l obj t +ℤ least))
  IsInstrOf (op.UseLo i hi) result =
      (h : High) → HasHalf highs i h → IsOver i (base_of i) (behind l obj h) result
  IsInstrOf (op.UseGp i gp t) result = IsOver i gp (from_gp l obj t) result
  IsInstrOf (op.GpHi ra rb base) result = result ≡ Mem Ldah ra rb (high_part (from_base l obj base))
  IsInstrOf (op.GpLo ra rb hi) result =
      (base : Place) → pair_base p hi ≡ Some base → result ≡ Mem Lda ra rb (low_part (from_base l obj base))

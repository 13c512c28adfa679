-- When the address ops of a graph fit in a layout: the displacement of each lies in its field, and what it reaches lies
-- in its region. A load or store has a displacement of 16 bits, LDA and LDAH too (Alpha Architecture Handbook,
-- chapter 3, "Memory Instruction Format"); how far is this project's own rule.
use Rattle.std.specs.Prelude.{ℕ, ◌≤◌, ℤ, pos, ◌+ℤ◌, ◌-ℤ◌, ◌*ℤ◌, ◌≤ℤ◌, FitsSigned}
use Rattle.std.specs.Int.{w16, w64, cast_signed}
use Rattle.om_isa.specs.declared.instr.Instr.{Instr}
use Rattle.om_value.specs.declared.value.Place.{Place}
use Rattle.om_value.specs.declared.value.Target.{Target}
use Rattle.om_value.specs.declared.value.Target.TheVariants as target
use Rattle.om_prog.specs.Act.{AddrHi, UseLo}
use Rattle.om_prog.specs.View.{ProgramView, size_of}
use Rattle.om_graph.specs.declared.op.Op.{Op}
use Rattle.om_graph.specs.declared.op.OpKind.{OpKind}
use Rattle.om_graph.specs.declared.op.OpKind.TheVariants as op
use Rattle.om_graph.specs.View.{Block, GraphView, Has, ops_of}
use Rattle.om_graph.specs.Run.{block_words}
use Rattle.om_graph.specs.Uses.{IsLocalUse, IsBaseUse}
use Rattle.om_graph.specs.OfProgram.{TakesHigh}

-- over a layout: the global pointer of each object, and the address of each target
module _ (p : ProgramView) (gp : ℕ → ℕ) (address : Target → ℕ) where
  -- how far a target lies behind the global pointer of an object
  abbrev pub from_gp : ℕ → Target → ℤ
  from_gp o t = pos (address t) -ℤ pos (gp o)

  -- a byte of its region, or the region's end
  abbrev pub IsWithin : Target → Type 0
  IsWithin (target.Ptr r x) = x ≤ size_of p r
  IsWithin _ = ⊥

  -- so is the byte at a displacement from it
  abbrev pub SumIsWithin : Target → ℤ → Type 0
  SumIsWithin (target.Ptr r x) z = (pos 0 ≤ℤ (pos x +ℤ z)) × ((pos x +ℤ z) ≤ℤ pos (size_of p r))
  SumIsWithin _ z = ⊥

  -- the high part of a target, by the least displacement from it: rounded so that what is left fits 16 signed bits
  pub record IsHighPart (o : ℕ) (t : Target) (least hi : ℤ) : Type 0 where
    pub above : (pos 65536 *ℤ hi) ≤ℤ ((from_gp o t +ℤ least) +ℤ pos 32768)
    pub below : ((from_gp o t +ℤ least) +ℤ pos 32768) ≤ℤ ((pos 65536 *ℤ hi) +ℤ pos 65535)

  -- the sums of a target's offset and the displacements of its uses have one quotient by 16, rounded down. Regions move
  -- by multiples of 16, so the high parts of the uses stay one
  abbrev pub HaveOneQuotient : Block → Place → Target → Type 0
  HaveOneQuotient b hi (target.Ptr r x) =
      (k : ℤ)
      × ((z : ℤ) → TakesHigh b hi z →
      ((pos 16 *ℤ k) ≤ℤ (pos x +ℤ z)) × ((pos x +ℤ z) ≤ℤ ((pos 16 *ℤ k) +ℤ pos 15)))
  HaveOneQuotient b hi _ = ⊥

  abbrev pub LdaFits : ℕ → Target → Type 0
  LdaFits o (target.Num n) = FitsSigned w16 (cast_signed w64 n)
  LdaFits o (target.Ptr r x) = (x ≤ size_of p r) × FitsSigned w16 (from_gp o (target.Ptr r x))
  LdaFits o (target.Code q) = ⊥

  -- a use of a high half is a local use of the op that gives it
  pub record HighUseFits (b : Block) (at : Place) (i : Instr) (hi : Place) : Type 0 where
    pub target : Target
    pub ra : ℕ
    pub rb : ℕ
    pub least : ℤ
    pub load : Has (ops_of b) (record { place = hi; kind = op.AddrHi ra rb target least })
    pub used :
        IsLocalUse (block_words b) (record { at = hi; act = AddrHi ra rb target }) (record { at = at; act = UseLo i hi target }) ra
    pub disp : ℤ
    pub base : IsBaseUse ra i disp
    pub high : ℤ
    pub is_high : IsHighPart at.obj target least high
    pub fits : FitsSigned w16 ((from_gp at.obj target +ℤ disp) -ℤ (pos 65536 *ℤ high))
    pub within : IsWithin target

  abbrev pub OpFits : Block → Place → OpKind → Type 0
  OpFits b at (op.AddrLda ra rb t) = LdaFits at.obj t
  OpFits b at (op.AddrHi ra rb t least) =
      IsWithin t × HaveOneQuotient b at t × ((hi : ℤ) → IsHighPart at.obj t least hi → FitsSigned w16 hi)
  OpFits b at (op.UseLo i hi) = HighUseFits b at i hi
  OpFits b at (op.UseGp i base t) =
      (r : ℕ) × (z : ℤ) × IsBaseUse r i z × IsWithin t × SumIsWithin t z × FitsSigned w16 (from_gp at.obj t +ℤ z)
  OpFits b at _ = Unit {0}

  -- every address op of the graph fits
  pub record OpsFit (g : GraphView) : Type 0 where
    pub ops : (b : Block) (o : Op) → Has g.blocks b → Has (ops_of b) o → OpFits b o.place o.kind

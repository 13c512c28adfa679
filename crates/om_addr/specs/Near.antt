-- How far the pointer of a load lies from the global pointer, and its base uses.
use Rattle.std.specs.Prelude.{◌≡◌, ◌<◌, ◌≤◌, ◌^◌, ℕ, ℤ, pos, negsuc, ◌+ℤ◌, ◌-ℤ◌, ◌≤ℤ◌, int_le, FitsSigned, Bool, true, false, not, ◌&&◌, ◌==◌, if◌then◌else◌, Option, Some, None}
use Rattle.std.specs.Int.{w16}
use Rattle.om_isa.specs.declared.instr.Access.{Access}
use Rattle.om_isa.specs.declared.instr.Access.TheVariants.{Address, Load as Loads, Store}
use Rattle.om_isa.specs.declared.instr.Instr.{Instr}
use Rattle.om_isa.specs.declared.instr.Instr.TheVariants.{Mem}
use Rattle.om_isa.specs.Registers.{access_of}
use Rattle.om_value.specs.declared.value.Region.{Region}
use Rattle.om_value.specs.declared.value.Target.{Target}
use Rattle.om_value.specs.declared.value.Target.TheVariants as target
use Rattle.om_prog.specs.Act.{Plain, Word}
use Rattle.om_prog.specs.View.{ProgramView, size_of}
use Rattle.om_graph.specs.declared.op.OpKind.{OpKind}
use Rattle.om_graph.specs.declared.op.OpKind.TheVariants as op
use Rattle.om_graph.specs.View.{Block, GraphView}
use Rattle.om_graph.specs.Run.{block_words}
use Rattle.om_graph.specs.Fits.{from_gp, LdaFits, SumIsWithin}
use Rattle.om_graph.specs.Uses.{IsLocalUse, IsBaseUse, Unwritten}
use Rattle.om_layout.specs.Layout.{LayoutView, gp_of, address_of}
use Rattle.om_addr.specs.declared.loads.Load.{Load}
use Rattle.om_addr.specs.declared.near.Pointer.{Pointer}
use Rattle.om_addr.specs.Loads.{IsLoadIn}
use Rattle.om_addr.specs.Passing.{HasRegionsOf}

-- 16 signed bits hold a number
abbrev pub is_small : ℤ → Bool
is_small z = int_le (negsuc 32767) z && int_le z (pos 32767)

-- sums with its offset and its distance do not wrap
pub record IsTame (at : Pointer) : Type 0 where
  pub above : negsuc (2 ^ 62) ≤ℤ at.distance
  pub below : at.distance ≤ℤ pos (2 ^ 62)
  pub off : pos 0 ≤ℤ at.off
  pub inside : at.off ≤ℤ at.size
  pub size : at.size ≤ℤ pos (2 ^ 62)

-- how far one address lies behind another, where neither is large
abbrev pub Differs : ℕ → ℕ → ℤ → Type 0
Differs a b z = a < 2 ^ 49 → b < 2 ^ 49 → z ≡ (pos a -ℤ pos b)

-- a pointer at these numbers, where they are not large, and none where it lies outside
abbrev pub IsPointerAt : ℤ → ℕ → ℕ → Option Pointer → Type 0
IsPointerAt distance off size (Some at) =
    (off ≤ size) × (at.distance ≡ distance) × (at.off ≡ pos off) × (at.size ≡ pos size)
IsPointerAt distance off size None =
    off ≤ size → size < 2 ^ 49 → negsuc (2 ^ 50) ≤ℤ distance → distance ≤ℤ pos (2 ^ 50) → ⊥

-- where a pointer lies, in a layout that has the regions of a program
pub record Lies (p : ProgramView) (l : LayoutView) (obj : ℕ) (region : Region) (x : ℕ)
    (at : Pointer) : Type 0 where
  pub inside : x ≤ size_of p region
  pub distance : at.distance ≡ from_gp p (gp_of l) (address_of l) obj (target.Ptr region x)
  pub off : at.off ≡ pos x
  pub size : at.size ≡ pos (size_of p region)

-- an answer on the pointer of a load: where it lies, or none, where it lies in no region
abbrev pub Says : ProgramView → LayoutView → Load → Option Pointer → Type 0
Says p l load None =
    (region : Region) (x : ℕ) → load.target ≡ target.Ptr region x → x ≤ size_of p region → ⊥
Says p l load (Some at) =
    (region : Region) (x : ℕ) → load.target ≡ target.Ptr region x → Lies p l load.obj region x at

abbrev pub IsSaid : LayoutView → Load → Option Pointer → Type 0
IsSaid l load o = (p : ProgramView) → HasRegionsOf p l → Says p l load o

-- ---- base uses

abbrev pub serves : Access → ℕ → ℕ → Bool
serves Address ra r = false
serves Loads ra r = not (ra == 31)
serves Store ra r = not (ra == r)

-- a load or store over a register that it does not store, and which it reads
abbrev pub is_base_use : ℕ → Instr → Bool
is_base_use r (Mem o ra rb d) = (rb == r) && not (r == 31) && serves (access_of o) ra r
is_base_use r _ = false

abbrev pub disp_in : Instr → ℤ
disp_in (Mem o ra rb d) = d
disp_in _ = pos 0

-- the byte at a displacement lies in the region or at its end, and 16 signed bits reach it
abbrev pub reaches_at : Pointer → ℤ → Bool
reaches_at at d =
    int_le (pos 0) (at.off +ℤ d) && int_le (at.off +ℤ d) at.size && is_small (at.distance +ℤ d)

-- over the base of the load, where it is a base use that reaches
abbrev pub base_kind : Load → Pointer → OpKind → Option OpKind
base_kind l at (op.Plain i) =
    if is_base_use l.ra i && reaches_at at (disp_in i)
    then Some (op.UseGp i l.rb l.target)
    else None
base_kind l at _ = None

-- no base use of a load of a near pointer is left that could be over the base of the load
pub record NoBaseUseOf (l : LayoutView) (g : GraphView) (load : Load) : Type 0 where
  pub uses :
      (p : ProgramView) (b : Block) (w user : Word) (i : Instr) (region : Region) (x : ℕ) (z : ℤ) →
      HasRegionsOf p l → IsLoadIn g load b w → load.target ≡ target.Ptr region x →
      (u : IsLocalUse (block_words b) w user load.ra) → user.act ≡ Plain i →
      IsBaseUse load.ra i z → (load.ra ≡ load.rb → ⊥) → Unwritten load.rb u.mid →
      LdaFits p (gp_of l) (address_of l) load.obj (target.Ptr region x) →
      SumIsWithin p (gp_of l) (address_of l) (target.Ptr region x) z →
      FitsSigned w16 (from_gp p (gp_of l) (address_of l) load.obj (target.Ptr region x) +ℤ z) → ⊥

-- What fits in every layout of a graph: displacements of slots and pairs, and distances in data. So an encoder refuses no graph
-- of which the address words and the branches fit; and branches in reach fit where words stand in order of object and offset.
use Rattle.std.specs.Prelude.{◌≡◌, ℕ, ◌+◌, ◌*◌, ℤ, pos, ◌-ℤ◌, ◌*ℤ◌, All, Some, slice_get, FitsSigned}
use Rattle.std.specs.Int.{w16}
use Rattle.om_isa.specs.Fields.{IsDisp}
use Rattle.om_value.specs.declared.value.Place.{Place}
use Rattle.om_value.specs.declared.value.Target.{Target}
use Rattle.om_prog.specs.View.{ProgramView}
use Rattle.om_prog.specs.Valid.{IsProgram}
use Rattle.om_graph.specs.declared.op.Last.{Last}
use Rattle.om_graph.specs.declared.op.Last.TheVariants.{Br, Cond, Call}
use Rattle.om_graph.specs.View.{Block, GraphView, Has}
use Rattle.om_graph.specs.Index.{BranchesInReach}
use Rattle.om_graph.specs.Kept.{Comes}
use Rattle.om_graph.specs.OfProgram.{IsGraphOf}
use Rattle.om_layout.specs.Layout.{LayoutView, TableAt, start_at, gp_at, position_of}
use Rattle.om_layout.specs.Facts.{LaysOut}
use Rattle.om_layout.specs.Order.{IsLayoutOf}
use Rattle.om_layout.specs.Limits.{IsWithinLimits}
use Rattle.om_encode.specs.Halves.{high_part, from_base}
use Rattle.om_encode.specs.Data.{DistanceFits}
use Rattle.om_encode.specs.Fields.{Splits}

-- what is left of a distance behind its high part
abbrev pub low_part : ℤ → ℤ
low_part z = z -ℤ (pos 65536 *ℤ high_part z)

-- the displacement of a branch at a place to another, in words
abbrev pub branch_disp : LayoutView → Place → Place → ℤ
branch_disp l at q = (pos (position_of l q) -ℤ pos (position_of l at)) -ℤ pos 1

pub record AllFits (p : ProgramView) (g : GraphView) (l : LayoutView) : Type 0 where
  -- each slot is reached from its table's global pointer
  pub slots :
      (k j : ℕ) (t : TableAt) (u : Target) → slice_get l.tables k ≡ Some t → slice_get t.slots j ≡ Some u →
      FitsSigned w16 (pos (start_at l k + 8 * j) -ℤ pos (gp_at l k))
  -- each global pointer is reached from each place by the two halves of a pair
  pub pairs :
      (obj : ℕ) (base : Place) →
      Splits (from_base l obj base) (high_part (from_base l obj base)) (low_part (from_base l obj base))
  -- so is each distance in data from its global pointer
  pub distances : All (λ r. All (λ f. DistanceFits l f.value) r.fields) p.regions

abbrev pub FitsInEveryLayout : Type 0
FitsInEveryLayout =
    (p : ProgramView) (g : GraphView) (l : LayoutView) → IsProgram p → IsGraphOf p g → IsWithinLimits p →
    LaysOut p g l (Comes g) → AllFits p g l

-- ---- branches

-- the branch that ends a block, if one does
abbrev pub BranchFits : LayoutView → Last → Type 0
BranchFits l (Br at op ra to) = IsDisp (branch_disp l at to)
BranchFits l (Cond at i to) = IsDisp (branch_disp l at to)
BranchFits l (Call at op ra to) = IsDisp (branch_disp l at to)
BranchFits l _ = Unit {0}

-- every branch of a graph fits, between the positions of a layout
pub record BranchesFit (g : GraphView) (l : LayoutView) : Type 0 where
  pub lasts : (b : Block) → Has g.blocks b → BranchFits l b.last

-- in order of object and offset no more words stand between two places than the program has there
abbrev pub ReachedBranchesFit : Type 0
ReachedBranchesFit =
    (p : ProgramView) (g : GraphView) (l : LayoutView) → IsProgram p → IsGraphOf p g → IsLayoutOf p g l →
    BranchesInReach g → BranchesFit g l

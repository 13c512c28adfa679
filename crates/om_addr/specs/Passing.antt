-- What the pass over addresses makes of a graph, by the numbers of a layout and masks that were found before.
use Rattle.std.specs.Prelude.{◌≡◌, ◌<◌, ◌+◌, ◌^◌, ℕ, Bool, true, false, List, Option, Some, None}
use Rattle.om_value.specs.declared.value.Region.{Region}
use Rattle.om_prog.specs.View.{ProgramView, size_of}
use Rattle.om_prog.specs.Valid.{IsProgram}
use Rattle.om_graph.specs.declared.op.OpKind.{OpKind}
use Rattle.om_graph.specs.View.{GraphView, replaced}
use Rattle.om_graph.specs.Held.{block_ids, op_ids}
use Rattle.om_graph.specs.Fits.{OpsFit}
use Rattle.om_graph.specs.Checks.{MaskChecked}
use Rattle.om_graph.specs.Weight.{weight}
use Rattle.om_blocks.specs.Found.{masks_in}
use Rattle.om_uses.specs.Parts.{Kept, IsNearly}
use Rattle.om_layout.specs.Layout.{LayoutView, region_at, size_at, gp_of, address_of}
use Rattle.om_passes.specs.OneEdit.{MayGoOn}
use Rattle.om_passes.specs.Step.{Step, Steps}

-- a layout has the regions of a program, with their sizes, and no distance in it wraps
pub record HasRegionsOf (p : ProgramView) (l : LayoutView) : Type 0 where
  pub sizes : (r : Region) → size_at l r ≡ size_of p r
  pub low : (r : Region) → region_at l r + size_of p r < 2 ^ 48
  pub gps : (o : ℕ) → gp_of l o < 2 ^ 48

-- what steps made of a graph of the program
pub record IsReduced (p : ProgramView) (l : LayoutView) (masks : List ℕ) (changed : Bool)
    (old new : GraphView) : Type 0 where
  pub steps : Steps p old new
  pub lighter : changed ≡ true → weight new < weight old
  -- address ops that fitted in the layout fit in it still
  pub fits :
      HasRegionsOf p l → OpsFit p (gp_of l) (address_of l) old →
      OpsFit p (gp_of l) (address_of l) new
  -- the masks pass the check still
  pub checked : MaskChecked (masks_in new masks) new

-- one step
pub record IsReducedOnce (p : ProgramView) (l : LayoutView) (masks : List ℕ)
    (old new : GraphView) : Type 0 where
  pub step : Step p old new
  pub fits :
      HasRegionsOf p l → OpsFit p (gp_of l) (address_of l) old →
      OpsFit p (gp_of l) (address_of l) new
  pub checked : MaskChecked (masks_in new masks) new

-- blocks and ops have the ids that they had, and uses that were nearly right are so still
pub record KeepsIds (old new : GraphView) : Type 0 where
  pub blocks : block_ids new.blocks ≡ block_ids old.blocks
  pub ops : op_ids new.blocks ≡ op_ids old.blocks
  pub near : (k : Kept) → IsNearly old k → IsNearly new k

-- what the pass makes of a graph: it is said of each program of which that is a graph
pub record Reducing (l : LayoutView) (masks : List ℕ) (changed : Bool)
    (old new : GraphView) : Type 0 where
  pub same : changed ≡ false → new ≡ old
  pub ids : KeepsIds old new
  -- passes may go on with it
  pub goes_on : (p : ProgramView) → IsProgram p → MayGoOn p old → MayGoOn p new
  pub passed :
      (p : ProgramView) → IsProgram p → MayGoOn p old → MaskChecked (masks_in old masks) old →
      IsReduced p l masks changed old new

-- one edit of it
pub record ReducingOnce (l : LayoutView) (masks : List ℕ) (old new : GraphView) : Type 0 where
  pub ids : KeepsIds old new
  pub goes_on : (p : ProgramView) → IsProgram p → MayGoOn p old → MayGoOn p new
  pub passed :
      (p : ProgramView) → IsProgram p → MayGoOn p old → MaskChecked (masks_in old masks) old →
      IsReducedOnce p l masks old new

-- ---- ops that become others

-- another kind in an op, where there is one for it
abbrev pub set_if : GraphView → ℕ → Option OpKind → GraphView
set_if g id None = g
set_if g id (Some kind) = replaced g id kind

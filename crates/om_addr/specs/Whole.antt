-- What the whole pass over addresses makes of a graph, and what it is that nothing is left for it.
use Rattle.std.specs.Prelude.{◌≡◌, ℕ, Bool, false}
use Rattle.om_value.specs.declared.value.Place.{Place}
use Rattle.om_prog.specs.View.{ProgramView}
use Rattle.om_prog.specs.Valid.{IsProgram}
use Rattle.om_graph.specs.View.{GraphView}
use Rattle.om_graph.specs.Left.{AreExactMasks, NoNear, NoUse, NoByte, NoFar}
use Rattle.om_layout.specs.Layout.{LayoutView, gp_of, address_of}
use Rattle.om_passes.specs.OneEdit.{MayGoOn}
use Rattle.om_passes.specs.Step.{Steps}
use Rattle.om_uses.specs.Parts.{Kept, IsNearly}
use Rattle.om_addr.specs.Idle.{IsTaken}
use Rattle.om_addr.specs.Passing.{HasRegionsOf}

-- steps, at least one where it says that it changed something; what fitted in the layout fits in it still
pub record IsWhole (l : LayoutView) (changed : Bool) (old new : GraphView) : Type 0 where
  pub same : changed ≡ false → new ≡ old
  pub near : (k : Kept) → IsNearly old k → IsNearly new k
  pub passed : (p : ProgramView) → IsProgram p → MayGoOn p old → IsTaken p l changed old new

-- no address is left to reduce in a layout, by exact masks
pub record IsAddressDone (l : LayoutView) (g : GraphView) : Type 0 where
  pub masks : Place → ℕ → Bool
  pub outs : Place → ℕ → Bool
  pub exact : AreExactMasks masks outs g
  pub bytes : NoByte g
  pub uses : (p : ProgramView) → HasRegionsOf p l → NoUse p (gp_of l) (address_of l) g
  pub near :
      (p : ProgramView) → IsProgram p → MayGoOn p g → HasRegionsOf p l →
      NoNear p (gp_of l) (address_of l) outs g
  pub far :
      (p : ProgramView) → IsProgram p → MayGoOn p g → HasRegionsOf p l →
      NoFar p (gp_of l) (address_of l) outs g

-- where memory ran out, steps have been taken, or none
pub record IsStopped (old new : GraphView) : Type 0 where
  pub near : (k : Kept) → IsNearly old k → IsNearly new k
  pub passed : (p : ProgramView) → IsProgram p → MayGoOn p old → Steps p old new

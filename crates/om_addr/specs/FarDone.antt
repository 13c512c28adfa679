-- What is left of far loads where none is left that could become LDAH.
use Rattle.std.specs.Prelude.{ℕ, List}
use Rattle.om_prog.specs.View.{ProgramView}
use Rattle.om_prog.specs.Valid.{IsProgram}
use Rattle.om_graph.specs.View.{GraphView}
use Rattle.om_graph.specs.Outs.{outs_of}
use Rattle.om_graph.specs.Left.{NoFar}
use Rattle.om_blocks.specs.Found.{masks_in}
use Rattle.om_layout.specs.Layout.{LayoutView, gp_of, address_of}
use Rattle.om_passes.specs.OneEdit.{MayGoOn}
use Rattle.om_addr.specs.Passing.{HasRegionsOf}

-- in a layout, by masks of blocks
pub record IsFarDone (l : LayoutView) (masks : List ℕ) (g : GraphView) : Type 0 where
  pub far :
      (p : ProgramView) → IsProgram p → MayGoOn p g → HasRegionsOf p l →
      NoFar p (gp_of l) (address_of l) (outs_of g (masks_in g masks)) g

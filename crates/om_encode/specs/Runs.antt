-- An image with a true map runs as its graph does, and as the program that the graph is lifted from.
use Rattle.std.specs.Prelude.{ℕ, List}
use Rattle.om_prog.specs.View.{ProgramView}
use Rattle.om_prog.specs.Script.{program_script}
use Rattle.om_prog.specs.Valid.{IsProgram}
use Rattle.om_graph.specs.View.{GraphView}
use Rattle.om_graph.specs.Run.{graph_script}
use Rattle.om_graph.specs.Kept.{KeptInBlocks}
use Rattle.om_graph.specs.Lifted.{IsLifted}
use Rattle.om_graph.specs.OfProgram.{IsGraphOf}
use Rattle.om_image.specs.declared.image.Image.{Image}
use Rattle.om_image.specs.Valid.{IsValidImage}
use Rattle.om_lockstep.specs.Lockstep.{AreBytes, InLockstep}
use Rattle.om_layout.specs.Layout.{LayoutView}
use Rattle.om_encode.specs.Halves.{addresses_of}
use Rattle.om_encode.specs.TrueMap.{IsTrueMap}

-- with the graph, in whatever order its words stand
abbrev pub TrueMapsRun : Type 0
TrueMapsRun =
    (p : ProgramView) (g : GraphView) (l : LayoutView) (i : Image) → IsProgram p → IsGraphOf p g → KeptInBlocks g →
    IsTrueMap p g l i → IsValidImage i → (input : List ℕ) → AreBytes input →
    InLockstep (graph_script p g) (addresses_of p g l) i input

-- and with the program where the graph is as it was lifted
abbrev pub LiftedImagesRun : Type 0
LiftedImagesRun =
    (p : ProgramView) (g : GraphView) (l : LayoutView) (i : Image) → IsProgram p → IsLifted p g →
    IsTrueMap p g l i → IsValidImage i → (input : List ℕ) → AreBytes input →
    InLockstep (program_script p) (addresses_of p g l) i input

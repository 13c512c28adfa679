-- Within the limits of a link an image with a true map breaks no rule of images.
use Rattle.om_prog.specs.View.{ProgramView}
use Rattle.om_prog.specs.Valid.{IsProgram}
use Rattle.om_graph.specs.View.{GraphView}
use Rattle.om_graph.specs.Kept.{KeptInBlocks}
use Rattle.om_graph.specs.OfProgram.{IsGraphOf}
use Rattle.om_image.specs.declared.image.Image.{Image}
use Rattle.om_image.specs.Valid.{IsValidImage}
use Rattle.om_layout.specs.Layout.{LayoutView}
use Rattle.om_layout.specs.Limits.{IsWithinLimits}
use Rattle.om_encode.specs.TrueMap.{IsTrueMap}

abbrev pub TrueMapsAreValid : Type 0
TrueMapsAreValid =
    (p : ProgramView) (g : GraphView) (l : LayoutView) (i : Image) → IsProgram p → IsGraphOf p g → KeptInBlocks g →
    IsWithinLimits p → IsTrueMap p g l i → IsValidImage i

-- When the map of an image is true of a program's graph: of its data, of its text and of its fields.
use Rattle.om_prog.specs.View.{ProgramView}
use Rattle.om_graph.specs.View.{GraphView}
use Rattle.om_graph.specs.Kept.{Comes}
use Rattle.om_image.specs.declared.image.Image.{Image}
use Rattle.om_layout.specs.Layout.{LayoutView}
use Rattle.om_layout.specs.Facts.{LaysOut}
use Rattle.om_encode.specs.Data.{DataIsTrue}
use Rattle.om_encode.specs.Text.{TextIsTrue}
use Rattle.om_encode.specs.Fields.{FieldsAreTrue}

-- over the numbers of a layout
pub record IsMapIn (p : ProgramView) (g : GraphView) (l : LayoutView) (i : Image) : Type 0 where
  pub data_part : DataIsTrue p g l i
  pub text : TextIsTrue p g l i
  pub fields : FieldsAreTrue p g l i

-- and the layout, in any order of words, places the graph's words wherever a run may come
pub record IsTrueMap (p : ProgramView) (g : GraphView) (l : LayoutView) (i : Image) : Type 0 where
  pub layout : LaysOut p g l (Comes g)
  pub map : IsMapIn p g l i

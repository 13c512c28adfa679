-- An image that has the text of a graph and the words of its map has a map that is true of the text and of the fields.
use Rattle.om_prog.specs.View.{ProgramView}
use Rattle.om_graph.specs.View.{GraphView}
use Rattle.om_image.specs.declared.image.Image.{Image}
use Rattle.om_layout.specs.Layout.{LayoutView}
use Rattle.om_encode.specs.Text.{TextIsTrue}
use Rattle.om_encode.specs.Fields.{FieldsAreTrue}
use Rattle.om_encode.specs.Encoded.{IsTextOf, AreMapWords}

module _ (p : ProgramView) (g : GraphView) (l : LayoutView) (i : Image) (text : IsTextOf p g l i.text) where
  pub fields_true : FieldsAreTrue p g l i
  fields_true = record { forms = λ w h. let t = text.forms w h in record { word = t.word; found = t.found; form = t.form } }

  pub text_true : AreMapWords p g l i.map.words → TextIsTrue p g l i
  text_true words = record { total = words.total; each = words.each; count = text.count }

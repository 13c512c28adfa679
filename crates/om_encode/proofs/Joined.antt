-- An image of the two parts that the encoder makes.
use Rattle.om_prog.specs.View.{ProgramView}
use Rattle.om_prog.specs.Valid.{IsProgram}
use Rattle.om_graph.specs.View.{GraphView}
use Rattle.om_graph.specs.Kept.{Comes, KeptInBlocks}
use Rattle.om_graph.specs.OfProgram.{IsGraphOf}
use Rattle.om_image.specs.Valid.{IsValidImage}
use Rattle.om_layout.specs.Layout.{LayoutView}
use Rattle.om_layout.specs.Facts.{LaysOut}
use Rattle.om_layout.specs.Limits.{IsWithinLimits}
use Rattle.om_encode.specs.declared.data_part.DataPart.{DataPart}
use Rattle.om_encode.specs.declared.text_part.TextPart.{TextPart}
use Rattle.om_encode.specs.Data.{DataIsTrue}
use Rattle.om_encode.specs.DataBytes.{data_image}
use Rattle.om_encode.specs.Encoded.{IsTextOf, AreMapWords}
use Rattle.om_encode.specs.Joined.{joined}
use Rattle.om_encode.specs.TrueMap.{IsMapIn}
use Rattle.om_encode.proofs.Carried.{fields_true, text_true}
use Rattle.om_encode.proofs.Valid.{true_maps_are_valid}

module _ (p : ProgramView) (g : GraphView) (l : LayoutView) (d : DataPart) (t : TextPart) where
  -- the data is as it was, whatever the text is
  data_joined : DataIsTrue p g l (data_image d) → DataIsTrue p g l (joined d t)
  data_joined h = record {
    counts = h.counts;
    object_tables = h.object_tables;
    tables = h.tables;
    regions = h.regions;
    slots = h.slots;
    contents = h.contents;
    fits = h.fits;
    widths = h.widths;
    others = h.others;
    given = h.given;
    whole = h.whole;
    entry = h.entry;
    gp = h.gp;
  }

  pub map_joined : DataIsTrue p g l (data_image d) → IsTextOf p g l t.text → AreMapWords p g l t.words → IsMapIn p g l (joined d t)
  map_joined data_is text_is words = record {
    data_part = data_joined data_is;
    text = text_true p g l (joined d t) text_is words;
    fields = fields_true p g l (joined d t) text_is;
  }

  pub valid_joined : IsProgram p → IsGraphOf p g → KeptInBlocks g → IsWithinLimits p → LaysOut p g l (Comes g) → IsMapIn p g l (joined d t) → IsValidImage (joined d t)
  valid_joined prog of kept limits lay m = true_maps_are_valid p g l (joined d t) prog of kept limits (record { layout = lay; map = m })

-- The map is true of the text: it has each word of the program, with the number of the image word at its address, and there
-- are as many image words as kept ones. With the layout's positions each image word is that of one word of the program.
use Rattle.std.specs.Prelude.{◌≡◌, length, sum, Some, slice_get}
use Rattle.om_value.specs.declared.value.Place.{Place}
use Rattle.om_prog.specs.declared.item.Item.{Item}
use Rattle.om_prog.specs.View.{ProgramView, item_at}
use Rattle.om_graph.specs.View.{GraphView}
use Rattle.om_graph.specs.Run.{words}
use Rattle.om_graph.specs.LeftIn.{is_kept}
use Rattle.om_graph.specs.Index.{index_of}
use Rattle.om_image.specs.declared.image.Image.{Image}
use Rattle.om_image.specs.declared.map.MapWord.{MapWord}
use Rattle.om_layout.specs.Layout.{LayoutView, position_of}

-- what the map says of a word of the program
abbrev pub map_word : GraphView → LayoutView → Place → Item → MapWord
map_word g l q item = record { old = item.word; position = position_of l q; kept = is_kept g q }

pub record TextIsTrue (p : ProgramView) (g : GraphView) (l : LayoutView) (i : Image) : Type 0 where
  pub total : length i.map.words ≡ sum g.counts
  pub each :
      (q : Place) (item : Item) → item_at p q ≡ Some item →
      slice_get i.map.words (index_of g.counts q) ≡ Some (map_word g l q item)
  pub count : length i.text ≡ length (words g)

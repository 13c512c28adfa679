-- What an image is to a program at each level of linking, and what follows for its runs.
use Rattle.std.specs.Prelude.{◌≡◌, ℕ, true, List, [], length, map, sum, Some, slice_get}
use Rattle.om_alpha.specs.declared.op.Level.{Level}
use Rattle.om_alpha.specs.declared.op.Level.TheVariants as level
use Rattle.om_value.specs.declared.value.Place.{Place}
use Rattle.om_prog.specs.declared.item.Item.{Item}
use Rattle.om_prog.specs.Act.{Word}
use Rattle.om_prog.specs.View.{ProgramView, item_at, text_of}
use Rattle.om_prog.specs.Script.{program_script, program_fetch}
use Rattle.om_prog.specs.Valid.{IsProgram, slots_onto}
use Rattle.om_graph.specs.View.{GraphView, numbers_from}
use Rattle.om_graph.specs.Fits.{OpsFit}
use Rattle.om_graph.specs.Index.{index_of}
use Rattle.om_graph.specs.Kept.{KeptInBlocks}
use Rattle.om_graph.specs.LeftIn.{Keeps, left_in}
use Rattle.om_graph.specs.Lifted.{IsLifted}
use Rattle.om_graph.specs.OfProgram.{IsGraphOf}
use Rattle.om_graph.specs.Run.{graph_script}
use Rattle.om_graph.specs.Stands.{BasesStand}
use Rattle.om_image.specs.declared.image.Image.{Image}
use Rattle.om_image.specs.declared.map.MapWord.{MapWord}
use Rattle.om_image.specs.Valid.{IsValidImage}
use Rattle.om_layout.specs.Layout.{LayoutView, TableAt, position_of, gp_of, address_of}
use Rattle.om_layout.specs.Order.{IsPlaceOf, IsLayoutOf}
use Rattle.om_lockstep.specs.Lockstep.{AreBytes}
use Rattle.om_encode.specs.Halves.{addresses_of}
use Rattle.om_encode.specs.Fields.{IsTrueWord}
use Rattle.om_encode.specs.TrueMap.{IsMapIn}
use Rattle.om_encode.specs.Headline.{AlikeAtCounted, Headline}
pub use Rattle.om_thorough.specs.Thorough.{counts_of}
use Rattle.om_thorough.specs.Thorough.{IsThorough}
use Rattle.om_counted.specs.Counted.{counted}

-- the number of words of all objects
abbrev pub word_total : ProgramView → ℕ
word_total p = sum (counts_of p)

-- ---- the levels

-- what the map of a plain image says of a word: it is kept, and its position is its own number
abbrev pub plain_word : ProgramView → Place → Item → MapWord
plain_word p q item = record { old = item.word; position = index_of (counts_of p) q; kept = true }

-- the plain level: nothing is rewritten
pub record IsPlain (p : ProgramView) (lifted g : GraphView) (l : LayoutView) (i : Image) : Type 0 where
  pub graph : g ≡ lifted
  -- the position of a place is the number of the program's words before it, also that of a text's end
  pub positions : (q : Place) → IsPlaceOf (counts_of p) q → position_of l q ≡ index_of (counts_of p) q
  -- all words are kept, each in the one form that a word has without rewriting
  pub words :
      (q : Place) (item : Item) → item_at p q ≡ Some item →
      slice_get i.map.words (index_of (counts_of p) q) ≡ Some (plain_word p q item)
  pub forms : (q : Place) (w : Word) → program_fetch p q ≡ Some w → IsTrueWord p g l i w
  -- object k has table k, whose slots are the targets of its LITERAL loads, in order of first use
  pub tables : map (λ o. o.table) i.map.objects ≡ numbers_from 0 (length p.texts)
  pub slots : (k : ℕ) (t : TableAt) → slice_get l.tables k ≡ Some t → t.slots ≡ slots_onto [] (text_of p k)

-- rewritten until nothing is left to rewrite
abbrev pub Finished : Level → ProgramView → GraphView → GraphView → LayoutView → Image → Type 0
Finished level.Plain p lifted g l i = IsPlain p lifted g l i
Finished level.Full p lifted g l i = IsThorough p g l i

-- an image of a program at a level: valid, with a map that is true of a graph of the program, which keeps the meaning of the
-- graph that the program is lifted to
pub record IsImageAt (at : Level) (p : ProgramView) (i : Image) : Type 0 where
  pub program : IsProgram p
  pub lifted : GraphView
  pub graph : GraphView
  pub layout : LayoutView
  pub origin : IsLifted p lifted
  pub keeps : Keeps p lifted graph
  pub of : IsGraphOf p graph
  pub kept : KeptInBlocks graph
  pub laid : IsLayoutOf p graph layout
  -- each op that stands for an address fits its instruction in the layout, and the base of a use over a global pointer stands in
  -- its register from the setting on
  pub fits : OpsFit p (gp_of layout) (address_of layout) graph
  pub bases : BasesStand p graph
  pub true_map : IsMapIn p graph layout i
  pub valid : IsValidImage i
  pub finished : Finished at p lifted graph layout i

-- ---- runs

-- its run is alike with the program's at counted steps, which its map and its text tell; so it writes at least what the program
-- writes, ends as it ends, and ends only where it ends or observes
pub record RunsCounted (p : ProgramView) (g : GraphView) (l : LayoutView) (i : Image) (input : List ℕ) : Type 0 where
  pub alike : AlikeAtCounted (program_script p) (addresses_of p g l) i input (word_total p) (counted i p input)
  pub headline : Headline (program_script p) (addresses_of p g l) i input (word_total p)

-- the steps that map and text count are those that the graph leaves in
abbrev pub CountedIsLeftIn : Type 0
CountedIsLeftIn =
    (at : Level) (p : ProgramView) (i : Image) (h : IsImageAt at p i) (input : List ℕ) (n : ℕ) →
    counted i p input n ≡ length (left_in h.graph (graph_script p h.lifted) input n)

abbrev pub ImagesRun : Type 0
ImagesRun =
    (at : Level) (p : ProgramView) (i : Image) (h : IsImageAt at p i) (input : List ℕ) → AreBytes input →
    RunsCounted p h.graph h.layout i input

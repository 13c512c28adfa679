-- A layout whose words stand in another order than that of objects and offsets: runs of words are moved as wholes, and in a
-- run the words stand in order. So each place has a position by the order alone, those of words that are gone and the ends of
-- texts among them.
use Rattle.std.specs.Prelude.{◌≡◌, ℕ, Bool, true, if◌then◌else◌, List, length}
use Rattle.om_value.specs.declared.value.Place.{Place}
use Rattle.om_prog.specs.Act.{Word}
use Rattle.om_prog.specs.Step.{next_place}
use Rattle.om_prog.specs.View.{ProgramView}
use Rattle.om_prog.specs.Valid.{IsProgram}
use Rattle.om_graph.specs.View.{GraphView, Has}
use Rattle.om_graph.specs.Run.{words}
use Rattle.om_graph.specs.Kept.{Comes}
use Rattle.om_graph.specs.OfProgram.{IsGraphOf}
use Rattle.om_layout.specs.Layout.{LayoutView, position_of}
use Rattle.om_layout.specs.Order.{IsDataLayout, IsPlaceOf, place_count}
use Rattle.om_layout.specs.Facts.{GoesOn, LaysOut, AreRuns, run_position}

-- an order of words: runs that stand one behind another, the run of each place, and which places are in one; those of a block
-- that is dropped are in none
pub record Order : Type 0 where
  pub runs : List (List Word)
  pub run_of : Place → ℕ
  pub is_placed : Place → Bool

-- the number of words in front of a place; 0 where it is in no run
abbrev pub position_in : Order → Place → ℕ
position_in o q = if o.is_placed q then run_position o.runs o.run_of q else 0

-- an order of the words of a graph: each stands in one run, what control goes on to stands in the same one, and a place to which a
-- run of the program may come is in the run of the next word
pub record IsOrderOf (g : GraphView) (o : Order) : Type 0 where
  pub runs : AreRuns (Comes g) (words g) o.runs o.run_of
  pub stands : (w : Word) → Has (words g) w → o.is_placed w.at ≡ true
  pub goes_on : (w : Word) → Has (words g) w → GoesOn w.act → o.is_placed (next_place w.at) ≡ true
  pub comes : (q : Place) → Comes g q → o.is_placed q ≡ true

-- the layout of a graph in an order
pub record IsLayoutIn (o : Order) (p : ProgramView) (g : GraphView) (l : LayoutView) : Type 0 where
  pub data_part : IsDataLayout p g l
  pub order : IsOrderOf g o
  pub places : length l.positions ≡ place_count g.counts
  pub positions : (q : Place) → IsPlaceOf g.counts q → position_of l q ≡ position_in o q

-- such a layout gives an encoder what the natural one gives
abbrev pub OrdersPlaceWords : Type 0
OrdersPlaceWords =
    (o : Order) (p : ProgramView) (g : GraphView) (l : LayoutView) → IsProgram p → IsGraphOf p g → IsLayoutIn o p g l →
    LaysOut p g l (Comes g)

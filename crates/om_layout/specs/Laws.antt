-- What layouts give to an encoder.
use Rattle.std.specs.Prelude.{ℕ, Bool, IsTrue, List}
use Rattle.om_value.specs.declared.value.Place.{Place}
use Rattle.om_prog.specs.Act.{Word}
use Rattle.om_prog.specs.View.{ProgramView}
use Rattle.om_prog.specs.Valid.{IsProgram}
use Rattle.om_graph.specs.View.{GraphView}
use Rattle.om_graph.specs.Kept.{Comes}
use Rattle.om_graph.specs.OfProgram.{IsGraphOf}
use Rattle.om_layout.specs.Layout.{LayoutView}
use Rattle.om_layout.specs.Order.{IsLayoutOf}
use Rattle.om_layout.specs.Facts.{LaysOut, ArePositions, AreRuns, run_position}

-- the layout of a graph of a program places its words, wherever a run may come
abbrev pub LayoutsPlaceWords : Type 0
LayoutsPlaceWords =
    (p : ProgramView) (g : GraphView) (l : LayoutView) → IsProgram p → IsGraphOf p g → IsLayoutOf p g l →
    LaysOut p g l (Comes g)

-- and so do runs of words in any order
abbrev pub RunsPlaceWords : Type 0
RunsPlaceWords =
    (comes : Place → Bool) (ws : List Word) (runs : List (List Word)) (run_of : Place → ℕ) →
    AreRuns (λ q. IsTrue (comes q)) ws runs run_of → ArePositions (λ q. IsTrue (comes q)) ws (run_position runs run_of)

-- What an encoder needs of a layout, whatever the order of words: that of objects and offsets, or that of runs of blocks by
-- heat. That data is aligned, apart and within its limits follows from where tables and regions are placed.
use Rattle.std.specs.Prelude.{◌≡◌, ◌⊎◌, ℕ, zero, suc, ◌+◌, ◌%◌, ◌<◌, ◌≤◌, true, List, [], ◌∷◌, length, Some}
use Rattle.om_value.specs.declared.value.Place.{Place}
use Rattle.om_prog.specs.Act.{Act, Word}
use Rattle.om_prog.specs.Flow.{act_falls}
use Rattle.om_prog.specs.Step.{next_place}
use Rattle.om_prog.specs.View.{ProgramView}
use Rattle.om_graph.specs.View.{GraphView, Has, place_lt}
use Rattle.om_graph.specs.Run.{words, next_word}
use Rattle.om_graph.specs.Kept.{Links}
use Rattle.om_layout.specs.Layout.{LayoutView, position_of}
use Rattle.om_layout.specs.Order.{IsDataLayout, words_before}

-- control goes on right behind a word, or comes back there by a link
abbrev pub GoesOn : Act → Type 0
GoesOn a = act_falls a ⊎ Links a

-- words stand one to one from 0 on, what goes on is followed by what stands behind it, and a place of G, where a run may
-- come, has the position of the next word
pub record ArePositions (G : Place → Type 0) (ws : List Word) (position : Place → ℕ) : Type 0 where
  pub inside : (w : Word) → Has ws w → position w.at < length ws
  pub once : (v w : Word) → Has ws v → Has ws w → position v.at ≡ position w.at → v ≡ w
  pub follows : (w : Word) → Has ws w → GoesOn w.act → position (next_place w.at) ≡ position w.at + 1
  pub found : (q : Place) (w : Word) → G q → next_word ws q ≡ Some w → position q ≡ position w.at
  pub most : (q : Place) → position q ≤ length ws

-- a layout of a graph in some order
pub record LaysOut (p : ProgramView) (g : GraphView) (l : LayoutView) (G : Place → Type 0) : Type 0 where
  pub data_part : IsDataLayout p g l
  pub words : ArePositions G (words g) (position_of l)

-- ---- runs of words, in any order

-- words of which each is before those behind it
abbrev pub IsBeforeAll : Word → List Word → Type 0
IsBeforeAll w [] = Unit {0}
IsBeforeAll w (x ∷ xs) = (place_lt w.at x.at ≡ true) × IsBeforeAll w xs

abbrev pub AreSorted : List Word → Type 0
AreSorted [] = Unit {0}
AreSorted (w ∷ ws) = IsBeforeAll w ws × AreSorted ws

-- the number of words before a run
abbrev pub start_of : List (List Word) → ℕ → ℕ
start_of [] k = 0
start_of (r ∷ rs) zero = 0
start_of (r ∷ rs) (suc k) = length r + start_of rs k

abbrev pub run_at : List (List Word) → ℕ → List Word
run_at [] k = []
run_at (r ∷ rs) zero = r
run_at (r ∷ rs) (suc k) = run_at rs k

abbrev pub total_of : List (List Word) → ℕ
total_of [] = 0
total_of (r ∷ rs) = length r + total_of rs

-- the number of words of the runs before, and of the words before in its run
abbrev pub run_position : List (List Word) → (Place → ℕ) → Place → ℕ
run_position runs run_of q = start_of runs (run_of q) + words_before (run_at runs (run_of q)) q

-- some words cut into runs, with the run of each place: what goes on stays in its run, and a place of G has the run of the
-- next word
pub record AreRuns (G : Place → Type 0) (ws : List Word) (runs : List (List Word)) (run_of : Place → ℕ) : Type 0 where
  pub total : total_of runs ≡ length ws
  pub in_run : (w : Word) → Has ws w → Has (run_at runs (run_of w.at)) w
  pub sorted : (k : ℕ) → AreSorted (run_at runs k)
  pub aligned : (k : ℕ) (w : Word) → Has (run_at runs k) w → w.at.off % 4 ≡ 0
  pub follows : (w : Word) → Has ws w → GoesOn w.act → run_of (next_place w.at) ≡ run_of w.at
  pub found :
      (q : Place) (w : Word) → G q → next_word ws q ≡ Some w →
      (run_of q ≡ run_of w.at) × (next_word (run_at runs (run_of q)) q ≡ Some w)

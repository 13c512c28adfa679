-- A match of two runs, step by step, where the second leaves out some steps of the first.
use Rattle.std.specs.Prelude.{◌≡◌, true, false, List, [], ◌∷◌, ℕ, Some, None}
use Rattle.om_value.specs.declared.value.Place.{Place}
use Rattle.om_prog.specs.Act.{Word, Script}
use Rattle.om_prog.specs.Step.{SymState}
use Rattle.om_prog.specs.Runs.{sym_start, step_word, has_observed, Alike}
use Rattle.om_graph.specs.View.{GraphView}
use Rattle.om_graph.specs.LeftIn.{is_left}

-- the new run's step at a word's place, with the states related after it
pub record Matched (c d : Script) (R : List Place → SymState → SymState → Type 0) (ps : List Place) (s t : SymState) (w : Word) : Type 0 where
  pub word : Word
  pub found : d.fetch t.place ≡ Some word
  pub place : word.at ≡ w.at
  pub related : R (w.at ∷ ps) (step_word c s (Some w)) (step_word d t (Some word))

-- a relation of the states of two runs, after the steps left in so far
pub record Simulates (c d : Script) (g : GraphView) (R : List Place → SymState → SymState → Type 0) : Type 0 where
  pub starts : (input : List ℕ) → R [] (sym_start c input) (sym_start d input)
  pub alike : (ps : List Place) (s t : SymState) → R ps s t → Alike s t
  pub steps :
      (ps : List Place) (s t : SymState) (w : Word) →
      R ps s t → s.ended ≡ None → c.fetch s.place ≡ Some w → has_observed (step_word c s (Some w)).ended ≡ false →
      is_left g ps w.at ≡ true → Matched c d R ps s t w
  pub skips :
      (ps : List Place) (s t : SymState) (w : Word) →
      R ps s t → s.ended ≡ None → c.fetch s.place ≡ Some w → has_observed (step_word c s (Some w)).ended ≡ false →
      is_left g ps w.at ≡ false → R ps (step_word c s (Some w)) t

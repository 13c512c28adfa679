-- Sets of places of words, as tables with an entry a word.
use Rattle.std.specs.Prelude.{◌≡◌, ℕ, ◌/◌, Bool, true, false, ◌||◌, List, [], length, slice_get, unwrap_or, option_map, Vec, Option, Some, None, ◌∷◌}
use Rattle.std.specs.List.{list_any}
use Rattle.om_value.specs.declared.value.Place.{Place}
use Rattle.om_value.specs.Same.{place_eq}
use Rattle.om_prog.specs.View.{ProgramView, word_count, is_word}
use Rattle.om_graph.specs.Whole.{program_roots}
use Rattle.om_graph.specs.Landing.{some_role, loads_place, branches_to}
use Rattle.om_lift.specs.declared.places.PlaceSet.{PlaceSet}
use Rattle.om_lift.specs.declared.marks.Marks.{Marks}

-- the entries of an object, one for each word
abbrev pub row_in : {A : Type 0} → List (Vec Bool A) → ℕ → List Bool
row_in vs obj = unwrap_or (option_map (λ v. v.items) (slice_get vs obj)) []

abbrev pub row : PlaceSet → ℕ → List Bool
row s obj = row_in s.rows.items obj

abbrev pub has : PlaceSet → Place → Bool
has s q = unwrap_or (slice_get (row s q.obj) (q.off / 4)) false

-- the words of a program whose places are such
pub record IsSet (p : ProgramView) (test : Place → Bool) (s : PlaceSet) : Type 0 where
  pub sized : (obj : ℕ) → length (row s obj) ≡ word_count p obj
  pub each : (q : Place) → is_word p q ≡ true → has s q ≡ test q

-- the named places, and those that branches go to
pub record AreMarks (p : ProgramView) (named branched : Place → Bool) (m : Marks) : Type 0 where
  pub names : IsSet p named m.named
  pub branches : IsSet p branched m.branched

-- the marks of all words and initial fields
pub record AreMarksOf (p : ProgramView) (m : Marks) : Type 0 where
  pub marks :
      AreMarks p
      (λ q. list_any (λ r. place_eq r q) (program_roots p) || some_role p (loads_place q))
      (λ q. some_role p (branches_to q))
      m

abbrev pub option_list : {A : Type 0} → Option A → List A
option_list None = []
option_list (Some x) = x ∷ []

-- From a relation of states that steps keep to a run that keeps meaning.
use Rattle.std.proofs.Common.{◌≡◌, ℕ, zero, suc, Bool, true, false, List, ◌∷◌, length, Option, Some, None, refl, sym, ap, ◌∙◌, subst}
use Rattle.std.specs.Prelude.{not}
use Rattle.std.proofs.lemmas.Bool.{true≢false}
use Rattle.om_value.specs.declared.value.Place.{Place}
use Rattle.om_prog.specs.Act.{Word, Script}
use Rattle.om_prog.specs.View.{ProgramView}
use Rattle.om_prog.specs.Step.{SymState, SymEnd}
use Rattle.om_prog.specs.Runs.{sym_run, sym_step, step_if, step_word, trace, add_step, add_word, has_observed}
use Rattle.om_graph.specs.View.{GraphView}
use Rattle.om_graph.specs.Run.{graph_script}
use Rattle.om_graph.specs.Matching.{Matched, Simulates}
use Rattle.om_graph.specs.LeftIn.{is_left, left, left_onto, left_in, KeepsMeaning}

-- where the two runs are, with the steps left in so far
pub record Now (d : Script) (R : List Place → SymState → SymState → Type 0) (input : List ℕ) (ps : List Place) (s : SymState) : Type 0 where
  pub related : R ps s (sym_run d input (length ps))
  pub places : trace d input (length ps) ≡ ps

pub not_shown : (b : Bool) → not b ≡ true → b ≡ false
not_shown true e = absurd (true≢false (sym e))
not_shown false e = refl

pub shown_not : (b : Bool) → b ≡ false → not b ≡ true
shown_not true e = absurd (true≢false e)
shown_not false e = refl

-- a step of a run that goes on, where it finds a word
pub step_runs : (c : Script) (s : SymState) (w : Word) → s.ended ≡ None → c.fetch s.place ≡ Some w → sym_step c s ≡ step_word c s (Some w)
unfolding sym_step
step_runs c s w going found = ap (λ e. step_if e c s) going ∙ ap (λ o. step_word c s o) found

pub trace_adds :
    (c : Script) (s : SymState) (w : Word) (ps : List Place) → s.ended ≡ None → c.fetch s.place ≡ Some w → add_step s.ended c s ps ≡ w.at ∷ ps
trace_adds c s w ps going found = ap (λ e. add_step e c s ps) going ∙ ap (λ o. add_word o ps) found

module _ (c d : Script) (g : GraphView) (R : List Place → SymState → SymState → Type 0) (sim : Simulates c d g R) (input : List ℕ) where
  matched :
      (ps : List Place) (s : SymState) (w : Word) → Now d R input ps s → (sym_run d input (length ps)).ended ≡ None →
      Matched c d R ps s (sym_run d input (length ps)) w → Now d R input (w.at ∷ ps) (step_word c s (Some w))
  unfolding sym_run trace
  matched ps s w now going m =
      let t = sym_run d input (length ps) in
      record {
        related = subst (λ (u : SymState). R (w.at ∷ ps) (step_word c s (Some w)) u) (sym (step_runs d t m.word going m.found)) m.related;
        places = trace_adds d t m.word (trace d input (length ps)) going m.found ∙ cc (m.place, now.places);
      }

  word_left :
      (ps : List Place) (s : SymState) (w : Word) (b : Bool) → Now d R input ps s → s.ended ≡ None → c.fetch s.place ≡ Some w →
      has_observed (step_word c s (Some w)).ended ≡ false → is_left g ps w.at ≡ b → Now d R input (left_onto b w.at ps) (step_word c s (Some w))
  word_left ps s w true now going found clean b =
      matched ps s w now ((sim.alike ps s _ now.related).ended ∙ going) (sim.steps ps s _ w now.related going found clean b)
  word_left ps s w false now going found clean b =
      record { related = sim.skips ps s _ w now.related going found clean b; places = now.places }

  word_goes :
      (ps : List Place) (s : SymState) (o : Option Word) → Now d R input (left g ps) s → s.ended ≡ None → c.fetch s.place ≡ o →
      has_observed (step_word c s o).ended ≡ false → Now d R input (left g (add_word o ps)) (step_word c s o)
  word_goes ps s None now going found clean = absurd (true≢false clean)
  word_goes ps s (Some w) now going found clean = word_left (left g ps) s w _ now going found clean refl

  step_goes :
      (ps : List Place) (s : SymState) (e : Option SymEnd) → Now d R input (left g ps) s → s.ended ≡ e →
      has_observed (step_if e c s).ended ≡ false → Now d R input (left g (add_step e c s ps)) (step_if e c s)
  step_goes ps s None now going clean = word_goes ps s _ now going refl clean
  step_goes ps s (Some e) now going clean = now

  -- a run that shows nothing has shown nothing before
  clean_before : (s : SymState) (e : Option SymEnd) → s.ended ≡ e → has_observed (step_if e c s).ended ≡ false → has_observed s.ended ≡ false
  clean_before s None going clean = ap has_observed going
  clean_before s (Some e) going clean = clean

  pub runs_go : (n : ℕ) → has_observed (sym_run c input n).ended ≡ false → Now d R input (left_in g c input n) (sym_run c input n)
  unfolding sym_run sym_step trace
  runs_go zero clean = record { related = sim.starts input; places = refl }
  runs_go (suc n) clean =
      step_goes (trace c input n) (sym_run c input n) (sym_run c input n).ended
      (runs_go n (clean_before (sym_run c input n) (sym_run c input n).ended refl clean)) refl clean

pub keeps_meaning : (p : ProgramView) (old new : GraphView) (R : List Place → SymState → SymState → Type 0) → Simulates (graph_script p old) (graph_script p new) new R → KeepsMeaning p old new
keeps_meaning p old new R sim input n clean =
    let now = runs_go (graph_script p old) (graph_script p new) new R sim input n (not_shown _ clean) in
    record { alike = sim.alike _ _ _ now.related; places = now.places }

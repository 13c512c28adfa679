-- Runs of words in any order are positions too.
use Rattle.std.proofs.Common.{◌≡◌, ℕ, zero, suc, ◌+◌, ◌<◌, ◌≤◌, List, [], ◌∷◌, length, ap, sym, subst, ◌∙◌, arith}
use Rattle.std.specs.Prelude.{slice_get}
use Rattle.om_value.specs.declared.value.Place.{Place}
use Rattle.om_prog.specs.Act.{Word}
use Rattle.om_prog.specs.Step.{next_place}
use Rattle.om_layout.specs.Order.{words_before}
use Rattle.om_graph.specs.View.{Has}
use Rattle.om_layout.specs.Facts.{ArePositions, AreRuns, start_of, run_at, total_of, run_position}
use Rattle.om_layout.proofs.Placing.{stands_at, found_before, next_before, most_before, got_within}

run_ends : (rs : List (List Word)) (k : ℕ) → start_of rs k + length (run_at rs k) ≤ total_of rs
run_ends [] k = omega arith
run_ends (r ∷ rs) zero = omega arith
run_ends (r ∷ rs) (suc k) = let h = run_ends rs k in omega (arith, h)

runs_apart : (rs : List (List Word)) (j k : ℕ) → j < k → 0 < length (run_at rs j) → start_of rs j + length (run_at rs j) ≤ start_of rs k
runs_apart [] j k h some = omega (arith, some)
runs_apart (r ∷ rs) j zero h some = absurd (omega arith)
runs_apart (r ∷ rs) zero (suc k) h some = omega arith
runs_apart (r ∷ rs) (suc j) (suc k) h some = let i = runs_apart rs j k (omega arith) some in omega (arith, i)

trichotomy : (a b : ℕ) → (a < b → ⊥) → (b < a → ⊥) → a ≡ b
trichotomy a b h k = grind arith

module _ (G : Place → Type 0) (ws : List Word) (runs : List (List Word)) (run_of : Place → ℕ) (are : AreRuns G ws runs run_of) where
  run : Place → List Word
  run q = run_at runs (run_of q)

  -- where a word is in its run
  within : (w : Word) → Has ws w → words_before (run_at runs (run_of w.at)) w.at < length (run_at runs (run_of w.at))
  within w h = got_within (run_at runs (run_of w.at)) (words_before (run_at runs (run_of w.at)) w.at) w (stands_at (run_at runs (run_of w.at)) w (are.sorted (run_of w.at)) (are.in_run w h))

  same_run : (v w : Word) → Has ws v → Has ws w → run_position runs run_of v.at ≡ run_position runs run_of w.at → run_of v.at ≡ run_of w.at
  same_run v w hv hw e =
      let a = within v hv in
      let b = within w hw in
      let less : run_of v.at < run_of w.at → ⊥ = λ h. let r = runs_apart runs (run_of v.at) (run_of w.at) h (omega (arith, a)) in omega (arith, r, a, e) in
      let more : run_of w.at < run_of v.at → ⊥ = λ h. let r = runs_apart runs (run_of w.at) (run_of v.at) h (omega (arith, b)) in omega (arith, r, b, e) in
      trichotomy (run_of v.at) (run_of w.at) less more

  one : (v w : Word) → Has ws v → Has ws w → run_position runs run_of v.at ≡ run_position runs run_of w.at → v ≡ w
  one v w hv hw e =
      let s = same_run v w hv hw e in
      let k : words_before (run_at runs (run_of v.at)) v.at ≡ words_before (run_at runs (run_of v.at)) w.at = omega (arith, e, ap (λ j. start_of runs j + words_before (run_at runs j) w.at) s) in
      let a = stands_at (run_at runs (run_of v.at)) v (are.sorted (run_of v.at)) (are.in_run v hv) in
      let h : Has (run_at runs (run_of v.at)) w = subst (λ j. Has (run_at runs j) w) (sym s) (are.in_run w hw) in
      let b = stands_at (run_at runs (run_of v.at)) w (are.sorted (run_of v.at)) h in
      let c = ap (slice_get (run_at runs (run_of v.at))) k in
      cc

  pub by_runs : ArePositions G ws (run_position runs run_of)
  by_runs = record {
    inside = λ w h. let a = within w h in let b = run_ends runs (run_of w.at) in let t = are.total in omega (arith, a, b, t);
    once = one;
    follows =
        λ w h n.
        let s = are.follows w h n in
        let k = next_before (run_at runs (run_of w.at)) w (are.sorted (run_of w.at)) (are.aligned (run_of w.at)) (are.in_run w h) in
        ap (λ j. start_of runs j + words_before (run_at runs j) (next_place w.at)) s ∙ ap (λ j. start_of runs (run_of w.at) + j) k ∙ omega arith;
    found =
        λ q w good e.
        let f = are.found q w good e in
        let k = found_before (run_at runs (run_of q)) q w (are.sorted (run_of q)) f.1 in
        ap (λ j. start_of runs (run_of q) + j) k ∙ ap (λ j. start_of runs j + words_before (run_at runs j) w.at) f.0;
    most = λ q. let a = most_before (run_at runs (run_of q)) q in let b = run_ends runs (run_of q) in let t = are.total in omega (arith, a, b, t);
  }

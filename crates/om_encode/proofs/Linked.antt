-- An image that is linked runs as its program does.
use Rattle.std.proofs.Common.{◌≡◌, ℕ, zero, suc, ◌+◌, ◌≤◌, Bool, true, false, List, [], ◌∷◌, length, Option, Some, None, sym as back, subst, arith}
use Rattle.std.specs.Prelude.{IsTrue, sum, not}
use Rattle.om_value.specs.declared.value.Place.{Place}
use Rattle.om_prog.specs.Act.{Script, Word}
use Rattle.om_prog.specs.View.{ProgramView}
use Rattle.om_prog.specs.Script.{program_script, program_run}
use Rattle.om_prog.specs.Step.{SymState, SymEnd}
use Rattle.om_prog.specs.Runs.{sym_run, trace, add_word, add_step, has_observed, Alike}
use Rattle.om_graph.specs.View.{GraphView}
use Rattle.om_graph.specs.Run.{graph_script}
use Rattle.om_graph.specs.LeftIn.{left, left_onto, is_left, left_in}
use Rattle.om_graph.specs.Whole.{IsWhole}
use Rattle.om_graph.proofs.Places.{in_labels}
use Rattle.om_graph.proofs.Bound.{some_left}
use Rattle.om_graph.proofs.LiftedKept.{lifted_whole}
use Rattle.om_graph.proofs.LiftedRun.{lifted_run}
use Rattle.om_image.specs.declared.image.Image.{Image}
use Rattle.om_layout.specs.Layout.{LayoutView}
use Rattle.om_encode.specs.Halves.{addresses_of}
use Rattle.om_encode.specs.Headline.{Follows, IsRewritten, LinkedImagesRun}
use Rattle.om_encode.proofs.Whole.{true_maps_run}
use Rattle.om_encode.proofs.Sentences.{counted_gives_headline, follows_and_runs}

trace_length : (c : Script) (input : List ℕ) (n : ℕ) → length (trace c input n) ≤ n
unfolding trace
trace_length c input zero = omega arith
trace_length c input (suc n) = by_end (sym_run c input n).ended (trace_length c input n)
  where
    by_word : (o : Option Word) → length (trace c input n) ≤ n → length (add_word o (trace c input n)) ≤ suc n
    by_word None h = omega arith
    by_word (Some w) h = omega arith

    by_end : (o : Option SymEnd) → length (trace c input n) ≤ n → length (add_step o c (sym_run c input n) (trace c input n)) ≤ suc n
    by_end None h = by_word (c.fetch (sym_run c input n).place) h
    by_end (Some e) h = omega arith

left_length : (g : GraphView) (ps : List Place) → length (left g ps) ≤ length ps
left_length g [] = omega arith
left_length g (p ∷ ps) = by_test (is_left g (left g ps) p) (left_length g ps)
  where
    by_test : (b : Bool) → length (left g ps) ≤ length ps → length (left_onto b p (left g ps)) ≤ suc (length ps)
    by_test true h = omega arith
    by_test false h = omega arith

module _ (p : ProgramView) (lifted g : GraphView) (l : LayoutView) (i : Image) (k : IsRewritten p lifted g l i) (input : List ℕ) where
  abbrev counted : ℕ → ℕ
  counted n = length (left_in g (graph_script p lifted) input n)

  same : (n : ℕ) → sym_run (graph_script p lifted) input n ≡ program_run p input n
  same n = lifted_run p k.program lifted k.origin input n

  whole : IsWhole p lifted
  whole = lifted_whole p k.program lifted k.origin

  follows : Follows (program_script p) (graph_script p g) input (sum lifted.counts) counted
  follows = record {
    fewer = λ n. let a = left_length g (trace (graph_script p lifted) input n) in let b = trace_length (graph_script p lifted) input n in omega (arith, a, b);
    alike =
        λ n clean.
        subst (λ (s : SymState). Alike s (sym_run (graph_script p g) input (counted n))) (same n)
        (k.keeps.meaning input n (subst (λ (s : SymState). IsTrue (not (has_observed s.ended))) (back (same n)) clean)).alike;
    one_of =
        λ n on.
        some_left p lifted g (in_labels lifted whole.graph whole.form whole.places) k.keeps input n
        (subst (λ (s : SymState). s.ended ≡ None) (back (same (n + suc (sum lifted.counts)))) on);
  }

pub linked_images_run : LinkedImagesRun
linked_images_run p lifted g l i k input bytes =
    let run = true_maps_run p g l i k.program k.graph k.kept k.map k.valid input bytes in
    let counts = follows_and_runs (program_script p) (graph_script p g) (addresses_of p g l) i input (sum lifted.counts) (λ n. length (left_in g (graph_script p lifted) input n)) (follows p lifted g l i k input) run in
    record {
      counted = counts;
      headline = counted_gives_headline (program_script p) (addresses_of p g l) i input (sum lifted.counts) (λ n. length (left_in g (graph_script p lifted) input n)) counts;
    }

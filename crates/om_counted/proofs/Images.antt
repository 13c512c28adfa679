-- The laws of images: what is counted is what is left in, and runs are alike at counted steps.
use Rattle.std.proofs.Common.{◌≡◌, ℕ, suc, ◌+◌, ◌<◌, ◌≤◌, List, length, None, sym, ap, subst}
use Rattle.std.specs.Prelude.{sum}
use Rattle.om_alpha.specs.declared.op.Level.{Level}
use Rattle.om_prog.specs.View.{ProgramView}
use Rattle.om_prog.specs.Script.{program_script}
use Rattle.om_prog.specs.Runs.{sym_run}
use Rattle.om_graph.specs.Run.{graph_script}
use Rattle.om_graph.specs.Kept.{Comes}
use Rattle.om_graph.specs.LeftIn.{left_in}
use Rattle.om_image.specs.declared.image.Image.{Image}
use Rattle.om_image.specs.NumRun.{num_run}
use Rattle.om_lockstep.specs.Lockstep.{Alike, AreBytes}
use Rattle.om_layout.proofs.Natural.{lays_out}
use Rattle.om_encode.specs.Halves.{addresses_of}
use Rattle.om_encode.specs.Headline.{IsRewritten, AlikeAtCounted}
use Rattle.om_encode.proofs.Linked.{linked_images_run}
use Rattle.om_encode.proofs.Sentences.{counted_gives_headline}
use Rattle.om_counted.specs.Counted.{counted}
use Rattle.om_counted.specs.Levels.{IsImageAt, word_total, CountedIsLeftIn, ImagesRun}
use Rattle.om_counted.proofs.Held.{IsHeld}
use Rattle.om_counted.proofs.Natural.{pairs_natural, most_natural}
use Rattle.om_counted.proofs.Counts.{counted_is_left}

linked : (at : Level) (p : ProgramView) (i : Image) (h : IsImageAt at p i) → IsRewritten p h.lifted h.graph h.layout i
linked at p i h = record {
  program = h.program;
  origin = h.origin;
  keeps = h.keeps;
  graph = h.of;
  kept = h.kept;
  map = record { layout = lays_out p h.program h.graph h.of h.layout h.laid (Comes h.graph); map = h.true_map };
  valid = h.valid;
}

held : (at : Level) (p : ProgramView) (i : Image) (h : IsImageAt at p i) → IsHeld p h.lifted h.graph h.layout i
held at p i h = record {
  program = h.program;
  origin = h.origin;
  keeps = h.keeps;
  graph = h.of;
  map = h.true_map;
  valid = h.valid;
  most = most_natural p h.program h.graph h.of h.layout h.laid;
  pairs = pairs_natural p h.program h.graph h.of h.layout h.laid;
}

pub counted_is_left_in : CountedIsLeftIn
counted_is_left_in at p i h input n = counted_is_left p h.lifted h.graph h.layout i (held at p i h) input n

alike_counted : (at : Level) (p : ProgramView) (i : Image) (h : IsImageAt at p i) (input : List ℕ) → AreBytes input →
    AlikeAtCounted (program_script p) (addresses_of p h.graph h.layout) i input (word_total p) (counted i p input)
alike_counted at p i h input bytes =
    let r = linked_images_run p h.lifted h.graph h.layout i (linked at p i h) input bytes in
    let total : sum h.lifted.counts ≡ word_total p = ap (λ (c : List ℕ). sum c) h.origin.counts in
    let same : (n : ℕ) → length (left_in h.graph (graph_script p h.lifted) input n) ≡ counted i p input n = λ n. sym (counted_is_left_in at p i h input n) in
    record {
      fewer = λ n. subst (λ k. k ≤ n) (same n) (r.counted.fewer n);
      alike = λ n clean. subst (λ k. Alike (addresses_of p h.graph h.layout) (sym_run (program_script p) input n) (num_run i input k)) (same n) (r.counted.alike n clean);
      one_of =
          λ n on.
          subst (λ k. k < counted i p input (n + suc (word_total p))) (same n)
          (subst (λ k. length (left_in h.graph (graph_script p h.lifted) input n) < k) (same (n + suc (word_total p)))
          (subst (λ w. length (left_in h.graph (graph_script p h.lifted) input n) < length (left_in h.graph (graph_script p h.lifted) input (n + suc w))) total
          (r.counted.one_of n (subst (λ w. (sym_run (program_script p) input (n + suc w)).ended ≡ None) (sym total) on))));
    }

pub images_run : ImagesRun
images_run at p i h input bytes =
    let a = alike_counted at p i h input bytes in
    record {
      alike = a;
      headline = counted_gives_headline (program_script p) (addresses_of p h.graph h.layout) i input (word_total p) (counted i p input) a;
    }

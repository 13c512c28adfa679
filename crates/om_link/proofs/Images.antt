-- A valid image whose map is true of a lifted program is a plain one; and every linked image runs as its program does.
use Rattle.std.proofs.Common.{◌≡◌, ℕ, Bool, true, List, Some, refl, ap, sym, subst, ◌∙◌}
use Rattle.std.specs.Prelude.{slice_get}
use Rattle.om_alpha.specs.declared.op.Level.{Level}
use Rattle.om_alpha.specs.declared.op.Level.TheVariants as level
use Rattle.om_value.specs.declared.value.Place.{Place}
use Rattle.om_prog.specs.View.{ProgramView}
use Rattle.om_prog.specs.Script.{program_script}
use Rattle.om_prog.specs.Valid.{IsProgram}
use Rattle.om_graph.specs.View.{GraphView}
use Rattle.om_graph.specs.Index.{index_of}
use Rattle.om_graph.specs.Kept.{Comes}
use Rattle.om_graph.specs.Lifted.{IsLifted}
use Rattle.om_graph.specs.Whole.{IsWhole}
use Rattle.om_graph.proofs.Forms.{pairs_apart}
use Rattle.om_graph.proofs.Itself.{all_ordered, keeps_itself}
use Rattle.om_graph.proofs.LiftedKept.{lifted_whole}
use Rattle.om_graph.proofs.LiftedOf.{lifted_of}
use Rattle.om_graph.proofs.Places.{placed}
use Rattle.om_layout.specs.Layout.{LayoutView, position_of, gp_of, address_of}
use Rattle.om_layout.specs.Order.{IsPlaceOf, IsLayoutOf}
use Rattle.om_layout.proofs.Natural.{lays_out}
use Rattle.om_passes.proofs.Starts.{lifted_stands}
use Rattle.om_image.specs.declared.image.Image.{Image}
use Rattle.om_image.specs.declared.map.MapWord.{MapWord}
use Rattle.om_image.specs.Valid.{IsValidImage}
use Rattle.om_lockstep.specs.Lockstep.{AreBytes}
use Rattle.om_encode.specs.Halves.{addresses_of}
use Rattle.om_encode.specs.TrueMap.{IsMapIn}
use Rattle.om_encode.proofs.Whole.{lifted_images_run}
use Rattle.om_encode.proofs.Sentences.{lockstep_gives_headline}
use Rattle.om_counted.specs.Levels.{counts_of, plain_word, IsPlain, IsImageAt}
use Rattle.om_counted.proofs.Images.{images_run}
use Rattle.om_link.specs.Laws.{RunsInStep, StepsAt, LinkedImagesRun}
use Rattle.om_link.proofs.Lifted.{has_word, each_kept, ops_fit}
use Rattle.om_link.proofs.OwnNumbers.{own_number, place_is}
use Rattle.om_link.proofs.OwnSlots.{own_slots}
use Rattle.om_link.proofs.Reach.{stands_in}

module _ (p : ProgramView) (g : GraphView) (l : LayoutView) (i : Image) (prog : IsProgram p) (lifted : IsLifted p g) where
  whole : IsWhole p g
  whole = lifted_whole p prog g lifted

  position_is : IsLayoutOf p g l → (q : Place) → IsPlaceOf (counts_of p) q → position_of l q ≡ index_of (counts_of p) q
  position_is laid q h = laid.positions q (subst (λ (cs : List ℕ). IsPlaceOf cs q) (sym lifted.counts) h) ∙ own_number p prog g lifted q h

  is_plain : IsLayoutOf p g l → IsMapIn p g l i → IsPlain p g g l i
  is_plain laid true_map = record {
    graph = refl;
    positions = position_is laid;
    words = λ q item e.
        let told = true_map.text.each q item e in
        let kept = each_kept p prog g lifted q item e in
        let at = position_is laid q (place_is p q item (stands_in p q item e)) in
        subst (λ (cs : List ℕ). slice_get i.map.words (index_of cs q) ≡ Some (plain_word p q item)) lifted.counts
        (told
        ∙ ap (λ (b : Bool). let w : MapWord = record { old = item.word; position = position_of l q; kept = b } in Some w) kept
        ∙ ap (λ (n : ℕ). let w : MapWord = record { old = item.word; position = n; kept = true } in Some w) at);
    forms = λ q w f. true_map.fields.forms w (has_word p prog g lifted q w f);
    tables = true_map.data_part.object_tables ∙ lifted.tables;
    slots = λ k t e. laid.data_part.slots k t e ∙ own_slots p prog g lifted k;
  }

  pub plain_image : IsLayoutOf p g l → IsMapIn p g l i → IsValidImage i → IsImageAt level.Plain p i
  plain_image laid true_map valid = record {
    program = prog;
    lifted = g;
    graph = g;
    layout = l;
    origin = lifted;
    keeps = keeps_itself p g (all_ordered g.blocks (placed g whole.graph whole.form whole.places)) (pairs_apart p prog g (lifted_of p prog g lifted));
    of = lifted_of p prog g lifted;
    kept = whole.kept;
    laid = laid;
    fits = ops_fit p prog g lifted (gp_of l) (address_of l);
    bases = lifted_stands.bases p g prog lifted;
    true_map = true_map;
    valid = valid;
    finished = is_plain laid true_map;
  }

-- ---- runs

in_step : (p : ProgramView) (i : Image) (h : IsImageAt level.Plain p i) (input : List ℕ) → AreBytes input → RunsInStep p h.graph h.layout i input
in_step p i h input bytes =
    let lifted : IsLifted p h.graph = subst (IsLifted p) (sym h.finished.graph) h.origin in
    let lockstep =
    lifted_images_run p h.graph h.layout i h.program lifted
    (record { layout = lays_out p h.program h.graph h.of h.layout h.laid (Comes h.graph); map = h.true_map }) h.valid input bytes in
    record {
      lockstep = lockstep;
      headline = λ words. lockstep_gives_headline (program_script p) (addresses_of p h.graph h.layout) i input words lockstep;
    }

steps_at : (at : Level) (p : ProgramView) (i : Image) (h : IsImageAt at p i) (input : List ℕ) → AreBytes input → StepsAt at p h.graph h.layout i input
steps_at level.Plain p i h input bytes = in_step p i h input bytes
steps_at level.Full p i h input bytes = tt

pub linked_images_run : LinkedImagesRun
linked_images_run at p i h input bytes = record { counted = images_run at p i h input bytes; steps = steps_at at p i h input bytes }

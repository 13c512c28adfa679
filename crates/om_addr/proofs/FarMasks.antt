-- A load made far with all of its uses: each word writes what it wrote and reads no more, so masks stay checked.
use Rattle.std.proofs.Common.{◌≡◌, inl, inr, ℕ, Bool, true, List, [], ◌∷◌, Option, Some, refl, sym, ap, ◌∙◌, subst}
use Rattle.om_isa.specs.declared.instr.Instr.{Instr}
use Rattle.om_value.specs.declared.value.Place.{Place}
use Rattle.om_prog.specs.Act as act
use Rattle.om_prog.specs.Act.{Act, Word, act_reads}
use Rattle.om_prog.specs.Flow.{Among}
use Rattle.om_prog.specs.View.{ProgramView}
use Rattle.om_prog.specs.Valid.{IsProgram}
use Rattle.om_graph.specs.View.{Block, GraphView, Has}
use Rattle.om_graph.specs.Run.{block_words}
use Rattle.om_graph.specs.Form.{Ordered}
use Rattle.om_graph.specs.Checks.{MaskChecked, AreOuts}
use Rattle.om_graph.specs.Outs.{outs_of}
use Rattle.om_graph.specs.OfProgram.{IsGraphOf}
use Rattle.om_graph.specs.Rewritten.{SameFrame, each_word}
use Rattle.om_graph.proofs.Masks.{among_true}
use Rattle.om_graph.proofs.OfProgram.{words_in_place}
use Rattle.om_graph.proofs.Outs as outs
use Rattle.om_checks.specs.Steps.{ChangesTo, Changed, no_more, one as one_more}
use Rattle.om_checks.proofs.Edits.{same_changes}
use Rattle.om_checks.proofs.Forms as forms
use Rattle.om_checks.proofs.Blocks.{mask_block_changed}
use Rattle.om_passes.specs.Blocks.{OneBlock}
use Rattle.om_passes.specs.Far.{FarLoad, far_target, far_word, far_change, IsFarLoad, IsMadeFar}
use Rattle.om_passes.specs.OneEdit.{MayGoOn}
use Rattle.om_passes.proofs.OneBlock.{old_block}
use Rattle.om_passes.proofs.FarEdits.{UseWord, each, far_words}

module _ (p : ProgramView) (prog : IsProgram p) (g new : GraphView) (of : IsGraphOf p g) (then : IsGraphOf p new) (frame : SameFrame g new) (l : FarLoad) (b n : Block) (one : OneBlock g.blocks new.blocks b n)
    (is : IsFarLoad l b) (made : IsMadeFar l b n) (register : l.ra ≡ 31 → ⊥) where
  order : Ordered (block_words b)
  order = (words_in_place p prog g of).ordered b (old_block one)

  use_changes : (x : Word) (w : UseWord p prog l b n is made order x) (bf : List Word) → ChangesTo bf x.act (act.UseLo w.instr l.hi (far_target l))
  use_changes x w bf =
      let reads = among_true (act_reads (act.Plain w.instr)) l.ra (subst (λ (a : Act). Among (act_reads a) l.ra) w.plain w.local.reads) in
      subst (λ (a : Act). ChangesTo bf a (act.UseLo w.instr l.hi (far_target l))) (sym w.plain) (forms.use_lo bf l.ra w.instr w.disp l.hi (far_target l) w.base reads)

  changes : (w : Word) → Has (block_words b) w → ((far_word l w).at ≡ w.at) × ((bf : List Word) → ChangesTo bf w.act (far_word l w).act)
  changes w h =
      each p prog l b n is made order (λ v u. (u.at ≡ v.at) × ((bf : List Word) → ChangesTo bf v.act u.act)) (refl, λ bf. forms.far bf l.ra l.rb (far_target l) register)
      (λ x y k. (refl, λ bf. use_changes x y bf)) (λ v. (refl, λ bf. same_changes bf v.act)) w (far_word l w) h refl

  all_change : (bf ws : List Word) → ((w : Word) → Has ws w → Has (block_words b) w) → Changed bf ws (each_word (far_change l) ws)
  all_change bf [] h = no_more bf
  all_change bf (w ∷ ws) h =
      let c = changes w (h w (inl refl)) in
      one_more bf ws (each_word (far_change l) ws) w (far_word l w) c.0 (c.1 bf) (all_change (w ∷ bf) ws (λ x m. h x (inr m)))

  pub far_changed : Changed [] (block_words b) (block_words n)
  far_changed = subst (λ (us : List Word). Changed [] (block_words b) us) (sym (far_words p prog l b n is made order)) (all_change [] (block_words b) (λ w h. h))

  pub far_masks : (masks : Place → ℕ → Bool) → MaskChecked masks g → MaskChecked masks new
  far_masks masks checked =
      mask_block_changed masks (outs_of g masks) g new b n of.graph then.form
      (record {
        before = one.before;
        behind = one.after;
        was = one.was;
        now = one.now;
        label = made.label;
        last = made.last;
        roots = frame.roots;
        counts = frame.counts;
        tables = frame.tables;
      })
      (outs_here masks) far_changed checked
    where
      outs_here : (masks : Place → ℕ → Bool) → AreOuts masks (outs_of g masks) g
      outs_here masks = outs.are_outs g of.graph.blocks masks

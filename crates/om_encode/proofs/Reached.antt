-- In order of object and offset branches that are in reach fit.
use Rattle.std.proofs.Common.{◌≡◌, inl, ℕ, zero, suc, ◌/◌, ◌%◌, ◌<◌, Bool, true, false, cond, ◌==◌, List, [], ◌∷◌, length, Option, Some, None, ap, sym, subst, ◌∙◌, arith, refl}
use Rattle.std.specs.Prelude.{pos, ◌-ℤ◌, slice_get, slice_index_or, option_and_then, is_some}
use Rattle.om_isa.specs.declared.instr.BrOp.{BrOp}
use Rattle.om_isa.specs.declared.instr.Instr.{Instr}
use Rattle.om_isa.specs.declared.instr.Instr.TheVariants.{Mem, Jump, Branch, Alu, Cmov, Misc, Fnop, Halt, Callsys}
use Rattle.om_isa.specs.Fields.{IsDisp}
use Rattle.om_value.specs.declared.value.Place.{Place}
use Rattle.om_prog.specs.declared.item.Item.{Item}
use Rattle.om_prog.specs.Act.{To, Word}
use Rattle.om_prog.specs.View.{ProgramView, item_at, is_word}
use Rattle.om_prog.specs.Valid.{IsProgram}
use Rattle.om_graph.specs.declared.op.Last.{Last}
use Rattle.om_graph.specs.declared.op.Last.TheVariants as last
use Rattle.om_graph.specs.View.{GraphView, Has}
use Rattle.om_graph.specs.Run.{words, last_words}
use Rattle.om_graph.specs.Form.{IsCondition, LastForm}
use Rattle.om_graph.specs.Index.{InReach, BranchInReach, BranchesInReach}
use Rattle.om_graph.specs.OfProgram.{IsGraphOf}
use Rattle.om_graph.proofs.Labels.{in_all, append_right}
use Rattle.om_graph.proofs.OfProgram.{index_below, count_is, map_length}
use Rattle.om_graph.proofs.LiftedOf.{item_get}
use Rattle.om_layout.specs.Layout.{LayoutView, position_of}
use Rattle.om_layout.specs.Order.{IsPlaceOf, IsLayoutOf, words_before}
use Rattle.om_layout.proofs.Counting.{reach}
use Rattle.om_layout.proofs.Sorted.{AreWordsOf, words_of}
use Rattle.om_encode.specs.Fitting.{branch_disp, BranchFits, BranchesFit, ReachedBranchesFit}
use Rattle.om_encode.proofs.Sound.{sound}

-- a word of a text has a place
place_of : (p : ProgramView) (g : GraphView) → IsGraphOf p g → (q : Place) → is_word p q ≡ true → IsPlaceOf g.counts q
place_of p g of q e = by_item (item_at p q) refl e
  where
    by_text : (item : Item) (o : Option (List Item)) → slice_get p.texts q.obj ≡ o → item_at p q ≡ Some item → IsPlaceOf g.counts q
    by_text item None f e = absurd (none_there (q.off % 4 == 0) (sym (ap (λ (o : Option (List Item)). cond (q.off % 4 == 0) (option_and_then (λ t. slice_get t (q.off / 4)) o) None) f) ∙ e))
      where
        none_there : (b : Bool) → cond b None None ≡ Some item → ⊥
        none_there true e = cc
        none_there false e = cc
    by_text item (Some text) f e =
        let i = item_get p q text item f e in
        let n = ap (λ (xs : List ℕ). length xs) of.counts ∙ map_length (λ (t : List Item). length t) p.texts in
        let b = index_below p.texts q.obj text f in
        let k = ap (λ (xs : List ℕ). slice_index_or xs q.obj 0) of.counts ∙ count_is p.texts q.obj text f in
        let j = index_below text (q.off / 4) item i.0 in
        record { object = omega (arith, n, b); aligned = i.1; inside = omega (arith, k, j) }

    by_item : (o : Option Item) → item_at p q ≡ o → is_some o ≡ true → IsPlaceOf g.counts q
    by_item None e h = cc
    by_item (Some item) e h = by_text item (slice_get p.texts q.obj) refl e

some_below : (xs : List ℕ) (k : ℕ) → 0 < slice_index_or xs k 0 → k < length xs
some_below [] k h = absurd (omega arith)
some_below (x ∷ xs) zero h = omega arith
some_below (x ∷ xs) (suc k) h = let i = some_below xs k h in omega (arith, i)

word_place : (counts : List ℕ) (ws : List Word) → AreWordsOf counts ws → (w : Word) → Has ws w → IsPlaceOf counts w.at
word_place counts ws are w h =
    let i = are.inside w h in
    record { object = some_below counts w.at.obj (omega (arith, i)); aligned = are.aligned w h; inside = omega (arith, i) }

module _ (p : ProgramView) (g : GraphView) (l : LayoutView) (prog : IsProgram p) (of : IsGraphOf p g) (lay : IsLayoutOf p g l) where
  fits : (at : Place) (o : BrOp) (ra : ℕ) (q : Place) → Has (words g) (record { at = at; act = To o ra q }) → InReach g.counts at q → IsDisp (branch_disp l at q)
  fits at o ra q h r =
      let are = words_of p prog g of in
      let a = lay.positions at (word_place g.counts (words g) are (record { at = at; act = To o ra q }) h) in
      let b = lay.positions q (place_of p g of q (sound p prog g of (record { at = at; act = To o ra q }) h)) in
      subst (λ (m : ℕ). IsDisp ((pos (position_of l q) -ℤ pos m) -ℤ pos 1)) (sym a)
      (subst (λ (n : ℕ). IsDisp ((pos n -ℤ pos (words_before (words g) at)) -ℤ pos 1)) (sym b) (reach g.counts (words g) are at q r))

  by_cond : (at : Place) (i : Instr) (q : Place) → ((w : Word) → Has (last_words (last.Cond at i q)) w → Has (words g) w) → InReach g.counts at q → IsCondition i → IsDisp (branch_disp l at q)
  by_cond at (Branch o ra d) q has r f = fits at o ra q (has _ (inl refl)) r
  by_cond at (Mem o ra rb d) q has r f = absurd f
  by_cond at (Jump k ra rb h) q has r f = absurd f
  by_cond at (Alu o ra rb rc) q has r f = absurd f
  by_cond at (Cmov k ra rb rc) q has r f = absurd f
  by_cond at (Misc o ra rb) q has r f = absurd f
  by_cond at Fnop q has r f = absurd f
  by_cond at Halt q has r f = absurd f
  by_cond at Callsys q has r f = absurd f

  by_last : (x : Last) → ((w : Word) → Has (last_words x) w → Has (words g) w) → BranchInReach g.counts x → LastForm x → BranchFits l x
  by_last last.Fall has r f = tt
  by_last last.Off has r f = tt
  by_last (last.Br at o ra q) has r f = fits at o ra q (has _ (inl refl)) r
  by_last (last.Cond at i q) has r f = by_cond at i q has r f
  by_last (last.Call at o ra q) has r f = fits at o ra q (has _ (inl refl)) r
  by_last (last.CallBy at i) has r f = tt
  by_last (last.JumpBy at i) has r f = tt

  branches : BranchesInReach g → BranchesFit g l
  branches reach = record {
    lasts = λ b among.
        by_last b.last (λ w h. in_all g.blocks b w among (append_right _ (last_words b.last) w h)) (reach.lasts b among) (of.form.lasts b among);
  }

pub reached_branches_fit : ReachedBranchesFit
reached_branches_fit p g l prog of lay reach = branches p g l prog of lay reach

-- A run's place is in a block of the kept set, or is a text's end.
use Rattle.std.proofs.Common.{◌%◌, ◌≡◌, ◌⊎◌, ◌<◌, ◌≤◌, ◌+◌, ◌*◌, inl, inr, ℕ, zero, suc, Bool, true, false, length, List, [], ◌∷◌, Option, Some, None, refl, sym, ap, ◌∙◌, subst, arith}
use Rattle.std.specs.Prelude.{slice_index_or}
use Rattle.std.proofs.lemmas.Bool.{cases_lt}
use Rattle.om_value.specs.declared.value.Place.{Place}
use Rattle.om_prog.specs.declared.item.Field.{Field}
use Rattle.om_prog.specs.Act.{Word, Script}
use Rattle.om_prog.specs.Step.{SymState, SymEnd, next_place, act_effect, after}
use Rattle.om_prog.specs.Runs.{sym_run, sym_start, sym_step, step_if, step_word}
use Rattle.om_prog.specs.Flow.{act_falls, GoesTo, effect_ends, effect_place}
use Rattle.om_prog.specs.Within.{ValueWithin}
use Rattle.om_prog.specs.View.{ProgramView}
use Rattle.om_prog.specs.declared.region.RegionInit.{RegionInit}
use Rattle.om_prog.proofs.Initial.{HasInit, HasField}
use Rattle.om_prog.proofs.Goes.{after_went, after_stays, act_leads}
use Rattle.om_graph.specs.declared.op.Last.{Last}
use Rattle.om_graph.specs.declared.op.Last.TheVariants.{Fall, Off, Br, Cond, Call, CallBy, JumpBy}
use Rattle.om_graph.specs.View.{Block, GraphView, Has}
use Rattle.om_graph.specs.Run.{block_words, next_word, entry_of, graph_script, all_words, rev_onto}
use Rattle.om_graph.specs.Kept.{IsInKeptSet, root, fall, FallsOn, IsEnd, IsBlock, KeptInBlocks, Comes}
use Rattle.om_graph.specs.Form.{label_after, Ordered}
use Rattle.om_graph.proofs.Placed.{FromLabel, Exits, Placed, JumpsLast}
use Rattle.om_graph.proofs.Places.{InLabels, no_codes}
use Rattle.om_graph.proofs.Labels.{is_true, found_behind, equal_places}
use Rattle.om_graph.proofs.Fetching.{found_has}
use Rattle.om_graph.proofs.Blocks.{found_at, FoundAt}
use Rattle.om_graph.proofs.Kept.{KeptOrEnd, label_in, label_enter, Le, Flow, laws, Stays, kept_law, has_split, jumps_kept}

-- what is known of one block alone
record Own (b : Block) : Type 0 where
  ordered : Ordered (block_words b)
  at_label : FromLabel b.label (block_words b)
  rest : List Block
  exits : Exits b.last b rest

own : (bs : List Block) (b : Block) → Placed bs → Has bs b → Own b
own [] b p h = absurd h
own (x ∷ bs) b p (inl e) = subst (λ (y : Block). Own y) e (record { ordered = p.1; at_label = p.0; rest = bs; exits = p.3 })
own (x ∷ bs) b p (inr h) = own bs b p.4 h

pub ordered_split : (bf ws : List Word) → Ordered (rev_onto bf ws) → Ordered ws
ordered_split [] ws h = h
ordered_split (x ∷ bf) ws h = (ordered_split bf (x ∷ ws) h).1

from_split : (l : Place) (bf ws : List Word) → FromLabel l (rev_onto bf ws) → FromLabel l ws
from_split l [] ws h = h
from_split l (x ∷ bf) ws h = (from_split l bf (x ∷ ws) h).1

has_after : (bf ws : List Word) (x : Word) → Has ws x → Has (rev_onto bf ws) x
has_after [] ws x h = h
has_after (y ∷ bf) ws x h = has_after bf (y ∷ ws) x (inr h)

module _ (g : GraphView) (within : InLabels g) (kept : KeptInBlocks g) (placed : Placed g.blocks) where
  at_block : (n : Block) (q : Place) → Has g.blocks n → IsInKeptSet g n.label → n.label ≡ q → Comes g q
  at_block n q h k e =
      let o = ap (λ (y : Place). y.obj) e in
      let f = ap (λ (y : Place). y.off) e in
      inl (
        n,
        record {
          among = h;
          kept = k;
          object = sym o;
          after = omega (arith, f);
          below = λ l i. let v = is_true n.label l (found_behind g.labels n.label l i).0 in let v1 = v.1 in omega (arith, f, v1);
          in_text = subst (λ (y : Place). y.off < 4 * slice_index_or g.counts y.obj 0) e (within.inside n.label (within.among n h));
          aligned = subst (λ (y : Place). y.off % 4 ≡ 0) e (within.aligned n.label (within.among n h));
        },
      )

  at_kept : (q : Place) → IsInKeptSet g q → Comes g q
  at_kept q k = by_place (kept.label q k)
    where
      by_place : IsBlock g q ⊎ IsEnd g q → Comes g q
      by_place (inl n) = at_block n.0 q n.1 (subst (λ (y : Place). IsInKeptSet g y) (sym n.2) k) n.2
      by_place (inr e) = inr e

  -- the word right before the next label falls to it
  falls_there :
      (b : Block) (bf : List Word) (w : Word) (rest : List Word) (l : Place) → Has g.blocks b → IsInKeptSet g b.label → rev_onto bf (w ∷ rest) ≡ block_words b → act_falls w.act →
      label_after g.labels b.label ≡ Some l → l.off ≤ w.at.off + 4 → IsInKeptSet g l
  falls_there b bf w rest l hb k s falls e i = by_rest rest s
    where
      mine : Own b
      mine = own g.blocks b placed hb

      by_last : (last : Last) (bs : List Block) → b.last ≡ last → Exits last b bs → rev_onto bf (w ∷ []) ≡ block_words b → IsInKeptSet g l
      by_last Fall bs h x s = fall b l hb k (subst (λ (y : Last). FallsOn y) (sym h) tt) e
      by_last (Cond at j to) bs h x s = fall b l hb k (subst (λ (y : Last). FallsOn y) (sym h) tt) e
      by_last Off bs h x s = let n = within.off b hb h in cc
      by_last (Br at op ra to) bs h x s = absurd (x.0 bf w s falls)
      by_last (Call at op ra to) bs h x s = absurd (x.0 bf w s falls)
      by_last (CallBy at j) bs h x s = absurd (x.0 bf w s falls)
      by_last (JumpBy at j) bs h x s = absurd (x.0 bf w s falls)

      by_rest : (rest : List Word) → rev_onto bf (w ∷ rest) ≡ block_words b → IsInKeptSet g l
      by_rest [] s = by_last b.last mine.rest refl mine.exits s
      by_rest (x ∷ rest) s =
          let o = ordered_split bf (w ∷ x ∷ rest) (subst (λ (ws : List Word). Ordered ws) (sym s) mine.ordered) in
          let f = from_split b.label bf (w ∷ x ∷ rest) (subst (λ (ws : List Word). FromLabel b.label ws) (sym s) mine.at_label) in
          let j = o.0.0 (f.1.0.0 ∙ sym f.0.0) in
          let hx = subst (λ (ws : List Word). Has ws x) s (has_after bf (w ∷ x ∷ rest) x (inr (inl refl))) in
          let m = within.below b x l hb hx e in
          absurd (omega (arith, i, j, m))

  comes_next : (q : Place) (w : Word) → next_word (all_words g.blocks) q ≡ Some w → (f : FoundAt (Option Place) (label_in g within kept) None (label_enter g within kept) (Flow g within kept) (Le g within kept) (laws g within kept) g.blocks q w) →
      IsInKeptSet g f.block.label → act_falls w.act → Comes g (next_place w.at)
  comes_next q w e f k falls = by_label (label_after g.labels b.label) refl
    where
      b : Block
      b = f.block

      mine : Own f.block
      mine = own g.blocks f.block placed f.among

      at_label : (w.at.obj ≡ f.block.label.obj) × (f.block.label.off ≤ w.at.off)
      at_label = (from_split f.block.label f.before (w ∷ f.rest) (subst (λ (ws : List Word). FromLabel f.block.label ws) (sym f.splits) mine.at_label)).0

      has : Has (block_words f.block) w
      has = has_split f.before w f.rest (block_words f.block) f.splits

      ends : w.at.off + 4 ≤ 4 * slice_index_or g.counts w.at.obj 0
      ends = within.words w (found_has (all_words g.blocks) q w e)

      next_aligned : (w.at.off + 4) % 4 ≡ 0
      next_aligned = let a = within.word_aligned w (found_has (all_words g.blocks) q w e) in omega (arith, a)

      at_end : label_after g.labels f.block.label ≡ None → (w.at.off + 4 < 4 * slice_index_or g.counts w.at.obj 0) ⊎ (4 * slice_index_or g.counts w.at.obj 0 ≤ w.at.off + 4) → Comes g (next_place w.at)
      at_end n (inl y) =
          let a = at_label.1 in
          inl (f.block, record { among = f.among; kept = k; object = at_label.0; after = omega (arith, a); below = λ l i. none_some l (sym n ∙ i); in_text = y; aligned = next_aligned })
        where
          none_some : (l : Place) → None ≡ Some l → w.at.off + 4 < l.off
          none_some l i = cc
      at_end n (inr y) =
          let z = ends in
          inr (record { object = subst (λ (o : ℕ). o < length g.counts) (sym at_label.0) (within.objects f.block f.among); off = omega (arith, y, z) })

      at_next : (l : Place) → label_after g.labels f.block.label ≡ Some l → (w.at.off + 4 < l.off) ⊎ (l.off ≤ w.at.off + 4) → Comes g (next_place w.at)
      at_next l h (inl y) =
          let a = at_label.1 in
          let u = found_behind g.labels f.block.label l h in
          let o = (is_true f.block.label l u.0).0 in
          let i = within.inside l u.1 in
          let i' = subst (λ (o : ℕ). l.off < 4 * slice_index_or g.counts o 0) (o ∙ sym at_label.0) i in
          inl (f.block, record { among = f.among; kept = k; object = at_label.0; after = omega (arith, a); below = λ m j. subst (λ (x : Place). w.at.off + 4 < x.off) (same_some (sym h ∙ j)) y; in_text = omega (arith, y, i'); aligned = next_aligned })
        where
          same_some : {x y : Place} → Some x ≡ Some y → x ≡ y
          same_some e = cc
      at_next l h (inr y) =
          let u = found_behind g.labels f.block.label l h in
          let o = (is_true f.block.label l u.0).0 in
          let z = within.below f.block w l f.among has h in
          let q' = falls_there f.block f.before w f.rest l f.among k f.splits falls h y in
          subst (λ (x : Place). Comes g x) (equal_places l (next_place w.at) (o ∙ sym at_label.0) (omega (arith, y, z))) (at_kept l q')

      by_label : (o : Option Place) → label_after g.labels f.block.label ≡ o → Comes g (next_place w.at)
      by_label None h = at_end h (cases_lt (w.at.off + 4) (4 * slice_index_or g.counts w.at.obj 0))
      by_label (Some l) h = at_next l h (cases_lt (w.at.off + 4) l.off)

  module _ (p : ProgramView) (last : JumpsLast (IsInKeptSet g) g.blocks)
      (plain : (b : Block) (w : Word) → Has g.blocks b → Has (block_words b) w → no_codes w.act) (first : Has g.roots (entry_of g.roots))
      (fields : (i : RegionInit) → HasInit p.regions i → (f : Field) → HasField i.fields f → ValueWithin (Has g.roots) f.value) where
    abbrev c : Script
    c = graph_script p g

    comes_to : (s : SymState) (w : Word) (q : Place) → next_word (all_words g.blocks) s.place ≡ Some w → Stays g within kept s → GoesTo (IsInKeptSet g) w q → Comes g q
    comes_to s w q e st to = by_to to
      where
        f : FoundAt (Option Place) (label_in g within kept) None (label_enter g within kept) (Flow g within kept) (Le g within kept) (laws g within kept) g.blocks s.place w
        f = found_at (Option Place) (label_in g within kept) None (label_enter g within kept) (Flow g within kept) (Le g within kept) (laws g within kept) g.blocks s.place w placed e

        k : IsInKeptSet g f.block.label
        k = subst (λ (o : Option Place). KeptOrEnd g o) f.here st.place

        by_to : GoesTo (IsInKeptSet g) w q → Comes g q
        by_to (inl t) = subst (λ (x : Place). Comes g x) t.1 (comes_next s.place w e f k t.0)
        by_to (inr j) = at_kept q (jumps_kept g within kept f.block w q w.act refl f.among k (has_split f.before w f.rest (block_words f.block) f.splits) j)

    comes_effect : (s : SymState) (w : Word) (t : Bool) → effect_ends (act_effect c s w.at w.act) ≡ t → next_word (all_words g.blocks) s.place ≡ Some w → Stays g within kept s → Comes g s.place →
        Comes g (after s w.at (act_effect c s w.at w.act)).place
    comes_effect s w true h e st co = subst (λ (x : Place). Comes g x) (sym (after_stays s w.at (act_effect c s w.at w.act) h)) co
    comes_effect s w false h e st co =
        let x = act_effect c s w.at w.act in
        subst (λ (y : Place). Comes g y) (sym (after_went s w.at x h).place) (comes_to s w (effect_place w.at x) e st (act_leads w.at c s (IsInKeptSet g) st.fine w.act h))

    comes_word : (s : SymState) (o : Option Word) → next_word (all_words g.blocks) s.place ≡ o → Stays g within kept s → Comes g s.place → Comes g (step_word c s o).place
    comes_word s None e st co = co
    comes_word s (Some w) e st co = comes_effect s w _ refl e st co

    comes_step : (s : SymState) (o : Option SymEnd) → Stays g within kept s → Comes g s.place → Comes g (step_if o c s).place
    comes_step s None st co = comes_word s _ refl st co
    comes_step s (Some e) st co = co

    -- at each n the run's place is in a block of the kept set, or is a text's end
    pub comes : (input : List ℕ) (n : ℕ) → Comes g (sym_run c input n).place
    unfolding sym_run sym_step sym_start
    comes input zero = at_kept c.entry (root c.entry first)
    comes input (suc n) = comes_step (sym_run c input n) (sym_run c input n).ended (kept_law g within kept p placed last plain first fields input n) (comes input n)

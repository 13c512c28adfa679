-- A register that a walk may read behind a word of a block is one that may be read there by masks that a check passes.
use Rattle.std.proofs.Common.{◌≡◌, inl, inr, ◌<◌, ◌≤◌, ◌+◌, ℕ, Bool, true, false, cond, List, [], ◌∷◌, Some, refl, sym, ap, ◌∙◌, subst, arith}
use Rattle.std.proofs.lemmas.Bool.{true≢false}
use Rattle.om_value.specs.declared.value.Place.{Place}
use Rattle.om_prog.specs.Act.{Word}
use Rattle.om_graph.specs.View.{Block, GraphView, Has}
use Rattle.om_graph.specs.Run.{block_words, words, from_place, next_word, rev_onto}
use Rattle.om_graph.specs.Form.{InForm, After, Ordered}
use Rattle.om_graph.specs.Checks.{live_in, Enters, falls_in, jumps_in, MaskChecked, AreOuts}
use Rattle.om_graph.specs.Walks.{WalksTo, MayRead}
use Rattle.om_graph.proofs.Placed.{Placed}
use Rattle.om_graph.proofs.Places.{InLabels}
use Rattle.om_graph.proofs.Labels.{in_all}
use Rattle.om_graph.proofs.Kept.{has_split}
use Rattle.om_graph.proofs.Itself.{all_ordered}
use Rattle.om_graph.proofs.Fetching.{from_true}
use Rattle.om_graph.proofs.Masks.{covered, live_at, mask_in, no_mask}
use Rattle.om_graph.proofs.Blocks.{value_in, value_at, or_else, before_not, EdgeTo, Edges, edges_of, next_has, Laws, found_at}
use Rattle.om_graph.proofs.OnWalks.{walk_flow, may_live, may_low, own_order, same_block, same_before}

-- ---- a word is found at its own place

pub after_has : (ws : List Word) (x w : Word) → After x ws → Has ws w → w.at.obj ≡ x.at.obj → x.at.off + 4 ≤ w.at.off
after_has [] x w a h o = absurd h
after_has (y ∷ ws) x w a (inl e) o = subst (λ (z : Word). x.at.off + 4 ≤ z.at.off) e (a.0 (ap (λ (z : Word). z.at.obj) e ∙ o))
after_has (y ∷ ws) x w a (inr h) o = after_has ws x w a.1 h o

pub own_found : (ws : List Word) (w : Word) → Ordered ws → Has ws w → next_word ws w.at ≡ Some w
own_found [] w o h = absurd h
own_found (x ∷ ws) w o (inl e) =
    let t : from_place w.at x ≡ true = subst (λ (y : Word). from_place y.at x ≡ true) e (from_true x.at x refl (omega arith)) in
    rw t (ap (λ (y : Word). Some y) e)
own_found (x ∷ ws) w o (inr h) =
    let t : from_place w.at x ≡ false = before_not w.at x (λ e. after_has ws x w o.0 h (sym e)) in
    rw t (own_found ws w o.1 h)

rest_is : (bf xs ys : List Word) → rev_onto bf xs ≡ rev_onto bf ys → xs ≡ ys
rest_is [] xs ys e = e
rest_is (w ∷ bf) xs ys e = let r = rest_is bf (w ∷ xs) (w ∷ ys) e in cc

-- ---- what may be read in front of a word, and behind it

pub record Both : Type 0 where
  pub front : ℕ → Bool
  pub back : ℕ → Bool

abbrev live_back : List Word → (ℕ → Bool) → ℕ → Bool
live_back [] out r = out r
live_back (w ∷ ws) out r = live_in ws out r

module _ (masks outs : Place → ℕ → Bool) where
  abbrev both_in : Block → List Word → List Word → Both
  both_in b bf ws = record { front = live_in ws (outs b.label); back = live_back ws (outs b.label) }

  abbrev no_both : Both
  no_both = record { front = λ r. false; back = λ r. false }

  abbrev enter : Block → Both
  enter b = record { front = masks b.label; back = masks b.label }

  -- what may be read where a word goes may be read behind it
  abbrev Flow : Word → Both → Both → Type 0
  Flow w x y = (r : ℕ) → r < 31 → y.front r ≡ true → x.back r ≡ true

  abbrev Le : Both → Both → Type 0
  Le x y = (r : ℕ) → r < 31 → y.front r ≡ true → x.front r ≡ true

  laws : Laws Both both_in no_both enter Flow Le
  laws = record {
    inner = λ b bf w x ws r l h. h;
    le_done = λ x r l h. absurd (true≢false (sym h));
    flow_done = λ w x r l h. absurd (true≢false (sym h));
    le_trans = λ x y z a b r l h. a r l (b r l h);
    flow_le = λ w x y z a b r l h. a r l (b r l h);
  }

  -- in front of a word it is what the masks say
  front_or :
      (b : Block) (bf ws : List Word) (p : Place) (x : Both) (y : ℕ → Bool) (r : ℕ) → x.front r ≡ y r →
      (or_else Both both_in no_both (value_in Both both_in no_both b bf ws p) x).front r
      ≡ or_else (ℕ → Bool) (mask_in masks outs) (no_mask masks outs) (value_in (ℕ → Bool) (mask_in masks outs) (no_mask masks outs) b bf ws p) y r
  front_or b bf [] p x y r e = e
  front_or b bf (w ∷ ws) p x y r e = by_test (from_place p w) (front_or b (w ∷ bf) ws p x y r e)
    where
      by_test :
          (t : Bool) →
          (or_else Both both_in no_both (value_in Both both_in no_both b (w ∷ bf) ws p) x).front r
          ≡ or_else (ℕ → Bool) (mask_in masks outs) (no_mask masks outs) (value_in (ℕ → Bool) (mask_in masks outs) (no_mask masks outs) b (w ∷ bf) ws p) y r →
          (or_else Both both_in no_both (cond t (Some (both_in b bf (w ∷ ws))) (value_in Both both_in no_both b (w ∷ bf) ws p)) x).front r
          ≡ or_else (ℕ → Bool) (mask_in masks outs) (no_mask masks outs)
          (cond t (Some (mask_in masks outs b bf (w ∷ ws))) (value_in (ℕ → Bool) (mask_in masks outs) (no_mask masks outs) b (w ∷ bf) ws p)) y r
      by_test true i = refl
      by_test false i = i

  front_is : (bs : List Block) (p : Place) (r : ℕ) → (value_at Both both_in no_both bs p).front r ≡ live_at masks outs bs p r
  front_is [] p r = refl
  front_is (b ∷ bs) p r =
      front_or b [] (block_words b) p (value_at Both both_in no_both bs p) (live_at masks outs bs p) r (front_is bs p r)

  module _ (g : GraphView) (checked : MaskChecked masks g) (are : AreOuts masks outs g) where
    edge : (b n : Block) → Has g.blocks b → Enters g b n → EdgeTo Both both_in no_both enter Flow Le b n
    edge b n hb c = record {
      ends = λ bf w e r l h. are.covers b n r c l h;
      empty = λ e r l h.
          covered masks outs g checked are b hb r l (subst (λ (ws : List Word). live_in ws (outs b.label) r ≡ true) (sym e) (are.covers b n r c l h));
    }

    edges : Edges Both both_in no_both enter Flow Le g.blocks
    edges =
        edges_of Both both_in no_both enter Flow Le g.blocks g.blocks (λ b h. h) (λ b n h. h)
        (λ b hb w ws e r l h. covered masks outs g checked are b hb r l (subst (λ (l : List Word). live_in l (outs b.label) r ≡ true) (sym e) h))
        (λ b n h o f. edge b n (next_has g.blocks b n h).0 (falls_in h o f))

    module _ (within : InLabels g) (placed : Placed g.blocks) (form : InForm g) where
      back_flow :
          (p : Place) (w : Word) (q : Place) → next_word (words g) p ≡ Some w → WalksTo g w q →
          Flow w (value_at Both both_in no_both g.blocks p) (value_at Both both_in no_both g.blocks q)
      back_flow p w q e t =
          walk_flow g within placed form Both both_in no_both enter Flow Le laws edges
          (λ b n bf w hb hn s j r l h. are.covers b n r (jumps_in w hb hn (bf, s) j) l h) p w q e t

      -- what some walk may read behind a word of a block
      pub inside :
          (b : Block) (bf : List Word) (w : Word) (ws : List Word) (q : Place) (r : ℕ) → Has g.blocks b → rev_onto bf (w ∷ ws) ≡ block_words b →
          WalksTo g w q → MayRead g r q → live_in ws (outs b.label) r ≡ true
      inside b bf w ws q r hb s t m =
          let in_b = has_split bf w ws (block_words b) s in
          let at = own_found (words g) w (all_ordered g.blocks placed) (in_all g.blocks b w hb in_b) in
          let low = may_low g within placed form r q m in
          let there = front_is g.blocks q r ∙ may_live g within placed form masks outs checked are r q m in
          let f = found_at Both both_in no_both enter Flow Le laws g.blocks w.at w placed at in
          let here : live_in f.rest (outs f.block.label) r ≡ true =
          ap (λ (x : Both). x.back r) (sym f.here) ∙ back_flow w.at w q at t r low there in
          let in_f = has_split f.before w f.rest (block_words f.block) f.splits in
          let same = same_block g.blocks b f.block w placed hb f.among in_b in_f in
          let splits : rev_onto f.before (w ∷ f.rest) ≡ block_words b = subst (λ (d : Block). rev_onto f.before (w ∷ f.rest) ≡ block_words d) (sym same) f.splits in
          let before = same_before (block_words b) bf f.before ws f.rest w (own_order g.blocks b placed hb) s splits in
          let rest = rest_is bf (w ∷ ws) (w ∷ f.rest) (s ∙ sym splits ∙ ap (λ (l : List Word). rev_onto l (w ∷ f.rest)) (sym before)) in
          let same_rest : f.rest ≡ ws = cc in
          subst (λ (l : List Word). live_in l (outs b.label) r ≡ true) same_rest
          (subst (λ (d : Block). live_in f.rest (outs d.label) r ≡ true) (sym same) here)

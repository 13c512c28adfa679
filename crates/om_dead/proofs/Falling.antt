-- The block behind another in its text is the one of the next label, where that is kept.
use Rattle.std.proofs.Common.{◌≡◌, ◌⊎◌, inl, inr, ◌<◌, ℕ, Bool, true, cond, List, [], ◌∷◌, Some, None, refl, sym, ap, ◌∙◌, subst, arith}
use Rattle.om_value.specs.declared.value.Place.{Place}
use Rattle.om_graph.specs.View.{Block, GraphView, Has, InPlaceOrder, place_lt, labelled, block_id_after}
use Rattle.om_graph.specs.Held.{IsGraph, label_list}
use Rattle.om_graph.specs.Form.{is_behind, label_after}
use Rattle.om_graph.specs.Kept.{IsInKeptSet, fall, FallsOn, IsEnd, IsBlock, KeptInBlocks}
use Rattle.om_graph.specs.Checks.{Next}
use Rattle.om_graph.proofs.Labels.{lt_off, lt_obj, is_true, true_is, found_behind, least_after, Least, has_label}
use Rattle.om_graph.proofs.RowLabels.{not_before, not_itself}
use Rattle.om_graph.proofs.HeldEdits.{lt_in}
use Rattle.om_graph.proofs.Blocks.{next_has}
use Rattle.om_blocks.specs.IsFlow.{HasFlow}
use Rattle.om_blocks.specs.Exits.{in_text, next_fallen}
use Rattle.om_blocks.proofs.Entering.{falls_true, labelled_block, next_is}

-- ---- blocks in order

next_lt : (bs : List Block) (b n : Block) → InPlaceOrder (label_list bs) → Next bs b n → place_lt b.label n.label ≡ true
next_lt [] b n o h = absurd h
next_lt (c ∷ []) b n o h = absurd h
next_lt (c ∷ d ∷ bs) b n o (inl (e, f)) = subst (λ (x : Block). place_lt x.label n.label ≡ true) e (o.0 n.label (inl (ap (λ (x : Block). x.label) f)))
next_lt (c ∷ d ∷ bs) b n o (inr h) = next_lt (d ∷ bs) b n o.1 h

-- no block stands between one and the next
none_between : (bs : List Block) (b n m : Block) → InPlaceOrder (label_list bs) → Next bs b n → Has bs m → place_lt b.label m.label ≡ true → (n ≡ m) ⊎ (place_lt n.label m.label ≡ true)
none_between [] b n m o h k l = absurd h
none_between (c ∷ []) b n m o h k l = absurd h
none_between (c ∷ d ∷ bs) b n m o (inl (e, f)) (inl s) l = absurd (not_itself b.label (subst (λ (x : Block). place_lt b.label x.label ≡ true) (sym s ∙ e) l))
none_between (c ∷ d ∷ bs) b n m o (inl (e, f)) (inr (inl s)) l = inl (sym f ∙ s)
none_between (c ∷ d ∷ bs) b n m o (inl (e, f)) (inr (inr k)) l = inr (subst (λ (x : Block). place_lt x.label m.label ≡ true) f (o.1.0 m.label (has_label bs m k)))
none_between (c ∷ d ∷ bs) b n m o (inr h) (inl s) l =
    absurd (not_before b.label c.label (subst (λ (x : Block). place_lt b.label x.label ≡ true) (sym s) l) (o.0 b.label (has_label (d ∷ bs) b (next_has (d ∷ bs) b n h).0)))
none_between (c ∷ d ∷ bs) b n m o (inr h) (inr k) l = none_between (d ∷ bs) b n m o.1 h k l

-- before a later block there is a next one
has_next : (bs : List Block) (b n : Block) → InPlaceOrder (label_list bs) → Has bs b → Has bs n → place_lt b.label n.label ≡ true → (m : Block) × Next bs b m
has_next [] b n o h k l = absurd h
has_next (c ∷ []) b n o (inl e) (inl f) l = absurd (not_itself b.label (subst (λ (x : Block). place_lt b.label x.label ≡ true) (sym f ∙ e) l))
has_next (c ∷ []) b n o (inl e) (inr k) l = absurd k
has_next (c ∷ []) b n o (inr h) k l = absurd h
has_next (c ∷ d ∷ bs) b n o (inl e) k l = (d, inl (e, refl))
has_next (c ∷ d ∷ bs) b n o (inr h) (inl f) l =
    absurd (not_before b.label c.label (subst (λ (x : Block). place_lt b.label x.label ≡ true) (sym f) l) (o.0 b.label (has_label (d ∷ bs) b h)))
has_next (c ∷ d ∷ bs) b n o (inr h) (inr k) l = let r = has_next (d ∷ bs) b n o.1 h k l in (r.0, inr r.1)

-- ---- falls

some_place : (p q : Place) → Some p ≡ Some q → p ≡ q
some_place p q e = cc

module _ (g : GraphView) (graph : IsGraph g) where
  label_in : (n : Block) → Has g.blocks n → Has g.labels n.label
  label_in n h = graph.among n.label (has_label g.blocks n h)

  before_is : (b m : Block) → is_behind b.label m.label ≡ true → place_lt b.label m.label ≡ true
  before_is b m e = let r = is_true b.label m.label e in lt_in b.label m.label (sym r.0) r.1

  -- where control falls into a block, that is in the kept set
  pub fallen_kept : HasFlow g → KeptInBlocks g → (b n : Block) → Has g.blocks b → Next g.blocks b n → n.label.obj ≡ b.label.obj → FallsOn b.last → IsInKeptSet g b.label → IsInKeptSet g n.label
  fallen_kept flow kept b n hb next o f k = subst (λ (q : Place). IsInKeptSet g q) (same (kept.label least.at into)) into
    where
      hn : Has g.blocks n
      hn = (next_has g.blocks b n next).1

      least : Least g.labels b.label n.label
      least = least_after g.labels b.label n.label graph.labels (label_in n hn) (true_is b.label n.label o (lt_off b.label n.label (next_lt g.blocks b n graph.blocks next) o))

      into : IsInKeptSet g least.at
      into = fall b least.at hb k f least.found

      same_text : least.at.obj ≡ n.label.obj
      same_text = (is_true b.label least.at least.past).0 ∙ sym o

      by_place : (m : Block) → m.label ≡ least.at → (n ≡ m) ⊎ (place_lt n.label m.label ≡ true) → least.at ≡ n.label
      by_place m e (inl s) = sym e ∙ ap (λ (x : Block). x.label) (sym s)
      by_place m e (inr l) =
          let past = lt_off n.label least.at (subst (λ (q : Place). place_lt n.label q ≡ true) e l) same_text in
          let first = least.least in
          absurd (omega (arith, past, first))

      same : IsBlock g least.at ⊎ IsEnd g least.at → least.at ≡ n.label
      same (inl (m, hm, e)) =
          by_place m e
          (none_between g.blocks b n m graph.blocks next hm (before_is b m (subst (λ (q : Place). is_behind b.label q ≡ true) (sym e) least.past)))
      same (inr end) =
          let inside = (flow.places.labels least.at least.among).1 in
          let past = end.off in
          absurd (omega (arith, inside, past))

  -- a block falls into the one of the next label
  pub falls_to : (b : Block) (q : Place) (id : ℕ) → Has g.blocks b → FallsOn b.last → label_after g.labels b.label ≡ Some q → labelled g q ≡ Some id → next_fallen g b.id b.last ≡ Some id
  falls_to b q id hb f after e = by_block (labelled_block g q id e)
    where
      by_block : (n : Block) × Has g.blocks n × (n.label ≡ q) × (n.id ≡ id) → next_fallen g b.id b.last ≡ Some id
      by_block (n, hn, l, i) =
          ap (λ (t : Bool). cond t (in_text g b.id (block_id_after b.id g.blocks)) None) (falls_true b.last f)
          ∙ next_is g graph b n (subst (λ (x : Block). Next g.blocks b x) (same (none_between g.blocks b m.0 n graph.blocks m.1 hn lt)) m.1) behind.0 ∙ ap Some i
        where
          behind : (n.label.obj ≡ b.label.obj) × (b.label.off < n.label.off)
          behind = is_true b.label n.label (subst (λ (x : Place). is_behind b.label x ≡ true) (sym l) (found_behind g.labels b.label q after).0)

          lt : place_lt b.label n.label ≡ true
          lt = lt_in b.label n.label (sym behind.0) behind.1

          m : (m : Block) × Next g.blocks b m
          m = has_next g.blocks b n graph.blocks hb hn lt

          same : (m.0 ≡ n) ⊎ (place_lt m.0.label n.label ≡ true) → m.0 ≡ n
          same (inl s) = s
          same (inr before) =
              let first = next_lt g.blocks b m.0 graph.blocks m.1 in
              let low = lt_obj b.label m.0.label first in
              let high = lt_obj m.0.label n.label before in
              let text = behind.0 in
              let one : m.0.label.obj ≡ b.label.obj = omega (arith, low, high, text) in
              let r = least_after g.labels b.label m.0.label graph.labels (label_in m.0 (next_has g.blocks b m.0 m.1).1) (true_is b.label m.0.label one (lt_off b.label m.0.label first one)) in
              let at : r.at ≡ n.label = some_place r.at q (sym r.found ∙ after) ∙ sym l in
              let off = ap (λ (x : Place). x.off) at in
              let least = r.least in
              let past = lt_off m.0.label n.label before (text ∙ sym one) in
              absurd (omega (arith, off, least, past))

-- Kept words stand in blocks of the kept set, and what is gone from these came from LITERAL loads and GPDISPs.
use Rattle.std.proofs.Common.{◌≡◌, ◌⊎◌, inl, inr, true, false, List, ◌∷◌, Some, refl, sym, ap, ◌∙◌, subst, arith}
use Rattle.std.proofs.lemmas.Bool.{true≢false}
use Rattle.om_value.specs.declared.value.Place.{Place}
use Rattle.om_prog.specs.Act.{Word}
use Rattle.om_prog.specs.View.{ProgramView}
use Rattle.om_prog.specs.Script.{program_fetch}
use Rattle.om_prog.specs.Valid.{IsProgram}
use Rattle.om_graph.specs.View.{Block, Shape, GraphView, Has}
use Rattle.om_graph.specs.Run.{block_words, shape_words}
use Rattle.om_graph.specs.Form.{is_address}
use Rattle.om_graph.specs.Kept.{IsInKeptSet, KeptInBlocks, IsBlock, IsEnd}
use Rattle.om_graph.specs.Lifted.{lifted_shapes}
use Rattle.om_graph.specs.OfProgram.{AreKept, no_more, kept, gone, IsGraphOf}
use Rattle.om_graph.proofs.OfProgram.{shape_at, words_in_place, to_map}
use Rattle.om_image.specs.declared.image.Image.{Image}
use Rattle.om_layout.specs.Layout.{LayoutView}
use Rattle.om_encode.specs.Text.{TextIsTrue}
use Rattle.om_encode.specs.Fields.{FieldsAreTrue}
use Rattle.om_graph.specs.Left.{OnlyKeptSet}
use Rattle.om_thorough.specs.Thorough.{kept_in_map, KeptWordsAreTheKeptSets}
use Rattle.om_passes.proofs.Origins.{label_apart, shape_of_block}
use Rattle.om_thorough.proofs.Images.{kept_from, in_map_kept}

stays_or : (p : ProgramView) (ws vs us : List Word) (w : Word) → AreKept p ws vs us → Has vs w → ((u : Word) × Has us u × (u.at ≡ w.at)) ⊎ (is_address w.act ≡ true)
stays_or p ws _ _ w no_more h = absurd h
stays_or p ws _ _ w (kept {vs} {us} x u e f k) (inl m) = inl (u, inl refl, e ∙ ap (λ (y : Word). y.at) m)
stays_or p ws _ _ w (kept {vs} {us} x u e f k) (inr h) = by_rest (stays_or p ws vs us w k h)
  where
    by_rest : ((v : Word) × Has us v × (v.at ≡ w.at)) ⊎ (is_address w.act ≡ true) → ((v : Word) × Has (u ∷ us) v × (v.at ≡ w.at)) ⊎ (is_address w.act ≡ true)
    by_rest (inl r) = inl (r.0, inr r.1, r.2)
    by_rest (inr a) = inr a
stays_or p ws _ us w (gone {vs} x a f k) (inl m) = inr (ap (λ (y : Word). is_address y.act) (sym m) ∙ a)
stays_or p ws _ us w (gone {vs} x a f k) (inr h) = stays_or p ws vs us w k h

module _ (p : ProgramView) (prog : IsProgram p) (g : GraphView) (of : IsGraphOf p g) (l : LayoutView) (i : Image)
    (text : TextIsTrue p g l i) (fields : FieldsAreTrue p g l i) (inside : KeptInBlocks g) where
  no_end : (s : Shape) → Has (lifted_shapes p) s → IsEnd g s.label → ⊥
  no_end s h e =
      let m = subst (λ (ls : List Place). Has ls s.label) (sym of.labels) (to_map (λ s. s.label) (lifted_shapes p) s h) in
      let k = ((words_in_place p prog g of).labels s.label m).1 in
      let f = e.off in
      omega (arith, k, f)

  block_there : (s : Shape) → Has (lifted_shapes p) s → IsInKeptSet g s.label → IsBlock g s.label
  block_there s h k = by_case (inside.label s.label k)
    where
      by_case : IsBlock g s.label ⊎ IsEnd g s.label → IsBlock g s.label
      by_case (inl b) = b
      by_case (inr e) = absurd (no_end s h e)

  went : (s : Shape) (w : Word) → Has (lifted_shapes p) s → Has (shape_words s) w → IsInKeptSet g s.label → kept_in_map p i w.at ≡ false → is_address w.act ≡ true
  went s w hs hw k e = by_case (stays_or p (shape_words s) (shape_words s) (block_words n) w (subst (λ (x : Shape). AreKept p (shape_words x) (shape_words x) (block_words n)) same (of.blocks n hn).2.words) hw)
    where
      r : IsBlock g s.label
      r = block_there s hs k

      n : Block
      n = r.0

      hn : Has g.blocks n
      hn = r.1

      same : shape_at p prog g of n hn ≡ s
      same = label_apart p prog g of (shape_at p prog g of n hn) s (shape_of_block p prog g of n hn) hs (sym (of.blocks n hn).2.label ∙ r.2)

      by_case : ((u : Word) × Has (block_words n) u × (u.at ≡ w.at)) ⊎ (is_address w.act ≡ true) → is_address w.act ≡ true
      by_case (inl u) =
          absurd (true≢false (sym (in_map_kept p prog g of l i text fields n u.0 hn u.1) ∙ ap (λ (q : Place). kept_in_map p i q) u.2 ∙ e))
      by_case (inr a) = a

  stands : OnlyKeptSet g → (q : Place) (w : Word) → program_fetch p q ≡ Some w → kept_in_map p i q ≡ true → (s : Shape) × Has (lifted_shapes p) s × Has (shape_words s) w × IsInKeptSet g s.label
  stands only q w e k =
      let r = kept_from p prog g of l i text fields q w e k in
      let s = r.source in
      (s.shape, s.among, subst (λ (x : Word). Has (shape_words s.shape) x) r.same s.has, subst (λ (x : Place). IsInKeptSet g x) s.of_shape.label (only.blocks r.block r.among))

  pub kept_words_are : OnlyKeptSet g → KeptWordsAreTheKeptSets p g i
  kept_words_are only = record { kept = stands only; gone = went }

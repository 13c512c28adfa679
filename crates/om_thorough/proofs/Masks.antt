-- Exact masks of a graph agree.
use Rattle.std.proofs.Common.{◌≡◌, ◌<◌, ℕ, Bool, true, false, ◌||◌, ◌&&◌, not, List, [], ◌∷◌, refl, sym, ap, ◌∙◌}
use Rattle.std.proofs.lemmas.Bool.{true≢false}
use Rattle.om_value.specs.declared.value.Place.{Place}
use Rattle.om_prog.specs.Act.{Word, act_reads, act_writes}
use Rattle.om_prog.specs.Facts.{has}
use Rattle.om_graph.specs.View.{Block, GraphView, Has}
use Rattle.om_graph.specs.Checks.{MaskChecked, ReadsBlock, reads_in, reads_next, live_in}
use Rattle.om_graph.specs.Left.{AreExactMasks}
use Rattle.om_thorough.specs.Laws.{ExactMasksAgree}
use Rattle.om_passes.proofs.Whole.{entered_has}

-- what is read from a block on is in each mask that a check passes
reads_mask : (g : GraphView) (masks : Place → ℕ → Bool) → MaskChecked masks g → (r : ℕ) (b : Block) → r < 31 → ReadsBlock g r b → masks b.label r ≡ true
reads_mask g masks c r b low (reads_in _ h e) = c.reads b r h low e
reads_mask g masks c r b low (reads_next _ n e w k) = c.enters b n r e low (reads_mask g masks c r n low k) w

-- what is live behind words depends on one register alone
live_same : (ws : List Word) (out end : ℕ → Bool) (r : ℕ) → out r ≡ end r → live_in ws out r ≡ live_in ws end r
live_same [] out end r e = e
live_same (w ∷ ws) out end r e = ap (λ (b : Bool). has (act_reads w.act) r || (not (has (act_writes w.act) r) && b)) (live_same ws out end r e)

module _ (g : GraphView) (masks outs others ends : Place → ℕ → Bool) (one : AreExactMasks masks outs g) (two : AreExactMasks others ends g) where
  out_there : (b : Block) (r : ℕ) → Has g.blocks b → r < 31 → outs b.label r ≡ true → ends b.label r ≡ true
  out_there b r h low e =
      let o = one.ends.only b r h low e in
      let k = one.only o.0 r (entered_has g b o.0 o.1) low o.2 in
      two.ends.covers b o.0 r o.1 low (reads_mask g others two.checked r o.0 low k)

same_outs :
    (g : GraphView) (masks outs others ends : Place → ℕ → Bool) → AreExactMasks masks outs g → AreExactMasks others ends g → (b : Block) (r : ℕ) → Has g.blocks b → r < 31 →
    outs b.label r ≡ ends b.label r
same_outs g masks outs others ends one two b r h low = by_case (outs b.label r) (ends b.label r) refl refl
  where
    by_case : (x y : Bool) → outs b.label r ≡ x → ends b.label r ≡ y → outs b.label r ≡ ends b.label r
    by_case true y e f = e ∙ sym (out_there g masks outs others ends one two b r h low e)
    by_case false true e f = absurd (true≢false (sym (out_there g others ends masks outs two one b r h low f) ∙ e))
    by_case false false e f = e ∙ sym f

pub exact_masks_agree : ExactMasksAgree
exact_masks_agree g masks outs others ends one two left = record {
  words =
      λ b bf w ws r s a m dead.
      left.words b bf w ws r s a m (λ low. live_same ws (outs b.label) (ends b.label) r (same_outs g masks outs others ends one two b r s.among low) ∙ dead low);
}

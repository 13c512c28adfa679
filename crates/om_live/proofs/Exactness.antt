-- Masks that are exact by number are exact for blocks.
use Rattle.std.proofs.Common.{◌≡◌, ◌<◌, ℕ, true, List, get_or, length, sym, ap, ◌∙◌, arith}
use Rattle.std.specs.Prelude.{◌↔◌}
use Rattle.std.specs.Int.{bit_at}
use Rattle.std.proofs.lemmas.Bool.{eqb-true, eq-eqb}
use Rattle.std.proofs.lemmas.List.{get_or_default}
use Rattle.std.proofs.lemmas.Nat.Bits.{bit_at-lt}
use Rattle.om_flow.specs.declared.parts.Flow.{Flow}
use Rattle.om_flow.specs.Seen.{reads_of, writes_of, FlowGoes}
use Rattle.om_flow.specs.Masks.{number_at, Reads, Here, Later, MasksSolved}
use Rattle.om_graph.specs.View.{Block, GraphView, Has}
use Rattle.om_graph.specs.Held.{IsGraph}
use Rattle.om_graph.specs.Checks.{ReadsBlock}
use Rattle.om_graph.specs.Left.{AreExactMasks}
use Rattle.om_graph.specs.Outs.{outs_of}
use Rattle.om_graph.proofs.Outs.{are_outs}
use Rattle.om_blocks.specs.IsFlow.{IsFlow}
use Rattle.om_blocks.specs.Found.{all_registers, masks_in}
use Rattle.om_blocks.proofs.OfFlow.{flows_tell, mask_of_block}
use Rattle.om_live.specs.Exact.{AreExact}

module _ (g : GraphView) (f : Flow) (graph : IsGraph g) (is : IsFlow g f) (masks : List ℕ)
    (solved : MasksSolved (length f.blocks.items) (FlowGoes f) (reads_of f.blocks.items) (writes_of f.blocks.items) masks) where
  abbrev Walks : ℕ → ℕ → Type 0
  Walks r i = Reads (FlowGoes f) (number_at (reads_of f.blocks.items)) (number_at (writes_of f.blocks.items)) r i

  -- no walk reads r31
  never : (i : ℕ) → Walks 31 i → ⊥
  never i (Here j e) = let z = is.bare i in omega (arith, z, e)
  never i (Later j k e none walk) = never k walk

  exact : (b : Block) (r : ℕ) → Has g.blocks b → r < 31 → (masks_in g masks b.label r ≡ true) ↔ ReadsBlock g r b
  exact b r h low =
      let k = solved.exact b.id r (is.numbers b h) (omega (arith, low)) in
      let w = flows_tell.reads g f graph is b r h low in
      let m = mask_of_block g f graph is masks solved.size b r h in (
        λ e. w.0 (k.0 (eqb-true (bit_at (number_at masks b.id) r) 1 (sym m ∙ e))),
        λ q. m ∙ eq-eqb (bit_at (number_at masks b.id) r) 1 (k.1 (w.1 q)),
      )

  bare : (b : Block) → Has g.blocks b → bit_at (get_or masks b.id all_registers) 31 ≡ 0
  bare b h =
      let l = is.numbers b h in
      let s = solved.size in
      let k = solved.exact b.id 31 l (omega arith) in
      let d : get_or masks b.id all_registers ≡ number_at masks b.id = get_or_default masks b.id all_registers 0 (omega (arith, l, s)) in
      ap (λ (m : ℕ). bit_at m 31) d ∙ no_bit (bit_at (number_at masks b.id) 31) (bit_at-lt (number_at masks b.id) 31) (λ e. never b.id (k.0 e))
    where
      no_bit : (n : ℕ) → n < 2 → (n ≡ 1 → ⊥) → n ≡ 0
      no_bit n h f = omega (arith, h, f)

  pub are_exact : AreExact g masks
  are_exact = record { checked = flows_tell.mask_checked g f masks graph is solved.size solved.checked; exact = exact; bare = bare }

-- ---- by label

pub exact_by_label :
    (g : GraphView) (masks : List ℕ) → IsGraph g → AreExact g masks →
    AreExactMasks (masks_in g masks) (outs_of g (masks_in g masks)) g
exact_by_label g masks graph exact = record {
  checked = exact.checked;
  ends = are_outs g graph.blocks (masks_in g masks);
  only = λ b r h low e. (exact.exact b r h low).0 e;
}

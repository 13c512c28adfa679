-- The entries of blocks, as a walk over the blocks fills them in.
use Rattle.std.proofs.Common.{◌≡◌, ◌≢◌, ◌⊎◌, inl, inr, ◌<◌, ◌+◌, ℕ, zero, suc, Bool, true, false, cond, ◌==◌, List, [], ◌∷◌, ◌++◌, Some, replicate, get_or, get_or-set_same, get_or-set_other, length, refl, sym, ap, ◌∙◌, subst, arith}
use Rattle.std.specs.Prelude.{find}
use Rattle.std.proofs.Math.ListN.{set}
use Rattle.std.proofs.lemmas.List.{length-set, length-replicate}
use Rattle.std.proofs.lemmas.Bool.{eqb-true}
use Rattle.om_flow.specs.declared.parts.FlowBlock.{FlowBlock}
use Rattle.om_flow.proofs.Spreading.{same_or_not}
use Rattle.om_graph.specs.View.{Block, GraphView, Has, is_block}
use Rattle.om_graph.specs.Held.{IsGraph}
use Rattle.om_blocks.specs.Filling.{no_block, IsBlockFlow, AreFilled}
use Rattle.om_blocks.proofs.OfFlow.{same_id}

pub found_id : (bs : List Block) (id : ℕ) (x : Block) → find (is_block id) bs ≡ Some x → x.id ≡ id
found_id [] id x e = cc
found_id (c ∷ bs) id x e = by_test (c.id == id) refl e (found_id bs id x)
  where
    by_test : (t : Bool) → (c.id == id) ≡ t → cond t (Some c) (find (is_block id) bs) ≡ Some x → (find (is_block id) bs ≡ Some x → x.id ≡ id) → x.id ≡ id
    by_test true q e k = let s : c ≡ x = cc in ap (λ (y : Block). y.id) (sym s) ∙ eqb-true c.id id q
    by_test false q e k = k e

all_none : (n i outside : ℕ) → get_or (replicate n (no_block outside)) i (no_block outside) ≡ no_block outside
all_none zero i outside = refl
all_none (suc n) zero outside = refl
all_none (suc n) (suc i) outside = all_none n i outside

pub filled_first : (g : GraphView) (outside : ℕ) → AreFilled g outside [] (replicate (outside + 1) (no_block outside))
filled_first g outside = record {
  among = λ b h. absurd h;
  size = length-replicate (outside + 1) (no_block outside);
  each = λ b h. absurd h;
  rest = λ i n. all_none (outside + 1) i outside;
}

one_more : (done : List Block) (x b : Block) → Has (done ++ x ∷ []) b → Has done b ⊎ (x ≡ b)
one_more [] x b (inl e) = inr e
one_more [] x b (inr h) = absurd h
one_more (c ∷ done) x b (inl e) = inl (inl e)
one_more (c ∷ done) x b (inr h) = elim (one_more done x b h) [ inl k ↦ inl (inr k) | inr e ↦ inr e ]

left_of : (done : List Block) (x b : Block) → Has done b → Has (done ++ x ∷ []) b
left_of [] x b h = absurd h
left_of (c ∷ done) x b (inl e) = inl e
left_of (c ∷ done) x b (inr h) = inr (left_of done x b h)

right_of : (done : List Block) (x : Block) → Has (done ++ x ∷ []) x
right_of [] x = inl refl
right_of (c ∷ done) x = inr (right_of done x)

pub filled_more :
    (g : GraphView) (graph : IsGraph g) (outside : ℕ) (done : List Block) (x : Block) (k : ℕ) (e : FlowBlock) (v : List FlowBlock) → Has g.blocks x → x.id ≡ k → k < outside →
    IsBlockFlow g outside x e → AreFilled g outside done v → AreFilled g outside (done ++ x ∷ []) (set v k e)
filled_more g graph outside done x k e v hx same low is old = record {
  among = λ b h. among b (one_more done x b h);
  size = length-set v k e ∙ old.size;
  each = λ b h. each b (same_or_not b.id k) (one_more done x b h);
  rest = λ i n. rest i n (same_or_not i k);
}
  where
    here : get_or (set v k e) k (no_block outside) ≡ e
    here = get_or-set_same v k e (no_block outside) (omega (arith, old.size, low))

    other : (i : ℕ) → i ≢ k → get_or (set v k e) i (no_block outside) ≡ get_or v i (no_block outside)
    other i n = get_or-set_other v k i e (no_block outside) n

    among : (b : Block) → Has done b ⊎ (x ≡ b) → Has g.blocks b
    among b (inl h) = old.among b h
    among b (inr s) = subst (λ (y : Block). Has g.blocks y) s hx

    each : (b : Block) → (b.id ≡ k) ⊎ (b.id ≢ k) → Has done b ⊎ (x ≡ b) → IsBlockFlow g outside b (get_or (set v k e) b.id (no_block outside))
    each b (inl s) h =
        let one : x ≡ b = same_id g.blocks x b graph.block_ids hx (among b h) (same ∙ sym s) in
        subst (λ (y : Block). IsBlockFlow g outside y (get_or (set v k e) y.id (no_block outside))) one
        (subst (λ (y : FlowBlock). IsBlockFlow g outside x y) (sym (ap (λ (i : ℕ). get_or (set v k e) i (no_block outside)) same ∙ here)) is)
    each b (inr n) (inl h) = subst (λ (y : FlowBlock). IsBlockFlow g outside b y) (sym (other b.id n)) (old.each b h)
    each b (inr n) (inr s) = absurd (n (ap (λ (y : Block). y.id) (sym s) ∙ same))

    rest : (i : ℕ) → ((b : Block) → Has (done ++ x ∷ []) b → b.id ≡ i → ⊥) → (i ≡ k) ⊎ (i ≢ k) → get_or (set v k e) i (no_block outside) ≡ no_block outside
    rest i n (inl s) = absurd (n x (right_of done x) (same ∙ sym s))
    rest i n (inr d) = other i d ∙ old.rest i (λ b h q. n b (left_of done x b h) q)

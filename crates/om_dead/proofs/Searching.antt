-- The search for the kept set: what holds while it runs, and what it has found at its end.
use Rattle.std.proofs.Common.{◌≡◌, ◌⊎◌, inl, inr, ◌<◌, ℕ, zero, suc, Bool, true, false, List, [], ◌∷◌, ◌++◌, Some, replicate, ◌+◌, length, length-append, refl, sym, ap, ◌∙◌, subst, arith}
use Rattle.std.specs.Prelude.{sum_by}
use Rattle.std.proofs.lemmas.Bool.{true≢false}
use Rattle.std.proofs.lemmas.List.{length-replicate}
use Rattle.om_value.specs.declared.value.Place.{Place}
use Rattle.om_graph.specs.View.{Block, GraphView, Has, block_of, is_live_block, labelled}
use Rattle.om_graph.specs.Held.{IsGraph}
use Rattle.om_graph.specs.Kept.{IsInKeptSet, root, fall, named, behind, KeptInBlocks}
use Rattle.om_graph.proofs.Labels.{has_append, append_left, append_right}
use Rattle.om_blocks.specs.IsFlow.{HasFlow}
use Rattle.om_blocks.proofs.Walking.{found_here}
use Rattle.om_blocks.proofs.OfFlow.{same_id}
use Rattle.om_blocks.proofs.Entering.{label_is}
use Rattle.om_dead.specs.Finding.{IsFound, unfound, Grown, IsAtOne, LeadsTo, AreFound}
use Rattle.om_dead.proofs.Falling.{falls_to}
use Rattle.om_dead.proofs.Naming.{IsKeptNumber, place_kept, leads_kept, named_leads, linked_leads}

-- what is found is in the kept set, and a block that is found and not queued leads to what is found
pub record Searching (g : GraphView) (fs : List Bool) (ws : List ℕ) : Type 0 where
  pub rows : (id : ℕ) → is_live_block g id ≡ true → id < length fs
  pub sound : (id : ℕ) → IsFound fs id → IsKeptNumber g id
  pub queued : (id : ℕ) → Has ws id → IsFound fs id
  pub roots : (id : ℕ) → IsAtOne g g.roots id → IsFound fs id
  pub closed : (b : Block) → Has g.blocks b → IsFound fs b.id → Has ws b.id ⊎ ((id : ℕ) → LeadsTo g b id → IsFound fs id)

none_found : (n id : ℕ) → IsFound (replicate n false) id → ⊥
none_found zero id h = true≢false (sym h)
none_found (suc n) zero h = true≢false (sym h)
none_found (suc n) (suc id) h = none_found n id h

pub begun :
    (g : GraphView) (n : ℕ) (fs : List Bool) (ws : List ℕ) → ((id : ℕ) → is_live_block g id ≡ true → id < n) → Grown (IsAtOne g g.roots) (replicate n false) [] fs ws → Searching g fs ws
begun g n fs ws rows grown = record {
  rows = λ id h. let x = rows id h in let y = grown.size ∙ length-replicate n false in omega (arith, x, y);
  sound = λ id h. sound id (grown.only id h);
  queued = λ id h. queued id (grown.queued id h);
  roots = grown.reached;
  closed = λ b hb h. closed b (grown.fresh b.id h);
}
  where
    sound : (id : ℕ) → IsFound (replicate n false) id ⊎ IsAtOne g g.roots id → IsKeptNumber g id
    sound id (inl h) = absurd (none_found n id h)
    sound id (inr (q, h, e)) = place_kept g q id e (root q h)

    queued : (id : ℕ) → ⊥ ⊎ IsAtOne g g.roots id → IsFound fs id
    queued id (inl h) = absurd h
    queued id (inr h) = grown.reached id h

    closed : (b : Block) → IsFound (replicate n false) b.id ⊎ Has ws b.id → Has ws b.id ⊎ ((id : ℕ) → LeadsTo g b id → IsFound fs id)
    closed b (inl h) = absurd (none_found n b.id h)
    closed b (inr h) = inl h

module _ (g : GraphView) (graph : IsGraph g) (flow : HasFlow g) (kept : KeptInBlocks g) where
  -- the block that is taken next
  one_taken : (fs : List Bool) (ws : List ℕ) (b : ℕ) → Searching g fs (ws ++ b ∷ []) → IsKeptNumber g b
  one_taken fs ws b s = s.sound b (s.queued b (append_right ws (b ∷ []) b (inl refl)))

  under : (fs : List Bool) (ws : List ℕ) (b : ℕ) (s : Searching g fs (ws ++ b ∷ [])) → (block_of g b ≡ Some (one_taken fs ws b s).0) × (is_live_block g b ≡ true)
  under fs ws b s = let r = one_taken fs ws b s in found_here g graph r.0 b r.1 r.2

  one_turn :
      (fs : List Bool) (ws : List ℕ) (b : ℕ) (gs : List Bool) (vs : List ℕ) → Searching g fs (ws ++ b ∷ []) → ((x : Block) → block_of g b ≡ Some x → Grown (LeadsTo g x) fs ws gs vs) →
      Searching g gs vs
  one_turn fs ws b gs vs s each = record {
    rows = λ id h. let x = s.rows id h in let y = grown.size in omega (arith, x, y);
    sound = λ id h. sound id (grown.only id h);
    queued = λ id h. queued id (grown.queued id h);
    roots = λ id h. grown.stays id (s.roots id h);
    closed = λ c hc h. by_fresh c hc (grown.fresh c.id h);
  }
    where
      here : IsKeptNumber g b
      here = one_taken fs ws b s

      x : Block
      x = here.0

      grown : Grown (LeadsTo g x) fs ws gs vs
      grown = each x (under fs ws b s).0

      sound : (id : ℕ) → IsFound fs id ⊎ LeadsTo g x id → IsKeptNumber g id
      sound id (inl h) = s.sound id h
      sound id (inr l) = leads_kept g graph flow kept x id here.1 here.3 l

      queued : (id : ℕ) → Has ws id ⊎ LeadsTo g x id → IsFound gs id
      queued id (inl h) = grown.stays id (s.queued id (append_left ws (b ∷ []) id h))
      queued id (inr l) = grown.reached id l

      by_queue : (c : Block) → Has g.blocks c → Has ws c.id ⊎ Has (b ∷ []) c.id → Has vs c.id ⊎ ((id : ℕ) → LeadsTo g c id → IsFound gs id)
      by_queue c hc (inl h) = inl (grown.kept c.id h)
      by_queue c hc (inr (inl e)) =
          let same : x ≡ c = same_id g.blocks x c graph.block_ids here.1 hc (here.2 ∙ e) in
          inr (λ id l. grown.reached id (subst (λ (y : Block). LeadsTo g y id) (sym same) l))
      by_queue c hc (inr (inr h)) = absurd h

      by_closed : (c : Block) → Has g.blocks c → Has (ws ++ b ∷ []) c.id ⊎ ((id : ℕ) → LeadsTo g c id → IsFound fs id) → Has vs c.id ⊎ ((id : ℕ) → LeadsTo g c id → IsFound gs id)
      by_closed c hc (inl h) = by_queue c hc (has_append ws (b ∷ []) c.id h)
      by_closed c hc (inr f) = inr (λ id l. grown.stays id (f id l))

      by_fresh : (c : Block) → Has g.blocks c → IsFound fs c.id ⊎ Has vs c.id → Has vs c.id ⊎ ((id : ℕ) → LeadsTo g c id → IsFound gs id)
      by_fresh c hc (inl h) = by_closed c hc (s.closed c hc h)
      by_fresh c hc (inr h) = inl h

  module _ (fs : List Bool) (all ws : List ℕ) (b : ℕ) (popped : all ≡ ws ++ b ∷ []) (s : Searching g fs all) where
    before : Searching g fs (ws ++ b ∷ [])
    before = subst (λ (l : List ℕ). Searching g fs l) popped s

    pub taken : is_live_block g b ≡ true
    taken = (under fs ws b before).1

    module _ (gs : List Bool) (vs : List ℕ) (each : (x : Block) → block_of g b ≡ Some x → Grown (LeadsTo g x) fs ws gs vs) where
      pub turn : Searching g gs vs
      turn = one_turn fs ws b gs vs before each

      pub fewer : sum_by unfound gs + length vs < sum_by unfound fs + length all
      fewer =
          let grown = each (one_taken fs ws b before).0 (under fs ws b before).0 in
          let x = grown.fewer in
          let y = ap length popped ∙ length-append ws (b ∷ []) in
          omega (arith, x, y)

  -- with nothing queued each block of the kept set is found
  module _ (fs : List Bool) (s : Searching g fs []) where
    leads : (b : Block) → Has g.blocks b → IsFound fs b.id → (id : ℕ) → LeadsTo g b id → IsFound fs id
    leads b hb h = by_case (s.closed b hb h)
      where
        by_case : ⊥ ⊎ ((id : ℕ) → LeadsTo g b id → IsFound fs id) → (id : ℕ) → LeadsTo g b id → IsFound fs id
        by_case (inl m) = absurd m
        by_case (inr f) = f

    complete : (q : Place) → IsInKeptSet g q → (id : ℕ) → labelled g q ≡ Some id → IsFound fs id
    complete _ (root q h) id e = s.roots id (q, h, e)
    complete _ (fall b q hb k f after) id e =
        leads b hb (complete b.label k b.id (label_is g graph b hb)) id (inl (inr (falls_to g graph b q id hb f after e)))
    complete _ (named b w q hb k h n) id e =
        leads b hb (complete b.label k b.id (label_is g graph b hb)) id (named_leads g b w q id h n e)
    complete _ (behind b w hb k h l) id e =
        leads b hb (complete b.label k b.id (label_is g graph b hb)) id (linked_leads g b w id h l e)

    found_all : AreFound g fs
    found_all = record {
      rows = s.rows;
      each = λ b hb. (λ h. sound b hb (s.sound b.id h), λ k. complete b.label k b.id (label_is g graph b hb));
    }
      where
        sound : (b : Block) → Has g.blocks b → IsKeptNumber g b.id → IsInKeptSet g b.label
        sound b hb (n, hn, e, k) = subst (λ (y : Block). IsInKeptSet g y.label) (same_id g.blocks n b graph.block_ids hn hb e) k

  pub all_found : (fs : List Bool) (ws : List ℕ) → length ws ≡ 0 → Searching g fs ws → AreFound g fs
  all_found fs [] e s = found_all fs s
  all_found fs (w ∷ ws) e s = absurd (omega arith)

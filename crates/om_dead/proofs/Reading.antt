-- What is found while the words of a block are read.
use Rattle.std.proofs.Common.{◌≡◌, ◌⊎◌, inl, inr, ℕ, Bool, List, [], ◌∷◌, ◌++◌, Some, refl, sym, ap, ◌∙◌, subst}
use Rattle.std.specs.Prelude.{map, flat_map}
use Rattle.om_value.specs.declared.value.Place.{Place}
use Rattle.om_graph.specs.declared.op.Op.{Op}
use Rattle.om_graph.specs.declared.op.Last.{Last}
use Rattle.om_graph.specs.View.{Block, GraphView, Has, ops_of, labelled}
use Rattle.om_graph.specs.Run.{op_word, last_words, block_words}
use Rattle.om_graph.proofs.Labels.{has_append, append_left, append_right}
use Rattle.om_blocks.specs.declared.exits.Exit.TheVariants as exit
use Rattle.om_blocks.specs.IsFlow.{HasFlow}
use Rattle.om_blocks.specs.Exits.{last_exit, next_fallen}
use Rattle.om_blocks.specs.Filling.{word_lands, kind_code, link_place, places_of, places_behind}
use Rattle.om_blocks.proofs.Walking.{no_more, map_both}
use Rattle.om_blocks.proofs.OnLands.{flat_both, op_lands, last_lands}
use Rattle.om_dead.specs.Finding.{Grown, IsAtOne, LeadsTo}
use Rattle.om_dead.proofs.Growing.{none_grown, grown_as, both_grown}

-- ---- places

pub at_none : (g : GraphView) (id : ℕ) → IsAtOne g [] id → ⊥
at_none g id (q, h, e) = h

pub at_here : (g : GraphView) (q : Place) (id : ℕ) → labelled g q ≡ Some id → IsAtOne g (q ∷ []) id
at_here g q id e = (q, inl refl, e)

pub here_at : (g : GraphView) (q : Place) (id : ℕ) → IsAtOne g (q ∷ []) id → labelled g q ≡ Some id
here_at g q id (r, inl s, e) = ap (labelled g) s ∙ e
here_at g q id (r, inr h, e) = absurd h

pub at_both : (g : GraphView) (ps qs : List Place) (id : ℕ) → IsAtOne g ps id ⊎ IsAtOne g qs id → IsAtOne g (ps ++ qs) id
at_both g ps qs id (inl (q, h, e)) = (q, append_left ps qs q h, e)
at_both g ps qs id (inr (q, h, e)) = (q, append_right ps qs q h, e)

pub both_at : (g : GraphView) (ps qs : List Place) (id : ℕ) → IsAtOne g (ps ++ qs) id → IsAtOne g ps id ⊎ IsAtOne g qs id
both_at g ps qs id (q, h, e) = by_case (has_append ps qs q h)
  where
    by_case : Has ps q ⊎ Has qs q → IsAtOne g ps id ⊎ IsAtOne g qs id
    by_case (inl k) = inl (q, k, e)
    by_case (inr k) = inr (q, k, e)

-- one place
pub one_at : (g : GraphView) (q : Place) (fs : List Bool) (ws : List ℕ) (gs : List Bool) (vs : List ℕ) → Grown (λ id. labelled g q ≡ Some id) fs ws gs vs → Grown (IsAtOne g (q ∷ [])) fs ws gs vs
one_at g q fs ws gs vs h = grown_as (λ id. labelled g q ≡ Some id) (IsAtOne g (q ∷ [])) fs ws gs vs (at_here g q) (here_at g q) h

-- places, then others
pub more_at :
    (g : GraphView) (ps qs all : List Place) (fs : List Bool) (ws : List ℕ) (gs : List Bool) (vs : List ℕ) (hs : List Bool) (us : List ℕ) → ps ++ qs ≡ all →
    Grown (IsAtOne g ps) fs ws gs vs → Grown (IsAtOne g qs) gs vs hs us → Grown (IsAtOne g all) fs ws hs us
more_at g ps qs all fs ws gs vs hs us e a b =
    subst (λ (l : List Place). Grown (IsAtOne g l) fs ws hs us) e
    (grown_as (λ id. IsAtOne g ps id ⊎ IsAtOne g qs id) (IsAtOne g (ps ++ qs)) fs ws hs us (at_both g ps qs) (both_at g ps qs)
    (both_grown (IsAtOne g ps) (IsAtOne g qs) fs ws gs vs hs us a b))

-- ---- the ops of a block

pub record OpsNamed (g : GraphView) (fs : List Bool) (ws : List ℕ) (b : Block) (ops : List Op) (s : List Bool × List ℕ) : Type 0 where
  pub are : Grown (IsAtOne g (flat_map word_lands (map (op_word (ops_of b)) ops))) fs ws s.0 s.1

pub named_first : (g : GraphView) (fs : List Bool) (ws : List ℕ) (b : Block) → OpsNamed g fs ws b [] (fs, ws)
named_first g fs ws b = record { are = none_grown (IsAtOne g []) fs ws (λ id h. absurd (at_none g id h)) }

pub named_more :
    (g : GraphView) (flow : HasFlow g) (fs : List Bool) (ws : List ℕ) (b : Block) (ops : List Op) (o : Op) (gs : List Bool) (vs : List ℕ) (hs : List Bool) (us : List ℕ) →
    Has g.blocks b → Has (ops_of b) o → Grown (IsAtOne g (places_of (kind_code o.kind))) gs vs hs us → OpsNamed g fs ws b ops (gs, vs) → OpsNamed g fs ws b (ops ++ o ∷ []) (hs, us)
named_more g flow fs ws b ops o gs vs hs us hb ho new old = record {
  are = more_at g (flat_map word_lands (map (op_word (ops_of b)) ops)) (places_of (kind_code o.kind)) _ fs ws gs vs hs us all old.are new;
}
  where
    all : flat_map word_lands (map (op_word (ops_of b)) ops) ++ places_of (kind_code o.kind) ≡ flat_map word_lands (map (op_word (ops_of b)) (ops ++ o ∷ []))
    all =
        ap (λ (l : List Place). flat_map word_lands (map (op_word (ops_of b)) ops) ++ l) (sym (op_lands (ops_of b) o.place o.kind (flow.form.ops b o hb ho)) ∙ sym (no_more (word_lands (op_word (ops_of b) o))))
        ∙ sym (flat_both word_lands (map (op_word (ops_of b)) ops) (map (op_word (ops_of b)) (o ∷ [])))
        ∙ ap (flat_map word_lands) (sym (map_both (op_word (ops_of b)) ops (o ∷ [])))

-- ---- the end of a block

module _ (g : GraphView) (flow : HasFlow g) (b : Block) (hb : Has g.blocks b) (l : Last) (same : b.last ≡ l) where
  end_places : flat_map word_lands (last_words b.last) ≡ places_behind (link_place l)
  end_places = last_lands b.last (flow.form.lasts b hb) ∙ ap (λ (x : Last). places_behind (link_place x)) same

  abbrev Ways : ℕ → Type 0
  Ways id = (IsAtOne g (flat_map word_lands (block_words b)) id ⊎ (last_exit g l ≡ exit.Block id)) ⊎ (next_fallen g b.id l ≡ Some id)

  to_leads : (id : ℕ) → Ways id → LeadsTo g b id
  to_leads id (inl (inl h)) = inr h
  to_leads id (inl (inr e)) = inl (inl (ap (last_exit g) same ∙ e))
  to_leads id (inr e) = inl (inr (ap (next_fallen g b.id) same ∙ e))

  of_leads : (id : ℕ) → LeadsTo g b id → Ways id
  of_leads id (inr h) = inl (inl h)
  of_leads id (inl (inl e)) = inl (inr (ap (last_exit g) (sym same) ∙ e))
  of_leads id (inl (inr e)) = inr (ap (next_fallen g b.id) (sym same) ∙ e)

  -- all to which it leads
  pub all_led :
      (fs : List Bool) (ws : List ℕ) (f1 : List Bool) (w1 : List ℕ) (f2 : List Bool) (w2 : List ℕ) (f3 : List Bool) (w3 : List ℕ) (f4 : List Bool) (w4 : List ℕ) →
      OpsNamed g fs ws b (ops_of b) (f1, w1) → Grown (IsAtOne g (places_behind (link_place l))) f1 w1 f2 w2 → Grown (λ id. last_exit g l ≡ exit.Block id) f2 w2 f3 w3 →
      Grown (λ id. next_fallen g b.id l ≡ Some id) f3 w3 f4 w4 → Grown (LeadsTo g b) fs ws f4 w4
  all_led fs ws f1 w1 f2 w2 f3 w3 f4 w4 ops link ended falls =
      grown_as Ways (LeadsTo g b) fs ws f4 w4 to_leads of_leads
      (both_grown (λ id. IsAtOne g (flat_map word_lands (block_words b)) id ⊎ (last_exit g l ≡ exit.Block id)) (λ id. next_fallen g b.id l ≡ Some id) fs ws f3 w3 f4 w4
      (both_grown (IsAtOne g (flat_map word_lands (block_words b))) (λ id. last_exit g l ≡ exit.Block id) fs ws f2 w2 f3 w3
      (more_at g (flat_map word_lands (map (op_word (ops_of b)) (ops_of b))) (places_behind (link_place l)) (flat_map word_lands (block_words b)) fs ws f1 w1 f2 w2 all ops.are link) ended) falls)
    where
      all : flat_map word_lands (map (op_word (ops_of b)) (ops_of b)) ++ places_behind (link_place l) ≡ flat_map word_lands (block_words b)
      all =
          ap (λ (x : List Place). flat_map word_lands (map (op_word (ops_of b)) (ops_of b)) ++ x) (sym end_places)
          ∙ sym (flat_both word_lands (map (op_word (ops_of b)) (ops_of b)) (last_words b.last))

-- Facts after a call was made to go past a closed opening pair whose table is the fact in front of the call.
use Rattle.std.proofs.Common.{◌≡◌, ◌⊎◌, inl, inr, ℕ, true, ◌==◌, List, [], ◌∷◌, refl, sym, ap, ◌∙◌, subst}
use Rattle.std.proofs.lemmas.Bool.{eqb-true}
use Rattle.om_isa.specs.declared.instr.BrOp.TheVariants.{Bsr}
use Rattle.om_value.specs.declared.value.Place.{Place}
use Rattle.om_prog.specs.Act.{Act, To}
use Rattle.om_prog.specs.View.{ProgramView}
use Rattle.om_prog.specs.Facts.{Fact, Any, Table}
use Rattle.om_prog.specs.Flow.{act_jumps}
use Rattle.om_graph.specs.declared.op.Last.{Last}
use Rattle.om_graph.specs.View.{Block, GraphView, Has, last_set}
use Rattle.om_graph.specs.Held.{IsGraph, Apart, block_ids}
use Rattle.om_graph.specs.Run.{last_words, graph_script, table_of}
use Rattle.om_graph.specs.Form.{InForm, InPlace}
use Rattle.om_graph.specs.Kept.{IsKeptLanding}
use Rattle.om_graph.specs.Checks.{GpChecked, end_fact}
use Rattle.om_checks.specs.Steps.{GoesPast, IsEntry}
use Rattle.om_checks.proofs.Edges.{jump_word, one_last, last_has}
use Rattle.om_checks.proofs.Ends.{gp_past}
use Rattle.om_checks.proofs.Closed.{IsPairBlock, pair_block, call_leaves}

one_block : (bs : List Block) (b x : Block) → Apart (block_ids bs) → Has bs b → Has bs x → x.id ≡ b.id → x ≡ b
one_block [] b x a h k e = absurd h
one_block (y ∷ bs) b x a (inl h) (inl k) e = sym k ∙ h
one_block (y ∷ bs) b x a (inl h) (inr k) e = absurd (a.0 (subst (λ (i : ℕ). Has (block_ids bs) i) (e ∙ sym (ap (λ (z : Block). z.id) h)) (id_there bs x k)))
  where
    id_there : (bs : List Block) (x : Block) → Has bs x → Has (block_ids bs) x.id
    id_there [] x h = h
    id_there (z ∷ bs) x (inl e) = inl (ap (λ (y : Block). y.id) e)
    id_there (z ∷ bs) x (inr h) = inr (id_there bs x h)
one_block (y ∷ bs) b x a (inr h) (inl k) e = absurd (a.0 (subst (λ (i : ℕ). Has (block_ids bs) i) (sym e ∙ sym (ap (λ (z : Block). z.id) k)) (id_there bs b h)))
  where
    id_there : (bs : List Block) (x : Block) → Has bs x → Has (block_ids bs) x.id
    id_there [] x h = h
    id_there (z ∷ bs) x (inl e) = inl (ap (λ (y : Block). y.id) e)
    id_there (z ∷ bs) x (inr h) = inr (id_there bs x h)
one_block (y ∷ bs) b x a (inr h) (inr k) e = one_block bs b x a.1 h k e

pub gp_entered :
    (p : ProgramView) (g : GraphView) (facts : Place → Fact) (b e : Block) (end : Last) → IsGraph g → InForm g → InPlace g → InForm (last_set g b.id end) → IsEntry p g facts b e end →
    GpChecked (graph_script p g) facts g → GpChecked (graph_script p (last_set g b.id end)) facts (last_set g b.id end)
gp_entered p g facts b e end graph form places form2 k checked = gp_past g b.id end form2 e past k.stays p facts fact checked
  where
    pair : IsPairBlock g e
    pair = pair_block g graph form places e k.has k.closed k.behind

    was : last_words b.last ≡ record { at = k.call.at; act = To Bsr k.ra e.label } ∷ []
    was =
        let m = jump_word (IsKeptLanding g) g form b k.call e.label k.among (last_has b k.call (k.bf, k.split)) (subst (λ (a : Act). act_jumps (IsKeptLanding g) a e.label) (sym k.act) refl) in
        one_last b.last k.call m ∙ ap (λ (a : Act). record { at = k.call.at; act = a } ∷ []) k.act

    past_b : GoesPast g b e end
    past_b = record {
      at = k.call.at;
      ra = k.ra;
      among = k.has;
      was = was;
      is = k.is;
      stays = k.stays;
      high = pair.high;
      low = pair.low;
      rc = pair.rc;
      rd = 29;
      base = pair.base;
      first = e.label;
      words = pair.words;
      is_high = pair.is_high;
      is_low = pair.is_low;
      next = pair.next;
    }

    same : (x : Block) → Has g.blocks x → (x.id == b.id) ≡ true → b ≡ x
    same x hx t = sym (one_block g.blocks b x graph.block_ids k.among hx (eqb-true x.id b.id t))

    past : (x : Block) → Has g.blocks x → (x.id == b.id) ≡ true → GoesPast g x e end
    past x hx t = record {
      at = k.call.at;
      ra = k.ra;
      among = k.has;
      was = ap (λ (y : Block). last_words y.last) (sym (same x hx t)) ∙ was;
      is = k.is;
      stays = k.stays;
      high = pair.high;
      low = pair.low;
      rc = pair.rc;
      rd = 29;
      base = pair.base;
      first = e.label;
      words = pair.words;
      is_high = pair.is_high;
      is_low = pair.is_low;
      next = pair.next;
    }

    fact : (x : Block) (hx : Has g.blocks x) (t : (x.id == b.id) ≡ true) → (end_fact (graph_script p g) facts x ≡ Any) ⊎ (end_fact (graph_script p g) facts x ≡ Table ((graph_script p g).table (past x hx t).low.at.obj))
    fact x hx t =
        subst (λ (y : Block). (end_fact (graph_script p g) facts y ≡ Any) ⊎ (end_fact (graph_script p g) facts y ≡ Table (table_of g pair.low.at.obj))) (same x hx t)
        (subst (λ (q : Place). (end_fact (graph_script p g) facts b ≡ Any) ⊎ (end_fact (graph_script p g) facts b ≡ Table (table_of g q.obj))) (sym pair.low_at)
        (call_leaves (graph_script p g) facts b k.bf k.call k.ra (table_of g e.label.obj) e.label k.split k.act k.link k.fact))

-- The values known at a place of a graph, by the loads before it in its block.
use Rattle.std.proofs.Common.{◌≡◌, inl, inr, ℕ, List, [], ◌∷◌, Option, Some, None, refl, sym, ap, ◌∙◌}
use Rattle.om_value.specs.declared.value.Place.{Place}
use Rattle.om_value.specs.declared.value.Value.{Value}
use Rattle.om_prog.specs.Act.{Word, Script}
use Rattle.om_prog.specs.Flow.{GoesTo}
use Rattle.om_prog.specs.Values.{Values, no_values, loaded, ValueFlows}
use Rattle.om_graph.specs.declared.op.Last.{Last}
use Rattle.om_graph.specs.declared.op.Last.TheVariants.{Fall, Off, Br, Cond, Call, CallBy, JumpBy}
use Rattle.om_graph.specs.View.{Block}
use Rattle.om_graph.specs.Run.{next_word, all_words}
use Rattle.om_graph.proofs.Placed.{Placed, JumpsLast, IsLabel, Lands}
use Rattle.om_graph.proofs.Blocks.{InBlocks, value_at, EdgeTo, FallEdge, Edges, Laws, come, land, none_at, flows_at}

module _ (c : Script) where
  -- the values behind words, the last one first
  abbrev pub behind : List Word → Values
  behind [] = no_values
  behind (w ∷ bf) = loaded c w.at w.act (behind bf)

  abbrev pub values_in : Block → List Word → List Word → Values
  values_in b bf ws = behind bf

  abbrev pub known_at : List Block → Place → Values
  known_at bs p = value_at Values values_in no_values bs p

  abbrev enter : Block → Values
  enter b = no_values

  abbrev Flow : Word → Values → Values → Type 0
  Flow w x y = (r : ℕ) (v : Value) → y r ≡ Some v → loaded c w.at w.act x r ≡ Some v

  abbrev Le : Values → Values → Type 0
  Le x y = (r : ℕ) (v : Value) → y r ≡ Some v → x r ≡ Some v

  nothing : {x : Option Value} (v : Value) → None ≡ Some v → x ≡ Some v
  nothing v e = cc

  laws : Laws Values values_in no_values enter Flow Le
  laws = record {
    inner = λ b bf w x ws r v e. e;
    le_done = λ x r v e. nothing v e;
    flow_done = λ w x r v e. nothing v e;
    le_trans = λ x y z a b r v e. a r v (b r v e);
    flow_le = λ w x y z a b r v e. a r v (b r v e);
  }

  edge : (b n : Block) → EdgeTo Values values_in no_values enter Flow Le b n
  edge b n = record { ends = λ bf w s r v e. nothing v e; empty = λ s r v e. e }

  fall_edge : (last : Last) (b : Block) (bs : List Block) → FallEdge Values values_in no_values enter Flow Le last b bs
  fall_edge Fall b (n ∷ bs) = λ o. edge b n
  fall_edge (Cond at i to) b (n ∷ bs) = λ o. edge b n
  fall_edge Fall b [] = tt
  fall_edge (Cond at i to) b [] = tt
  fall_edge Off b bs = tt
  fall_edge (Br at op ra to) b bs = tt
  fall_edge (Call at op ra to) b bs = tt
  fall_edge (CallBy at i) b bs = tt
  fall_edge (JumpBy at i) b bs = tt

  edges : (bs : List Block) → Edges Values values_in no_values enter Flow Le bs
  edges [] = tt
  edges (b ∷ bs) = (λ w ws s r v e. e, fall_edge b.last b bs, edges bs)

  module _ (K P : Place → Type 0) (bs : List Block) (placed : Placed bs) (last : JumpsLast K bs) (lands : Lands K P bs) where
    values_flow : (p : Place) (w : Word) (q : Place) (r : ℕ) (v : Value) → InBlocks P bs p → next_word (all_words bs) p ≡ Some w → GoesTo K w q → known_at bs q r ≡ Some v → loaded c w.at w.act (known_at bs p) r ≡ Some v
    values_flow p w q r v k e g is =
        flows_at Values values_in no_values enter Flow Le laws K bs placed (edges bs) last P
        (λ b bf w q hb k s j. come Values values_in no_values enter Flow Le laws bs w (behind bf) q placed (edges bs) (lands b bf w q hb k s j) (λ n hn e r v i. nothing v i))
        p w q k e g r v is

    -- nothing is known at a label
    none_known : (q : Place) (r : ℕ) → IsLabel bs q → known_at bs q r ≡ None
    none_known q r (inr e) = ap (λ (k : Values). k r) (none_at Values values_in no_values enter Flow Le laws bs q e)
    none_known q r (inl n) = by_value _ refl
      where
        at_label : (v : Value) → known_at bs q r ≡ Some v → None ≡ Some v
        at_label v e = land Values values_in no_values enter Flow Le laws bs n.0 placed (edges bs) n.1 r v (ap (λ (x : Place). known_at bs x r) n.2 ∙ e)

        by_value : (o : Option Value) → known_at bs q r ≡ o → known_at bs q r ≡ None
        by_value None e = e
        by_value (Some v) e = let i = at_label v e in cc

    pub values_flows : (fetch : (p : Place) → c.fetch p ≡ next_word (all_words bs) p) → IsLabel bs c.entry → ValueFlows c K (InBlocks P bs) (known_at bs)
    values_flows fetch entry = record {
      entry = λ r. none_known c.entry r entry;
      goes = λ p w q r v k e g is. values_flow p w q r v k (sym (fetch p) ∙ e) g is;
    }

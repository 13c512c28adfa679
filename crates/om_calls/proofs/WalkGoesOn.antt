-- The walk over the ops of a block goes on, past an op or with a pair dropped.
use Rattle.std.proofs.Common.{◌≡◌, inl, inr, ℕ, suc, ◌<◌, Bool, true, false, List, [], ◌∷◌, ◌++◌, map, length, get_or, Option, Some, None, IfSome, IsTrue, refl, sym, ap, ◌∙◌, subst, arith}
use Rattle.std.specs.Prelude.{option_map, option_and_then}
use Rattle.std.proofs.lemmas.Bool.{true≢false}
use Rattle.om_value.specs.declared.value.Place.{Place}
use Rattle.om_prog.specs.Act.{Word, Script, act_writes}
use Rattle.om_prog.specs.View.{ProgramView}
use Rattle.om_prog.specs.Flow.{Among}
use Rattle.om_prog.specs.Facts as prog
use Rattle.om_prog.specs.Facts.{has, changed, changed_by, fact_behind, IsFact}
use Rattle.om_flow.specs.declared.parts.Fact.{Fact}
use Rattle.om_flow.specs.declared.parts.Fact.TheVariants.{Unknown}
use Rattle.om_graph.specs.declared.op.Op.{Op}
use Rattle.om_graph.specs.declared.op.OpKind.TheVariants as op
use Rattle.om_graph.specs.View.{Node, Block, GraphView, Has, ops_of, block_of, op_of, next_op_of, first_op_of, first_id, is_live_block, label_of, delete_in, deleted, is_live_op}
use Rattle.om_graph.specs.Held.{IsGraph}
use Rattle.om_graph.specs.Run.{rev_onto, table_of, graph_script}
use Rattle.om_graph.specs.Checks.{GpChecked}
use Rattle.om_graph.specs.Uses.{NoneWrites}
use Rattle.om_graph.proofs.Masks.{has_among}
use Rattle.om_blocks.specs.IsFlow.{HasFlow}
use Rattle.om_blocks.specs.Found.{seen, facts_in}
use Rattle.om_blocks.proofs.Walking.{assoc, has_mid, found_block, some_is, a_some}
use Rattle.om_blocks.proofs.OnFilling.{found_id}
use Rattle.om_blocks.proofs.OfFlow.{known_fact}
use Rattle.om_blocks.proofs.OnEffects.{table_is, label_within}
use Rattle.om_blocks.proofs.OfPrograms.{graphs_have_flows}
use Rattle.om_checks.specs.Steps.{node_words}
use Rattle.om_checks.proofs.Edits.{words_same}
use Rattle.om_passes.specs.Passed.{IsOfAProgram}
use Rattle.om_calls.specs.declared.pairs.High.{High}
use Rattle.om_calls.specs.declared.pairs.Walk.{Walk}
use Rattle.om_calls.specs.Pairs.{low_half, Waits, FoundBehind, NoneSetsSame, DropsPair, WalksPast, Closes, IsInText, IsHigh, OnPairs, ops_left, IsPairStep}
use Rattle.om_calls.proofs.WalkedOps.{low_is, node_words_both, object_at, in_text, walked_past, none_more, walked_first, none_first}
use Rattle.om_calls.proofs.NodesAt.{left_count, op_at, after_at, live_first}
use Rattle.om_calls.proofs.PairGone.{block_deleted, ops_less, targets_same}

-- ---- words that do not write r29

rev_both : (xs ys acc : List Word) → rev_onto (xs ++ ys) acc ≡ rev_onto ys (rev_onto xs acc)
rev_both [] ys acc = refl
rev_both (x ∷ xs) ys acc = rev_both xs ys (x ∷ acc)

not_written : (ws : List ℕ) → (Among ws 29 → ⊥) → has ws 29 ≡ false
not_written ws n = by_case (has ws 29) refl
  where
    by_case : (t : Bool) → has ws 29 ≡ t → has ws 29 ≡ false
    by_case true e = absurd (n (has_among ws 29 e))
    by_case false e = e

behind_one : (c : Script) (f : prog.Fact) (w : Word) (bf : List Word) → (Among (act_writes w.act) 29 → ⊥) → fact_behind c f (w ∷ bf) ≡ fact_behind c f bf
behind_one c f w bf n = by_fact f
  where
    none : has (act_writes w.act) 29 ≡ false
    none = not_written (act_writes w.act) n

    kept : (x : prog.Fact) → changed c w x ≡ x
    kept prog.Any = refl
    kept (prog.Table t) = rw none refl
    kept prog.Unknown = rw none refl

    by_fact : (f : prog.Fact) → fact_behind c f (w ∷ bf) ≡ fact_behind c f bf
    by_fact prog.Any = rw none refl
    by_fact (prog.Table t) = kept (changed_by c (prog.Table t) bf)
    by_fact prog.Unknown = kept (changed_by c prog.Unknown bf)

behind_unwritten : (c : Script) (f : prog.Fact) (ms bf : List Word) → NoneWrites 29 ms → fact_behind c f (rev_onto ms bf) ≡ fact_behind c f bf
behind_unwritten c f [] bf n = refl
behind_unwritten c f (m ∷ ms) bf n = behind_unwritten c f ms (m ∷ bf) (λ w h. n w (inr h)) ∙ behind_one c f m bf (n m (inl refl))

-- ---- the op that is next

pub record NextAt (g : GraphView) (facts : List Fact) (w : Walk) (o : ℕ) (on : OnPairs g facts w (Some o)) : Type 0 where
  pub node : Node
  pub rest : List Node
  pub left : on.left ≡ node ∷ rest
  pub id_is : node.id ≡ o
  pub split : on.block.ops ≡ on.done ++ node ∷ rest

pub next_at : (g : GraphView) (facts : List Fact) (w : Walk) (o : ℕ) (on : OnPairs g facts w (Some o)) → NextAt g facts w o on
next_at g facts w o on = by_left on.left refl on.at
  where
    by_left : (left : List Node) → on.left ≡ left → Some o ≡ first_id left → NextAt g facts w o on
    by_left [] e f = cc
    by_left (n ∷ rest) e f = record { node = n; rest = rest; left = e; id_is = sym (some_is o n.id f); split = on.all ∙ ap (λ (l : List Node). on.done ++ l) e }

module _ (g : GraphView) (graph : IsGraph g) (facts : List Fact) (w : Walk) (o : ℕ) (on : OnPairs g facts w (Some o)) where
  pub flow : HasFlow g
  flow = graphs_have_flows.flow on.program.program g on.program.valid on.program.may_go_on.graph

  pub hb : Has g.blocks on.block
  hb = found_block g.blocks w.block on.block on.is

  pub it : NextAt g facts w o on
  it = next_at g facts w o on

  node_there : Has on.block.ops it.node
  node_there = subst (λ (l : List Node). Has l it.node) (sym it.split) (has_mid on.done it.node it.rest)

  done_there : (n : Node) → Has on.done n → Has on.block.ops n
  done_there n h = subst (λ (l : List Node). Has l n) (sym on.all) (left_of on.done h)
    where
      left_of : (xs : List Node) → Has xs n → Has (xs ++ on.left) n
      left_of [] h = absurd h
      left_of (x ∷ xs) (inl e) = inl e
      left_of (x ∷ xs) (inr h) = inr (left_of xs h)

  pub op_is : (x : Op) → op_of g o ≡ Some x → it.node.op ≡ x
  op_is x e = some_is it.node.op x (sym (subst (λ (i : ℕ). op_of g i ≡ Some it.node.op) it.id_is (op_at g graph on.block hb on.done it.node it.rest it.split)) ∙ e)

  pub after_is : next_op_of g o ≡ first_id it.rest
  after_is = subst (λ (i : ℕ). next_op_of g i ≡ first_id it.rest) it.id_is (after_at g graph on.block hb on.done it.node it.rest it.split)

  pub before_count : ops_left g w.block (Some o) ≡ suc (length it.rest)
  before_count =
      ap (λ (i : ℕ). ops_left g w.block (Some i)) (sym it.id_is) ∙ left_count g graph w.block on.block on.done (it.node ∷ it.rest) on.is it.split

  module _ (x : Op) (read : op_of g o ≡ Some x) where
    pub op_in_text : IsInText g x.place
    op_in_text = subst (λ (y : Op). IsInText g y.place) (op_is x read) (in_text g graph flow on.block hb it.node node_there)

    pub high_in_text : (h : High) → w.high ≡ Some h → IsInText g h.place
    high_in_text h e =
        let k = on.walked.high h e in
        let there : Has on.done k.2 = subst (λ (l : List Node). Has l k.2) (sym k.3.split) (has_mid k.0 k.2 k.1) in
        subst (λ (q : Place). IsInText g q) k.4.place (in_text g graph flow on.block hb k.2 (done_there k.2 there))

    -- ---- the op stays

    module _ (v : Walk) (past : WalksPast w o x v) where
      past_node : WalksPast w it.node.id it.node.op v
      past_node =
          subst (λ (i : ℕ). WalksPast w i it.node.op v) (sym it.id_is) (subst (λ (y : Op). WalksPast w o y v) (sym (op_is x read)) past)

      split_past : on.block.ops ≡ (on.done ++ it.node ∷ []) ++ it.rest
      split_past = it.split ∙ sym (assoc on.done (it.node ∷ []) it.rest)

      pub stays_on : ((h : High) → Closes g w x h → ⊥) → OnPairs g facts v (next_op_of g o)
      stays_on none = record {
        program = on.program;
        checked = on.checked;
        block = on.block;
        is = ap (block_of g) past.block ∙ on.is;
        start = past.start ∙ on.start ∙ ap (λ (i : ℕ). get_or facts i Unknown) (sym past.block);
        done = on.done ++ it.node ∷ [];
        left = it.rest;
        all = split_past;
        at = after_is;
        live = subst (λ (n : Option ℕ). IfSome n (λ i. IsTrue (is_live_op g i))) (sym after_is) (live_first g graph on.block hb (on.done ++ it.node ∷ []) it.rest split_past);
        walked = walked_past g graph flow on.block hb on.done it.node node_there w on.walked v past_node;
        none = λ same.
            let s : w.changed ≡ false = sym past.changed ∙ same in
            subst (λ (f : Fact). NoneSetsSame g on.block f (on.done ++ it.node ∷ [])) (sym past.start)
            (none_more g graph flow on.block hb on.done it.node node_there w on.walked done_there s (λ h k. none h (subst (λ (y : Op). Closes g w y h) (op_is x read) k)) (on.none s));
      }

      pub stays_fewer : ops_left g w.block (next_op_of g o) < ops_left g w.block (Some o)
      stays_fewer =
          let a = before_count in
          let c = ap (ops_left g w.block) after_is ∙ left_count g graph w.block on.block (on.done ++ it.node ∷ []) it.rest on.is split_past in
          omega (arith, a, c)

    -- ---- it closes a pair

    module _ (h : High) (closes : Closes g w x h) where
      abbrev known : (before mid : List Node) × (n : Node) × Waits on.block on.done before n mid × IsHigh g on.block w.start before n h
      known = on.walked.high h closes.waits

      abbrev before : List Node
      before = known.0

      abbrev mid : List Node
      mid = known.1

      abbrev high : Node
      high = known.2

      pair_split : on.block.ops ≡ (before ++ high ∷ mid) ++ it.node ∷ it.rest
      pair_split = it.split ∙ ap (λ (l : List Node). l ++ it.node ∷ it.rest) known.3.split

      high_there : Has on.block.ops high
      high_there = done_there high (subst (λ (l : List Node). Has l high) (sym known.3.split) (has_mid before high mid))

      -- ops that have the pair
      pub drops : DropsPair g facts h.op o
      drops = record {
        block = on.block;
        among = hb;
        before = known.0;
        high_node = known.2;
        mid = known.1;
        low_node = it.node;
        rest = it.rest;
        high_is = known.4.id;
        low_is = it.id_is;
        pair = record {
          waits = record { split = refl; rb = known.3.rb; base = known.3.base; is_high = known.3.is_high; unread = known.3.unread; unwritten = known.3.unwritten };
          split = pair_split;
          is_low = low_is it.node.op.kind high.op.place (ap (λ (y : Op). low_half y.kind) (op_is x read) ∙ closes.low ∙ ap (λ (q : Place). Some q) (sym known.4.place));
          high_stays = λ e. closes.high_stays (subst (λ (q : Place). Rattle.om_graph.specs.Uses.IsTextsLast g q) known.4.place e);
          low_stays = λ e. closes.low_stays (subst (λ (y : Op). Rattle.om_graph.specs.Uses.IsTextsLast g y.place) (op_is x read) e);
        };
        fact = λ p.
            let start : facts_in g facts on.block.label ≡ seen w.start =
            known_fact g graph facts on.block hb ∙ ap seen (ap (λ (i : ℕ). get_or facts i Unknown) (found_id g.blocks w.block on.block on.is) ∙ sym on.start) in
            let same : fact_behind (graph_script p g) (facts_in g facts on.block.label) (rev_onto (node_words (ops_of on.block) known.0) []) ≡ seen h.before =
            ap (λ (f : prog.Fact). fact_behind (graph_script p g) f (rev_onto (node_words (ops_of on.block) known.0) [])) start ∙ known.4.fact.is (graph_script p g) (λ i. refl) in
            let table : w.table ≡ table_of g high.op.place.obj = on.walked.table ∙ ap (table_of g) (sym (object_at g graph flow on.block hb high high_there)) in
            subst (λ (f : prog.Fact). IsFact f (table_of g high.op.place.obj)) (sym same) (subst (λ (t : ℕ). IsFact (seen h.before) t) table closes.fact);
      }

      abbrev new : GraphView
      new = deleted (deleted g o) h.op

      -- the block without the pair
      abbrev z : Block
      z = delete_in h.op (delete_in o on.block)

      ops_are : z.ops ≡ (before ++ mid) ++ it.rest
      unfolding drops
      ops_are = ops_less g graph facts h.op o drops

      words_stay : node_words (ops_of z) (before ++ mid) ≡ node_words (ops_of on.block) (before ++ mid)
      unfolding drops
      words_stay =
          words_same (ops_of on.block) (ops_of z) (map (λ (n : Node). n.op) (before ++ mid))
          (λ y i q m k. targets_same g graph facts h.op o drops q)

      found : FoundBehind new z w.start (before ++ mid) h.before
      found = record {
        is = λ c tables.
            ap (λ (l : List Word). fact_behind c (seen w.start) (rev_onto l [])) (words_stay ∙ node_words_both (ops_of on.block) before mid)
            ∙ ap (fact_behind c (seen w.start)) (rev_both (node_words (ops_of on.block) before) (node_words (ops_of on.block) mid) [])
            ∙ behind_unwritten c (seen w.start) (node_words (ops_of on.block) mid) (rev_onto (node_words (ops_of on.block) before) []) known.3.unwritten
            ∙ known.4.fact.is c tables;
      }

      module _ (v : Walk) (block : v.block ≡ w.block) (start : v.start ≡ w.start) (table : v.table ≡ w.table) (fact : v.fact ≡ h.before) (high_none : v.high ≡ None) (changed : v.changed ≡ true)
          (checked : (p : ProgramView) → GpChecked (graph_script p new) (facts_in new facts) new) (step : IsPairStep g new) where
        program : IsOfAProgram new
        program =
            let s = (step.step.step on.program.program on.program.valid on.program.may_go_on).rewrite.goes_on in
            record { program = on.program.program; valid = on.program.valid; may_go_on = record { graph = s.graph; kept = s.kept; reach = s.reach } }

        new_graph : IsGraph new
        new_graph = program.may_go_on.graph.graph

        z_is : block_of new w.block ≡ Some z
        z_is = block_deleted w.block h.op (deleted g o).blocks (delete_in o on.block) (block_deleted w.block o g.blocks on.block on.is)

        hz : Has new.blocks z
        hz = found_block new.blocks w.block z z_is

        pub drops_on : OnPairs new facts v (next_op_of g o)
        drops_on = record {
          program = program;
          checked = checked;
          block = z;
          is = ap (block_of new) block ∙ z_is;
          start = start ∙ on.start ∙ ap (λ (i : ℕ). get_or facts i Unknown) (sym block);
          done = before ++ mid;
          left = it.rest;
          all = ops_are;
          at = after_is;
          live = subst (λ (n : Option ℕ). IfSome n (λ i. IsTrue (is_live_op new i))) (sym after_is) (live_first new new_graph z hz (before ++ mid) it.rest ops_are);
          walked = record {
            table = table ∙ on.walked.table;
            fact = subst (λ (s : Fact). FoundBehind new z s (before ++ mid) v.fact) (sym start) (subst (λ (f : Fact). FoundBehind new z w.start (before ++ mid) f) (sym fact) found);
            high = λ y s. let n : None ≡ Some y = sym high_none ∙ s in cc;
            only = λ same b m n y. absurd (true≢false (sym changed ∙ same));
          };
          none = λ same. absurd (true≢false (sym changed ∙ same));
        }

        pub drops_fewer : ops_left new w.block (next_op_of g o) < ops_left g w.block (Some o)
        drops_fewer =
            let a = before_count in
            let c = ap (ops_left new w.block) after_is ∙ left_count new new_graph w.block z (before ++ mid) it.rest z_is ops_are in
            omega (arith, a, c)

      pub all_drops :
          (v : Walk) → v.block ≡ w.block → v.start ≡ w.start → v.table ≡ w.table → v.fact ≡ h.before → v.high ≡ None → v.changed ≡ true → (n : GraphView) → n ≡ deleted (deleted g o) h.op →
          ((p : ProgramView) → GpChecked (graph_script p n) (facts_in n facts) n) → IsPairStep g n →
          OnPairs n facts v (next_op_of g o) × (ops_left n w.block (next_op_of g o) < ops_left g w.block (Some o))
      all_drops v block start table fact high_none changed n is checked step =
          let all = λ (p : ProgramView). subst (λ (x : GraphView). GpChecked (graph_script p x) (facts_in x facts) x) is (checked p) in
          let one = subst (λ (x : GraphView). IsPairStep g x) is step in
          subst (λ (m : GraphView). OnPairs m facts v (next_op_of g o) × (ops_left m w.block (next_op_of g o) < ops_left g w.block (Some o))) (sym is)
          (drops_on v block start table fact high_none changed all one, drops_fewer v block start table fact high_none changed all one)

-- ---- the start of a block

pub on_first :
    (g : GraphView) (graph : IsGraph g) (facts : List Fact) (of : IsOfAProgram g) → ((p : ProgramView) → GpChecked (graph_script p g) (facts_in g facts) g) → (b : ℕ) → is_live_block g b ≡ true →
    (at : Place) → label_of g b ≡ Some at → (w : Walk) → w.block ≡ b → w.start ≡ get_or facts b Unknown → w.table ≡ get_or g.tables at.obj 0 → w.fact ≡ w.start → w.high ≡ None →
    OnPairs g facts w (first_op_of g b)
on_first g graph facts of checked b live at label w block start table fact high =
    let x = a_some (block_of g b) live in
    let flow = graphs_have_flows.flow of.program g of.valid of.may_go_on.graph in
    let hx = found_block g.blocks b x.0 x.1 in
    let first : first_op_of g b ≡ first_id x.0.ops = ap (option_and_then (λ (y : Block). first_id y.ops)) x.1 in
    let named : Some x.0.label ≡ Some at = sym (ap (option_map (λ (y : Block). y.label)) x.1) ∙ label in
    record {
      program = of;
      checked = checked;
      block = x.0;
      is = ap (block_of g) block ∙ x.1;
      start = start ∙ ap (λ (i : ℕ). get_or facts i Unknown) (sym block);
      done = [];
      left = x.0.ops;
      all = refl;
      at = first;
      live = subst (λ (n : Option ℕ). IfSome n (λ i. IsTrue (is_live_op g i))) (sym first) (live_first g graph x.0 hx [] x.0.ops refl);
      walked = walked_first g graph flow x.0 hx w (table_is g graph x.0 at w.table named (label_within g graph flow b at label) table) fact high;
      none = λ same. none_first g graph flow x.0 hx w.start;
    }

-- A call of a place that the end of its block takes from a load is a known call, and each known call is such.
use Rattle.std.proofs.Common.{◌≡◌, ◌⊎◌, inl, inr, ◌<◌, ℕ, true, false, List, [], ◌∷◌, ◌++◌, length, Option, Some, None, refl, sym, ap, ◌∙◌, subst}
use Rattle.std.specs.Prelude.{map, option_map}
use Rattle.std.proofs.lemmas.Bool.{true≢false}
use Rattle.om_isa.specs.declared.instr.BrOp.TheVariants.{Bsr}
use Rattle.om_isa.specs.declared.instr.JumpOp.TheVariants.{Jsr}
use Rattle.om_isa.specs.declared.instr.Instr.{Instr}
use Rattle.om_isa.specs.declared.instr.Instr.TheVariants.{Jump}
use Rattle.om_value.specs.declared.value.Place.{Place}
use Rattle.om_value.specs.declared.value.Target.{Target}
use Rattle.om_value.specs.declared.value.Target.TheVariants as target
use Rattle.om_prog.specs.Act as act
use Rattle.om_prog.specs.Act.{Plain, To, Word, act_reads}
use Rattle.om_prog.specs.Flow.{Among}
use Rattle.om_prog.specs.View.{ProgramView}
use Rattle.om_prog.specs.Valid.{IsProgram}
use Rattle.om_graph.specs.declared.op.Op.{Op}
use Rattle.om_graph.specs.declared.op.OpKind.{OpKind}
use Rattle.om_graph.specs.declared.op.OpKind.TheVariants as op
use Rattle.om_graph.specs.declared.op.Last.{Last}
use Rattle.om_graph.specs.declared.op.Last.TheVariants as last
use Rattle.om_graph.specs.View.{Node, Block, GraphView, Has, ops_of, last_of, last_set}
use Rattle.om_graph.specs.Held.{IsGraph}
use Rattle.om_graph.specs.Run.{block_words, last_words, op_word, op_act, use_of, target_at}
use Rattle.om_graph.specs.Form.{LastForm}
use Rattle.om_graph.specs.Index.{InReach}
use Rattle.om_graph.specs.Uses.{IsLocalUse, IsKnownCall}
use Rattle.om_graph.proofs.Labels.{has_append, append_left, append_right, has_label}
use Rattle.om_graph.proofs.Places.{of_op}
use Rattle.om_graph.proofs.OfProgram.{of_map, to_map, words_in_place}
use Rattle.om_blocks.specs.Effects.{kind_writes}
use Rattle.om_blocks.specs.IsFlow.{HasFlow}
use Rattle.om_blocks.proofs.OfPrograms.{graphs_have_flows}
use Rattle.om_blocks.proofs.Walking.{found_block}
use Rattle.om_uses.specs.Parts.{Kept}
use Rattle.om_uses.specs.Readers.{IsResult}
use Rattle.om_uses.specs.LocalUses.{word_of, IsUsedLast}
use Rattle.om_uses.proofs.LocalUses.{last_is_use, use_is_last}
use Rattle.om_passes.specs.OneEdit.{MayGoOn}
use Rattle.om_passes.specs.Step.{Step}
use Rattle.om_passes.specs.Passed.{IsStep, IsOfAProgram}
use Rattle.om_passes.proofs.CallStep.{direct_call, direct_jump}
use Rattle.om_passes.proofs.Edits.{first_in}
use Rattle.om_passes.proofs.FitsStay.{end_fits}
use Rattle.om_passes.proofs.Leading.{loaded_object}
use Rattle.om_calls.specs.declared.ends.RegisterCall.{RegisterCall}
use Rattle.om_calls.specs.Ends.{jsr_of, end_with}
use Rattle.om_calls.specs.Known.{AreUsesAt, IsTaken, IsUntaken, NoDirectIn}
use Rattle.om_calls.proofs.CallEnds.{EndsInJsr, links, leaves, ends_in_jsr, jsr_word, jsr_there, end_branch, end_call}

-- the word of an op of a block
pub node_word : (b : Block) (n : Node) → Has b.ops n → Has (block_words b) (word_of b n)
node_word b n h = append_left (map (op_word (ops_of b)) (ops_of b)) (last_words b.last) (word_of b n) (to_map (op_word (ops_of b)) (ops_of b) n.op (to_map (λ (m : Node). m.op) b.ops n h))

-- a place whose address an op of a graph of a program loads is of one of its objects
pub code_within : (g : GraphView) → IsOfAProgram g → (b : Block) (n : Node) (r rb : ℕ) (q : Place) → Has g.blocks b → Has b.ops n → n.op.kind ≡ op.Lit r rb (target.Code q) → q.obj < length g.counts
code_within g of b n r rb q hb hn e =
    loaded_object of.program of.valid g of.may_go_on.graph b (word_of b n) r rb q hb (node_word b n hn) (ap (λ (k : OpKind). op_act (ops_of b) k) e)

-- and so is that of a word
pub word_within : (g : GraphView) → IsOfAProgram g → (b : Block) (w : Word) → Has g.blocks b → Has (block_words b) w → w.at.obj < length g.counts
word_within g of b w hb hw =
    let p = words_in_place of.program of.valid g of.may_go_on.graph in
    subst (λ (o : ℕ). o < length g.counts) (sym (p.words b w hb hw).object) (p.labels b.label (of.may_go_on.graph.graph.among b.label (has_label g.blocks b hb))).0

kind_of : (os : List Op) (k : OpKind) (ra rb : ℕ) (t : Target) → op_act os k ≡ act.Lit ra rb t → k ≡ op.Lit ra rb t
kind_of os (op.Plain i) ra rb t e = cc
kind_of os (op.Lit rc rd u) ra rb t e = cc
kind_of os (op.AddrLda rc rd u) ra rb t e = cc
kind_of os (op.AddrHi rc rd u z) ra rb t e = cc
kind_of os (op.UseLo i hi) ra rb t e = absurd (by_target (target_at os hi) e)
  where
    by_target : (o : Option Target) → use_of i hi o ≡ act.Lit ra rb t → ⊥
    by_target None e = cc
    by_target (Some u) e = cc
kind_of os (op.UseGp i gp u) ra rb t e = cc
kind_of os (op.GpHi rc rd base) ra rb t e = cc
kind_of os (op.GpLo rc rd hi) ra rb t e = cc

split_nodes : (ns : List Node) (n : Node) → Has ns n → (before : List Node) × (behind : List Node) × (ns ≡ before ++ n ∷ behind)
split_nodes [] n h = absurd h
split_nodes (m ∷ ns) n (inl e) = ([], ns, ap (λ (x : Node). x ∷ ns) e)
split_nodes (m ∷ ns) n (inr h) = let s = split_nodes ns n h in (m ∷ s.0, s.1, ap (λ (l : List Node). m ∷ l) s.2)

same_call : (a b : RegisterCall) → Some a ≡ Some b → a ≡ b
same_call a b e = cc

one_word : (v w : Word) → v ∷ [] ≡ w ∷ [] → v ≡ w
one_word v w e = cc

module _ (u : Kept) (g : GraphView) (id : ℕ) (of : IsOfAProgram g) (at : AreUsesAt u g id) where
  abbrev x : Block
  x = at.block

  hx : Has g.blocks at.block
  hx = found_block g.blocks id at.block at.here

  graph : IsGraph at.start
  graph = at.of.may_go_on.graph.graph

  flow : HasFlow at.start
  flow = graphs_have_flows.flow at.of.program at.start at.of.valid at.of.may_go_on.graph

  abbrev behind_node : (n : Node) → Has (at.block).ops n → List Node
  behind_node n h = (split_nodes (at.block).ops n h).1

  -- what an op loads is a result by the uses
  result : (n : Node) (h : Has (at.block).ops n) (r rb : ℕ) (t : Target) → n.op.kind ≡ op.Lit r rb t → r < 31 → IsResult at.start n.id r at.block (behind_node n h)
  result n h r rb t e l =
      let s = split_nodes (at.block).ops n h in
      record { among = at.among; before = s.0; node = n; stands = s.2; is_id = refl; register = l; writes = written n.op.kind e }
    where
      written : (k : OpKind) → k ≡ op.Lit r rb t → kind_writes k ≡ r ∷ []
      written k e = ap kind_writes e

  -- ---- what is taken makes a known call

  module _ (c : RegisterCall) (rb hint : ℕ) (word : last_words (at.block).last ≡ record { at = c.at; act = Plain (Jump Jsr c.ra rb hint) } ∷ [])
      (n : Node) (hn : Has (at.block).ops n) (q : Place) (t : IsTaken u g.counts c.at n.id n.op.kind q) where
    abbrev call : Word
    call = record { at = c.at; act = Plain (Jump Jsr c.ra rb hint) }

    used : IsUsedLast at.block (word_of at.block n) t.register
    unfolding result
    used =
        let r = result n hn t.register t.base (target.Code q) t.loads t.below in
        last_is_use at.start n.id t.register at.block (behind_node n hn) graph flow r (sym (t.read at.start t.register at.block (behind_node n hn) graph at.uses r))

    local : IsLocalUse (block_words at.block) (word_of at.block n) call t.register
    local = subst (λ (w : Word). IsLocalUse (block_words at.block) (word_of at.block n) w t.register) (one_word used.0 call (sym used.1 ∙ word)) used.2

    reads : rb ≡ t.register
    reads = by_case local.reads
      where
        by_case : Among (act_reads call.act) t.register → rb ≡ t.register
        by_case (inl e) = e
        by_case (inr h) = absurd h

    known : IsKnownCall (block_words at.block) call c.ra q
    known = record {
      load = word_of at.block n;
      rb = rb;
      base = t.base;
      hint = hint;
      local = subst (λ (r : ℕ). IsLocalUse (block_words at.block) (word_of at.block n) call r) (sym reads) local;
      loads = ap (λ (k : OpKind). op_act (ops_of at.block) k) t.loads ∙ ap (λ (r : ℕ). act.Lit r t.base (target.Code q)) (sym reads);
      jumps = refl;
    }

    fits : (l : Last) → last_words l ≡ record { at = c.at; act = To Bsr c.ra q } ∷ [] → ((p : ProgramView) → IsProgram p → MayGoOn p g → Step p g (last_set g id l)) → IsStep g (last_set g id l)
    fits l is step = record {
      step = step;
      fits = λ p prog m gp address fit. end_fits p gp address prog g m.graph fit id at.block at.here call (To Bsr c.ra q) l word is (step p prog m).rewrite.goes_on.graph;
    }

    jsr_links : (at.block).last ≡ last.CallBy c.at (Jump Jsr c.ra rb hint) → IsStep g (last_set g id (end_with (record { at = c.at; ra = c.ra; to = q })))
    jsr_links e =
        let form : LastForm (last.CallBy c.at (Jump Jsr c.ra rb hint)) = subst (λ (l : Last). LastForm l) e (of.may_go_on.graph.form.lasts at.block hx) in
        let is = end_call (record { at = c.at; ra = c.ra; to = q }) form in
        subst (λ (l : Last). IsStep g (last_set g id l)) (sym is)
        (fits (last.Call c.at Bsr c.ra q) refl (λ p prog m. direct_call p prog g m id at.block at.here c.at q (Jump Jsr c.ra rb hint) c.ra known t.reach e))

    jsr_leaves : (at.block).last ≡ last.JumpBy c.at (Jump Jsr c.ra rb hint) → IsStep g (last_set g id (end_with (record { at = c.at; ra = c.ra; to = q })))
    jsr_leaves e =
        let form : LastForm (last.JumpBy c.at (Jump Jsr c.ra rb hint)) = subst (λ (l : Last). LastForm l) e (of.may_go_on.graph.form.lasts at.block hx) in
        let is = end_branch (record { at = c.at; ra = c.ra; to = q }) form in
        subst (λ (l : Last). IsStep g (last_set g id l)) (sym is)
        (fits (last.Br c.at Bsr c.ra q) refl (λ p prog m. direct_jump p prog g m id at.block at.here c.at q (Jump Jsr c.ra rb hint) c.ra known t.reach e))

  -- the call that was read is that of the block
  pub jsr_read : (call : Option RegisterCall) (l : Last) → call ≡ jsr_of l → last_of g id ≡ Some l → call ≡ jsr_of (at.block).last
  jsr_read call l e f = e ∙ ap jsr_of (same l (at.block).last (sym f ∙ ap (option_map (λ (y : Block). y.last)) at.here))
    where
      same : (a b : Last) → Some a ≡ Some b → a ≡ b
      same a b e = cc

  -- a call stands in one of the objects
  pub call_within : (c : RegisterCall) → jsr_of (at.block).last ≡ Some c → c.at.obj < length g.counts
  call_within c e =
      let w = jsr_word (at.block).last c (ends_in_jsr (at.block).last c e) in
      let word : Word = record { at = c.at; act = Plain (Jump Jsr c.ra w.0 w.1) } in
      let there : Has (block_words at.block) word = append_right (map (op_word (ops_of at.block)) (ops_of at.block)) (last_words (at.block).last) word (subst (λ (l : List Word). Has l word) (sym w.2) (inl refl)) in
      word_within g of at.block word hx there

  pub direct_step :
      (c : RegisterCall) → jsr_of (at.block).last ≡ Some c → (n : Node) → Has (at.block).ops n → (q : Place) → IsTaken u g.counts c.at n.id n.op.kind q →
      IsStep g (last_set g id (end_with (record { at = c.at; ra = c.ra; to = q })))
  direct_step c e n hn q t = by_case (ends_in_jsr (at.block).last c e)
    where
      by_case : EndsInJsr (at.block).last c → IsStep g (last_set g id (end_with (record { at = c.at; ra = c.ra; to = q })))
      by_case (links rb hint s) = jsr_links c rb hint (ap last_words s) n hn q t s
      by_case (leaves rb hint s) = jsr_leaves c rb hint (ap last_words s) n hn q t s

  -- ---- nothing taken leaves no known call

  pub no_jsr : jsr_of (at.block).last ≡ None → NoDirectIn g at.block
  no_jsr e call ra q hc k reach =
      let j = jsr_there g of.may_go_on.graph.form at.block call ra k.rb k.hint hx hc k.jumps in
      none_is_some (record { at = call.at; ra = ra }) (sym e ∙ j.0)
    where
      none_is_some : (c : RegisterCall) → None ≡ Some c → ⊥
      none_is_some c e = cc

  -- the op of a word that loads an address
  record LoadOp (w : Word) (r rb : ℕ) (t : Target) : Type 0 where
    node : Node
    among : Has (at.block).ops node
    word : word_of at.block node ≡ w
    kind : node.op.kind ≡ op.Lit r rb t

  load_op : (call : Word) (i : Instr) → last_words (at.block).last ≡ call ∷ [] → call.act ≡ Plain i → (w : Word) (r rb : ℕ) (t : Target) → Has (block_words at.block) w → w.act ≡ act.Lit r rb t → LoadOp w r rb t
  load_op call i ends jumps w r rb t hw e = by_part (has_append (map (op_word (ops_of at.block)) (ops_of at.block)) (last_words (at.block).last) w hw)
    where
      by_end : Has (call ∷ []) w → LoadOp w r rb t
      by_end (inl s) = let d : Plain i ≡ act.Lit r rb t = sym jumps ∙ ap (λ (v : Word). v.act) s ∙ e in cc
      by_end (inr h) = absurd h

      by_part : Has (map (op_word (ops_of at.block)) (ops_of at.block)) w ⊎ Has (last_words (at.block).last) w → LoadOp w r rb t
      by_part (inr h) = by_end (subst (λ (l : List Word). Has l w) ends h)
      by_part (inl h) =
          let o = of_op (ops_of at.block) (ops_of at.block) w h in
          let n = of_map (λ (m : Node). m.op) (at.block).ops o.op o.among in
          let word : word_of at.block n.0 ≡ w = ap (λ (y : Op). op_word (ops_of at.block) y) n.2 ∙ o.word in
          record { node = n.0; among = n.1; word = word; kind = kind_of (ops_of at.block) (n.0).op.kind r rb t (ap (λ (v : Word). v.act) word ∙ e) }

  pub none_taken : (c : RegisterCall) → jsr_of (at.block).last ≡ Some c → ((n : Node) → Has (at.block).ops n → IsUntaken u g.counts c.at n.id n.op.kind) → NoDirectIn g at.block
  unfolding result load_op
  none_taken c e none call ra q hc k reach =
      let j = jsr_there g of.may_go_on.graph.form at.block call ra k.rb k.hint hx hc k.jumps in
      let place : call.at ≡ c.at = ap (λ (y : RegisterCall). y.at) (same_call (record { at = call.at; ra = ra }) c (sym j.0 ∙ e)) in
      let l = load_op call (Jump Jsr ra k.rb k.hint) j.1 k.jumps k.load k.rb k.base (target.Code q) (first_in (block_words at.block) k.local.mid k.load call k.local.stands) k.loads in
      let n = (none l.node l.among).none k.rb k.base q l.kind k.local.register (subst (λ (p : Place). InReach g.counts p q) place reach) in
      let r = result l.node l.among k.rb k.base (target.Code q) l.kind n.0 in
      let no = n.1 at.start k.rb at.block (behind_node l.node l.among) graph at.uses r in
      let yes = use_is_last at.start (l.node).id k.rb at.block (behind_node l.node l.among) graph flow r
      (call, j.1, subst (λ (w : Word). IsLocalUse (block_words at.block) w call k.rb) (sym l.word) k.local) in
      true≢false (sym yes ∙ sym no)

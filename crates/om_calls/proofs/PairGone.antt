-- A closed pair of a block gone.
use Rattle.std.proofs.Common.{◌≡◌, ◌⊎◌, inl, inr, ℕ, Bool, true, false, cond, not, ◌==◌, List, [], ◌∷◌, ◌++◌, map, Option, Some, None, refl, sym, ap, ◌∙◌, subst}
use Rattle.std.specs.Prelude.{filter, find, is_some, option_map}
use Rattle.std.specs.Option.{option_or}
use Rattle.std.proofs.lemmas.Bool.{eq-eqb}
use Rattle.om_value.specs.declared.value.Place.{Place}
use Rattle.om_value.specs.declared.value.Target.{Target}
use Rattle.om_value.specs.Same.{place_eq}
use Rattle.om_prog.specs.Act as act
use Rattle.om_prog.specs.Act.{Word, Script}
use Rattle.om_prog.specs.View.{ProgramView}
use Rattle.om_prog.specs.Valid.{IsProgram}
use Rattle.om_prog.specs.Facts as prog
use Rattle.om_prog.specs.Facts.{fact_behind, IsFact}
use Rattle.om_flow.specs.declared.parts.Fact.{Fact}
use Rattle.om_flow.specs.declared.parts.Fact.TheVariants.{Unknown}
use Rattle.om_graph.specs.declared.op.Op.{Op}
use Rattle.om_graph.specs.declared.op.OpKind.{OpKind}
use Rattle.om_graph.specs.declared.op.OpKind.TheVariants as op
use Rattle.om_graph.specs.View.{Node, Block, GraphView, Has, ops_of, is_block, is_node, has_label, block_with, is_live_op, touch, touch_block, delete_in, deleted}
use Rattle.om_graph.specs.Held.{IsGraph, Apart, node_ids, block_ids}
use Rattle.om_graph.specs.Numbers.{AreNumbered}
use Rattle.om_graph.specs.Run.{block_words, last_words, op_act, op_word, high_target, target_at, rev_onto, table_of, graph_script}
use Rattle.om_graph.specs.Form.{is_address, InForm}
use Rattle.om_graph.specs.Checks.{onward, GpChecked}
use Rattle.om_graph.specs.Uses.{Between, IsClosedPair}
use Rattle.om_graph.specs.OfProgram.{IsLastWriter, CameFromLoad}
use Rattle.om_graph.proofs.OfProgram.{words_in_place}
use Rattle.om_blocks.specs.Found.{facts_in, fact_under}
use Rattle.om_blocks.specs.IsFlow.{HasFlow}
use Rattle.om_blocks.proofs.OfPrograms.{graphs_have_flows}
use Rattle.om_gpfacts.proofs.Inside.{rev_rev, rev_split}
use Rattle.om_checks.specs.Steps.{node_words, PairOf}
use Rattle.om_checks.proofs.Closed.{gp_pair_dropped}
use Rattle.om_blocks.proofs.Walking.{assoc, has_mid, has_node, not_same, apart_in}
use Rattle.om_passes.specs.OneEdit.{MayGoOn, IsOp, word_of}
use Rattle.om_passes.specs.Step.{Step}
use Rattle.om_passes.specs.Passed.{IsStep, IsOfAProgram, FitsStill}
use Rattle.om_passes.proofs.Edits.{first_in}
use Rattle.om_passes.proofs.NoLoad.{no_load}
use Rattle.om_passes.proofs.PairEdits as edits
use Rattle.om_passes.proofs.PairStep.{pair_step}
use Rattle.om_passes.proofs.FitsStay.{delete_fits}
use Rattle.om_uses.specs.Parts.{Kept, IsNearly}
use Rattle.om_uses.proofs.Near.{deleted_near}
use Rattle.om_calls.specs.Pairs.{DropsPair, IsPairStep}
use Rattle.om_calls.proofs.WalkedOps.{node_words_both, object_at}
use Rattle.om_calls.proofs.NodesAt.{is_op}

-- ---- two ops deleted, in either order

abbrev without : ℕ → List Node → List Node
without id l = filter (λ n. not (is_node id n)) l

not_twice : (lo hi : ℕ) (ns : List Node) → without hi (without lo ns) ≡ without lo (without hi ns)
not_twice lo hi [] = refl
not_twice lo hi (n ∷ ns) = by_tests (is_node lo n) (is_node hi n) refl refl (not_twice lo hi ns)
  where
    by_tests :
        (t v : Bool) → is_node lo n ≡ t → is_node hi n ≡ v → without hi (without lo ns) ≡ without lo (without hi ns) →
        without hi (cond (not t) (n ∷ without lo ns) (without lo ns)) ≡ without lo (cond (not v) (n ∷ without hi ns) (without hi ns))
    by_tests true true x y i = i
    by_tests true false x y i = i ∙ sym (ap (λ (b : Bool). cond (not b) (n ∷ without lo (without hi ns)) (without lo (without hi ns))) x)
    by_tests false true x y i = ap (λ (b : Bool). cond (not b) (n ∷ without hi (without lo ns)) (without hi (without lo ns))) y ∙ i
    by_tests false false x y i =
        ap (λ (b : Bool). cond (not b) (n ∷ without hi (without lo ns)) (without hi (without lo ns))) y ∙ ap (λ (l : List Node). n ∷ l) i
        ∙ sym (ap (λ (b : Bool). cond (not b) (n ∷ without lo (without hi ns)) (without lo (without hi ns))) x)

blocks_twice : (lo hi : ℕ) (bs : List Block) → map (delete_in hi) (map (delete_in lo) bs) ≡ map (delete_in lo) (map (delete_in hi) bs)
blocks_twice lo hi [] = refl
blocks_twice lo hi (b ∷ bs) = ap (λ (ns : List Node). record b { ops = ns } ∷ map (delete_in hi) (map (delete_in lo) bs)) (not_twice lo hi b.ops) ∙ ap (λ (l : List Block). delete_in lo (delete_in hi b) ∷ l) (blocks_twice lo hi bs)

-- the graph is one
pub one_graph : (g : GraphView) (lo hi : ℕ) (b : Block) (xh xl : Node) → (hi ≡ lo → ⊥) → IsOp g hi b xh → IsOp g lo b xl → deleted (deleted g lo) hi ≡ deleted (deleted g hi) lo
one_graph g lo hi b xh xl other oh ol =
    let after_low : block_with (deleted g lo) hi ≡ Some (delete_in lo b) = (edits.op_left lo hi other g b xh oh).block in
    let after_high : block_with (deleted g hi) lo ≡ Some (delete_in hi b) = (edits.op_left hi lo (λ e. other (sym e)) g b xl ol).block in
    let low_first : touch_block (block_with (deleted g lo) hi) (touch_block (block_with g lo) g.touched) ≡ touch b.label (touch b.label g.touched) =
    ap (λ (o : Option Block). touch_block o (touch_block (block_with g lo) g.touched)) after_low ∙ ap (λ (o : Option Block). touch b.label (touch_block o g.touched)) ol.block in
    let high_first : touch_block (block_with (deleted g hi) lo) (touch_block (block_with g hi) g.touched) ≡ touch b.label (touch b.label g.touched) =
    ap (λ (o : Option Block). touch_block o (touch_block (block_with g hi) g.touched)) after_high ∙ ap (λ (o : Option Block). touch b.label (touch_block o g.touched)) oh.block in
    ap (λ (bs : List Block). record g { blocks = bs; touched = touch_block (block_with (deleted g lo) hi) (touch_block (block_with g lo) g.touched) }) (blocks_twice lo hi g.blocks)
    ∙ ap (λ (ts : List Place). record g { blocks = map (delete_in lo) (map (delete_in hi) g.blocks); touched = ts }) (low_first ∙ sym high_first)

-- ---- what an op deleted leaves

pub ids_deleted : (id : ℕ) (bs : List Block) → block_ids (map (delete_in id) bs) ≡ block_ids bs
ids_deleted id [] = refl
ids_deleted id (b ∷ bs) = ap (λ (l : List ℕ). b.id ∷ l) (ids_deleted id bs)

pub block_deleted : (id o : ℕ) (bs : List Block) (b : Block) → find (is_block id) bs ≡ Some b → find (is_block id) (map (delete_in o) bs) ≡ Some (delete_in o b)
block_deleted id o [] b e = cc
block_deleted id o (c ∷ bs) b e = by_test (c.id == id) e (block_deleted id o bs b)
  where
    by_test :
        (t : Bool) → cond t (Some c) (find (is_block id) bs) ≡ Some b → (find (is_block id) bs ≡ Some b → find (is_block id) (map (delete_in o) bs) ≡ Some (delete_in o b)) →
        cond t (Some (delete_in o c)) (find (is_block id) (map (delete_in o) bs)) ≡ Some (delete_in o b)
    by_test true e again = let s : c ≡ b = cc in ap (λ (x : Block). Some (delete_in o x)) s
    by_test false e again = again e

label_deleted : (q : Place) (o : ℕ) (bs : List Block) → option_map (λ (b : Block). b.id) (find (has_label q) (map (delete_in o) bs)) ≡ option_map (λ (b : Block). b.id) (find (has_label q) bs)
label_deleted q o [] = refl
label_deleted q o (c ∷ bs) = by_test (place_eq c.label q) (label_deleted q o bs)
  where
    by_test :
        (t : Bool) → option_map (λ (b : Block). b.id) (find (has_label q) (map (delete_in o) bs)) ≡ option_map (λ (b : Block). b.id) (find (has_label q) bs) →
        option_map (λ (b : Block). b.id) (cond t (Some (delete_in o c)) (find (has_label q) (map (delete_in o) bs))) ≡ option_map (λ (b : Block). b.id) (cond t (Some c) (find (has_label q) bs))
    by_test true i = refl
    by_test false i = i

facts_same : (g : GraphView) (lo hi : ℕ) (facts : List Fact) (q : Place) → facts_in (deleted (deleted g lo) hi) facts q ≡ facts_in g facts q
facts_same g lo hi facts q = ap (fact_under facts) (label_deleted q hi (map (delete_in lo) g.blocks) ∙ label_deleted q lo g.blocks)

-- ---- the ops that are left

none_gone : (id : ℕ) (ns : List Node) → (Has (node_ids ns) id → ⊥) → filter (λ n. not (is_node id n)) ns ≡ ns
none_gone id [] out = refl
none_gone id (n ∷ ns) out =
    let e = not_same n.id id (λ e. out (inl e)) in
    let k = none_gone id ns (λ h. out (inr h)) in
    rw (e, k) refl

one_gone : (xs : List Node) (n : Node) (ys : List Node) → Apart (node_ids (xs ++ n ∷ ys)) → filter (λ m. not (is_node n.id m)) (xs ++ n ∷ ys) ≡ xs ++ ys
one_gone [] n ys a = let e = eq-eqb n.id n.id refl in rw e (none_gone n.id ys a.0)
one_gone (x ∷ xs) n ys a =
    let e = not_same x.id n.id (λ e. a.0 (subst (λ k. Has (node_ids (xs ++ n ∷ ys)) k) (sym e) (has_node xs n ys))) in
    rw e (ap (λ (l : List Node). x ∷ l) (one_gone xs n ys a.1))

apart_less : (xs : List Node) (n : Node) (ys : List Node) → Apart (node_ids (xs ++ n ∷ ys)) → Apart (node_ids (xs ++ ys))
apart_less [] n ys a = a.1
apart_less (x ∷ xs) n ys a = ((λ h. a.0 (more xs h)), apart_less xs n ys a.1)
  where
    more : (zs : List Node) → Has (node_ids (zs ++ ys)) x.id → Has (node_ids (zs ++ n ∷ ys)) x.id
    more [] h = inr h
    more (z ∷ zs) (inl e) = inl e
    more (z ∷ zs) (inr h) = inr (more zs h)

two_gone :
    (ns before mid rest : List Node) (high low : Node) → ns ≡ (before ++ high ∷ mid) ++ low ∷ rest → Apart (node_ids ns) →
    filter (λ n. not (is_node high.id n)) (filter (λ n. not (is_node low.id n)) ns) ≡ (before ++ mid) ++ rest
two_gone ns before mid rest high low e a =
    let split : (before ++ high ∷ mid) ++ rest ≡ before ++ high ∷ (mid ++ rest) = assoc before (high ∷ mid) rest in
    let both : Apart (node_ids ((before ++ high ∷ mid) ++ low ∷ rest)) = subst (λ (l : List Node). Apart (node_ids l)) e a in
    let one : Apart (node_ids (before ++ high ∷ (mid ++ rest))) = subst (λ (l : List Node). Apart (node_ids l)) split (apart_less (before ++ high ∷ mid) low rest both) in
    ap (λ (l : List Node). filter (λ n. not (is_node high.id n)) (filter (λ n. not (is_node low.id n)) l)) e
    ∙ ap (λ (l : List Node). filter (λ n. not (is_node high.id n)) l) (one_gone (before ++ high ∷ mid) low rest both ∙ split)
    ∙ one_gone before high (mid ++ rest) one ∙ sym (assoc before mid rest)

-- an op that gives no high half is not missed by uses of halves
target_less : (xs : List Node) (n : Node) (ys : List Node) (q : Place) → high_target n.op.kind ≡ None → target_at (map (λ (m : Node). m.op) (xs ++ ys)) q ≡ target_at (map (λ (m : Node). m.op) (xs ++ n ∷ ys)) q
target_less [] n ys q e = sym (or_none (at_here (place_eq n.op.place q)))
  where
    at_here : (t : Bool) → cond t (high_target n.op.kind) None ≡ None
    at_here true = e
    at_here false = refl

    or_none : {o p : Option Target} → o ≡ None → option_or o p ≡ p
    or_none {o} {p} e = ap (λ (x : Option Target). option_or x p) e
target_less (x ∷ xs) n ys q e = ap (λ (o : Option Target). option_or (cond (place_eq x.op.place q) (high_target x.op.kind) None) o) (target_less xs n ys q e)

targets_less :
    (before mid rest : List Node) (high low : Node) (q : Place) → high_target high.op.kind ≡ None → high_target low.op.kind ≡ None →
    target_at (map (λ (m : Node). m.op) ((before ++ mid) ++ rest)) q ≡ target_at (map (λ (m : Node). m.op) ((before ++ high ∷ mid) ++ low ∷ rest)) q
targets_less before mid rest high low q a b =
    ap (λ (l : List Node). target_at (map (λ (m : Node). m.op) l) q) (assoc before mid rest) ∙ target_less before high (mid ++ rest) q a
    ∙ ap (λ (l : List Node). target_at (map (λ (m : Node). m.op) l) q) (sym (assoc before (high ∷ mid) rest)) ∙ target_less (before ++ high ∷ mid) low rest q b

-- facts that agree at each place
checked_same : (c : Script) (f h : Place → prog.Fact) (g : GraphView) → ((q : Place) → f q ≡ h q) → GpChecked c h g → GpChecked c f g
checked_same c f h g same old = record {
  entry = subst (λ (x : prog.Fact). (x ≡ prog.Unknown) ⊎ (x ≡ prog.Table (c.table c.entry.obj))) (sym (same c.entry)) old.entry;
  enters = λ b n e.
      subst (λ (x : prog.Fact). prog.Allows (onward c x (block_words b)) (f n.label)) (sym (same b.label))
      (subst (λ (x : prog.Fact). prog.Allows (onward c (h b.label) (block_words b)) x) (sym (same n.label)) (old.enters b n e));
}

words_assoc : (xs ys zs : List Word) → (xs ++ ys) ++ zs ≡ xs ++ (ys ++ zs)
words_assoc xs ys zs = assoc xs ys zs

-- ---- the pair

module _ (g : GraphView) (graph : IsGraph g) (facts : List Fact) (hi lo : ℕ) (d : DropsPair g facts hi lo) where
  abbrev b : Block
  b = d.block

  abbrev os : List Op
  os = ops_of d.block

  high_split : d.block.ops ≡ d.before ++ d.high_node ∷ (d.mid ++ d.low_node ∷ d.rest)
  high_split = d.pair.split ∙ assoc d.before (d.high_node ∷ d.mid) (d.low_node ∷ d.rest)

  op_high : IsOp g hi d.block d.high_node
  op_high = subst (λ (i : ℕ). IsOp g i d.block d.high_node) d.high_is (is_op g graph d.block d.among d.before d.high_node (d.mid ++ d.low_node ∷ d.rest) high_split)

  op_low : IsOp g lo d.block d.low_node
  op_low = subst (λ (i : ℕ). IsOp g i d.block d.low_node) d.low_is (is_op g graph d.block d.among (d.before ++ d.high_node ∷ d.mid) d.low_node d.rest d.pair.split)

  high_there : Has d.block.ops d.high_node
  high_there = subst (λ (l : List Node). Has l d.high_node) (sym high_split) (has_mid d.before d.high_node (d.mid ++ d.low_node ∷ d.rest))

  low_there : Has d.block.ops d.low_node
  low_there = subst (λ (l : List Node). Has l d.low_node) (sym d.pair.split) (has_mid (d.before ++ d.high_node ∷ d.mid) d.low_node d.rest)

  kind_high : d.high_node.op.kind ≡ op.GpHi 29 d.pair.waits.rb d.pair.waits.base
  kind_high = d.pair.waits.is_high

  kind_low : d.low_node.op.kind ≡ op.GpLo 29 29 d.high_node.op.place
  kind_low = d.pair.is_low

  abbrev high_at : Word
  high_at = record { at = d.high_node.op.place; act = act.GpHi 29 d.pair.waits.rb d.pair.waits.base }

  abbrev low_at : Word
  low_at = record { at = d.low_node.op.place; act = act.GpLo 29 29 d.high_node.op.place }

  high_word_is : op_word os d.high_node.op ≡ high_at
  high_word_is = ap (λ (k : OpKind). record { at = d.high_node.op.place; act = op_act os k }) kind_high

  low_word_is : op_word os d.low_node.op ≡ low_at
  low_word_is = ap (λ (k : OpKind). record { at = d.low_node.op.place; act = op_act os k }) kind_low

  abbrev behind_low : List Word
  behind_low = node_words os d.rest ++ last_words d.block.last

  -- the words of the block
  words_split : block_words d.block ≡ node_words os d.before ++ (op_word os d.high_node.op ∷ (node_words os d.mid ++ op_word os d.low_node.op ∷ behind_low))
  words_split =
      ap (λ (l : List Word). l ++ last_words d.block.last)
      (ap (node_words os) high_split ∙ node_words_both os d.before (d.high_node ∷ (d.mid ++ d.low_node ∷ d.rest))
      ∙ ap (λ (l : List Word). node_words os d.before ++ op_word os d.high_node.op ∷ l) (node_words_both os d.mid (d.low_node ∷ d.rest)))
      ∙ words_assoc (node_words os d.before) (op_word os d.high_node.op ∷ (node_words os d.mid ++ op_word os d.low_node.op ∷ node_words os d.rest)) (last_words d.block.last)
      ∙ ap (λ (l : List Word). node_words os d.before ++ op_word os d.high_node.op ∷ l) (words_assoc (node_words os d.mid) (op_word os d.low_node.op ∷ node_words os d.rest) (last_words d.block.last))

  between : Between (block_words d.block) high_at (node_words os d.mid) low_at
  between = (
    node_words os d.before,
    behind_low,
    words_split ∙ ap (λ (w : Word). node_words os d.before ++ (w ∷ (node_words os d.mid ++ op_word os d.low_node.op ∷ behind_low))) high_word_is
        ∙ ap (λ (w : Word). node_words os d.before ++ (high_at ∷ (node_words os d.mid ++ w ∷ behind_low))) low_word_is
        ∙ sym (words_assoc (node_words os d.before) (high_at ∷ node_words os d.mid) (low_at ∷ behind_low)),
  )

  closed : IsClosedPair g d.block d.high_node.op.place d.low_node.op.place
  closed = record {
    rb = d.pair.waits.rb;
    base = d.pair.waits.base;
    mid = node_words os d.mid;
    stands = between;
    unread = d.pair.waits.unread;
    unwritten = d.pair.waits.unwritten;
    high_stays = d.pair.high_stays;
    low_stays = d.pair.low_stays;
  }

  stands : rev_onto (rev_onto (node_words os d.before) []) (word_of d.block d.high_node ∷ (node_words os d.mid ++ op_word os d.low_node.op ∷ behind_low)) ≡ block_words d.block
  stands =
      rev_split (rev_onto (node_words os d.before) []) (op_word os d.high_node.op ∷ (node_words os d.mid ++ op_word os d.low_node.op ∷ behind_low))
      ∙ ap (λ (l : List Word). l ++ op_word os d.high_node.op ∷ (node_words os d.mid ++ op_word os d.low_node.op ∷ behind_low)) (rev_rev (node_words os d.before) [])
      ∙ sym words_split

  abbrev new : GraphView
  new = deleted (deleted g lo) hi

  other : hi ≡ lo → ⊥
  other e =
      let same : d.high_node ≡ d.low_node = some_same (sym op_high.node ∙ ap (λ (n : ℕ). find (is_node n) d.block.ops) e ∙ op_low.node) in
      let kinds : op.GpHi 29 d.pair.waits.rb d.pair.waits.base ≡ op.GpLo 29 29 d.high_node.op.place = sym kind_high ∙ ap (λ (n : Node). n.op.kind) same ∙ kind_low in
      cc
    where
      some_same : {x y : Node} → Some x ≡ Some y → x ≡ y
      some_same e = cc

  -- the ops of the block without the pair
  pub ops_less : (delete_in hi (delete_in lo d.block)).ops ≡ (d.before ++ d.mid) ++ d.rest
  ops_less =
      ap (λ (i : ℕ). filter (λ n. not (is_node i n)) (filter (λ n. not (is_node lo n)) d.block.ops)) (sym d.high_is)
      ∙ ap (λ (i : ℕ). filter (λ n. not (is_node d.high_node.id n)) (filter (λ n. not (is_node i n)) d.block.ops)) (sym d.low_is)
      ∙ two_gone d.block.ops d.before d.mid d.rest d.high_node d.low_node d.pair.split (apart_in g.blocks d.block graph.op_ids d.among)

  pub targets_same : (q : Place) → target_at (ops_of (delete_in hi (delete_in lo d.block))) q ≡ target_at (ops_of d.block) q
  targets_same q =
      ap (λ (l : List Node). target_at (map (λ (m : Node). m.op) l) q) ops_less
      ∙ targets_less d.before d.mid d.rest d.high_node d.low_node q (ap high_target kind_high) (ap high_target kind_low)
      ∙ ap (λ (l : List Node). target_at (map (λ (m : Node). m.op) l) q) (sym d.pair.split)

  pub low_live : is_live_op g lo ≡ true
  low_live = ap (λ (o : Option Block). is_some o) op_low.block

  pub high_live : is_live_op (deleted g lo) hi ≡ true
  high_live = ap (λ (o : Option Block). is_some o) (edits.op_left lo hi other g d.block d.high_node op_high).block

  pub ids_same : block_ids new.blocks ≡ block_ids g.blocks
  ids_same = ids_deleted hi (map (delete_in lo) g.blocks) ∙ ids_deleted lo g.blocks

  pub near_still : AreNumbered g → IsGraph (deleted g lo) → AreNumbered (deleted g lo) → (k : Kept) → IsNearly g k → IsNearly new k
  near_still numbered after after_numbered k near =
      deleted_near (deleted g lo) k hi after after_numbered high_live (deleted_near g k lo graph numbered low_live near)

  -- ---- where the facts hold

  module _ (checked : (p : ProgramView) → GpChecked (graph_script p g) (facts_in g facts) g) where
    module _ (p : ProgramView) (prog : IsProgram p) (m : MayGoOn p g) where
      pub step_of : Step p g new
      step_of =
          pair_step p prog g m hi lo d.block d.high_node d.low_node op_high op_low d.pair.waits.rb d.pair.waits.base kind_high kind_low closed (facts_in g facts) (checked p)
          (rev_onto (node_words os d.before) []) (node_words os d.mid ++ op_word os d.low_node.op ∷ behind_low) stands (d.fact p)

      abbrev bf : List Word
      bf = rev_onto (node_words os d.before) []

      abbrev ws : List Word
      ws = node_words os d.mid ++ op_word os d.low_node.op ∷ behind_low

      in_front : rev_onto (rev_onto (node_words os d.before) []) (high_at ∷ (node_words os d.mid ++ op_word os d.low_node.op ∷ behind_low)) ≡ block_words d.block
      in_front = ap (λ (w : Word). rev_onto bf (w ∷ ws)) (sym high_word_is) ∙ stands

      no_load_before : (u : Word) → IsLastWriter (block_words d.block) d.high_node.op.place 29 u → CameFromLoad u.act → ⊥
      no_load_before u w c =
          no_load (graph_script p g) (facts_in g facts d.block.label) (table_of g d.high_node.op.place.obj) (block_words d.block) bf ws high_at u
          ((words_in_place p prog g m.graph).ordered d.block d.among) in_front (d.fact p) (first_in (block_words d.block) (node_words os d.mid) high_at low_at between) w c

      after : MayGoOn p (deleted g lo)
      after =
          edits.after p prog g m hi lo d.block d.high_node d.low_node op_high op_low d.pair.waits.rb d.pair.waits.base kind_high kind_low closed no_load_before

      fits_of : FitsStill p g new
      fits_of gp address fits =
          delete_fits p gp address prog (deleted g lo) after.graph
          (delete_fits p gp address prog g m.graph fits lo d.block d.low_node op_low (ap (λ (w : Word). is_address w.act) low_word_is) (inl (ap high_target kind_low)) after.graph)
          hi (delete_in lo d.block) d.high_node (edits.op_left lo hi other g d.block d.high_node op_high)
          (ap (λ (k : OpKind). is_address (op_act (ops_of (delete_in lo d.block)) k)) kind_high) (inl (ap high_target kind_high)) step_of.rewrite.goes_on.graph

    pub is_step : IsStep g new
    is_step = record { step = step_of; fits = fits_of }

    module _ (of : IsOfAProgram g) where
      pair_of : (p : ProgramView) → PairOf (graph_script p g) (facts_in g facts) d.block d.high_node d.low_node
      pair_of p = record {
        xs = d.before;
        ms = d.mid;
        ys = d.rest;
        ops = d.pair.split;
        ra = 29;
        rb = d.pair.waits.rb;
        rd = 29;
        base = d.pair.waits.base;
        first = d.high_node.op.place;
        is_high = kind_high;
        is_low = kind_low;
        unwritten = d.pair.waits.unwritten;
        fact = subst (λ (t : ℕ). IsFact (fact_behind (graph_script p g) (facts_in g facts d.block.label) (rev_onto (node_words os d.before) [])) t) (ap (table_of g) objects) (d.fact p);
      }
        where
          flow : HasFlow g
          flow = graphs_have_flows.flow of.program g of.valid of.may_go_on.graph

          objects : d.high_node.op.place.obj ≡ d.low_node.op.place.obj
          objects = object_at g graph flow d.block d.among d.high_node high_there ∙ sym (object_at g graph flow d.block d.among d.low_node low_there)

      pub facts_still : (p : ProgramView) → GpChecked (graph_script p new) (facts_in new facts) new
      facts_still p =
          let same : deleted (deleted g lo) hi ≡ deleted (deleted g hi) lo = one_graph g lo hi d.block d.high_node d.low_node other op_high op_low in
          let form : InForm (deleted (deleted g hi) lo) = subst (λ (x : GraphView). InForm x) same (step_of of.program of.valid of.may_go_on).rewrite.goes_on.graph.form in
          let old : GpChecked (graph_script p new) (facts_in g facts) new =
          subst (λ (x : GraphView). GpChecked (graph_script p x) (facts_in g facts) x) (sym same) (dropped p form) in
          checked_same (graph_script p new) (facts_in new facts) (facts_in g facts) new (facts_same g lo hi facts) old
        where
          dropped : (p : ProgramView) → InForm (deleted (deleted g hi) lo) → GpChecked (graph_script p (deleted (deleted g hi) lo)) (facts_in g facts) (deleted (deleted g hi) lo)
          dropped p form =
              subst (λ (i : ℕ). GpChecked (graph_script p (deleted (deleted g i) lo)) (facts_in g facts) (deleted (deleted g i) lo)) d.high_is
              (subst (λ (i : ℕ). GpChecked (graph_script p (deleted (deleted g d.high_node.id) i)) (facts_in g facts) (deleted (deleted g d.high_node.id) i)) d.low_is
              (gp_pair_dropped p (facts_in g facts) g graph d.block d.among d.high_node d.low_node (pair_of p)
              (subst (λ (i : ℕ). InForm (deleted (deleted g d.high_node.id) i)) (sym d.low_is) (subst (λ (i : ℕ). InForm (deleted (deleted g i) lo)) (sym d.high_is) form)) (checked p)))

      pub gone_is :
          AreNumbered g → (one two : GraphView) → one ≡ deleted g lo → two ≡ deleted one hi → IsGraph one → AreNumbered one →
          IsPairStep g two × ((p : ProgramView) → GpChecked (graph_script p two) (facts_in two facts) two)
      gone_is numbered one two a e one_graph one_numbered =
          let is : two ≡ deleted (deleted g lo) hi = e ∙ ap (λ (x : GraphView). deleted x hi) a in (
            subst (λ (x : GraphView). IsPairStep g x) (sym is) (record {
              step = is_step;
              ids = ids_same;
              near = near_still numbered (subst (λ (x : GraphView). IsGraph x) a one_graph) (subst (λ (x : GraphView). AreNumbered x) a one_numbered);
            }),
            λ p. subst (λ (x : GraphView). GpChecked (graph_script p x) (facts_in x facts) x) (sym is) (facts_still p),
          )

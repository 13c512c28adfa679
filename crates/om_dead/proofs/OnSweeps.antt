-- One deletion more, and the ops of a block from its last one on.
use Rattle.std.proofs.Common.{◌≡◌, ◌⊎◌, inl, inr, ◌<◌, ℕ, Bool, true, false, cond, not, ◌==◌, ◌||◌, List, [], ◌∷◌, ◌++◌, Option, Some, None, refl, sym, ap, ◌∙◌, subst, arith}
use Rattle.std.specs.Prelude.{map, find, filter, is_some, option_map, option_and_then}
use Rattle.std.proofs.lemmas.Bool.{true≢false}
use Rattle.om_value.specs.declared.value.Place.{Place}
use Rattle.om_prog.specs.Act as act
use Rattle.om_prog.specs.Act.{Word, act_writes}
use Rattle.om_prog.specs.Flow.{Among}
use Rattle.om_prog.specs.View.{ProgramView}
use Rattle.om_prog.specs.Valid.{IsProgram}
use Rattle.om_graph.specs.declared.op.Op.{Op}
use Rattle.om_graph.specs.View.{Node, Block, GraphView, Has, ops_of, is_node, is_block, delete_in, deleted, block_of, block_with, node_in, op_of, is_live_op, is_live_block, block_id_after}
use Rattle.om_graph.specs.Held.{IsGraph, Apart, node_ids}
use Rattle.om_graph.specs.Run.{op_act, op_word, last_words, block_words, rev_onto}
use Rattle.om_graph.specs.Form.{is_address}
use Rattle.om_graph.specs.Checks.{MaskChecked, live_in}
use Rattle.om_graph.specs.Outs.{outs_of}
use Rattle.om_graph.specs.OfProgram.{IsGraphOf, IsFollowed}
use Rattle.om_graph.specs.Numbers.{AreNumbered}
use Rattle.om_graph.specs.Weight.{weight}
use Rattle.om_graph.proofs.Labels.{append_left}
use Rattle.om_graph.proofs.OfProgram.{of_map, to_map}
use Rattle.om_graph.proofs.Outs.{are_outs}
use Rattle.om_passes.specs.OneEdit.{MayGoOn, IsOp, NamesNoHalf}
use Rattle.om_passes.specs.Passed.{FitsStill, IsOfAProgram}
use Rattle.om_passes.specs.Step.{GoesOn, Deletion}
use Rattle.om_passes.proofs.DeadStep.{dead_step, masks_after, outs_after}
use Rattle.om_passes.proofs.FitsStay.{delete_fits}
use Rattle.om_passes.proofs.Followed.{followed}
use Rattle.om_passes.proofs.InARow.{none_deleted, more_deleted}
use Rattle.om_blocks.specs.IsFlow.{HasFlow}
use Rattle.om_blocks.proofs.OfPrograms.{has_flow}
use Rattle.om_blocks.proofs.Walking.{assoc, apart_in, find_op, find_with, found_block, has_node, some_is}
use Rattle.om_uses.proofs.Near.{deleted_near}
use Rattle.om_dead.specs.declared.words.SweptOp.{SweptOp}
use Rattle.om_live.specs.Outs.{HasBits}
use Rattle.om_dead.specs.Sweeps.{live_over, live_over_last, live_over_ops, MayGo, HasToStay, IsSweptOp, stripped, IsSweptFor, IsSwept, IsOutOf, end_live, HaveToStay, IsSweeping, IsSweptBlock, AreOpsOf}
use Rattle.om_dead.proofs.Halves.{unnamed}
use Rattle.om_dead.proofs.Shapes.{address_word, address_writes, words_from, ops_live, live_less, last_id, none_of, or_turned, without, split_more, stands_at}

-- ---- graphs of programs

pub going : {p : ProgramView} {a b : GraphView} → GoesOn p a b → MayGoOn p b
going x = record { graph = x.graph; kept = x.kept; reach = x.reach }

pub now_of : (masks outs : Place → ℕ → Bool) (old now : GraphView) (changed : Bool) → IsSwept masks outs old now changed → IsOfAProgram now
now_of masks outs old now changed s =
    let o = s.program in
    record { program = o.program; valid = o.valid; may_go_on = going (s.each o.program o.valid o.may_go_on).deletions.rewrites.goes_on }

pub flow_of : (g : GraphView) → IsOfAProgram g → HasFlow g
flow_of g o = has_flow o.program o.valid g o.may_go_on.graph

pub graph_of : (g : GraphView) → IsOfAProgram g → IsGraph g
graph_of g o = o.may_go_on.graph.graph

pub swept_none :
    (masks outs : Place → ℕ → Bool) (g : GraphView) → IsOfAProgram g → MaskChecked masks g →
    ((c : Block) (r : ℕ) → Has g.blocks c → r < 31 → outs_of g masks c.label r ≡ true → outs c.label r ≡ true) → IsSwept masks outs g g false
swept_none masks outs g o checked fewer = record {
  program = o;
  each = λ p prog m. record {
    deletions = none_deleted p prog g m.graph m.kept m.reach;
    fits = λ gp address fit. fit;
    checked = checked;
    fewer = fewer;
  };
  same = λ e. refl;
  lighter = λ e. absurd (true≢false (sym e));
  near = λ k n. n;
  blocks = refl;
}

-- ---- blocks without their ops

stripped_deleted : (id : ℕ) (bs : List Block) → map stripped (map (delete_in id) bs) ≡ map stripped bs
stripped_deleted id [] = refl
stripped_deleted id (b ∷ bs) = ap (λ (l : List Block). stripped b ∷ l) (stripped_deleted id bs)

found_stripped : (id : ℕ) (bs : List Block) → option_map stripped (find (is_block id) bs) ≡ find (is_block id) (map stripped bs)
found_stripped id [] = refl
found_stripped id (b ∷ bs) = by_test (b.id == id) (found_stripped id bs)
  where
    by_test : (t : Bool) → option_map stripped (find (is_block id) bs) ≡ find (is_block id) (map stripped bs) → option_map stripped (cond t (Some b) (find (is_block id) bs)) ≡ cond t (Some (stripped b)) (find (is_block id) (map stripped bs))
    by_test true i = refl
    by_test false i = i

after_stripped : (id : ℕ) (bs : List Block) → block_id_after id (map stripped bs) ≡ block_id_after id bs
after_stripped id [] = refl
after_stripped id (b ∷ []) = refl
after_stripped id (b ∷ c ∷ bs) = ap (λ (o : Option ℕ). cond (b.id == id) (Some c.id) o) (after_stripped id (c ∷ bs))

some_mapped : (f : Block → Block) (o : Option Block) → is_some (option_map f o) ≡ is_some o
some_mapped f None = refl
some_mapped f (Some b) = refl

module _ (old now : GraphView) (same : map stripped now.blocks ≡ map stripped old.blocks) where
  pub after_same : (id : ℕ) → block_id_after id now.blocks ≡ block_id_after id old.blocks
  after_same id = sym (after_stripped id now.blocks) ∙ ap (block_id_after id) same ∙ after_stripped id old.blocks

  found_same : (id : ℕ) → option_map stripped (block_of now id) ≡ option_map stripped (block_of old id)
  found_same id = found_stripped id now.blocks ∙ ap (find (is_block id)) same ∙ sym (found_stripped id old.blocks)

  pub live_same : (id : ℕ) → is_live_block now id ≡ is_live_block old id
  live_same id = sym (some_mapped stripped (block_of now id)) ∙ ap is_some (found_same id) ∙ some_mapped stripped (block_of old id)

  -- the block of an id is the one that was there, but for its ops
  pub label_same : (id : ℕ) (x y : Block) → block_of now id ≡ Some x → block_of old id ≡ Some y → x.label ≡ y.label
  label_same id x y e f =
      let s : Some (stripped x) ≡ Some (stripped y) = sym (ap (option_map stripped) e) ∙ found_same id ∙ ap (option_map stripped) f in
      let t : stripped x ≡ stripped y = some_is (stripped x) (stripped y) s in
      ap (λ (b : Block). b.label) t

find_deleted : (o id : ℕ) (bs : List Block) → find (is_block id) (map (delete_in o) bs) ≡ option_map (delete_in o) (find (is_block id) bs)
find_deleted o id [] = refl
find_deleted o id (b ∷ bs) = by_test (b.id == id) (find_deleted o id bs)
  where
    by_test :
        (t : Bool) → find (is_block id) (map (delete_in o) bs) ≡ option_map (delete_in o) (find (is_block id) bs) →
        cond t (Some (delete_in o b)) (find (is_block id) (map (delete_in o) bs)) ≡ option_map (delete_in o) (cond t (Some b) (find (is_block id) bs))
    by_test true i = refl
    by_test false i = i

-- ---- the ops of a block that are left, and those behind them

pub record InBlock (g : GraphView) (outs : Place → ℕ → Bool) (id : ℕ) (ids : List ℕ) (live : ℕ) : Type 0 where
  pub block : Block
  pub is : block_of g id ≡ Some block
  pub before : List Node
  pub behind : List Node
  pub ops : block.ops ≡ before ++ behind
  pub ids_are : node_ids before ≡ ids
  pub bits : HasBits live (live_over_ops behind (end_live outs block))
  pub stays : HaveToStay g outs block behind

-- the op that is next
pub record NextOp (g : GraphView) (outs : Place → ℕ → Bool) (id : ℕ) (ids : List ℕ) (o live : ℕ) : Type 0 where
  pub block : Block
  pub is : block_of g id ≡ Some block
  pub among : Has g.blocks block
  pub before : List Node
  pub node : Node
  pub behind : List Node
  pub ops : block.ops ≡ before ++ node ∷ behind
  pub ids_are : node_ids before ≡ ids
  pub id_is : node.id ≡ o
  pub bits : HasBits live (live_over_ops behind (end_live outs block))
  pub stays : HaveToStay g outs block behind
  pub with_it : block_with g o ≡ Some block
  pub in_it : node_in o block ≡ Some node
  pub op_is : op_of g o ≡ Some node.op
  pub apart : Apart (node_ids (before ++ node ∷ behind))

pub next_op : (g : GraphView) → IsGraph g → (outs : Place → ℕ → Bool) (id : ℕ) (ids : List ℕ) (o live : ℕ) → InBlock g outs id (ids ++ o ∷ []) live → NextOp g outs id ids o live
next_op g graph outs id ids o live i = record {
  block = i.block;
  is = i.is;
  among = among;
  before = k.0;
  node = k.1;
  behind = i.behind;
  ops = ops;
  ids_are = k.3;
  id_is = k.4;
  bits = i.bits;
  stays = i.stays;
  with_it = with_it;
  in_it = in_it;
  op_is = ap (λ (x : Option Block). option_map (λ (m : Node). m.op) (option_and_then (node_in o) x)) with_it ∙ ap (option_map (λ (m : Node). m.op)) in_it;
  apart = apart;
}
  where
    k : (bs : List Node) × (n : Node) × (i.before ≡ bs ++ n ∷ []) × (node_ids bs ≡ ids) × (n.id ≡ o)
    k = last_id i.before ids o i.ids_are

    ops : i.block.ops ≡ k.0 ++ k.1 ∷ i.behind
    ops = i.ops ∙ ap (λ (l : List Node). l ++ i.behind) k.2 ∙ assoc k.0 (k.1 ∷ []) i.behind

    among : Has g.blocks i.block
    among = found_block g.blocks id i.block i.is

    apart : Apart (node_ids (k.0 ++ k.1 ∷ i.behind))
    apart = subst (λ (l : List Node). Apart (node_ids l)) ops (apart_in g.blocks i.block graph.op_ids among)

    own : node_in (k.1).id i.block ≡ Some k.1
    own = ap (find (is_node (k.1).id)) ops ∙ find_op k.0 k.1 i.behind apart

    in_it : node_in o i.block ≡ Some k.1
    in_it = subst (λ (j : ℕ). node_in j i.block ≡ Some k.1) k.4 own

    with_it : block_with g o ≡ Some i.block
    with_it =
        subst (λ (j : ℕ). block_with g j ≡ Some i.block) k.4
        (find_with g.blocks i.block k.1 graph.op_ids among own (subst (λ (l : List Node). Has (node_ids l) (k.1).id) (sym ops) (has_node k.0 k.1 i.behind)))

-- it stays
pub op_kept :
    (g : GraphView) (outs : Place → ℕ → Bool) (id : ℕ) (ids : List ℕ) (o live new : ℕ) (n : NextOp g outs id ids o live) →
    HasBits new (live_over (n.node.op).kind (live_over_ops n.behind (end_live outs n.block))) →
    HasToStay g n.node.op (live_over_ops n.behind (end_live outs n.block)) → InBlock g outs id ids new
op_kept g outs id ids o live new n bits stay = record {
  block = n.block;
  is = n.is;
  before = n.before;
  behind = n.node ∷ n.behind;
  ops = n.ops;
  ids_are = n.ids_are;
  bits = bits;
  stays = stays;
}
  where
    stays : HaveToStay g outs n.block (n.node ∷ n.behind)
    stays xs m ys e = by_case (split_more n.node n.behind xs m ys e)
      where
        by_case : ((n.node ≡ m) × (n.behind ≡ ys)) ⊎ ((zs : List Node) × (n.behind ≡ zs ++ m ∷ ys)) → HasToStay g m.op (live_over_ops ys (end_live outs n.block))
        by_case (inl k) =
            subst (λ (x : Node). HasToStay g x.op (live_over_ops ys (end_live outs n.block))) k.0
            (subst (λ (l : List Node). HasToStay g n.node.op (live_over_ops l (end_live outs n.block))) k.1 stay)
        by_case (inr k) = n.stays k.0 m ys k.1

-- it goes
pub op_gone :
    (g : GraphView) (outs : Place → ℕ → Bool) (id : ℕ) (ids : List ℕ) (o live : ℕ) → NextOp g outs id ids o live → InBlock (deleted g o) outs id ids live
op_gone g outs id ids o live n = record {
  block = delete_in o n.block;
  is = find_deleted o id g.blocks ∙ ap (option_map (delete_in o)) n.is;
  before = n.before;
  behind = n.behind;
  ops = ops;
  ids_are = n.ids_are;
  bits = n.bits;
  stays = λ xs m ys e. record { last = (n.stays xs m ys e).last };
}
  where
    ops : filter (λ (m : Node). not (is_node o m)) (n.block).ops ≡ n.before ++ n.behind
    ops =
        ap (filter (λ (m : Node). not (is_node o m))) n.ops
        ∙ subst (λ (j : ℕ). filter (λ (m : Node). not (is_node j m)) (n.before ++ n.node ∷ n.behind) ≡ n.before ++ n.behind) n.id_is (without n.before n.node n.behind n.apart)

-- ---- one deletion more

module _ (masks outs : Place → ℕ → Bool) (old g : GraphView) (changed : Bool) (s : IsSwept masks outs old g changed) (id : ℕ) (ids : List ℕ) (o live : ℕ)
    (n : NextOp g outs id ids o live) (may : MayGo g n.node.op (live_over_ops n.behind (end_live outs n.block))) (numbered : AreNumbered g) where
  abbrev b : Block
  b = n.block

  abbrev w : Word
  w = op_word (ops_of b) n.node.op

  abbrev ws : List Word
  ws = words_from (ops_of b) n.behind b.last

  has_ops : (m : Node) → Has b.ops m → Has (ops_of b) m.op
  has_ops m h = to_map (λ (x : Node). x.op) b.ops m h

  has_word : (m : Node) → Has b.ops m → Has (block_words b) (op_word (ops_of b) m.op)
  has_word m h = append_left (map (op_word (ops_of b)) (ops_of b)) (last_words b.last) (op_word (ops_of b) m.op) (to_map (op_word (ops_of b)) (ops_of b) m.op (has_ops m h))

  all_in : (xs : List Node) (m : Node) → Has (n.node ∷ n.behind) m → Has (xs ++ n.node ∷ n.behind) m
  all_in [] m h = h
  all_in (x ∷ xs) m h = inr (all_in xs m h)

  in_ops : (m : Node) → Has (n.node ∷ n.behind) m → Has b.ops m
  in_ops m h = subst (λ (l : List Node). Has l m) (sym n.ops) (all_in n.before m h)

  module _ (p : ProgramView) (prog : IsProgram p) (start : MayGoOn p old) where
    f : IsSweptFor p masks outs old g
    f = s.each p prog start

    m : MayGoOn p g
    m = going f.deletions.rewrites.goes_on

    right : (x : Node) → Has n.behind x → op_act (ops_of b) x.op.kind ≡ act.Wrong → ⊥
    right x h e = (has_flow p prog g m.graph).right.none b (op_word (ops_of b) x.op) n.among (has_word x (in_ops x (inr h))) e

    stands : (bf : List Word) × (rev_onto bf (w ∷ ws) ≡ block_words b)
    stands = stands_at b n.before n.node n.behind n.ops

    dead : (r : ℕ) → Among (act_writes w.act) r → (r ≡ 31) ⊎ ((r < 31) × (live_in ws (outs_of g masks b.label) r ≡ false))
    dead r h = by_case (may.dead r (subst (λ (l : List ℕ). Among l r) (address_writes (ops_of b) (n.node.op).kind may.address) h))
      where
        by_case : (r ≡ 31) ⊎ ((r < 31) × (live_over_ops n.behind (end_live outs b) r ≡ false)) → (r ≡ 31) ⊎ ((r < 31) × (live_in ws (outs_of g masks b.label) r ≡ false))
        by_case (inl e) = inl e
        by_case (inr e) = inr (
          e.0,
          live_less ws (outs b.label) (outs_of g masks b.label) r (λ t. f.fewer b r n.among e.0 t)
              (ops_live (ops_of b) n.behind b.last (outs b.label) r (m.graph.form.lasts b n.among) right ∙ e.1),
        )

    is_op : IsOp g o b n.node
    is_op = record { block = n.with_it; node = n.in_it }

    address : is_address w.act ≡ true
    address = address_word (ops_of b) (n.node.op).kind may.address

    behind_it : IsFollowed p (n.node.op).place
    behind_it = followed p prog g m.graph b w n.among (has_word n.node (in_ops n.node (inl refl))) may.stays

    no_half : NamesNoHalf b n.node
    no_half = unnamed p prog g m.graph b n.node stands.0 ws (outs_of g masks b.label) n.among (has_ops n.node (in_ops n.node (inl refl))) stands.1 dead

    step : Deletion p g (deleted g o)
    step = dead_step p prog g m o b n.node is_op address behind_it no_half masks (outs_of g masks) f.checked (are_outs g m.graph.graph.blocks masks) stands.0 ws stands.1 dead

    then : IsGraphOf p (deleted g o)
    then = step.rewrite.goes_on.graph

    still : FitsStill p old (deleted g o)
    still gp table fit = delete_fits p gp table prog g m.graph (f.fits gp table fit) o b n.node is_op address no_half then

    fewer : (c : Block) (r : ℕ) → Has (deleted g o).blocks c → r < 31 → outs_of (deleted g o) masks c.label r ≡ true → outs c.label r ≡ true
    fewer c r h l e =
        let k = of_map (delete_in o) g.blocks c h in
        let q : (k.0).label ≡ c.label = ap (λ (x : Block). x.label) k.2 in
        let t = outs_after p prog g m o b n.node is_op address behind_it no_half masks (outs_of g masks) f.checked (are_outs g m.graph.graph.blocks masks) stands.0 ws stands.1 dead (outs_of (deleted g o) masks)
        (are_outs (deleted g o) then.graph.blocks masks) c r h l e in
        subst (λ (q : Place). outs q r ≡ true) q (f.fewer k.0 r k.1 l (subst (λ (q : Place). outs_of g masks q r ≡ true) (sym q) t))

    swept_for : IsSweptFor p masks outs old (deleted g o)
    swept_for = record {
      deletions = more_deleted p old g (deleted g o) f.deletions step;
      fits = still;
      checked = masks_after p prog g m o b n.node is_op address behind_it no_half masks (outs_of g masks) f.checked (are_outs g m.graph.graph.blocks masks) stands.0 ws stands.1 dead;
      fewer = fewer;
    }

    lighter : weight (deleted g o) < weight old
    lighter =
        let l = f.deletions.rewrites.no_heavier in
        let k = step.rewrite.lighter in
        omega (arith, l, k)

  pub one_more : IsSwept masks outs old (deleted g o) true
  one_more = record {
    program = s.program;
    each = swept_for;
    same = λ e. absurd (true≢false e);
    lighter = λ e. lighter s.program.program s.program.valid s.program.may_go_on;
    near = λ k near. deleted_near g k o (graph_of g (now_of masks outs old g changed s)) numbered (ap is_some n.with_it) (s.near k near);
    blocks = stripped_deleted o g.blocks ∙ s.blocks;
  }

-- ---- the sweep of a block

pub record AtWord (from g : GraphView) (id out : ℕ) (deleted : Bool) (ids : List ℕ) (live : ℕ) : Type 0 where
  pub same : deleted ≡ false → g ≡ from
  pub swept :
      (masks outs : Place → ℕ → Bool) (old : GraphView) (changed : Bool) → IsSwept masks outs old from changed →
      IsOutOf outs from id out → IsSwept masks outs old g (deleted || changed) × InBlock g outs id ids live

pub begins :
    (from : GraphView) (id out live : ℕ) (ids : List ℕ) (x : Block) → block_of from id ≡ Some x → AreOpsOf from id ids →
    ((set : ℕ → Bool) → HasBits out set → HasBits live (live_over_last x.last set)) → AtWord from from id out false ids live
begins from id out live ids x e ops front = record {
  same = λ q. refl;
  swept = λ masks outs old changed s is. (
    s,
    record {
      block = x;
      is = e;
      before = x.ops;
      behind = [];
      ops = sym (no_more x.ops);
      ids_are = sym (ops x e);
      bits = front (outs x.label) (is x e);
      stays = λ xs m ys q. absurd (nothing xs m ys q);
    },
  );
}
  where
    no_more : (ns : List Node) → ns ++ [] ≡ ns
    no_more [] = refl
    no_more (y ∷ ns) = ap (λ (l : List Node). y ∷ l) (no_more ns)

    nothing : (xs : List Node) (m : Node) (ys : List Node) → [] ≡ xs ++ m ∷ ys → ⊥
    nothing [] m ys q = cc
    nothing (y ∷ xs) m ys q = cc

-- what a sweep that has begun gives
pub now_at : (from g : GraphView) (id out live : ℕ) (deleted : Bool) (ids : List ℕ) → IsSweeping from id out → AtWord from g id out deleted ids live → IsOfAProgram g
now_at from g id out live deleted ids k a = now_of k.masks k.outs k.old g (deleted || k.changed) (a.swept k.masks k.outs k.old k.changed k.swept k.is_out).0

pub in_block : (from g : GraphView) (id out live : ℕ) (deleted : Bool) (ids : List ℕ) (k : IsSweeping from id out) → AtWord from g id out deleted ids live → InBlock g k.outs id ids live
in_block from g id out live deleted ids k a = (a.swept k.masks k.outs k.old k.changed k.swept k.is_out).1

pub op_more :
    (from g h : GraphView) (id out live : ℕ) (deleted_so : Bool) (ids : List ℕ) (o : ℕ) (x : Op) (r : SweptOp) → IsOfAProgram g → AtWord from g id out deleted_so (ids ++ o ∷ []) live →
    op_of g o ≡ Some x → IsSweptOp g h o x live r → AtWord from h id out (r.deleted || deleted_so) ids r.live
op_more from g h id out live so ids o x r program a e is = by_case r.deleted refl
  where
    graph : IsGraph g
    graph = graph_of g program

    by_case : (t : Bool) → r.deleted ≡ t → AtWord from h id out (t || so) ids r.live
    by_case true q = record { same = λ z. absurd (true≢false z); swept = swept }
      where
        swept : (masks outs : Place → ℕ → Bool) (old : GraphView) (changed : Bool) → IsSwept masks outs old from changed → IsOutOf outs from id out → IsSwept masks outs old h true × InBlock h outs id ids r.live
        swept masks outs old changed s are =
            let k = a.swept masks outs old changed s are in
            let n = next_op g graph outs id ids o live k.1 in
            let same : n.node.op ≡ x = some_is n.node.op x (sym n.op_is ∙ e) in
            let may = subst (λ (y : Op). MayGo g y (live_over_ops n.behind (end_live outs n.block))) (sym same) (is.may q _ n.bits) in (
              subst (λ (y : GraphView). IsSwept masks outs old y true) (sym (is.gone q)) (one_more masks outs old g (so || changed) k.0 id ids o live n may is.numbered),
              subst (λ (y : GraphView). InBlock y outs id ids r.live) (sym (is.gone q)) (subst (λ (l : ℕ). InBlock (deleted g o) outs id ids l) (sym (is.same q)) (op_gone g outs id ids o live n)),
            )
    by_case false q = record { same = λ z. is.kept q ∙ a.same z; swept = swept }
      where
        swept : (masks outs : Place → ℕ → Bool) (old : GraphView) (changed : Bool) → IsSwept masks outs old from changed → IsOutOf outs from id out → IsSwept masks outs old h (so || changed) × InBlock h outs id ids r.live
        swept masks outs old changed s are =
            let k = a.swept masks outs old changed s are in
            let n = next_op g graph outs id ids o live k.1 in
            let same : n.node.op ≡ x = some_is n.node.op x (sym n.op_is ∙ e) in
            let told = subst (λ (y : Op). HasBits r.live (live_over y.kind (live_over_ops n.behind (end_live outs n.block)))) (sym same) (is.told q _ n.bits) in
            let stay = subst (λ (y : Op). HasToStay g y (live_over_ops n.behind (end_live outs n.block))) (sym same) (is.stays q _ n.bits) in (
              subst (λ (y : GraphView). IsSwept masks outs old y (so || changed)) (sym (is.kept q)) k.0,
              subst (λ (y : GraphView). InBlock y outs id ids r.live) (sym (is.kept q)) (op_kept g outs id ids o live r.live n told stay),
            )

pub op_live : (from g : GraphView) (id out live : ℕ) (deleted : Bool) (ids : List ℕ) (o : ℕ) → IsSweeping from id out → AtWord from g id out deleted (ids ++ o ∷ []) live → is_live_op g o ≡ true
op_live from g id out live deleted ids o k a =
    let n = next_op g (graph_of g (now_at from g id out live deleted (ids ++ o ∷ []) k a)) k.outs id ids o live (in_block from g id out live deleted (ids ++ o ∷ []) k a) in
    ap is_some n.with_it

pub any_more :
    (from g h : GraphView) (id out live : ℕ) (so : Bool) (ids : List ℕ) (o : ℕ) (r : SweptOp) → IsSweeping from id out → AtWord from g id out so (ids ++ o ∷ []) live →
    ((x : Op) → op_of g o ≡ Some x → IsSweptOp g h o x live r) → AtWord from h id out (so || r.deleted) ids r.live
any_more from g h id out live so ids o r k a is =
    let program = now_at from g id out live so (ids ++ o ∷ []) k a in
    let n = next_op g (graph_of g program) k.outs id ids o live (in_block from g id out live so (ids ++ o ∷ []) k a) in
    subst (λ (t : Bool). AtWord from h id out t ids r.live) (or_turned r.deleted so)
    (op_more from g h id out live so ids o n.node.op r program a n.op_is (is n.node.op n.op_is))

pub ends : (from g : GraphView) (id out live : ℕ) (deleted : Bool) → AtWord from g id out deleted [] live → IsSweptBlock from g id out deleted
ends from g id out live deleted a = record {
  same = a.same;
  swept = λ masks outs old changed s is. (a.swept masks outs old changed s is).0;
  stays = stays;
}
  where
    stays :
        deleted ≡ false → (masks outs : Place → ℕ → Bool) (old : GraphView) (changed : Bool) → IsSwept masks outs old from changed → IsOutOf outs from id out →
        (x : Block) → block_of from id ≡ Some x → HaveToStay from outs x x.ops
    stays q masks outs old changed s is x e xs m ys k =
        let i = (a.swept masks outs old changed s is).1 in
        let here : block_of g id ≡ Some x = ap (λ (y : GraphView). block_of y id) (a.same q) ∙ e in
        let same : i.block ≡ x = some_is i.block x (sym i.is ∙ here) in
        let behind : i.behind ≡ x.ops = sym (i.ops ∙ ap (λ (l : List Node). l ++ i.behind) (none_of i.before i.ids_are)) ∙ ap (λ (y : Block). y.ops) same in
        let t = i.stays xs m ys (behind ∙ k) in
        subst (λ (y : GraphView). HasToStay y m.op (live_over_ops ys (end_live outs x))) (a.same q)
        (subst (λ (y : Block). HasToStay g m.op (live_over_ops ys (end_live outs y))) same t)

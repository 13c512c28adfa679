-- The walk over the ops of a block, with their ids, whatever is made on the way.
use Rattle.std.proofs.Common.{◌≡◌, ℕ, suc, ◌+◌, ◌<◌, ◌≤◌, List, [], ◌∷◌, ◌++◌, length, set, Option, Some, None, IfSome, IsTrue, true, refl, ap, sym, subst, ◌∙◌, arith}
use Rattle.std.specs.Prelude.{find, option_map, option_and_then}
use Rattle.std.proofs.lemmas.List.{length-append, length-set}
use Rattle.om_value.specs.declared.value.Target.{Target}
use Rattle.om_graph.specs.declared.op.Op.{Op}
use Rattle.om_graph.specs.declared.op.OpKind.{OpKind}
use Rattle.om_graph.specs.View.{Node, Block, GraphView, Has, is_node, node_in, block_of, block_with, op_of, next_op_of, first_op_of, first_id, id_after, is_live_block, is_live_op}
use Rattle.om_graph.specs.Held.{IsGraph, Apart, node_ids}
use Rattle.om_blocks.proofs.Walking.{assoc, no_more, ops_from, ops_in, has_node, find_op, op_after, left_ops, left_all, find_with, apart_in, found_block, a_some, none_left}
use Rattle.om_uses.specs.declared.tables.OpUses.{OpUses}
use Rattle.om_uses.specs.declared.tables.Load.{Load}
use Rattle.om_uses.specs.Parts.{AreWithin, load_of, loads_of, next_or, uses_of}
use Rattle.om_uses.specs.Tables.{AreCounted, linked, stored}

abbrev pub nodes_left : GraphView → ℕ → Option ℕ → ℕ
nodes_left g id next = length (ops_from next (ops_in (block_of g id)))

-- a walk over the ops of a block has come to one, and this holds of those before and of that one with those behind
pub record OnNodes (g : GraphView) (id : ℕ) (next : Option ℕ) (Made : List Node → List Node → Type 0) : Type 0 where
  pub block : Block
  pub is : block_of g id ≡ Some block
  pub done : List Node
  pub left : List Node
  pub all : block.ops ≡ done ++ left
  pub at : next ≡ first_id left
  pub live : IfSome next (λ o. IsTrue (is_live_op g o))
  pub made : Made done left

some_is : {A : Type 0} (x y : A) → Some x ≡ Some y → x ≡ y
some_is x y e = cc

module _ (g : GraphView) (graph : IsGraph g) where
  pub nodes_begin :
      (id : ℕ) (next : Option ℕ) (Made : List Node → List Node → Type 0) → is_live_block g id ≡ true → next ≡ first_op_of g id → IfSome next (λ o. IsTrue (is_live_op g o)) →
      ((b : Block) → block_of g id ≡ Some b → Made [] b.ops) → OnNodes g id next Made
  nodes_begin id next Made l e live made =
      let b = a_some (block_of g id) l in
      record {
        block = b.0;
        is = b.1;
        done = [];
        left = b.0.ops;
        all = refl;
        at = e ∙ ap (option_and_then (λ (x : Block). first_id x.ops)) b.1;
        live = live;
        made = made b.0 b.1;
      }

  -- the op that is next, and what the graph says of it
  record NextNode (id o : ℕ) (Made : List Node → List Node → Type 0) (on : OnNodes g id (Some o) Made) : Type 0 where
    node : Node
    rest : List Node
    left : on.left ≡ node ∷ rest
    id_is : node.id ≡ o
    op : op_of g o ≡ Some node.op
    after : next_op_of g o ≡ first_id rest
    before_it : nodes_left g id (Some o) ≡ suc (length rest)
    behind_it : nodes_left g id (first_id rest) ≡ length rest

  next_node : (id o : ℕ) (Made : List Node → List Node → Type 0) (on : OnNodes g id (Some o) Made) → NextNode id o Made on
  next_node id o Made on = by_left on.left refl on.at
    where
      among : Has g.blocks on.block
      among = found_block g.blocks id on.block on.is

      by_left : (left : List Node) → on.left ≡ left → Some o ≡ first_id left → NextNode id o Made on
      by_left [] e f = cc
      by_left (n ∷ rest) e f = record {
        node = n;
        rest = rest;
        left = e;
        id_is = same;
        op = subst (λ k. op_of g k ≡ Some n.op) same (ap (λ (x : Option Block). option_map (λ (m : Node). m.op) (option_and_then (node_in n.id) x)) with_it ∙ ap (option_map (λ (m : Node). m.op)) in_it);
        after = subst (λ k. next_op_of g k ≡ first_id rest) same (ap (option_and_then (λ (x : Block). id_after n.id x.ops)) with_it ∙ ap (id_after n.id) ops ∙ op_after on.done n rest apart);
        before_it = ap (λ k. nodes_left g id (Some k)) (sym same) ∙ ap (λ (x : Option Block). length (ops_from (Some n.id) (ops_in x))) on.is ∙ ap (λ l. length (ops_from (Some n.id) l)) ops ∙ ap (λ l. length l) (left_ops on.done n rest apart);
        behind_it = ap (λ (x : Option Block). length (ops_from (first_id rest) (ops_in x))) on.is ∙ ap (λ l. length (ops_from (first_id rest) l)) (ops ∙ sym (assoc on.done (n ∷ []) rest)) ∙ left_all (on.done ++ n ∷ []) rest (subst (λ l. Apart (node_ids l)) (sym (assoc on.done (n ∷ []) rest)) apart);
      }
        where
          same : n.id ≡ o
          same = sym (some_is o n.id f)

          ops : on.block.ops ≡ on.done ++ n ∷ rest
          ops = on.all ∙ ap (λ l. on.done ++ l) e

          apart : Apart (node_ids (on.done ++ n ∷ rest))
          apart = subst (λ l. Apart (node_ids l)) ops (apart_in g.blocks on.block graph.op_ids among)

          in_it : find (is_node n.id) on.block.ops ≡ Some n
          in_it = ap (find (is_node n.id)) ops ∙ find_op on.done n rest apart

          with_it : block_with g n.id ≡ Some on.block
          with_it = find_with g.blocks on.block n graph.op_ids among in_it (subst (λ l. Has (node_ids l) n.id) (sym ops) (has_node on.done n rest))

  -- the op that is next stands first among those that are left
  pub nodes_here :
      (id o : ℕ) (op : Op) (Made : List Node → List Node → Type 0) → OnNodes g id (Some o) Made → op_of g o ≡ Some op →
      (done : List Node) × (n : Node) × (rest : List Node) × (n.op ≡ op) × Made done (n ∷ rest)
  nodes_here id o op Made on e =
      let it = next_node id o Made on in
      (on.done, it.node, it.rest, some_is it.node.op op (sym it.op ∙ e), subst (λ (l : List Node). Made on.done l) it.left on.made)

  -- what is made of those before, with the next op
  pub nodes_more :
      (id o : ℕ) (next : Option ℕ) (op : Op) (Made More : List Node → List Node → Type 0) → OnNodes g id (Some o) Made → op_of g o ≡ Some op →
      next ≡ next_op_of g o → IfSome next (λ n. IsTrue (is_live_op g n)) →
      ((done rest : List Node) (n : Node) → n.id ≡ o → n.op ≡ op → next ≡ first_id rest → Made done (n ∷ rest) → More (done ++ n ∷ []) rest) →
      OnNodes g id next More
  nodes_more id o next op Made More on e n live more =
      let it = next_node id o Made on in
      record {
        block = on.block;
        is = on.is;
        done = on.done ++ it.node ∷ [];
        left = it.rest;
        all = on.all ∙ ap (λ l. on.done ++ l) it.left ∙ sym (assoc on.done (it.node ∷ []) it.rest);
        at = n ∙ it.after;
        live = live;
        made = more on.done it.rest it.node it.id_is (some_is it.node.op op (sym it.op ∙ e)) (n ∙ it.after) (subst (λ (l : List Node). Made on.done l) it.left on.made);
      }

  pub nodes_fewer : (id o : ℕ) (next : Option ℕ) (Made : List Node → List Node → Type 0) → OnNodes g id (Some o) Made → next ≡ next_op_of g o → nodes_left g id next < nodes_left g id (Some o)
  nodes_fewer id o next Made on n =
      let it = next_node id o Made on in
      let a = ap (nodes_left g id) (n ∙ it.after) in
      let b = it.before_it in
      let c = it.behind_it in
      omega (arith, a, b, c)

  pub nodes_end : (id : ℕ) (Made : List Node → List Node → Type 0) → OnNodes g id None Made → (x : Block) → block_of g id ≡ Some x → Made x.ops []
  nodes_end id Made on x f =
      let same : on.block ≡ x = some_is on.block x (sym on.is ∙ f) in
      let none : on.left ≡ [] = none_left on.left on.at in
      let all : on.done ≡ x.ops = sym (on.all ∙ ap (λ l. on.done ++ l) none ∙ no_more on.done) ∙ ap (λ (b : Block). b.ops) same in
      subst (λ (l : List Node). Made l []) all (subst (λ (l : List Node). Made on.done l) none on.made)

-- ---- counted ops

loads_both : (xs ys : List Node) → loads_of (xs ++ ys) ≡ loads_of xs ++ loads_of ys
loads_both [] ys = refl
loads_both (x ∷ xs) ys = ap (λ l. load_of x.op.kind ++ l) (loads_both xs ys) ∙ sym (assoc (load_of x.op.kind) (loads_of xs) (loads_of ys))

-- room for those before is made, and their loads are counted
abbrev pub IsCounted : List OpUses → ℕ → List Node → List Node → Type 0
IsCounted ops count done left = AreCounted (length ops) count done

within_more : (m : ℕ) (ns : List Node) (n : Node) → AreWithin m ns → n.id < m → AreWithin m (ns ++ n ∷ [])
within_more m [] n w h = (h, tt)
within_more m (x ∷ ns) n w h = (w.0, within_more m ns n w.1 h)

pub within_longer : (m n : ℕ) (ns : List Node) → m ≤ n → AreWithin m ns → AreWithin n ns
within_longer m n [] le w = tt
within_longer m n (o ∷ ns) le w = (omega (arith, w.0, le), within_longer m n ns le w.1)

pub counted_none : (m : ℕ) → AreCounted m 0 []
counted_none m = record { within = tt; loads = refl }

pub counted_more : (m k count more : ℕ) (ns : List Node) (n : Node) (o : ℕ) (kind : OpKind) → m ≤ k → o < k → more ≡ count + length (load_of kind) → n.id ≡ o → n.op.kind ≡ kind → AreCounted m count ns → AreCounted k more (ns ++ n ∷ [])
counted_more m k count more ns n o kind le h e i s c = record {
  within = within_more k ns n (within_longer m k ns le c.within) (subst (λ (x : ℕ). x < k) (sym i) h);
  loads =
      let here : length (load_of kind) ≡ length (loads_of (n ∷ [])) = ap (λ (x : OpKind). length (load_of x)) (sym s) ∙ ap length (sym (no_more (load_of n.op.kind))) in
      let all : length (loads_of (ns ++ n ∷ [])) ≡ length (loads_of ns) + length (loads_of (n ∷ [])) = ap length (loads_both ns (n ∷ [])) ∙ length-append (loads_of ns) (loads_of (n ∷ [])) in
      omega (arith, e, c.loads, here, all);
}

-- ---- noted ops

-- with those left all of the block are noted
pub record IsNoted (g : GraphView) (id start at : ℕ) (ops old_ops : List OpUses) (loads old_loads : List Load) (left : List Node) : Type 0 where
  pub ops_are : (b : Block) → block_of g id ≡ Some b → linked id left ops ≡ linked id b.ops old_ops
  pub loads_are : (b : Block) → block_of g id ≡ Some b → stored at id (loads_of left) loads ≡ stored start id (loads_of b.ops) old_loads
  pub room : at + length (loads_of left) ≤ length loads
  pub end : (b : Block) → block_of g id ≡ Some b → at + length (loads_of left) ≡ start + length (loads_of b.ops)

pub noted_none :
    (g : GraphView) (id start : ℕ) (ops : List OpUses) (loads : List Load) (b : Block) → block_of g id ≡ Some b → start + length (loads_of b.ops) ≤ length loads →
    IsNoted g id start start ops ops loads loads b.ops
noted_none g id start ops loads b is room = record {
  ops_are = λ x e. ap (λ (y : Block). linked id y.ops ops) (some_is b x (sym is ∙ e));
  loads_are = λ x e. ap (λ (y : Block). stored start id (loads_of y.ops) loads) (some_is b x (sym is ∙ e));
  room = room;
  end = λ x e. ap (λ (y : Block). start + length (loads_of y.ops)) (some_is b x (sym is ∙ e));
}

pub noted_room :
    (g : GraphView) (id start at : ℕ) (ops old_ops : List OpUses) (loads old_loads : List Load) (n : Node) (rest : List Node) (kind : OpKind) → n.op.kind ≡ kind →
    IsNoted g id start at ops old_ops loads old_loads (n ∷ rest) → at + length (load_of kind) ≤ length loads
noted_room g id start at ops old_ops loads old_loads n rest kind e noted =
    let all : length (loads_of (n ∷ rest)) ≡ length (load_of kind) + length (loads_of rest) =
    length-append (load_of n.op.kind) (loads_of rest) ∙ ap (λ (k : OpKind). length (load_of k) + length (loads_of rest)) e in
    let room = noted.room in
    omega (arith, all, room)

pub stored_length : (at i : ℕ) (ts : List Target) (loads : List Load) → length (stored at i ts loads) ≡ length loads
stored_length at i [] loads = refl
stored_length at i (t ∷ ts) loads = stored_length (at + 1) i ts (set loads at (record { target = t; block = i })) ∙ length-set loads at (record { target = t; block = i })

stored_both : (at i : ℕ) (ts us : List Target) (loads : List Load) → stored at i (ts ++ us) loads ≡ stored (at + length ts) i us (stored at i ts loads)
stored_both at i [] us loads = let e : at ≡ at + 0 = omega arith in ap (λ (k : ℕ). stored k i us loads) e
stored_both at i (t ∷ ts) us loads =
    let e : (at + 1) + length ts ≡ at + length (t ∷ ts) = omega arith in
    stored_both (at + 1) i ts us (set loads at (record { target = t; block = i }))
    ∙ ap (λ (k : ℕ). stored k i us (stored (at + 1) i ts (set loads at (record { target = t; block = i })))) e

pub noted_more :
    (g : GraphView) (id start at next_at o : ℕ) (next : Option ℕ) (kind : OpKind) (ops new_ops old_ops : List OpUses) (loads new_loads old_loads : List Load) (n : Node) (rest : List Node) →
    n.id ≡ o → n.op.kind ≡ kind → next ≡ first_id rest → new_ops ≡ set ops o (uses_of kind (next_or o next) id) →
    new_loads ≡ stored at id (load_of kind) loads → next_at ≡ at + length (load_of kind) →
    IsNoted g id start at ops old_ops loads old_loads (n ∷ rest) → IsNoted g id start next_at new_ops old_ops new_loads old_loads rest
noted_more g id start at next_at o next kind ops new_ops old_ops loads new_loads old_loads n rest i s e eo el ea noted = record {
  ops_are = λ b f. ap (linked id rest) same_ops ∙ noted.ops_are b f;
  loads_are = λ b f. same_loads ∙ noted.loads_are b f;
  room =
      let long : length new_loads ≡ length loads = ap length el ∙ stored_length at id (load_of kind) loads in
      let room = noted.room in
      omega (arith, long, room, all, ea);
  end = λ b f. let end = noted.end b f in omega (arith, end, all, ea);
}
  where
    all : length (loads_of (n ∷ rest)) ≡ length (load_of kind) + length (loads_of rest)
    all = length-append (load_of n.op.kind) (loads_of rest) ∙ ap (λ (k : OpKind). length (load_of k) + length (loads_of rest)) s

    same_ops : new_ops ≡ set ops n.id (uses_of n.op.kind (next_or n.id (first_id rest)) id)
    same_ops =
        eo ∙ ap (λ (x : Option ℕ). set ops o (uses_of kind (next_or o x) id)) e
        ∙ ap (λ (k : OpKind). set ops o (uses_of k (next_or o (first_id rest)) id)) (sym s)
        ∙ ap (λ (k : ℕ). set ops k (uses_of n.op.kind (next_or k (first_id rest)) id)) (sym i)

    same_loads : stored next_at id (loads_of rest) new_loads ≡ stored at id (loads_of (n ∷ rest)) loads
    same_loads =
        ap (λ (l : List Load). stored next_at id (loads_of rest) l) el
        ∙ ap (λ (k : ℕ). stored k id (loads_of rest) (stored at id (load_of kind) loads)) ea
        ∙ sym (stored_both at id (load_of kind) (loads_of rest) loads)
        ∙ ap (λ (k : OpKind). stored at id (load_of k ++ loads_of rest) loads) (sym s)

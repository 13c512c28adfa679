-- The walk over the ops of a block with their ids: what holds of each op so far.
use Rattle.std.proofs.Common.{◌≡◌, ◌⊎◌, inl, inr, ℕ, suc, ◌<◌, List, [], ◌∷◌, ◌++◌, length, Option, Some, None, IfSome, IsTrue, true, refl, ap, sym, subst, ◌∙◌, arith}
use Rattle.std.specs.Prelude.{find, option_map, option_and_then}
use Rattle.om_graph.specs.View.{Node, Block, GraphView, Has, is_node, node_in, block_of, block_with, op_of, next_op_of, first_op_of, first_id, id_after, is_live_block, is_live_op}
use Rattle.om_graph.specs.Held.{IsGraph, Apart, node_ids}
use Rattle.om_blocks.proofs.Walking.{assoc, no_more, has_mid, ops_from, ops_in, has_node, find_op, op_after, left_ops, left_all, find_with, apart_in, found_block, a_some, none_left}

abbrev pub nodes_left : GraphView → ℕ → Option ℕ → ℕ
nodes_left g id next = length (ops_from next (ops_in (block_of g id)))

-- a walk over the ops of a block has come to one, and this holds of those before
pub record OnNodes (P : Node → Type 0) (g : GraphView) (id : ℕ) (next : Option ℕ) : Type 0 where
  pub block : Block
  pub is : block_of g id ≡ Some block
  pub done : List Node
  pub left : List Node
  pub all : block.ops ≡ done ++ left
  pub at : next ≡ first_id left
  pub live : IfSome next (λ o. IsTrue (is_live_op g o))
  pub holds : (n : Node) → Has done n → P n

some_is : {A : Type 0} (x y : A) → Some x ≡ Some y → x ≡ y
some_is x y e = cc

one_more : (done : List Node) (x n : Node) → Has (done ++ x ∷ []) n → Has done n ⊎ (x ≡ n)
one_more [] x n (inl e) = inr e
one_more [] x n (inr h) = absurd h
one_more (c ∷ done) x n (inl e) = inl (inl e)
one_more (c ∷ done) x n (inr h) = elim (one_more done x n h) [ inl k ↦ inl (inr k) | inr e ↦ inr e ]

module _ (g : GraphView) (graph : IsGraph g) where
  -- what the graph says of an op of a block
  pub op_here : (x : Block) → Has g.blocks x → (done : List Node) (n : Node) (rest : List Node) → x.ops ≡ done ++ n ∷ rest → (op_of g n.id ≡ Some n.op) × (next_op_of g n.id ≡ first_id rest)
  op_here x h done n rest ops = (
    ap (λ (y : Option Block). option_map (λ (m : Node). m.op) (option_and_then (node_in n.id) y)) with_it ∙ ap (option_map (λ (m : Node). m.op)) in_it,
    ap (option_and_then (λ (y : Block). id_after n.id y.ops)) with_it ∙ ap (id_after n.id) ops ∙ op_after done n rest apart,
  )
    where
      apart : Apart (node_ids (done ++ n ∷ rest))
      apart = subst (λ l. Apart (node_ids l)) ops (apart_in g.blocks x graph.op_ids h)

      in_it : find (is_node n.id) x.ops ≡ Some n
      in_it = ap (find (is_node n.id)) ops ∙ find_op done n rest apart

      with_it : block_with g n.id ≡ Some x
      with_it = find_with g.blocks x n graph.op_ids h in_it (subst (λ l. Has (node_ids l) n.id) (sym ops) (has_node done n rest))

module _ (P : Node → Type 0) (g : GraphView) (graph : IsGraph g) where
  pub nodes_begin : (id : ℕ) (next : Option ℕ) → is_live_block g id ≡ true → next ≡ first_op_of g id → IfSome next (λ o. IsTrue (is_live_op g o)) → OnNodes P g id next
  nodes_begin id next l e live =
      let b = a_some (block_of g id) l in
      record {
        block = b.0;
        is = b.1;
        done = [];
        left = b.0.ops;
        all = refl;
        at = e ∙ ap (option_and_then (λ (x : Block). first_id x.ops)) b.1;
        live = live;
        holds = λ n h. absurd h;
      }

  -- the op that is next, and what the graph says of it
  pub record NextNode (id o : ℕ) (on : OnNodes P g id (Some o)) : Type 0 where
    pub node : Node
    pub rest : List Node
    pub left : on.left ≡ node ∷ rest
    pub id_is : node.id ≡ o
    pub among : Has on.block.ops node
    pub op : op_of g o ≡ Some node.op
    pub after : next_op_of g o ≡ first_id rest
    pub before_it : nodes_left g id (Some o) ≡ suc (length rest)
    pub behind_it : nodes_left g id (first_id rest) ≡ length rest

  pub next_node : (id o : ℕ) (on : OnNodes P g id (Some o)) → NextNode id o on
  next_node id o on = by_left on.left refl on.at
    where
      among : Has g.blocks on.block
      among = found_block g.blocks id on.block on.is

      by_left : (left : List Node) → on.left ≡ left → Some o ≡ first_id left → NextNode id o on
      by_left [] e f = cc
      by_left (n ∷ rest) e f = record {
        node = n;
        rest = rest;
        left = e;
        id_is = same;
        among = subst (λ (l : List Node). Has l n) (sym ops) (has_mid on.done n rest);
        op = subst (λ k. op_of g k ≡ Some n.op) same here.0;
        after = subst (λ k. next_op_of g k ≡ first_id rest) same here.1;
        before_it = ap (λ k. nodes_left g id (Some k)) (sym same) ∙ ap (λ (x : Option Block). length (ops_from (Some n.id) (ops_in x))) on.is ∙ ap (λ l. length (ops_from (Some n.id) l)) ops ∙ ap (λ l. length l) (left_ops on.done n rest apart);
        behind_it = ap (λ (x : Option Block). length (ops_from (first_id rest) (ops_in x))) on.is ∙ ap (λ l. length (ops_from (first_id rest) l)) (ops ∙ sym (assoc on.done (n ∷ []) rest)) ∙ left_all (on.done ++ n ∷ []) rest (subst (λ l. Apart (node_ids l)) (sym (assoc on.done (n ∷ []) rest)) apart);
      }
        where
          same : n.id ≡ o
          same = sym (some_is o n.id f)

          ops : on.block.ops ≡ on.done ++ n ∷ rest
          ops = on.all ∙ ap (λ l. on.done ++ l) e

          apart : Apart (node_ids (on.done ++ n ∷ rest))
          apart = subst (λ l. Apart (node_ids l)) ops (apart_in g.blocks on.block graph.op_ids among)

          here : (op_of g n.id ≡ Some n.op) × (next_op_of g n.id ≡ first_id rest)
          here = op_here g graph on.block among on.done n rest ops

  pub nodes_more :
      (id o : ℕ) (next : Option ℕ) (on : OnNodes P g id (Some o)) →
      ((n : Node) → n.id ≡ o → op_of g o ≡ Some n.op → P n) →
      next ≡ next_op_of g o → IfSome next (λ n. IsTrue (is_live_op g n)) → OnNodes P g id next
  nodes_more id o next on holds n live =
      let it = next_node id o on in
      record {
        block = on.block;
        is = on.is;
        done = on.done ++ it.node ∷ [];
        left = it.rest;
        all = on.all ∙ ap (λ l. on.done ++ l) it.left ∙ sym (assoc on.done (it.node ∷ []) it.rest);
        at = n ∙ it.after;
        live = live;
        holds = λ m h. elim (one_more on.done it.node m h) [ inl k ↦ on.holds m k | inr e ↦ subst (λ (y : Node). P y) e (holds it.node it.id_is it.op) ];
      }

  pub nodes_fewer : (id o : ℕ) (next : Option ℕ) → OnNodes P g id (Some o) → next ≡ next_op_of g o → nodes_left g id next < nodes_left g id (Some o)
  nodes_fewer id o next on n =
      let it = next_node id o on in
      let a = ap (nodes_left g id) (n ∙ it.after) in
      let b = it.before_it in
      let c = it.behind_it in
      omega (arith, a, b, c)

  pub nodes_end : (id : ℕ) → OnNodes P g id None → (x : Block) → block_of g id ≡ Some x → (n : Node) → Has x.ops n → P n
  nodes_end id on x f n h =
      let same : on.block ≡ x = some_is on.block x (sym on.is ∙ f) in
      let all : on.block.ops ≡ on.done = on.all ∙ ap (λ l. on.done ++ l) (none_left on.left on.at) ∙ no_more on.done in
      on.holds n (subst (λ (l : List Node). Has l n) (ap (λ (y : Block). y.ops) (sym same) ∙ all) h)

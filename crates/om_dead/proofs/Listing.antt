-- The walk over the ops of a block that lists their ids.
use Rattle.std.proofs.Common.{◌≡◌, ℕ, suc, ◌<◌, List, [], ◌∷◌, ◌++◌, length, Option, Some, None, IfSome, IsTrue, true, refl, ap, sym, subst, ◌∙◌, arith}
use Rattle.std.specs.Prelude.{find, option_and_then}
use Rattle.om_graph.specs.View.{Node, Block, GraphView, Has, is_node, block_of, block_with, next_op_of, first_op_of, first_id, id_after, is_live_block, is_live_op}
use Rattle.om_graph.specs.Held.{IsGraph, Apart, node_ids}
use Rattle.om_blocks.proofs.Walking.{assoc, no_more, map_both, ops_from, ops_in, has_node, find_op, op_after, left_ops, left_all, find_with, apart_in, found_block, a_some, none_left, some_is}
use Rattle.om_dead.specs.Sweeps.{AreOpsOf}

abbrev pub nodes_left : GraphView → ℕ → Option ℕ → ℕ
nodes_left g id next = length (ops_from next (ops_in (block_of g id)))

-- a walk over the ops of a block has come to one, and these are the ids of those before
pub record Listed (g : GraphView) (id : ℕ) (next : Option ℕ) (ids : List ℕ) : Type 0 where
  pub block : Block
  pub is : block_of g id ≡ Some block
  pub done : List Node
  pub left : List Node
  pub all : block.ops ≡ done ++ left
  pub at : next ≡ first_id left
  pub live : IfSome next (λ o. IsTrue (is_live_op g o))
  pub ids_are : ids ≡ node_ids done

module _ (g : GraphView) (graph : IsGraph g) where
  pub listed_first : (id : ℕ) (next : Option ℕ) (ids : List ℕ) → is_live_block g id ≡ true → next ≡ first_op_of g id → IfSome next (λ o. IsTrue (is_live_op g o)) → ids ≡ [] → Listed g id next ids
  listed_first id next ids l e live none =
      let b = a_some (block_of g id) l in
      record {
        block = b.0;
        is = b.1;
        done = [];
        left = b.0.ops;
        all = refl;
        at = e ∙ ap (option_and_then (λ (x : Block). first_id x.ops)) b.1;
        live = live;
        ids_are = none;
      }

  record NextNode (id o : ℕ) (ids : List ℕ) (on : Listed g id (Some o) ids) : Type 0 where
    node : Node
    rest : List Node
    left : on.left ≡ node ∷ rest
    id_is : node.id ≡ o
    after : next_op_of g o ≡ first_id rest
    before_it : nodes_left g id (Some o) ≡ suc (length rest)
    behind_it : nodes_left g id (first_id rest) ≡ length rest

  next_node : (id o : ℕ) (ids : List ℕ) (on : Listed g id (Some o) ids) → NextNode id o ids on
  next_node id o ids on = by_left on.left refl on.at
    where
      among : Has g.blocks on.block
      among = found_block g.blocks id on.block on.is

      by_left : (left : List Node) → on.left ≡ left → Some o ≡ first_id left → NextNode id o ids on
      by_left [] e f = cc
      by_left (n ∷ rest) e f = record {
        node = n;
        rest = rest;
        left = e;
        id_is = same;
        after = subst (λ k. next_op_of g k ≡ first_id rest) same (ap (option_and_then (λ (x : Block). id_after n.id x.ops)) with_it ∙ ap (id_after n.id) ops ∙ op_after on.done n rest apart);
        before_it = ap (λ k. nodes_left g id (Some k)) (sym same) ∙ ap (λ (x : Option Block). length (ops_from (Some n.id) (ops_in x))) on.is ∙ ap (λ l. length (ops_from (Some n.id) l)) ops ∙ ap (λ l. length l) (left_ops on.done n rest apart);
        behind_it = ap (λ (x : Option Block). length (ops_from (first_id rest) (ops_in x))) on.is ∙ ap (λ l. length (ops_from (first_id rest) l)) (ops ∙ sym (assoc on.done (n ∷ []) rest)) ∙ left_all (on.done ++ n ∷ []) rest (subst (λ l. Apart (node_ids l)) (sym (assoc on.done (n ∷ []) rest)) apart);
      }
        where
          same : n.id ≡ o
          same = sym (some_is o n.id f)

          ops : on.block.ops ≡ on.done ++ n ∷ rest
          ops = on.all ∙ ap (λ l. on.done ++ l) e

          apart : Apart (node_ids (on.done ++ n ∷ rest))
          apart = subst (λ l. Apart (node_ids l)) ops (apart_in g.blocks on.block graph.op_ids among)

          in_it : find (is_node n.id) on.block.ops ≡ Some n
          in_it = ap (find (is_node n.id)) ops ∙ find_op on.done n rest apart

          with_it : block_with g n.id ≡ Some on.block
          with_it = find_with g.blocks on.block n graph.op_ids among in_it (subst (λ l. Has (node_ids l) n.id) (sym ops) (has_node on.done n rest))

  pub listed_more :
      (id o : ℕ) (next : Option ℕ) (ids more : List ℕ) → Listed g id (Some o) ids → more ≡ ids ++ o ∷ [] →
      next ≡ next_op_of g o → IfSome next (λ n. IsTrue (is_live_op g n)) → Listed g id next more
  listed_more id o next ids more on e n live =
      let it = next_node id o ids on in
      record {
        block = on.block;
        is = on.is;
        done = on.done ++ it.node ∷ [];
        left = it.rest;
        all = on.all ∙ ap (λ l. on.done ++ l) it.left ∙ sym (assoc on.done (it.node ∷ []) it.rest);
        at = n ∙ it.after;
        live = live;
        ids_are = e ∙ ap (λ (l : List ℕ). l ++ o ∷ []) on.ids_are ∙ ap (λ (k : ℕ). node_ids on.done ++ k ∷ []) (sym it.id_is) ∙ sym (map_both (λ (m : Node). m.id) on.done (it.node ∷ []));
      }

  pub listed_fewer : (id o : ℕ) (next : Option ℕ) (ids : List ℕ) → Listed g id (Some o) ids → next ≡ next_op_of g o → nodes_left g id next < nodes_left g id (Some o)
  listed_fewer id o next ids on n =
      let it = next_node id o ids on in
      let a = ap (nodes_left g id) (n ∙ it.after) in
      let b = it.before_it in
      let c = it.behind_it in
      omega (arith, a, b, c)

  pub listed_end : (id : ℕ) (ids : List ℕ) → Listed g id None ids → AreOpsOf g id ids
  listed_end id ids on x f =
      let same : on.block ≡ x = some_is on.block x (sym on.is ∙ f) in
      let all : on.block.ops ≡ on.done = on.all ∙ ap (λ l. on.done ++ l) (none_left on.left on.at) ∙ no_more on.done in
      on.ids_are ∙ ap node_ids (sym all) ∙ ap (λ (y : Block). node_ids y.ops) same

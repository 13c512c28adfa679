-- An op of a block as the graph's calls see it.
use Rattle.std.proofs.Common.{◌≡◌, ℕ, Bool, true, false, ◌==◌, List, [], ◌∷◌, ◌++◌, length, Option, Some, IfSome, IsTrue, refl, ap, sym, subst, ◌∙◌}
use Rattle.std.specs.Prelude.{find, is_some, option_map, option_and_then}
use Rattle.om_graph.specs.View.{Node, Block, GraphView, Has, is_node, block_of, block_with, op_of, next_op_of, first_id, id_after, is_live_op}
use Rattle.om_graph.specs.Held.{IsGraph, Apart, node_ids}
use Rattle.om_blocks.proofs.Walking.{not_same, has_node, find_op, op_after, find_with, apart_in, found_block}
use Rattle.om_passes.specs.OneEdit.{IsOp}
use Rattle.om_calls.specs.Pairs.{ops_from, ops_in, ops_left}

other_node : (m : Node) (done : List Node) (n : Node) (rest : List Node) → Apart (node_ids (m ∷ done ++ n ∷ rest)) → (m.id == n.id) ≡ false
other_node m done n rest a = not_same m.id n.id (λ e. a.0 (subst (λ k. Has (node_ids (done ++ n ∷ rest)) k) (sym e) (has_node done n rest)))

left_here : (done : List Node) (n : Node) (rest : List Node) → Apart (node_ids (done ++ n ∷ rest)) → ops_from (Some n.id) (done ++ n ∷ rest) ≡ n ∷ rest
left_here [] n rest a = let e = Rattle.std.proofs.lemmas.Bool.eq-eqb n.id n.id refl in rw e refl
left_here (m ∷ ms) n rest a = let e = other_node m ms n rest a in rw e (left_here ms n rest a.1)

-- what is left is what stands there
pub left_count : (g : GraphView) → IsGraph g → (id : ℕ) (b : Block) (done left : List Node) → block_of g id ≡ Some b → b.ops ≡ done ++ left → ops_left g id (first_id left) ≡ length left
left_count g graph id b done [] is split = refl
left_count g graph id b done (n ∷ left) is split =
    let a : Apart (node_ids (done ++ n ∷ left)) = subst (λ (l : List Node). Apart (node_ids l)) split (apart_in g.blocks b graph.op_ids (found_block g.blocks id b is)) in
    ap (λ (o : Option Block). length (ops_from (Some n.id) (ops_in o))) is ∙ ap (λ (l : List Node). length (ops_from (Some n.id) l)) split
    ∙ ap (λ (l : List Node). length l) (left_here done n left a)

module _ (g : GraphView) (graph : IsGraph g) (b : Block) (hb : Has g.blocks b) (xs : List Node) (n : Node) (ys : List Node) (split : b.ops ≡ xs ++ n ∷ ys) where
  apart : Apart (node_ids (xs ++ n ∷ ys))
  apart = subst (λ (l : List Node). Apart (node_ids l)) split (apart_in g.blocks b graph.op_ids hb)

  in_it : find (is_node n.id) b.ops ≡ Some n
  in_it = ap (find (is_node n.id)) split ∙ find_op xs n ys apart

  with_it : block_with g n.id ≡ Some b
  with_it = find_with g.blocks b n graph.op_ids hb in_it (subst (λ (l : List Node). Has (node_ids l) n.id) (sym split) (has_node xs n ys))

  pub is_op : IsOp g n.id b n
  is_op = record { block = with_it; node = in_it }

  pub live_at : is_live_op g n.id ≡ true
  live_at = ap (λ (o : Option Block). is_some o) with_it

  pub op_at : op_of g n.id ≡ Some n.op
  op_at = ap (λ (x : Option Block). option_map (λ (m : Node). m.op) (option_and_then (λ (y : Block). find (is_node n.id) y.ops) x)) with_it ∙ ap (option_map (λ (m : Node). m.op)) in_it

  pub after_at : next_op_of g n.id ≡ first_id ys
  after_at = ap (option_and_then (λ (x : Block). id_after n.id x.ops)) with_it ∙ ap (id_after n.id) split ∙ op_after xs n ys apart

-- the first of what is left is live
pub live_first : (g : GraphView) → IsGraph g → (b : Block) → Has g.blocks b → (done left : List Node) → b.ops ≡ done ++ left → IfSome (first_id left) (λ o. IsTrue (is_live_op g o))
live_first g graph b hb done [] split = tt
live_first g graph b hb done (n ∷ left) split = live_at g graph b hb done n left split

-- Where the words of a graph's ops stand in their texts.
use Rattle.std.proofs.Common.{◌≡◌, inl, inr, ◌<◌, ◌≤◌, ◌+◌, ◌*◌, ◌/◌, ◌^◌, ℕ, Bool, true, false, cond, List, [], ◌∷◌, Option, Some, None, length, refl, sym, ap, subst, arith}
use Rattle.std.specs.Prelude.{◌↔◌, map, find, take, sum, option_map, option_and_then, slice_index_or}
use Rattle.om_value.specs.declared.value.Place.{Place}
use Rattle.om_prog.specs.Act.{Word}
use Rattle.om_graph.specs.declared.op.Op.{Op}
use Rattle.om_graph.specs.View.{Node, Block, GraphView, Has, ops_of, holds_node, is_node, block_with, node_in, op_of}
use Rattle.om_graph.specs.Held.{label_list}
use Rattle.om_graph.specs.Index.{index_of, words_before}
use Rattle.om_graph.specs.Run.{op_word, last_words}
use Rattle.om_graph.specs.Form.{InPlace, IsPlaced}
use Rattle.om_graph.specs.Uses.{IsTextsLast}
use Rattle.om_graph.proofs.Labels.{append_left}
use Rattle.om_graph.proofs.OfProgram.{to_map, words_in_place}
use Rattle.om_passes.specs.Passed.{IsOfAProgram}
use Rattle.om_blocks.specs.IsFlow.{HasFlow}
use Rattle.om_blocks.proofs.OfPrograms.{has_flow}
use Rattle.om_dead.specs.Sweeps.{InText}

found : {A : Type 0} (t : A → Bool) (xs : List A) (x : A) → find t xs ≡ Some x → Has xs x
found t [] x e = cc
found {A = A} t (y ∷ xs) x e = by_test (t y) e (found t xs x)
  where
    by_test : (b : Bool) → cond b (Some y) (find t xs) ≡ Some x → (find t xs ≡ Some x → Has xs x) → Has (y ∷ xs) x
    by_test true e i = let s : y ≡ x = cc in inl s
    by_test false e i = inr (i e)

pub record OpIn (g : GraphView) (x : Op) : Type 0 where
  pub block : Block
  pub among : Has g.blocks block
  pub inside : Has (ops_of block) x

pub op_in : (g : GraphView) (o : ℕ) (x : Op) → op_of g o ≡ Some x → OpIn g x
op_in g o x e = by_block (block_with g o) refl e
  where
    by_node : (b : Block) → Has g.blocks b → (n : Option Node) → node_in o b ≡ n → option_map (λ (m : Node). m.op) n ≡ Some x → OpIn g x
    by_node b h None q e = cc
    by_node b h (Some n) q e =
        let s : n.op ≡ x = cc in
        record { block = b; among = h; inside = subst (λ (y : Op). Has (ops_of b) y) s (to_map (λ (m : Node). m.op) b.ops n (found (is_node o) b.ops n q)) }

    by_block : (b : Option Block) → block_with g o ≡ b → option_map (λ (m : Node). m.op) (option_and_then (node_in o) b) ≡ Some x → OpIn g x
    by_block None q e = cc
    by_block (Some b) q e = by_node b (found (holds_node o) g.blocks b q) (node_in o b) refl e

pub in_text : (g : GraphView) → IsOfAProgram g → (o : ℕ) (x : Op) → op_of g o ≡ Some x → InText g x.place
in_text g a o x e = record { object = object; inside = place.inside; aligned = place.aligned; small = flow.small x.place.obj }
  where
    flow : HasFlow g
    flow = has_flow a.program a.valid g a.may_go_on.graph

    k : OpIn g x
    k = op_in g o x e

    w : Word
    w = op_word (ops_of k.block) x

    places : InPlace g
    places = words_in_place a.program a.valid g a.may_go_on.graph

    place : IsPlaced g k.block.label w.at
    place = places.words k.block w k.among (append_left (map (op_word (ops_of k.block)) (ops_of k.block)) (last_words k.block.last) w (to_map (op_word (ops_of k.block)) (ops_of k.block) x k.inside))

    has_label : (bs : List Block) (b : Block) → Has bs b → Has (label_list bs) b.label
    has_label [] b h = absurd h
    has_label (c ∷ bs) b (inl e) = inl (ap (λ (y : Block). y.label) e)
    has_label (c ∷ bs) b (inr h) = inr (has_label bs b h)

    object : x.place.obj < length g.counts
    object = subst (λ (n : ℕ). n < length g.counts) (sym place.object) (places.labels k.block.label (a.may_go_on.graph.graph.among k.block.label (has_label g.blocks k.block k.among))).0

-- by the words before a place and before its text's end
module _ (g : GraphView) (q : Place) (t : InText g q) where
  abbrev n : ℕ
  n = slice_index_or g.counts q.obj 0

  abbrev s : ℕ
  s = sum (take q.obj g.counts)

  inside : q.off + 4 ≤ 4 * n
  inside = t.inside

  small : 4 * n < 2 ^ 32
  small = t.small

  next : words_before n (q.off + 4) ≡ (q.off + 7) / 4
  next = let i = inside in let a = t.aligned in omega (arith, i, a)

  end : words_before n 4294967295 ≡ n
  end = let l = small in omega (arith, l)

  forth : s + words_before n (q.off + 4) ≡ s + words_before n 4294967295 → q.off + 4 ≡ 4 * n
  forth e = let x = next in let y = end in let a = t.aligned in omega (arith, e, x, y, a)

  back : q.off + 4 ≡ 4 * n → s + words_before n (q.off + 4) ≡ s + words_before n 4294967295
  back e = let x = next in let y = end in let a = t.aligned in omega (arith, e, x, y, a)

  pub last_by_index :
      (index_of g.counts (record { obj = q.obj; off = q.off + 4 }) ≡ index_of g.counts (record { obj = q.obj; off = 4294967295 })) ↔ IsTextsLast g q
  last_by_index = (forth, back)

-- A graph's blocks, and the ops of a block, one behind another by their ids.
use Rattle.std.proofs.Common.{◌≡◌, inl, inr, ℕ, suc, ◌<◌, Bool, true, false, cond, ◌==◌, List, [], ◌∷◌, ◌++◌, length, Option, Some, None, refl, ap, sym, subst, ◌∙◌, arith}
use Rattle.std.specs.Prelude.{map, find, is_some, option_map, option_and_then}
use Rattle.std.proofs.lemmas.Bool.{eq-eqb, ne_eqb, eqb-true}
use Rattle.om_graph.specs.View.{Node, Block, GraphView, Has, is_block, is_node, holds_node, node_in, block_of, block_with, op_of, first_id, id_after, next_op_of, first_block_id, block_id_after, is_live_op}
use Rattle.om_graph.specs.Held.{Apart, IsGraph, block_ids, node_ids, op_ids}
use Rattle.om_graph.proofs.Labels.{append_left, append_right}
use Rattle.om_graph.proofs.OfProgram.{to_map}

-- ---- by ids that stand once

pub append_none : {A : Type 0} (xs : List A) → xs ++ [] ≡ xs
append_none [] = refl
append_none (x ∷ xs) = ap (λ (l : List _). x ∷ l) (append_none xs)

pub snoc_split : {A : Type 0} (xs : List A) (x : A) (ys : List A) → xs ++ x ∷ ys ≡ (xs ++ x ∷ []) ++ ys
snoc_split [] x ys = refl
snoc_split (z ∷ zs) x ys = ap (λ (l : List _). z ∷ l) (snoc_split zs x ys)

pub mid_has : {A : Type 0} (xs : List A) (x : A) (ys : List A) → Has (xs ++ x ∷ ys) x
mid_has [] x ys = inl refl
mid_has (y ∷ xs) x ys = inr (mid_has xs x ys)

module _ {A : Type 0} (id : A → ℕ) where
  before_apart : (xs : List A) (x : A) (ys : List A) → Apart (map id (xs ++ x ∷ ys)) → (y : A) → Has xs y → id y ≡ id x → ⊥
  before_apart [] x ys a y h e = h
  before_apart (z ∷ zs) x ys a y (inl s) e =
      a.0 (subst (Has (map id (zs ++ x ∷ ys))) (sym (ap id s ∙ e)) (to_map id (zs ++ x ∷ ys) x (mid_has zs x ys)))
  before_apart (z ∷ zs) x ys a y (inr h) e = before_apart zs x ys a.1 y h e

  pub found_by : (xs : List A) (x : A) (ys : List A) → Apart (map id (xs ++ x ∷ ys)) → find (λ y. id y == id x) (xs ++ x ∷ ys) ≡ Some x
  found_by [] x ys a = let t = eq-eqb (id x) (id x) refl in rw t refl
  found_by (z ∷ zs) x ys a =
      let t = ne_eqb (id z) (id x) (λ e. before_apart (z ∷ zs) x ys a z (inl refl) e) in
      rw t (found_by zs x ys a.1)

  pub found_has : (xs : List A) (x : A) → Has xs x → Apart (map id xs) → find (λ y. id y == id x) xs ≡ Some x
  found_has [] x h a = absurd h
  found_has (y ∷ ys) x (inl s) a = subst (λ (z : A). find (λ y. id y == id z) (y ∷ ys) ≡ Some z) s (found_by [] y ys a)
  found_has (y ∷ ys) x (inr h) a =
      let t = ne_eqb (id y) (id x) (λ e. a.0 (subst (Has (map id ys)) (sym e) (to_map id ys x h))) in
      rw t (found_has ys x h a.1)

apart_left : (xs ys : List ℕ) → Apart (xs ++ ys) → Apart xs
apart_left [] ys a = tt
apart_left (x ∷ xs) ys a = ((λ h. a.0 (append_left xs ys x h)), apart_left xs ys a.1)

apart_right : (xs ys : List ℕ) → Apart (xs ++ ys) → Apart ys
apart_right [] ys a = a
apart_right (x ∷ xs) ys a = apart_right xs ys a.1

apart_across : (xs ys : List ℕ) (n : ℕ) → Apart (xs ++ ys) → Has xs n → Has ys n → ⊥
apart_across [] ys n a h k = h
apart_across (x ∷ xs) ys n a (inl e) k = a.0 (append_right xs ys x (subst (Has ys) (sym e) k))
apart_across (x ∷ xs) ys n a (inr h) k = apart_across xs ys n a.1 h k

-- ---- the block of an op

ids_of : (bs : List Block) (b : Block) (n : Node) → Has bs b → Has b.ops n → Has (op_ids bs) n.id
ids_of [] b n h k = absurd h
ids_of (c ∷ cs) b n (inl s) k =
    append_left (node_ids c.ops) (op_ids cs) n.id (to_map (λ (m : Node). m.id) c.ops n (subst (λ (x : Block). Has x.ops n) (sym s) k))
ids_of (c ∷ cs) b n (inr h) k = append_right (node_ids c.ops) (op_ids cs) n.id (ids_of cs b n h k)

nodes_apart : (bs : List Block) (b : Block) → Has bs b → Apart (op_ids bs) → Apart (node_ids b.ops)
nodes_apart [] b h a = absurd h
nodes_apart (c ∷ cs) b (inl s) a = subst (λ (x : Block). Apart (node_ids x.ops)) s (apart_left (node_ids c.ops) (op_ids cs) a)
nodes_apart (c ∷ cs) b (inr h) a = nodes_apart cs b h (apart_right (node_ids c.ops) (op_ids cs) a)

some_has : (o : ℕ) (ns : List Node) → is_some (find (is_node o) ns) ≡ true → Has (node_ids ns) o
some_has o [] e = cc
some_has o (n ∷ ns) e = by_test (n.id == o) refl e (some_has o ns)
  where
    by_test : (t : Bool) → (n.id == o) ≡ t → is_some (cond t (Some n) (find (is_node o) ns)) ≡ true → (is_some (find (is_node o) ns) ≡ true → Has (node_ids ns) o) → Has (node_ids (n ∷ ns)) o
    by_test true t e i = inl (eqb-true n.id o t)
    by_test false t e i = inr (i e)

with_is : (bs : List Block) (b : Block) (n : Node) → Has bs b → Has b.ops n → Apart (op_ids bs) → find (holds_node n.id) bs ≡ Some b
with_is [] b n h k a = absurd h
with_is (c ∷ cs) b n (inl s) k a =
    let there : Has c.ops n = subst (λ (x : Block). Has x.ops n) (sym s) k in
    let f = found_has (λ (m : Node). m.id) c.ops n there (apart_left (node_ids c.ops) (op_ids cs) a) in
    let t : holds_node n.id c ≡ true = ap (λ (o : Option Node). is_some o) f in
    rw t (ap (λ (x : Block). Some x) s)
with_is (c ∷ cs) b n (inr h) k a = by_test (holds_node n.id c) refl (with_is cs b n h k (apart_right (node_ids c.ops) (op_ids cs) a))
  where
    by_test : (t : Bool) → holds_node n.id c ≡ t → find (holds_node n.id) cs ≡ Some b → cond t (Some c) (find (holds_node n.id) cs) ≡ Some b
    by_test true t i = absurd (apart_across (node_ids c.ops) (op_ids cs) n.id a (some_has n.id c.ops t) (ids_of cs b n h k))
    by_test false t i = i

-- ---- one behind another

-- of some nodes those from an id on
abbrev pub nodes_from : ℕ → List Node → List Node
nodes_from o [] = []
nodes_from o (n ∷ ns) = cond (n.id == o) (n ∷ ns) (nodes_from o ns)

node_behind : (xs : List Node) (n : Node) (ys : List Node) → Apart (node_ids (xs ++ n ∷ ys)) → id_after n.id (xs ++ n ∷ ys) ≡ first_id ys
node_behind [] n ys a = let t = eq-eqb n.id n.id refl in rw t refl
node_behind (x ∷ xs) n ys a =
    let t = ne_eqb x.id n.id (λ e. before_apart (λ (m : Node). m.id) (x ∷ xs) n ys a x (inl refl) e) in
    rw t (node_behind xs n ys a.1)

from_behind : (xs : List Node) (n : Node) (ys : List Node) → Apart (node_ids (xs ++ n ∷ ys)) → nodes_from n.id (xs ++ n ∷ ys) ≡ n ∷ ys
from_behind [] n ys a = let t = eq-eqb n.id n.id refl in rw t refl
from_behind (x ∷ xs) n ys a =
    let t = ne_eqb x.id n.id (λ e. before_apart (λ (m : Node). m.id) (x ∷ xs) n ys a x (inl refl) e) in
    rw t (from_behind xs n ys a.1)

-- of some blocks those from an id on
abbrev pub blocks_on : ℕ → List Block → List Block
blocks_on i [] = []
blocks_on i (b ∷ bs) = cond (b.id == i) (b ∷ bs) (blocks_on i bs)

block_behind : (xs : List Block) (b : Block) (ys : List Block) → Apart (block_ids (xs ++ b ∷ ys)) → block_id_after b.id (xs ++ b ∷ ys) ≡ first_block_id ys
block_behind [] b ys a = let t = eq-eqb b.id b.id refl in rw t refl
block_behind (x ∷ xs) b ys a =
    let t = ne_eqb x.id b.id (λ e. before_apart (λ (m : Block). m.id) (x ∷ xs) b ys a x (inl refl) e) in
    rw t (block_behind xs b ys a.1)

on_behind : (xs : List Block) (b : Block) (ys : List Block) → Apart (block_ids (xs ++ b ∷ ys)) → blocks_on b.id (xs ++ b ∷ ys) ≡ b ∷ ys
on_behind [] b ys a = let t = eq-eqb b.id b.id refl in rw t refl
on_behind (x ∷ xs) b ys a =
    let t = ne_eqb x.id b.id (λ e. before_apart (λ (m : Block). m.id) (x ∷ xs) b ys a x (inl refl) e) in
    rw t (on_behind xs b ys a.1)

-- ---- walks

-- how many blocks are left of a walk
abbrev pub blocks_left : GraphView → Option ℕ → ℕ
blocks_left g None = 0
blocks_left g (Some b) = length (blocks_on b g.blocks)

-- a walk over the blocks of a graph stands at a block, or is over; these are behind it
pub record AtBlock (g : GraphView) (next : Option ℕ) (done left : List Block) : Type 0 where
  pub split : g.blocks ≡ done ++ left
  pub next_is : next ≡ first_block_id left

pub start_blocks : (g : GraphView) (o : Option ℕ) → o ≡ first_block_id g.blocks → AtBlock g o [] g.blocks
start_blocks g o e = record { split = refl; next_is = e }

-- what a walk at a block knows of it
pub record ThisBlock (g : GraphView) (id : ℕ) (done : List Block) : Type 0 where
  pub block : Block
  pub rest : List Block
  pub split : g.blocks ≡ done ++ block ∷ rest
  pub same : block.id ≡ id
  pub has : Has g.blocks block
  pub found : block_of g id ≡ Some block

pub this_block : (g : GraphView) (id : ℕ) (next : Option ℕ) (done left : List Block) → IsGraph g → AtBlock g next done left → next ≡ Some id → ThisBlock g id done
this_block g id next done [] graph at e = absurd (none_some (sym at.next_is ∙ e))
  where
    none_some : None ≡ Some id → ⊥
    none_some e = cc
this_block g id next done (b ∷ rest) graph at e =
    let s : b.id ≡ id = same (sym at.next_is ∙ e) in
    let a : Apart (block_ids (done ++ b ∷ rest)) = subst (λ (bs : List Block). Apart (block_ids bs)) at.split graph.block_ids in
    record {
      block = b;
      rest = rest;
      split = at.split;
      same = s;
      has = subst (λ (bs : List Block). Has bs b) (sym at.split) (mid_has done b rest);
      found =
          subst (λ (i : ℕ). find (is_block i) g.blocks ≡ Some b) s
          (subst (λ (bs : List Block). find (is_block b.id) bs ≡ Some b) (sym at.split) (found_by (λ (c : Block). c.id) done b rest a));
    }
  where
    same : Some b.id ≡ Some id → b.id ≡ id
    same e = cc

-- what stands behind a block comes next
pub behind_block : (g : GraphView) (id : ℕ) (done : List Block) (t : ThisBlock g id done) → IsGraph g → (next : Option ℕ) → next ≡ block_id_after id g.blocks → AtBlock g next (done ++ t.block ∷ []) t.rest
behind_block g id done t graph next e =
    let a : Apart (block_ids (done ++ t.block ∷ t.rest)) = subst (λ (bs : List Block). Apart (block_ids bs)) t.split graph.block_ids in
    record {
      split = t.split ∙ snoc_split done t.block t.rest;
      next_is =
          e ∙ ap (λ (i : ℕ). block_id_after i g.blocks) (sym t.same)
          ∙ ap (block_id_after t.block.id) t.split
          ∙ block_behind done t.block t.rest a;
    }

blocks_at : (g : GraphView) (done : List Block) (b : Block) (rest : List Block) → IsGraph g → g.blocks ≡ done ++ b ∷ rest → blocks_on b.id g.blocks ≡ b ∷ rest
blocks_at g done b rest graph e =
    ap (blocks_on b.id) e ∙ on_behind done b rest (subst (λ (bs : List Block). Apart (block_ids bs)) e graph.block_ids)

pub fewer_blocks : (g : GraphView) (id : ℕ) (done : List Block) (t : ThisBlock g id done) → IsGraph g → (next : Option ℕ) → next ≡ block_id_after id g.blocks → blocks_left g next < blocks_left g (Some id)
fewer_blocks g id done t graph next e = by_rest t.rest (behind_block g id done t graph next e) refl
  where
    here : blocks_left g (Some id) ≡ suc (length t.rest)
    here = ap (λ (i : ℕ). length (blocks_on i g.blocks)) (sym t.same) ∙ ap (λ (bs : List Block). length bs) (blocks_at g done t.block t.rest graph t.split)

    by_rest : (rest : List Block) → AtBlock g next (done ++ t.block ∷ []) rest → t.rest ≡ rest → blocks_left g next < blocks_left g (Some id)
    by_rest [] at s =
        let z : blocks_left g next ≡ 0 = ap (blocks_left g) at.next_is in
        let h = here in
        omega (arith, z, h)
    by_rest (b ∷ bs) at s =
        let z : blocks_left g next ≡ suc (length bs) =
        ap (blocks_left g) at.next_is ∙ ap (λ (xs : List Block). length xs) (blocks_at g (done ++ t.block ∷ []) b bs graph at.split) in
        let h = here in
        let n = ap (λ (xs : List Block). length xs) s in
        omega (arith, z, h, n)

pub all_blocks : (g : GraphView) (next : Option ℕ) (done left : List Block) → AtBlock g next done left → next ≡ None → g.blocks ≡ done
all_blocks g next done [] at e = at.split ∙ append_none done
all_blocks g next done (b ∷ left) at e = absurd (some_none (sym at.next_is ∙ e))
  where
    some_none : Some b.id ≡ None → ⊥
    some_none e = cc

-- ---- ops

abbrev pub nodes_in : Option Block → List Node
nodes_in None = []
nodes_in (Some b) = b.ops

-- how many ops are left of a walk over the ops of a block
abbrev pub ops_left : GraphView → ℕ → Option ℕ → ℕ
ops_left g id None = 0
ops_left g id (Some o) = length (nodes_from o (nodes_in (block_of g id)))

-- a walk over the ops of a block stands at an op, or is over
pub record AtOp (b : Block) (next : Option ℕ) (done left : List Node) : Type 0 where
  pub split : b.ops ≡ done ++ left
  pub next_is : next ≡ first_id left

pub record ThisOp (g : GraphView) (b : Block) (o : ℕ) (done : List Node) : Type 0 where
  pub node : Node
  pub rest : List Node
  pub split : b.ops ≡ done ++ node ∷ rest
  pub same : node.id ≡ o
  pub within : block_with g o ≡ Some b

module _ (g : GraphView) (graph : IsGraph g) (b : Block) (among : Has g.blocks b) where
  apart_here : (done : List Node) (n : Node) (rest : List Node) → b.ops ≡ done ++ n ∷ rest → Apart (node_ids (done ++ n ∷ rest))
  apart_here done n rest e = subst (λ (ns : List Node). Apart (node_ids ns)) e (nodes_apart g.blocks b among graph.op_ids)

  pub this_op : (o : ℕ) (next : Option ℕ) (done left : List Node) → AtOp b next done left → next ≡ Some o → ThisOp g b o done
  this_op o next done [] at e = absurd (none_some (sym at.next_is ∙ e))
    where
      none_some : None ≡ Some o → ⊥
      none_some e = cc
  this_op o next done (n ∷ rest) at e =
      let s : n.id ≡ o = same (sym at.next_is ∙ e) in
      let h : Has b.ops n = subst (λ (ns : List Node). Has ns n) (sym at.split) (mid_has done n rest) in
      record {
        node = n;
        rest = rest;
        split = at.split;
        same = s;
        within = subst (λ (i : ℕ). block_with g i ≡ Some b) s (with_is g.blocks b n among h graph.op_ids);
      }
    where
      same : Some n.id ≡ Some o → n.id ≡ o
      same e = cc

  module _ (o : ℕ) (done : List Node) (t : ThisOp g b o done) where
    pub live_here : is_live_op g o ≡ true
    live_here = ap (λ (x : Option Block). is_some x) t.within

    pub op_here : op_of g o ≡ Some t.node.op
    op_here =
        ap (λ (x : Option Block). option_map (λ n. n.op) (option_and_then (node_in o) x)) t.within
        ∙ ap (λ (x : Option Node). option_map (λ n. n.op) x)
        (subst (λ (i : ℕ). find (is_node i) b.ops ≡ Some t.node) t.same
        (subst (λ (ns : List Node). find (is_node t.node.id) ns ≡ Some t.node) (sym t.split)
        (found_by (λ (m : Node). m.id) done t.node t.rest (apart_here done t.node t.rest t.split))))

    pub behind_op : (next : Option ℕ) → next ≡ next_op_of g o → AtOp b next (done ++ t.node ∷ []) t.rest
    behind_op next e = record {
      split = t.split ∙ snoc_split done t.node t.rest;
      next_is =
          e ∙ ap (λ (x : Option Block). option_and_then (λ (y : Block). id_after o y.ops) x) t.within
          ∙ ap (λ (i : ℕ). id_after i b.ops) (sym t.same)
          ∙ ap (id_after t.node.id) t.split
          ∙ node_behind done t.node t.rest (apart_here done t.node t.rest t.split);
    }

    pub fewer_ops : (id : ℕ) → block_of g id ≡ Some b → (next : Option ℕ) → next ≡ next_op_of g o → ops_left g id next < ops_left g id (Some o)
    fewer_ops id found next e = by_rest t.rest (behind_op next e) refl
      where
        nodes_at : (d : List Node) (n : Node) (rest : List Node) → b.ops ≡ d ++ n ∷ rest → length (nodes_from n.id (nodes_in (block_of g id))) ≡ suc (length rest)
        nodes_at d n rest s =
            ap (λ (x : Option Block). length (nodes_from n.id (nodes_in x))) found
            ∙ ap (λ (ns : List Node). length (nodes_from n.id ns)) s
            ∙ ap (λ (ns : List Node). length ns) (from_behind d n rest (apart_here d n rest s))

        here : ops_left g id (Some o) ≡ suc (length t.rest)
        here = ap (λ (i : ℕ). length (nodes_from i (nodes_in (block_of g id)))) (sym t.same) ∙ nodes_at done t.node t.rest t.split

        by_rest : (rest : List Node) → AtOp b next (done ++ t.node ∷ []) rest → t.rest ≡ rest → ops_left g id next < ops_left g id (Some o)
        by_rest [] at s =
            let z : ops_left g id next ≡ 0 = ap (ops_left g id) at.next_is in
            let h = here in
            omega (arith, z, h)
        by_rest (n ∷ ns) at s =
            let z : ops_left g id next ≡ suc (length ns) = ap (ops_left g id) at.next_is ∙ nodes_at (done ++ t.node ∷ []) n ns at.split in
            let h = here in
            let m = ap (λ (xs : List Node). length xs) s in
            omega (arith, z, h, m)

pub all_ops : (b : Block) (next : Option ℕ) (done left : List Node) → AtOp b next done left → next ≡ None → b.ops ≡ done
all_ops b next done [] at e = at.split ∙ append_none done
all_ops b next done (n ∷ left) at e = absurd (some_none (sym at.next_is ∙ e))
  where
    some_none : Some n.id ≡ None → ⊥
    some_none e = cc

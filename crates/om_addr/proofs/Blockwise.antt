-- The loops over the ops of a block and over the blocks of a graph that changes: all ids stay.
use Rattle.std.proofs.Common.{◌≡◌, ◌⊎◌, inl, inr, ℕ, ◌<◌, Bool, true, false, cond, ◌||◌, ◌==◌, List, [], ◌∷◌, ◌++◌, length, Option, Some, None, IfSome, IsTrue, refl, sym, ap, ◌∙◌, subst, arith}
use Rattle.std.specs.Prelude.{find, is_some, option_and_then}
use Rattle.std.proofs.lemmas.Bool.{true≢false, eqb-true, eq-eqb}
use Rattle.om_graph.specs.View.{Node, Block, GraphView, Has, is_block, is_node, holds_node, block_of, block_with, next_op_of, first_op_of, first_id, first_block_id, block_id_after, is_live_op, is_live_block}
use Rattle.om_graph.specs.Held.{IsGraph, Apart, node_ids, block_ids, op_ids}
use Rattle.om_blocks.proofs.Walking.{assoc, has_mid, has_right, no_more, has_op, found_block, split, some_is, none_left, a_some, block_after}
use Rattle.om_blocks.proofs.LastWords.{has_both}
use Rattle.om_layout.specs.Layout.{LayoutView}
use Rattle.om_addr.specs.Passing.{Reducing}
use Rattle.om_addr.specs.Done.{IsOpDone, IsBlockDone, IsAllDone}
use Rattle.om_addr.proofs.InARow as row
use Rattle.om_addr.proofs.Walking.{At, next_is, fewer_left, ops_left, ids_from, from_here, from_next}
use Rattle.om_addr.proofs.Loaded.{none_of_both, in_a_row}

pub none_left_blocks : (bs : List Block) → None ≡ first_block_id bs → bs ≡ []
none_left_blocks [] e = refl
none_left_blocks (b ∷ bs) e = cc

-- ---- live ids

node_found : (ns : List Node) (id : ℕ) → Has (node_ids ns) id → is_some (find (is_node id) ns) ≡ true
node_found [] id h = absurd h
node_found (n ∷ ns) id (inl e) = let s = eq-eqb n.id id e in rw s refl
node_found (n ∷ ns) id (inr h) = by_test (n.id == id) (node_found ns id h)
  where
    by_test : (t : Bool) → is_some (find (is_node id) ns) ≡ true → is_some (cond t (Some n) (find (is_node id) ns)) ≡ true
    by_test true e = refl
    by_test false e = e

ids_found : (bs : List Block) (id : ℕ) → Has (op_ids bs) id → is_some (find (holds_node id) bs) ≡ true
ids_found [] id h = absurd h
ids_found (b ∷ bs) id h = by_part (has_both (node_ids b.ops) (op_ids bs) id h) (ids_found bs id)
  where
    by_test : (t : Bool) → is_some (find (holds_node id) bs) ≡ true → is_some (cond t (Some b) (find (holds_node id) bs)) ≡ true
    by_test true e = refl
    by_test false e = e

    by_part : Has (node_ids b.ops) id ⊎ Has (op_ids bs) id → (Has (op_ids bs) id → is_some (find (holds_node id) bs) ≡ true) → is_some (find (holds_node id) (b ∷ bs)) ≡ true
    by_part (inl k) again = let e = node_found b.ops id k in rw e refl
    by_part (inr k) again = by_test (holds_node id b) (again k)

found_node : (ns : List Node) (id : ℕ) → is_some (find (is_node id) ns) ≡ true → Has (node_ids ns) id
found_node [] id e = absurd (true≢false (sym e))
found_node (n ∷ ns) id e = by_test (n.id == id) refl e (found_node ns id)
  where
    by_test : (t : Bool) → (n.id == id) ≡ t → is_some (cond t (Some n) (find (is_node id) ns)) ≡ true → (is_some (find (is_node id) ns) ≡ true → Has (node_ids ns) id) → Has (node_ids (n ∷ ns)) id
    by_test true t f again = inl (eqb-true n.id id t)
    by_test false t f again = inr (again f)

-- the block of an op
record Home (g : GraphView) (id : ℕ) : Type 0 where
  block : Block
  among : Has g.blocks block
  inside : Has (node_ids block.ops) id

home_in : (bs : List Block) (id : ℕ) → is_some (find (holds_node id) bs) ≡ true → (b : Block) × Has bs b × Has (node_ids b.ops) id
home_in [] id e = absurd (true≢false (sym e))
home_in (b ∷ bs) id e = by_test (holds_node id b) refl e (home_in bs id)
  where
    by_test :
        (t : Bool) → holds_node id b ≡ t → is_some (cond t (Some b) (find (holds_node id) bs)) ≡ true → (is_some (find (holds_node id) bs) ≡ true → (c : Block) × Has bs c × Has (node_ids c.ops) id) →
        (c : Block) × Has (b ∷ bs) c × Has (node_ids c.ops) id
    by_test true t f again = (b, inl refl, found_node b.ops id t)
    by_test false t f again = let r = again f in (r.0, inr r.1, r.2)

node_at : (ns : List Node) (id : ℕ) → Has (node_ids ns) id → (xs : List Node) × (n : Node) × (ys : List Node) × (ns ≡ xs ++ n ∷ ys) × (n.id ≡ id)
node_at [] id h = absurd h
node_at (n ∷ ns) id (inl e) = ([], n, ns, refl, e)
node_at (n ∷ ns) id (inr h) = let r = node_at ns id h in (n ∷ r.0, r.1, r.2, ap (λ (l : List Node). n ∷ l) r.3, r.4)

-- where a live op stands
record Standing (g : GraphView) (id : ℕ) : Type 0 where
  node : Node
  at : At g node
  is_id : node.id ≡ id

standing : (g : GraphView) (id : ℕ) → is_live_op g id ≡ true → Standing g id
standing g id l =
    let h = home_in g.blocks id l in
    let n = node_at (h.0).ops id h.2 in
    record { node = n.1; at = record { block = h.0; among = h.1; before = n.0; behind = n.2; stands = n.3 }; is_id = n.4 }

pub live_op : (g h : GraphView) (id : ℕ) → is_live_op g id ≡ true → op_ids h.blocks ≡ op_ids g.blocks → is_live_op h id ≡ true
live_op g h id l same =
    let k = home_in g.blocks id l in
    ids_found h.blocks id (subst (λ (ids : List ℕ). Has ids id) (sym same) (has_op g.blocks k.0 id k.1 k.2))

block_found : (bs : List Block) (id : ℕ) → Has (block_ids bs) id → is_some (find (is_block id) bs) ≡ true
block_found [] id h = absurd h
block_found (b ∷ bs) id (inl e) = let s = eq-eqb b.id id e in rw s refl
block_found (b ∷ bs) id (inr h) = by_test (b.id == id) (block_found bs id h)
  where
    by_test : (t : Bool) → is_some (find (is_block id) bs) ≡ true → is_some (cond t (Some b) (find (is_block id) bs)) ≡ true
    by_test true e = refl
    by_test false e = e

block_at : (bs : List Block) (id : ℕ) → is_some (find (is_block id) bs) ≡ true → (xs : List Block) × (b : Block) × (ys : List Block) × (bs ≡ xs ++ b ∷ ys) × (b.id ≡ id)
block_at [] id e = absurd (true≢false (sym e))
block_at (b ∷ bs) id e = by_test (b.id == id) refl e (block_at bs id)
  where
    by_test :
        (t : Bool) → (b.id == id) ≡ t → is_some (cond t (Some b) (find (is_block id) bs)) ≡ true →
        (is_some (find (is_block id) bs) ≡ true → (xs : List Block) × (c : Block) × (ys : List Block) × (bs ≡ xs ++ c ∷ ys) × (c.id ≡ id)) →
        (xs : List Block) × (c : Block) × (ys : List Block) × (b ∷ bs ≡ xs ++ c ∷ ys) × (c.id ≡ id)
    by_test true t f again = ([], b, bs, refl, eqb-true b.id id t)
    by_test false t f again = let r = again f in (b ∷ r.0, r.1, r.2, ap (λ (l : List Block). b ∷ l) r.3, r.4)

block_ids_both : (xs : List Block) (b : Block) (ys : List Block) → block_ids (xs ++ b ∷ ys) ≡ block_ids xs ++ b.id ∷ block_ids ys
block_ids_both [] b ys = refl
block_ids_both (x ∷ xs) b ys = ap (λ (l : List ℕ). x.id ∷ l) (block_ids_both xs b ys)

pub live_block : (g h : GraphView) (id : ℕ) → is_live_block g id ≡ true → block_ids h.blocks ≡ block_ids g.blocks → is_live_block h id ≡ true
live_block g h id l same =
    let k = block_at g.blocks id l in
    block_found h.blocks id (subst (λ (ids : List ℕ). Has ids id) (sym (same ∙ ap block_ids k.3 ∙ block_ids_both k.0 k.1 k.2 ∙ ap (λ (i : ℕ). block_ids k.0 ++ i ∷ block_ids k.2) k.4)) (mid (block_ids k.0) id (block_ids k.2)))
  where
    mid : (xs : List ℕ) (i : ℕ) (ys : List ℕ) → Has (xs ++ i ∷ ys) i
    mid [] i ys = inl refl
    mid (x ∷ xs) i ys = inr (mid xs i ys)

-- ---- ops

pub ops_fewer : (g h : GraphView) (o : ℕ) (next : Option ℕ) → IsGraph h → is_live_op g o ≡ true → op_ids h.blocks ≡ op_ids g.blocks → next ≡ next_op_of h o → ops_left h next < ops_left g (Some o)
ops_fewer g h o next graph live same n =
    let s = standing h o (live_op g h o live same) in
    let e : next ≡ first_id s.at.behind = n ∙ ap (next_op_of h) (sym s.is_id) ∙ next_is h graph s.node s.at in
    subst (λ (i : Option ℕ). ops_left h i < ops_left g (Some o)) (sym e)
    (subst (λ (i : ℕ). ops_left h (first_id s.at.behind) < ops_left g (Some i)) s.is_id (fewer_left g h s.node s.at graph same))

pub record OpsDone (l : LayoutView) (g : GraphView) (b : ℕ) (next : Option ℕ) : Type 0 where
  pub block : Block
  pub is : block_of g b ≡ Some block
  pub done : List Node
  pub left : List Node
  pub all : block.ops ≡ done ++ left
  pub at : next ≡ first_id left
  pub each : (n : Node) → Has done n → IsOpDone l g n.id

pub record OnOps (l : LayoutView) (b : ℕ) (old now : GraphView) (changed : Bool) (next : Option ℕ) : Type 0 where
  pub live : IfSome next (λ o. IsTrue (is_live_op now o))
  pub passed : (masks : List ℕ) → Reducing l masks changed old now
  pub graph : IsGraph now
  pub done : changed ≡ false → OpsDone l old b next

pub ops_begin : (l : LayoutView) (b : ℕ) (g : GraphView) (next : Option ℕ) → IsGraph g → is_live_block g b ≡ true → next ≡ first_op_of g b → IfSome next (λ o. IsTrue (is_live_op g o)) → OnOps l b g g false next
ops_begin l b g next graph alive n live =
    let x = a_some (block_of g b) alive in
    record {
      live = live;
      passed = λ masks. row.none l masks g;
      graph = graph;
      done = λ e. record {
        block = x.0;
        is = x.1;
        done = [];
        left = (x.0).ops;
        all = refl;
        at = n ∙ ap (option_and_then (λ (y : Block). first_id y.ops)) x.1;
        each = λ n h. absurd h;
      };
    }

pub ops_more :
    (l : LayoutView) (b : ℕ) (old now new : GraphView) (changed again then : Bool) (o : ℕ) (next : Option ℕ) → OnOps l b old now changed (Some o) → then ≡ (changed || again) →
    ((masks : List ℕ) → Reducing l masks again now new) → (again ≡ false → IsOpDone l new o) → IsGraph new → next ≡ next_op_of new o → IfSome next (λ n. IsTrue (is_live_op new n)) → OnOps l b old new then next
ops_more l b old now new changed again then o next on e passed nothing graph n live = record {
  live = live;
  passed = λ masks. in_a_row l masks old now new changed again then e (on.passed masks) (passed masks);
  graph = graph;
  done = done;
}
  where
    done : then ≡ false → OpsDone l old b next
    done f = by_left d.left refl d.at
      where
        both_false : (changed ≡ false) × (again ≡ false)
        both_false = none_of_both changed again (sym e ∙ f)

        d : OpsDone l old b (Some o)
        d = on.done both_false.0

        new_is : new ≡ old
        new_is = (passed []).same both_false.1 ∙ (on.passed []).same both_false.0

        by_left : (left : List Node) → d.left ≡ left → Some o ≡ first_id left → OpsDone l old b next
        by_left [] k h = cc
        by_left (m ∷ rest) k h =
            let same : m.id ≡ o = sym (some_is o m.id h) in
            let at : At old m = record { block = d.block; among = found_block old.blocks b d.block d.is; before = d.done; behind = rest; stands = d.all ∙ ap (λ (z : List Node). d.done ++ z) k } in
            record {
              block = d.block;
              is = d.is;
              done = d.done ++ m ∷ [];
              left = rest;
              all = d.all ∙ ap (λ (z : List Node). d.done ++ z) k ∙ sym (assoc d.done (m ∷ []) rest);
              at = n ∙ ap (λ (g : GraphView). next_op_of g o) new_is ∙ ap (next_op_of old) (sym same) ∙ next_is old (subst (λ (g : GraphView). IsGraph g) new_is graph) m at;
              each = λ y q. by_part y (has_both d.done (m ∷ []) y q) same;
            }
          where
            by_part : (y : Node) → Has d.done y ⊎ Has (m ∷ []) y → m.id ≡ o → IsOpDone l old y.id
            by_part y (inl q) same = d.each y q
            by_part y (inr (inl q)) same = subst (λ (i : ℕ). IsOpDone l old i) (sym same ∙ ap (λ (z : Node). z.id) q) (subst (λ (g : GraphView). IsOpDone l g o) new_is (nothing both_false.1))
            by_part y (inr (inr q)) same = absurd q

pub ops_end : (l : LayoutView) (b : ℕ) (old now : GraphView) (changed : Bool) → OnOps l b old now changed None → changed ≡ false → IsBlockDone l now b
ops_end l b old now changed on f = subst (λ (g : GraphView). IsBlockDone l g b) (sym ((on.passed []).same f)) of_old
  where
    d : OpsDone l old b None
    d = on.done f

    of_old : IsBlockDone l old b
    of_old x n e h =
        d.each n (subst (λ (ns : List Node). Has ns n) (all_done ∙ no_more d.done) (subst (λ (y : Block). Has y.ops n) (some_block x d.block (sym e ∙ d.is)) h))
      where
        some_block : (x y : Block) → Some x ≡ Some y → x ≡ y
        some_block x y e = cc

        all_done : d.block.ops ≡ d.done ++ []
        all_done = d.all ∙ ap (λ (z : List Node). d.done ++ z) (none_left d.left d.at)

-- ---- blocks

abbrev pub blocks_left : GraphView → Option ℕ → ℕ
blocks_left g next = length (ids_from next (block_ids g.blocks))

pub blocks_fewer :
    (g h : GraphView) (b : ℕ) (next : Option ℕ) → IsGraph h → is_live_block g b ≡ true → block_ids h.blocks ≡ block_ids g.blocks → next ≡ block_id_after b h.blocks → blocks_left h next < blocks_left g (Some b)
blocks_fewer g h b next graph live same n = by_behind k.2 k.3
  where
    k : (xs : List Block) × (x : Block) × (ys : List Block) × (h.blocks ≡ xs ++ x ∷ ys) × (x.id ≡ b)
    k = block_at h.blocks b (live_block g h b live same)

    by_behind : (ys : List Block) → h.blocks ≡ k.0 ++ k.1 ∷ ys → blocks_left h next < blocks_left g (Some b)
    by_behind ys s =
        let a : Apart (block_ids (k.0 ++ k.1 ∷ ys)) = subst (λ (l : List Block). Apart (block_ids l)) s graph.block_ids in
        let e : next ≡ first_block_id ys = n ∙ ap (λ (i : ℕ). block_id_after i h.blocks) (sym k.4) ∙ ap (block_id_after (k.1).id) s ∙ block_after k.0 k.1 ys a in
        let ids : block_ids h.blocks ≡ block_ids k.0 ++ (k.1).id ∷ block_ids ys = ap block_ids s ∙ block_ids_both k.0 k.1 ys in
        let c : Apart (block_ids k.0 ++ (k.1).id ∷ block_ids ys) = subst (λ (l : List ℕ). Apart l) ids graph.block_ids in
        let f : blocks_left g (Some b) ≡ length ((k.1).id ∷ block_ids ys) =
        ap (λ (l : List ℕ). length (ids_from (Some b) l)) (sym same ∙ ids) ∙ ap (λ (i : ℕ). length (ids_from (Some i) (block_ids k.0 ++ (k.1).id ∷ block_ids ys))) (sym k.4)
        ∙ ap (λ (l : List ℕ). length l) (from_here (block_ids k.0) (k.1).id (block_ids ys) c) in
        subst (λ (i : Option ℕ). blocks_left h i < blocks_left g (Some b)) (sym e) (by_first ys ids c f)
      where
        by_first :
            (ys : List Block) → block_ids h.blocks ≡ block_ids k.0 ++ (k.1).id ∷ block_ids ys → Apart (block_ids k.0 ++ (k.1).id ∷ block_ids ys) → blocks_left g (Some b) ≡ length ((k.1).id ∷ block_ids ys) →
            blocks_left h (first_block_id ys) < blocks_left g (Some b)
        by_first [] ids c f = omega (arith, f)
        by_first (y ∷ ys) ids c f =
            let m = ap (λ (l : List ℕ). length (ids_from (Some y.id) l)) ids ∙ ap (λ (l : List ℕ). length l) (from_next (block_ids k.0) (k.1).id y.id (block_ids ys) c) in
            omega (arith, f, m)

pub record BlocksDone (l : LayoutView) (g : GraphView) (next : Option ℕ) : Type 0 where
  pub done : List Block
  pub left : List Block
  pub all : g.blocks ≡ done ++ left
  pub at : next ≡ first_block_id left
  pub each : (b : Block) → Has done b → IsBlockDone l g b.id

pub record OnBlocks (l : LayoutView) (old now : GraphView) (changed : Bool) (next : Option ℕ) : Type 0 where
  pub live : IfSome next (λ b. IsTrue (is_live_block now b))
  pub passed : (masks : List ℕ) → Reducing l masks changed old now
  pub graph : IsGraph now
  pub done : changed ≡ false → BlocksDone l old next

pub blocks_begin : (l : LayoutView) (g : GraphView) (next : Option ℕ) → IsGraph g → next ≡ first_block_id g.blocks → IfSome next (λ b. IsTrue (is_live_block g b)) → OnBlocks l g g false next
blocks_begin l g next graph n live = record {
  live = live;
  passed = λ masks. row.none l masks g;
  graph = graph;
  done = λ e. record { done = []; left = g.blocks; all = refl; at = n; each = λ b h. absurd h };
}

pub blocks_more :
    (l : LayoutView) (old now new : GraphView) (changed again then : Bool) (b : ℕ) (next : Option ℕ) → OnBlocks l old now changed (Some b) → then ≡ (changed || again) →
    ((masks : List ℕ) → Reducing l masks again now new) → (again ≡ false → IsBlockDone l new b) → IsGraph new → next ≡ block_id_after b new.blocks → IfSome next (λ n. IsTrue (is_live_block new n)) →
    OnBlocks l old new then next
blocks_more l old now new changed again then b next on e passed nothing graph n live = record {
  live = live;
  passed = λ masks. in_a_row l masks old now new changed again then e (on.passed masks) (passed masks);
  graph = graph;
  done = done;
}
  where
    done : then ≡ false → BlocksDone l old next
    done f = by_left d.left refl d.at
      where
        both_false : (changed ≡ false) × (again ≡ false)
        both_false = none_of_both changed again (sym e ∙ f)

        d : BlocksDone l old (Some b)
        d = on.done both_false.0

        new_is : new ≡ old
        new_is = (passed []).same both_false.1 ∙ (on.passed []).same both_false.0

        by_left : (left : List Block) → d.left ≡ left → Some b ≡ first_block_id left → BlocksDone l old next
        by_left [] k h = cc
        by_left (m ∷ rest) k h =
            let same : m.id ≡ b = sym (some_is b m.id h) in
            let all : old.blocks ≡ d.done ++ m ∷ rest = d.all ∙ ap (λ (z : List Block). d.done ++ z) k in
            let a : Apart (block_ids (d.done ++ m ∷ rest)) = subst (λ (z : List Block). Apart (block_ids z)) all (subst (λ (g : GraphView). IsGraph g) new_is graph).block_ids in
            record {
              done = d.done ++ m ∷ [];
              left = rest;
              all = all ∙ sym (assoc d.done (m ∷ []) rest);
              at = n ∙ ap (λ (g : GraphView). block_id_after b g.blocks) new_is ∙ ap (λ (i : ℕ). block_id_after i old.blocks) (sym same) ∙ ap (block_id_after m.id) all ∙ block_after d.done m rest a;
              each = λ y q. by_part y (has_both d.done (m ∷ []) y q) same;
            }
          where
            by_part : (y : Block) → Has d.done y ⊎ Has (m ∷ []) y → m.id ≡ b → IsBlockDone l old y.id
            by_part y (inl q) same = d.each y q
            by_part y (inr (inl q)) same = subst (λ (i : ℕ). IsBlockDone l old i) (sym same ∙ ap (λ (z : Block). z.id) q) (subst (λ (g : GraphView). IsBlockDone l g b) new_is (nothing both_false.1))
            by_part y (inr (inr q)) same = absurd q

pub blocks_end : (l : LayoutView) (old now : GraphView) (changed : Bool) → OnBlocks l old now changed None → changed ≡ false → IsAllDone l now
blocks_end l old now changed on f = subst (λ (g : GraphView). IsAllDone l g) (sym ((on.passed []).same f)) of_old
  where
    d : BlocksDone l old None
    d = on.done f

    of_old : IsAllDone l old
    of_old x h = d.each x (subst (λ (bs : List Block). Has bs x) (d.all ∙ ap (λ (z : List Block). d.done ++ z) (none_left_blocks d.left d.at) ∙ no_more d.done) h)

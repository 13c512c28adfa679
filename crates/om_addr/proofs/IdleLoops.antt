-- The loops over ops and blocks, of which some loads into r31 become LDA.
use Rattle.std.proofs.Common.{◌≡◌, ◌⊎◌, inl, inr, ℕ, Bool, true, false, ◌||◌, List, [], ◌∷◌, ◌++◌, Option, Some, None, IfSome, IsTrue, refl, sym, ap, ◌∙◌, subst}
use Rattle.std.specs.Prelude.{option_and_then}
use Rattle.om_graph.specs.View.{Node, Block, GraphView, Has, block_of, next_op_of, first_op_of, first_id, first_block_id, block_id_after, is_live_op, is_live_block}
use Rattle.om_graph.specs.Held.{IsGraph, Apart, block_ids}
use Rattle.om_blocks.proofs.Walking.{assoc, no_more, found_block, some_is, none_left, a_some, block_after}
use Rattle.om_blocks.proofs.LastWords.{has_both}
use Rattle.om_layout.specs.Layout.{LayoutView}
use Rattle.om_addr.specs.Idle.{Taking, IsOpIdle, IsBlockIdle, IsAllIdle}
use Rattle.om_addr.proofs.Walking.{At, next_is}
use Rattle.om_addr.proofs.Loaded.{none_of_both}
use Rattle.om_addr.proofs.Blockwise.{none_left_blocks}
use Rattle.om_addr.proofs.IdleLoads as row

-- ---- ops

pub record OpsDone (l : LayoutView) (g : GraphView) (b : ℕ) (next : Option ℕ) : Type 0 where
  pub block : Block
  pub is : block_of g b ≡ Some block
  pub done : List Node
  pub left : List Node
  pub all : block.ops ≡ done ++ left
  pub at : next ≡ first_id left
  pub each : (n : Node) → Has done n → IsOpIdle l g n.id

pub record OnOps (l : LayoutView) (b : ℕ) (old now : GraphView) (changed : Bool) (next : Option ℕ) : Type 0 where
  pub live : IfSome next (λ o. IsTrue (is_live_op now o))
  pub passed : Taking l changed old now
  pub graph : IsGraph now
  pub done : changed ≡ false → OpsDone l old b next

pub ops_begin : (l : LayoutView) (b : ℕ) (g : GraphView) (next : Option ℕ) → IsGraph g → is_live_block g b ≡ true → next ≡ first_op_of g b → IfSome next (λ o. IsTrue (is_live_op g o)) → OnOps l b g g false next
ops_begin l b g next graph alive n live =
    let x = a_some (block_of g b) alive in
    record {
      live = live;
      passed = row.none l g;
      graph = graph;
      done = λ e. record {
        block = x.0;
        is = x.1;
        done = [];
        left = (x.0).ops;
        all = refl;
        at = n ∙ ap (option_and_then (λ (y : Block). first_id y.ops)) x.1;
        each = λ n h. absurd h;
      };
    }

pub ops_more :
    (l : LayoutView) (b : ℕ) (old now new : GraphView) (changed again then : Bool) (o : ℕ) (next : Option ℕ) → OnOps l b old now changed (Some o) → then ≡ (changed || again) →
    Taking l again now new → (again ≡ false → IsOpIdle l new o) → IsGraph new → next ≡ next_op_of new o → IfSome next (λ n. IsTrue (is_live_op new n)) → OnOps l b old new then next
ops_more l b old now new changed again then o next on e passed nothing graph n live = record {
  live = live;
  passed = row.in_a_row l old now new changed again then e on.passed passed;
  graph = graph;
  done = done;
}
  where
    done : then ≡ false → OpsDone l old b next
    done f = by_left d.left refl d.at
      where
        both_false : (changed ≡ false) × (again ≡ false)
        both_false = none_of_both changed again (sym e ∙ f)

        d : OpsDone l old b (Some o)
        d = on.done both_false.0

        new_is : new ≡ old
        new_is = passed.same both_false.1 ∙ on.passed.same both_false.0

        by_left : (left : List Node) → d.left ≡ left → Some o ≡ first_id left → OpsDone l old b next
        by_left [] k h = cc
        by_left (m ∷ rest) k h =
            let same : m.id ≡ o = sym (some_is o m.id h) in
            let at : At old m = record { block = d.block; among = found_block old.blocks b d.block d.is; before = d.done; behind = rest; stands = d.all ∙ ap (λ (z : List Node). d.done ++ z) k } in
            record {
              block = d.block;
              is = d.is;
              done = d.done ++ m ∷ [];
              left = rest;
              all = d.all ∙ ap (λ (z : List Node). d.done ++ z) k ∙ sym (assoc d.done (m ∷ []) rest);
              at = n ∙ ap (λ (g : GraphView). next_op_of g o) new_is ∙ ap (next_op_of old) (sym same) ∙ next_is old (subst (λ (g : GraphView). IsGraph g) new_is graph) m at;
              each = λ y q. by_part y (has_both d.done (m ∷ []) y q) same;
            }
          where
            by_part : (y : Node) → Has d.done y ⊎ Has (m ∷ []) y → m.id ≡ o → IsOpIdle l old y.id
            by_part y (inl q) same = d.each y q
            by_part y (inr (inl q)) same = subst (λ (i : ℕ). IsOpIdle l old i) (sym same ∙ ap (λ (z : Node). z.id) q) (subst (λ (g : GraphView). IsOpIdle l g o) new_is (nothing both_false.1))
            by_part y (inr (inr q)) same = absurd q

pub ops_end : (l : LayoutView) (b : ℕ) (old now : GraphView) (changed : Bool) → OnOps l b old now changed None → changed ≡ false → IsBlockIdle l now b
ops_end l b old now changed on f = subst (λ (g : GraphView). IsBlockIdle l g b) (sym (on.passed.same f)) of_old
  where
    d : OpsDone l old b None
    d = on.done f

    of_old : IsBlockIdle l old b
    of_old x n e h =
        d.each n (subst (λ (ns : List Node). Has ns n) (all_done ∙ no_more d.done) (subst (λ (y : Block). Has y.ops n) (some_block x d.block (sym e ∙ d.is)) h))
      where
        some_block : (x y : Block) → Some x ≡ Some y → x ≡ y
        some_block x y e = cc

        all_done : d.block.ops ≡ d.done ++ []
        all_done = d.all ∙ ap (λ (z : List Node). d.done ++ z) (none_left d.left d.at)

-- ---- blocks

pub record BlocksDone (l : LayoutView) (g : GraphView) (next : Option ℕ) : Type 0 where
  pub done : List Block
  pub left : List Block
  pub all : g.blocks ≡ done ++ left
  pub at : next ≡ first_block_id left
  pub each : (b : Block) → Has done b → IsBlockIdle l g b.id

pub record OnBlocks (l : LayoutView) (old now : GraphView) (changed : Bool) (next : Option ℕ) : Type 0 where
  pub live : IfSome next (λ b. IsTrue (is_live_block now b))
  pub passed : Taking l changed old now
  pub graph : IsGraph now
  pub done : changed ≡ false → BlocksDone l old next

pub blocks_begin : (l : LayoutView) (g : GraphView) (next : Option ℕ) → IsGraph g → next ≡ first_block_id g.blocks → IfSome next (λ b. IsTrue (is_live_block g b)) → OnBlocks l g g false next
blocks_begin l g next graph n live = record {
  live = live;
  passed = row.none l g;
  graph = graph;
  done = λ e. record { done = []; left = g.blocks; all = refl; at = n; each = λ b h. absurd h };
}

pub blocks_more :
    (l : LayoutView) (old now new : GraphView) (changed again then : Bool) (b : ℕ) (next : Option ℕ) → OnBlocks l old now changed (Some b) → then ≡ (changed || again) →
    Taking l again now new → (again ≡ false → IsBlockIdle l new b) → IsGraph new → next ≡ block_id_after b new.blocks → IfSome next (λ n. IsTrue (is_live_block new n)) →
    OnBlocks l old new then next
blocks_more l old now new changed again then b next on e passed nothing graph n live = record {
  live = live;
  passed = row.in_a_row l old now new changed again then e on.passed passed;
  graph = graph;
  done = done;
}
  where
    done : then ≡ false → BlocksDone l old next
    done f = by_left d.left refl d.at
      where
        both_false : (changed ≡ false) × (again ≡ false)
        both_false = none_of_both changed again (sym e ∙ f)

        d : BlocksDone l old (Some b)
        d = on.done both_false.0

        new_is : new ≡ old
        new_is = passed.same both_false.1 ∙ on.passed.same both_false.0

        by_left : (left : List Block) → d.left ≡ left → Some b ≡ first_block_id left → BlocksDone l old next
        by_left [] k h = cc
        by_left (m ∷ rest) k h =
            let same : m.id ≡ b = sym (some_is b m.id h) in
            let all : old.blocks ≡ d.done ++ m ∷ rest = d.all ∙ ap (λ (z : List Block). d.done ++ z) k in
            let a : Apart (block_ids (d.done ++ m ∷ rest)) = subst (λ (z : List Block). Apart (block_ids z)) all (subst (λ (g : GraphView). IsGraph g) new_is graph).block_ids in
            record {
              done = d.done ++ m ∷ [];
              left = rest;
              all = all ∙ sym (assoc d.done (m ∷ []) rest);
              at = n ∙ ap (λ (g : GraphView). block_id_after b g.blocks) new_is ∙ ap (λ (i : ℕ). block_id_after i old.blocks) (sym same) ∙ ap (block_id_after m.id) all ∙ block_after d.done m rest a;
              each = λ y q. by_part y (has_both d.done (m ∷ []) y q) same;
            }
          where
            by_part : (y : Block) → Has d.done y ⊎ Has (m ∷ []) y → m.id ≡ b → IsBlockIdle l old y.id
            by_part y (inl q) same = d.each y q
            by_part y (inr (inl q)) same = subst (λ (i : ℕ). IsBlockIdle l old i) (sym same ∙ ap (λ (z : Block). z.id) q) (subst (λ (g : GraphView). IsBlockIdle l g b) new_is (nothing both_false.1))
            by_part y (inr (inr q)) same = absurd q

pub blocks_end : (l : LayoutView) (old now : GraphView) (changed : Bool) → OnBlocks l old now changed None → changed ≡ false → IsAllIdle l now
blocks_end l old now changed on f = subst (λ (g : GraphView). IsAllIdle l g) (sym (on.passed.same f)) of_old
  where
    d : BlocksDone l old None
    d = on.done f

    of_old : IsAllIdle l old
    of_old x h = d.each x (subst (λ (bs : List Block). Has bs x) (d.all ∙ ap (λ (z : List Block). d.done ++ z) (none_left_blocks d.left d.at) ∙ no_more d.done) h)

-- The loops over ops and blocks, of which some far loads become LDAH.
use Rattle.std.proofs.Common.{◌≡◌, ◌⊎◌, inl, inr, ℕ, Bool, true, false, ◌||◌, List, [], ◌∷◌, ◌++◌, Option, Some, None, IfSome, IsTrue, refl, sym, ap, ◌∙◌, subst}
use Rattle.std.specs.Prelude.{option_and_then, get_or}
use Rattle.om_graph.specs.View.{Node, Block, GraphView, Has, block_of, block_with, next_op_of, first_op_of, first_id, first_block_id, block_id_after, is_live_op, is_live_block}
use Rattle.om_graph.specs.Held.{IsGraph, Apart, block_ids}
use Rattle.om_blocks.proofs.Walking.{assoc, no_more, some_is, none_left, a_some, block_after}
use Rattle.om_blocks.proofs.LastWords.{has_both}
use Rattle.om_layout.specs.Layout.{LayoutView}
use Rattle.om_addr.specs.Passing.{Reducing}
use Rattle.om_addr.specs.Split.{KeepsEnds, IsOpSplit, IsBlockSplit, IsAllSplit}
use Rattle.om_addr.proofs.InARow as row
use Rattle.om_addr.proofs.Loaded.{none_of_both, in_a_row}
use Rattle.om_addr.proofs.Blockwise.{none_left_blocks}
use Rattle.om_addr.proofs.Splits.{same_ends, ends_both, op_still}

module _ (l : LayoutView) (masks : List ℕ) where
  -- ---- ops

  -- where a walk over the ops of a block is: the ids and their order are those of the start
  pub record OnOps (b out : ℕ) (old now : GraphView) (changed : Bool) (next : Option ℕ) : Type 0 where
    pub live : IfSome next (λ o. IsTrue (is_live_op now o))
    pub passed : Reducing l masks changed old now
    pub ends : KeepsEnds old now
    pub graph : IsGraph now
    pub block : Block
    pub is : block_of old b ≡ Some block
    pub done : List Node
    pub left : List Node
    pub all : block.ops ≡ done ++ left
    pub at : next ≡ first_id left
    pub each : changed ≡ false → (n : Node) → Has done n → IsOpSplit l out old n.id

  pub ops_begin : (b out : ℕ) (g : GraphView) (next : Option ℕ) → IsGraph g → is_live_block g b ≡ true → next ≡ first_op_of g b → IfSome next (λ o. IsTrue (is_live_op g o)) → OnOps b out g g false next
  ops_begin b out g next graph alive n live =
      let x = a_some (block_of g b) alive in
      record {
        live = live;
        passed = row.none l masks g;
        ends = same_ends g;
        graph = graph;
        block = x.0;
        is = x.1;
        done = [];
        left = (x.0).ops;
        all = refl;
        at = n ∙ ap (option_and_then (λ (y : Block). first_id y.ops)) x.1;
        each = λ e n h. absurd h;
      }

  -- the op at which a walk is
  record Here (b out : ℕ) (old now : GraphView) (changed : Bool) (o : ℕ) (on : OnOps b out old now changed (Some o)) : Type 0 where
    node : Node
    rest : List Node
    is_id : node.id ≡ o
    stands : on.block.ops ≡ on.done ++ node ∷ rest

  op_here : (b out : ℕ) (old now : GraphView) (changed : Bool) (o : ℕ) (on : OnOps b out old now changed (Some o)) → Here b out old now changed o on
  op_here b out old now changed o on = by_left on.left refl on.at
    where
      by_left : (left : List Node) → on.left ≡ left → Some o ≡ first_id left → Here b out old now changed o on
      by_left [] k h = cc
      by_left (m ∷ rest) k h = record { node = m; rest = rest; is_id = sym (some_is o m.id h); stands = on.all ∙ ap (λ (z : List Node). on.done ++ z) k }

  pub op_inside : (b out : ℕ) (old now : GraphView) (changed : Bool) (o : ℕ) → OnOps b out old now changed (Some o) → block_with now o ≡ block_of now b
  op_inside b out old now changed o on =
      let h = op_here b out old now changed o on in
      ap (block_with now) (sym h.is_id) ∙ (op_still old now on.graph on.ends b on.block on.is on.done h.node h.rest h.stands).inside

  pub ops_more :
      (b out : ℕ) (old now new : GraphView) (changed again then : Bool) (o : ℕ) (next : Option ℕ) → OnOps b out old now changed (Some o) → then ≡ (changed || again) →
      Reducing l masks again now new → KeepsEnds now new → (again ≡ false → IsOpSplit l out new o) → IsGraph new → next ≡ next_op_of new o → IfSome next (λ n. IsTrue (is_live_op new n)) →
      OnOps b out old new then next
  ops_more b out old now new changed again then o next on e passed ends nothing graph n live = record {
    live = live;
    passed = in_a_row l masks old now new changed again then e on.passed passed;
    ends = keeps;
    graph = graph;
    block = on.block;
    is = on.is;
    done = on.done ++ here.node ∷ [];
    left = here.rest;
    all = here.stands ∙ sym (assoc on.done (here.node ∷ []) here.rest);
    at = n ∙ ap (next_op_of new) (sym here.is_id) ∙ (op_still old new graph keeps b on.block on.is on.done here.node here.rest here.stands).next;
    each = each;
  }
    where
      here : Here b out old now changed o on
      here = op_here b out old now changed o on

      keeps : KeepsEnds old new
      keeps = ends_both old now new on.ends ends

      each : then ≡ false → (y : Node) → Has (on.done ++ here.node ∷ []) y → IsOpSplit l out old y.id
      each f y q = by_part (has_both on.done (here.node ∷ []) y q)
        where
          both_false : (changed ≡ false) × (again ≡ false)
          both_false = none_of_both changed again (sym e ∙ f)

          new_is : new ≡ old
          new_is = passed.same both_false.1 ∙ on.passed.same both_false.0

          by_part : Has on.done y ⊎ Has (here.node ∷ []) y → IsOpSplit l out old y.id
          by_part (inl q) = on.each both_false.0 y q
          by_part (inr (inl q)) =
              subst (λ (i : ℕ). IsOpSplit l out old i) (sym here.is_id ∙ ap (λ (z : Node). z.id) q) (subst (λ (g : GraphView). IsOpSplit l out g o) new_is (nothing both_false.1))
          by_part (inr (inr q)) = absurd q

  pub ops_end : (b out : ℕ) (old now : GraphView) (changed : Bool) → OnOps b out old now changed None → changed ≡ false → IsBlockSplit l out now b
  ops_end b out old now changed on f = subst (λ (g : GraphView). IsBlockSplit l out g b) (sym (on.passed.same f)) of_old
    where
      of_old : IsBlockSplit l out old b
      of_old x n e h =
          on.each f n (subst (λ (ns : List Node). Has ns n) (all_done ∙ no_more on.done) (subst (λ (y : Block). Has y.ops n) (some_block x on.block (sym e ∙ on.is)) h))
        where
          some_block : (x y : Block) → Some x ≡ Some y → x ≡ y
          some_block x y e = cc

          all_done : on.block.ops ≡ on.done ++ []
          all_done = on.all ∙ ap (λ (z : List Node). on.done ++ z) (none_left on.left on.at)

  -- ---- blocks

  pub record BlocksDone (outs : List ℕ) (g : GraphView) (next : Option ℕ) : Type 0 where
    pub done : List Block
    pub left : List Block
    pub all : g.blocks ≡ done ++ left
    pub at : next ≡ first_block_id left
    pub each : (b : Block) → Has done b → IsBlockSplit l (get_or outs b.id 0) g b.id

  pub record OnBlocks (outs : List ℕ) (old now : GraphView) (changed : Bool) (next : Option ℕ) : Type 0 where
    pub live : IfSome next (λ b. IsTrue (is_live_block now b))
    pub passed : Reducing l masks changed old now
    pub ends : KeepsEnds old now
    pub graph : IsGraph now
    pub done : changed ≡ false → BlocksDone outs old next

  pub blocks_begin : (outs : List ℕ) (g : GraphView) (next : Option ℕ) → IsGraph g → next ≡ first_block_id g.blocks → IfSome next (λ b. IsTrue (is_live_block g b)) → OnBlocks outs g g false next
  blocks_begin outs g next graph n live = record {
    live = live;
    passed = row.none l masks g;
    ends = same_ends g;
    graph = graph;
    done = λ e. record { done = []; left = g.blocks; all = refl; at = n; each = λ b h. absurd h };
  }

  pub blocks_more :
      (outs : List ℕ) (old now new : GraphView) (changed again then : Bool) (b : ℕ) (next : Option ℕ) → OnBlocks outs old now changed (Some b) → then ≡ (changed || again) →
      Reducing l masks again now new → KeepsEnds now new → (again ≡ false → IsBlockSplit l (get_or outs b 0) new b) → IsGraph new → next ≡ block_id_after b new.blocks →
      IfSome next (λ n. IsTrue (is_live_block new n)) → OnBlocks outs old new then next
  blocks_more outs old now new changed again then b next on e passed ends nothing graph n live = record {
    live = live;
    passed = in_a_row l masks old now new changed again then e on.passed passed;
    ends = ends_both old now new on.ends ends;
    graph = graph;
    done = done;
  }
    where
      done : then ≡ false → BlocksDone outs old next
      done f = by_left d.left refl d.at
        where
          both_false : (changed ≡ false) × (again ≡ false)
          both_false = none_of_both changed again (sym e ∙ f)

          d : BlocksDone outs old (Some b)
          d = on.done both_false.0

          new_is : new ≡ old
          new_is = passed.same both_false.1 ∙ on.passed.same both_false.0

          by_left : (left : List Block) → d.left ≡ left → Some b ≡ first_block_id left → BlocksDone outs old next
          by_left [] k h = cc
          by_left (m ∷ rest) k h =
              let same : m.id ≡ b = sym (some_is b m.id h) in
              let all : old.blocks ≡ d.done ++ m ∷ rest = d.all ∙ ap (λ (z : List Block). d.done ++ z) k in
              let a : Apart (block_ids (d.done ++ m ∷ rest)) = subst (λ (z : List Block). Apart (block_ids z)) all (subst (λ (g : GraphView). IsGraph g) new_is graph).block_ids in
              record {
                done = d.done ++ m ∷ [];
                left = rest;
                all = all ∙ sym (assoc d.done (m ∷ []) rest);
                at = n ∙ ap (λ (g : GraphView). block_id_after b g.blocks) new_is ∙ ap (λ (i : ℕ). block_id_after i old.blocks) (sym same) ∙ ap (block_id_after m.id) all ∙ block_after d.done m rest a;
                each = λ y q. by_part y (has_both d.done (m ∷ []) y q) same;
              }
            where
              by_part : (y : Block) → Has d.done y ⊎ Has (m ∷ []) y → m.id ≡ b → IsBlockSplit l (get_or outs y.id 0) old y.id
              by_part y (inl q) same = d.each y q
              by_part y (inr (inl q)) same =
                  subst (λ (i : ℕ). IsBlockSplit l (get_or outs i 0) old i) (sym same ∙ ap (λ (z : Block). z.id) q) (subst (λ (g : GraphView). IsBlockSplit l (get_or outs b 0) g b) new_is (nothing both_false.1))
              by_part y (inr (inr q)) same = absurd q

  pub blocks_end : (outs : List ℕ) (old now : GraphView) (changed : Bool) → OnBlocks outs old now changed None → changed ≡ false → IsAllSplit l outs now
  blocks_end outs old now changed on f = subst (λ (g : GraphView). IsAllSplit l outs g) (sym (on.passed.same f)) of_old
    where
      d : BlocksDone outs old None
      d = on.done f

      of_old : IsAllSplit l outs old
      of_old x h = d.each x (subst (λ (bs : List Block). Has bs x) (d.all ∙ ap (λ (z : List Block). d.done ++ z) (none_left_blocks d.left d.at) ∙ no_more d.done) h)

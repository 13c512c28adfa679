-- The walk that gives ops behind one another kind, one by one.
use Rattle.std.proofs.Common.{◌≡◌, ℕ, Bool, true, false, cond, List, [], ◌∷◌, ◌++◌, Option, Some, None, refl, sym, ap, ◌∙◌, subst}
use Rattle.om_graph.specs.declared.op.Op.{Op}
use Rattle.om_graph.specs.declared.op.OpKind.{OpKind}
use Rattle.om_graph.specs.View.{Node, Block, GraphView, Has, op_of, next_op_of, first_id, replaced}
use Rattle.om_graph.specs.Held.{IsGraph}
use Rattle.om_blocks.proofs.Walking.{assoc, some_is, none_left}
use Rattle.om_passes.specs.Replaces.{OpEdit, all_replaced}
use Rattle.om_addr.specs.Passing.{set_if}
use Rattle.om_addr.specs.FarRow.{edit_if, edits_of, AreSetBehind}
use Rattle.om_addr.proofs.Walking.{At, op_there, op_is, next_is, with_kind, replaced_at, replaced_behind, fewer_left, ops_left, op_ids_set}
use Rattle.om_graph.specs.Held.{op_ids}
use Rattle.std.proofs.Common.{◌<◌}

module _ (f : OpKind → Option OpKind) (ends : OpKind → Bool) where
  -- the walk has come to an op: what is left to do makes of the graph what all of it makes of the first one
  pub record Setting (old now : GraphView) (id : ℕ) (next : Option ℕ) : Type 0 where
    pub first : Block
    pub among : Has old.blocks first
    pub before : List Node
    pub node : Node
    pub behind : List Node
    pub stands : first.ops ≡ before ++ node ∷ behind
    pub is_id : node.id ≡ id
    pub block : Block
    pub here : Has now.blocks block
    pub done : List Node
    pub left : List Node
    pub is : block.ops ≡ done ++ left
    pub at : next ≡ first_id left
    pub rest : all_replaced now (edits_of f ends left) ≡ all_replaced old (edits_of f ends behind)

  pub setting_begins : (g : GraphView) (id : ℕ) (x : Op) (next : Option ℕ) → IsGraph g → op_of g id ≡ Some x → next ≡ next_op_of g id → Setting g g id next
  setting_begins g id x next graph e n =
      let t = op_there g id x graph e in
      record {
        first = t.at.block;
        among = t.at.among;
        before = t.at.before;
        node = t.node;
        behind = t.at.behind;
        stands = t.at.stands;
        is_id = t.is_id;
        block = t.at.block;
        here = t.at.among;
        done = t.at.before ++ t.node ∷ [];
        left = t.at.behind;
        is = t.at.stands ∙ sym (assoc t.at.before (t.node ∷ []) t.at.behind);
        at = n ∙ ap (next_op_of g) (sym t.is_id) ∙ next_is g graph t.node t.at;
        rest = refl;
      }

  -- the op that is next, as it stands in the graph behind its edit
  pub record Set (old new : GraphView) (id o : ℕ) (k : OpKind) : Type 0 where
    pub first : Block
    pub among : Has old.blocks first
    pub before : List Node
    pub node : Node
    pub behind : List Node
    pub stands : first.ops ≡ before ++ node ∷ behind
    pub is_id : node.id ≡ id
    pub here : Node
    pub there : At new here
    pub here_id : here.id ≡ o
    pub rest :
        all_replaced new (cond (ends k) [] (edits_of f ends there.behind)) ≡ all_replaced old (edits_of f ends behind)

  pub set_one : (old now : GraphView) (id o : ℕ) (y : Op) → IsGraph now → op_of now o ≡ Some y → Setting old now id (Some o) → Set old (set_if now o (f y.kind)) id o y.kind
  set_one old now id o y graph e s = by_left s.left refl s.at
    where
      by_left : (left : List Node) → s.left ≡ left → Some o ≡ first_id left → Set old (set_if now o (f y.kind)) id o y.kind
      by_left [] l h = cc
      by_left (n ∷ more) l h = by_kind (f y.kind) refl
        where
          same : n.id ≡ o
          same = sym (some_is o n.id h)

          at : At now n
          at = record { block = s.block; among = s.here; before = s.done; behind = more; stands = s.is ∙ ap (λ (z : List Node). s.done ++ z) l }

          some_op : (a b : Op) → Some a ≡ Some b → a ≡ b
          some_op a b e = cc

          is_op : n.op ≡ y
          is_op = some_op n.op y (sym (op_is now graph n at) ∙ ap (op_of now) same ∙ e)

          left_edits : all_replaced now (edit_if o (f y.kind) (cond (ends y.kind) [] (edits_of f ends more))) ≡ all_replaced old (edits_of f ends s.behind)
          left_edits =
              ap (λ (i : ℕ). all_replaced now (edit_if i (f y.kind) (cond (ends y.kind) [] (edits_of f ends more)))) (sym same)
              ∙ ap (λ (v : Op). all_replaced now (edit_if n.id (f v.kind) (cond (ends v.kind) [] (edits_of f ends more)))) (sym is_op)
              ∙ ap (λ (z : List Node). all_replaced now (edits_of f ends z)) (sym l) ∙ s.rest

          by_kind : (z : Option OpKind) → f y.kind ≡ z → Set old (set_if now o z) id o y.kind
          by_kind None z = record {
            first = s.first;
            among = s.among;
            before = s.before;
            node = s.node;
            behind = s.behind;
            stands = s.stands;
            is_id = s.is_id;
            here = n;
            there = at;
            here_id = same;
            rest = ap (λ (v : Option OpKind). all_replaced now (edit_if o v (cond (ends y.kind) [] (edits_of f ends more)))) (sym z) ∙ left_edits;
          }
          by_kind (Some k) z = subst (λ (i : ℕ). Set old (replaced now i k) id o y.kind) same (record {
            first = s.first;
            among = s.among;
            before = s.before;
            node = s.node;
            behind = s.behind;
            stands = s.stands;
            is_id = s.is_id;
            here = with_kind n k;
            there = replaced_at now graph n at k;
            here_id = same;
            rest =
                ap (λ (l : List Node). all_replaced (replaced now n.id k) (cond (ends y.kind) [] (edits_of f ends l))) (replaced_behind now graph n at k)
                ∙ ap (λ (i : ℕ). all_replaced now (edit_if i (Some k) (cond (ends y.kind) [] (edits_of f ends more)))) same
                ∙ ap (λ (v : Option OpKind). all_replaced now (edit_if o v (cond (ends y.kind) [] (edits_of f ends more)))) (sym z) ∙ left_edits;
          })

  pub setting_goes_on : (old new : GraphView) (id o : ℕ) (k : OpKind) (next : Option ℕ) → IsGraph new → Set old new id o k → ends k ≡ false → next ≡ next_op_of new o → Setting old new id next
  setting_goes_on old new id o k next graph s e n = record {
    first = s.first;
    among = s.among;
    before = s.before;
    node = s.node;
    behind = s.behind;
    stands = s.stands;
    is_id = s.is_id;
    block = s.there.block;
    here = s.there.among;
    done = s.there.before ++ s.here ∷ [];
    left = s.there.behind;
    is = s.there.stands ∙ sym (assoc s.there.before (s.here ∷ []) s.there.behind);
    at = n ∙ ap (next_op_of new) (sym s.here_id) ∙ next_is new graph s.here s.there;
    rest = ap (λ (b : Bool). all_replaced new (cond b [] (edits_of f ends s.there.behind))) (sym e) ∙ s.rest;
  }

  pub setting_fewer : (g new : GraphView) (old : GraphView) (id o : ℕ) (k : OpKind) (next : Option ℕ) → IsGraph new → Set old new id o k → op_ids new.blocks ≡ op_ids g.blocks → next ≡ next_op_of new o → ops_left new next < ops_left g (Some o)
  setting_fewer g new old id o k next graph s same n =
      let e : next ≡ first_id s.there.behind = n ∙ ap (next_op_of new) (sym s.here_id) ∙ next_is new graph s.here s.there in
      subst (λ (i : Option ℕ). ops_left new i < ops_left g (Some o)) (sym e)
      (subst (λ (i : ℕ). ops_left new (first_id s.there.behind) < ops_left g (Some i)) s.here_id (fewer_left g new s.here s.there graph same))

  pub setting_stops : (old new : GraphView) (id o : ℕ) (k : OpKind) → Set old new id o k → ends k ≡ true → AreSetBehind f ends old new id
  setting_stops old new id o k s e = record {
    block = s.first;
    among = s.among;
    before = s.before;
    node = s.node;
    behind = s.behind;
    stands = s.stands;
    is_id = s.is_id;
    set = ap (λ (b : Bool). all_replaced new (cond b [] (edits_of f ends s.there.behind))) (sym e) ∙ s.rest;
  }

  pub setting_ends : (old new : GraphView) (id : ℕ) → Setting old new id None → AreSetBehind f ends old new id
  setting_ends old new id s = record {
    block = s.first;
    among = s.among;
    before = s.before;
    node = s.node;
    behind = s.behind;
    stands = s.stands;
    is_id = s.is_id;
    set = ap (λ (l : List Node). all_replaced new (edits_of f ends l)) (sym (none_left s.left s.at)) ∙ s.rest;
  }

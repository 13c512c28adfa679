-- A walk over the ops behind one in its block, on which some become others.
use Rattle.std.proofs.Common.{◌≡◌, ◌⊎◌, inl, inr, ℕ, suc, ◌<◌, Bool, true, false, cond, ◌==◌, List, [], ◌∷◌, ◌++◌, length, Option, Some, None, refl, sym, ap, ◌∙◌, subst, arith}
use Rattle.std.specs.Prelude.{map, find, option_map, option_and_then}
use Rattle.std.proofs.lemmas.Bool.{true≢false, eqb-true}
use Rattle.std.proofs.lemmas.Bool.Decides.{nat_tests}
use Rattle.om_graph.specs.declared.op.Op.{Op}
use Rattle.om_graph.specs.declared.op.OpKind.{OpKind}
use Rattle.om_graph.specs.View.{Node, Block, GraphView, Has, is_node, node_in, holds_node, block_with, op_of, next_op_of, first_id, id_after, kind_set, replace_in, replaced}
use Rattle.om_graph.specs.Held.{IsGraph, Apart, node_ids, block_ids, op_ids}
use Rattle.om_blocks.proofs.Walking.{assoc, has_mid, not_same, apart_rest, apart_in, has_node, find_op, find_with, op_after, split, some_is, none_left}
use Rattle.om_passes.specs.OneEdit.{IsOp}
use Rattle.om_passes.proofs.OneBlock.{old_block, new_there}
use Rattle.om_passes.proofs.OneBlock as one
use Rattle.om_addr.specs.Passing.{set_if}

-- ---- where an op stands

-- a node of a kept block, with those before and behind it
pub record At (g : GraphView) (n : Node) : Type 0 where
  pub block : Block
  pub among : Has g.blocks block
  pub before : List Node
  pub behind : List Node
  pub stands : block.ops ≡ before ++ n ∷ behind

module _ (g : GraphView) (graph : IsGraph g) (n : Node) (at : At g n) where
  pub ids_apart : Apart (node_ids (at.before ++ n ∷ at.behind))
  ids_apart = subst (λ (l : List Node). Apart (node_ids l)) at.stands (apart_in g.blocks at.block graph.op_ids at.among)

  node_is : node_in n.id at.block ≡ Some n
  node_is = ap (find (is_node n.id)) at.stands ∙ find_op at.before n at.behind ids_apart

  block_is : block_with g n.id ≡ Some at.block
  block_is = find_with g.blocks at.block n graph.op_ids at.among node_is (subst (λ (l : List Node). Has (node_ids l) n.id) (sym at.stands) (has_node at.before n at.behind))

  pub is_op : IsOp g n.id at.block n
  is_op = record { block = block_is; node = node_is }

  pub op_is : op_of g n.id ≡ Some n.op
  op_is = ap (λ (o : Option Block). option_map (λ (m : Node). m.op) (option_and_then (node_in n.id) o)) block_is ∙ ap (option_map (λ (m : Node). m.op)) node_is

  pub next_is : next_op_of g n.id ≡ first_id at.behind
  next_is =
      ap (option_and_then (λ (b : Block). id_after n.id b.ops)) block_is ∙ ap (id_after n.id) at.stands ∙ op_after at.before n at.behind ids_apart

-- the op of an id
pub record OpThere (g : GraphView) (id : ℕ) (x : Op) : Type 0 where
  pub node : Node
  pub at : At g node
  pub is_id : node.id ≡ id
  pub is_op : node.op ≡ x

pub op_there : (g : GraphView) (id : ℕ) (x : Op) → IsGraph g → op_of g id ≡ Some x → OpThere g id x
op_there g id x graph e = by_block (block_with g id) refl e
  where
    by_node : (b : Block) → block_with g id ≡ Some b → (o : Option Node) → node_in id b ≡ o → option_map (λ (m : Node). m.op) o ≡ Some x → OpThere g id x
    by_node b with None f e = cc
    by_node b with (Some n) f e =
        let p = one.parts g graph id b with n f in
        record {
          node = n;
          at = record { block = b; among = old_block (one.replaced_one g graph id b with n.op.kind); before = p.before; behind = p.after; stands = p.same };
          is_id = eqb-true n.id id p.here;
          is_op = some_op n.op x e;
        }
      where
        some_op : (y z : Op) → Some y ≡ Some z → y ≡ z
        some_op y z e = cc

    by_block : (o : Option Block) → block_with g id ≡ o → option_map (λ (m : Node). m.op) (option_and_then (node_in id) o) ≡ Some x → OpThere g id x
    by_block None f e = cc
    by_block (Some b) f e = by_node b f (node_in id b) refl e

-- ---- another kind in an op

kinds_else : (id : ℕ) (k : OpKind) (ns : List Node) → (Has (node_ids ns) id → ⊥) → map (kind_set id k) ns ≡ ns
kinds_else id k [] out = refl
kinds_else id k (n ∷ ns) out =
    let e = not_same n.id id (λ h. out (inl h)) in
    let r = kinds_else id k ns (λ h. out (inr h)) in
    rw (e, r) refl

abbrev pub with_kind : Node → OpKind → Node
with_kind n k = record n { op = record (n.op) { kind = k } }

eqb_self : (n : ℕ) → (n == n) ≡ true
eqb_self n = grind (arith, nat_tests)

kinds_here : (before : List Node) (n : Node) (behind : List Node) (k : OpKind) → Apart (node_ids (before ++ n ∷ behind)) → map (kind_set n.id k) (before ++ n ∷ behind) ≡ before ++ with_kind n k ∷ behind
kinds_here [] n behind k a =
    let e = eqb_self n.id in
    let r = kinds_else n.id k behind a.0 in
    rw (e, r) refl
kinds_here (m ∷ before) n behind k a =
    let e = not_same m.id n.id (λ h. a.0 (subst (λ (i : ℕ). Has (node_ids (before ++ n ∷ behind)) i) (sym h) (has_node before n behind))) in
    let r = kinds_here before n behind k a.1 in
    rw (e, r) refl

-- the op with another kind, between the same ops
pub replaced_at : (g : GraphView) (graph : IsGraph g) (n : Node) (at : At g n) (k : OpKind) → At (replaced g n.id k) (with_kind n k)
replaced_at g graph n at k = record {
  block = replace_in n.id k at.block;
  among = new_there (one.replaced_one g graph n.id at.block (is_op g graph n at).block k);
  before = at.before;
  behind = at.behind;
  stands = ap (map (kind_set n.id k)) at.stands ∙ kinds_here at.before n at.behind k (ids_apart g graph n at);
}

pub node_ids_set : (id : ℕ) (k : OpKind) (ns : List Node) → node_ids (map (kind_set id k) ns) ≡ node_ids ns
node_ids_set id k [] = refl
node_ids_set id k (n ∷ ns) = by_test (n.id == id) (node_ids_set id k ns)
  where
    by_test : (t : Bool) → node_ids (map (kind_set id k) ns) ≡ node_ids ns → (cond t (with_kind n k) n).id ∷ node_ids (map (kind_set id k) ns) ≡ n.id ∷ node_ids ns
    by_test true e = ap (λ (l : List ℕ). n.id ∷ l) e
    by_test false e = ap (λ (l : List ℕ). n.id ∷ l) e

pub op_ids_set : (id : ℕ) (k : OpKind) (bs : List Block) → op_ids (map (replace_in id k) bs) ≡ op_ids bs
op_ids_set id k [] = refl
op_ids_set id k (b ∷ bs) = ap (λ (l : List ℕ). l ++ op_ids (map (replace_in id k) bs)) (node_ids_set id k b.ops) ∙ ap (λ (l : List ℕ). node_ids b.ops ++ l) (op_ids_set id k bs)

pub block_ids_set : (id : ℕ) (k : OpKind) (bs : List Block) → block_ids (map (replace_in id k) bs) ≡ block_ids bs
block_ids_set id k [] = refl
block_ids_set id k (b ∷ bs) = ap (λ (l : List ℕ). b.id ∷ l) (block_ids_set id k bs)

-- ---- how many ops are left

abbrev pub ids_from : Option ℕ → List ℕ → List ℕ
ids_from None ids = []
ids_from (Some id) [] = []
ids_from (Some id) (x ∷ ids) = cond (x == id) (x ∷ ids) (ids_from (Some id) ids)

abbrev pub ops_left : GraphView → Option ℕ → ℕ
ops_left g next = length (ids_from next (op_ids g.blocks))

pub from_here : (xs : List ℕ) (a : ℕ) (ys : List ℕ) → Apart (xs ++ a ∷ ys) → ids_from (Some a) (xs ++ a ∷ ys) ≡ a ∷ ys
from_here [] a ys p = let e = eqb_self a in rw e refl
from_here (x ∷ xs) a ys p =
    let e = not_same x a (λ h. p.0 (subst (λ (i : ℕ). Has (xs ++ a ∷ ys) i) (sym h) (has_mid xs a ys))) in
    rw e (from_here xs a ys p.1)

pub from_next : (xs : List ℕ) (a b : ℕ) (ys : List ℕ) → Apart (xs ++ a ∷ b ∷ ys) → ids_from (Some b) (xs ++ a ∷ b ∷ ys) ≡ b ∷ ys
from_next xs a b ys p = ap (ids_from (Some b)) (sym (assoc xs (a ∷ []) (b ∷ ys))) ∙ from_here (xs ++ a ∷ []) b ys (subst (λ (l : List ℕ). Apart l) (sym (assoc xs (a ∷ []) (b ∷ ys))) p)

op_ids_both : (xs ys : List Block) → op_ids (xs ++ ys) ≡ op_ids xs ++ op_ids ys
op_ids_both [] ys = refl
op_ids_both (x ∷ xs) ys = ap (λ (l : List ℕ). node_ids x.ops ++ l) (op_ids_both xs ys) ∙ sym (assoc (node_ids x.ops) (op_ids xs) (op_ids ys))

node_ids_both : (xs ys : List Node) → node_ids (xs ++ ys) ≡ node_ids xs ++ node_ids ys
node_ids_both [] ys = refl
node_ids_both (x ∷ xs) ys = ap (λ (l : List ℕ). x.id ∷ l) (node_ids_both xs ys)

record IdAt (g : GraphView) (n : Node) (behind : List Node) : Type 0 where
  before : List ℕ
  after : List ℕ
  all : op_ids g.blocks ≡ before ++ n.id ∷ (node_ids behind ++ after)

id_at : (g : GraphView) (n : Node) (at : At g n) → IdAt g n at.behind
id_at g n at =
    let s = split g.blocks at.block at.among in
    let inside : node_ids at.block.ops ≡ node_ids at.before ++ n.id ∷ node_ids at.behind = ap node_ids at.stands ∙ node_ids_both at.before (n ∷ at.behind) in
    record {
      before = op_ids s.0 ++ node_ids at.before;
      after = op_ids s.1;
      all =
          ap op_ids s.2 ∙ op_ids_both s.0 (at.block ∷ s.1)
          ∙ ap (λ (l : List ℕ). op_ids s.0 ++ (l ++ op_ids s.1)) inside
          ∙ ap (λ (l : List ℕ). op_ids s.0 ++ l) (assoc (node_ids at.before) (n.id ∷ node_ids at.behind) (op_ids s.1))
          ∙ sym (assoc (op_ids s.0) (node_ids at.before) (n.id ∷ (node_ids at.behind ++ op_ids s.1)));
    }

-- behind an op fewer are left, whatever kinds ops were given meanwhile
pub fewer_left :
    (g h : GraphView) (n : Node) (at : At h n) → IsGraph h → op_ids h.blocks ≡ op_ids g.blocks → ops_left h (first_id at.behind) < ops_left g (Some n.id)
fewer_left g h n at graph same = by_behind at.behind (id_at h n at)
  where
    by_behind : (behind : List Node) → IdAt h n behind → ops_left h (first_id behind) < ops_left g (Some n.id)
    by_behind [] i =
        let a = subst (λ (l : List ℕ). Apart l) i.all graph.op_ids in
        let e = ap (λ (l : List ℕ). length (ids_from (Some n.id) l)) (sym same ∙ i.all) ∙ ap (λ (l : List ℕ). length l) (from_here i.before n.id i.after a) in
        omega (arith, e)
    by_behind (m ∷ behind) i =
        let a = subst (λ (l : List ℕ). Apart l) i.all graph.op_ids in
        let e = ap (λ (l : List ℕ). length (ids_from (Some n.id) l)) (sym same ∙ i.all) ∙ ap (λ (l : List ℕ). length l) (from_here i.before n.id (m.id ∷ (node_ids behind ++ i.after)) a) in
        let f = ap (λ (l : List ℕ). length (ids_from (Some m.id) l)) i.all ∙ ap (λ (l : List ℕ). length l) (from_next i.before n.id m.id (node_ids behind ++ i.after) a) in
        omega (arith, e, f)

-- ---- the walk

-- each op becomes what f says of its kind, up to one of which ends holds
module _ (f : OpKind → Option OpKind) (ends : OpKind → Bool) where
  -- ops that become no others, and do not end the walk
  abbrev pub Passed : List Node → Type 0
  Passed [] = Unit {0}
  Passed (n ∷ ns) = (f n.op.kind ≡ None) × (ends n.op.kind ≡ false) × Passed ns

  -- up to one that ends the walk, none becomes another
  abbrev pub NoneLeft : List Node → Type 0
  NoneLeft [] = Unit {0}
  NoneLeft (n ∷ ns) = (f n.op.kind ≡ None) × (ends n.op.kind ≡ false → NoneLeft ns)

  pub record OnUses (g : GraphView) (id : ℕ) (x : Op) (next : Option ℕ) : Type 0 where
    pub block : Block
    pub among : Has g.blocks block
    pub before : List Node
    pub node : Node
    pub mid : List Node
    pub left : List Node
    pub stands : block.ops ≡ before ++ node ∷ (mid ++ left)
    pub is_id : node.id ≡ id
    pub is_op : node.op ≡ x
    pub at : next ≡ first_id left
    pub passed : Passed mid

  pub record Walked (g : GraphView) (id : ℕ) (x : Op) : Type 0 where
    pub node : Node
    pub at : At g node
    pub is_id : node.id ≡ id
    pub is_op : node.op ≡ x
    pub none : NoneLeft at.behind

  passed_then : (mid left : List Node) → Passed mid → NoneLeft left → NoneLeft (mid ++ left)
  passed_then [] left p h = h
  passed_then (m ∷ mid) left p h = (p.0, λ e. passed_then mid left p.2 h)

  passed_more : (mid : List Node) (n : Node) → Passed mid → f n.op.kind ≡ None → ends n.op.kind ≡ false → Passed (mid ++ n ∷ [])
  passed_more [] n p h e = (h, e, tt)
  passed_more (m ∷ mid) n p h e = (p.0, p.1, passed_more mid n p.2 h e)

  pub walk_begins : (g : GraphView) (id : ℕ) (x : Op) (next : Option ℕ) → IsGraph g → op_of g id ≡ Some x → next ≡ next_op_of g id → OnUses g id x next
  walk_begins g id x next graph e n =
      let t = op_there g id x graph e in
      record {
        block = t.at.block;
        among = t.at.among;
        before = t.at.before;
        node = t.node;
        mid = [];
        left = t.at.behind;
        stands = t.at.stands;
        is_id = t.is_id;
        is_op = t.is_op;
        at = n ∙ ap (next_op_of g) (sym t.is_id) ∙ next_is g graph t.node t.at;
        passed = tt;
      }

  -- the op that is next
  pub record NextUse (g : GraphView) (id : ℕ) (x : Op) (o : ℕ) (y : Op) (on : OnUses g id x (Some o)) : Type 0 where
    pub node : Node
    pub rest : List Node
    pub left : on.left ≡ node ∷ rest
    pub is_id : node.id ≡ o
    pub is_op : node.op ≡ y
    pub at : At g node
    pub at_block : at.block ≡ on.block
    pub at_before : at.before ≡ on.before ++ on.node ∷ on.mid
    pub at_behind : at.behind ≡ rest

  pub next_use : (g : GraphView) (id : ℕ) (x : Op) (o : ℕ) (y : Op) (on : OnUses g id x (Some o)) → IsGraph g → op_of g o ≡ Some y → NextUse g id x o y on
  next_use g id x o y on graph e = by_left on.left refl on.at
    where
      by_left : (left : List Node) → on.left ≡ left → Some o ≡ first_id left → NextUse g id x o y on
      by_left [] l h = cc
      by_left (n ∷ rest) l h =
          let same : n.id ≡ o = sym (some_is o n.id h) in
          let at : At g n = record {
            block = on.block;
            among = on.among;
            before = on.before ++ on.node ∷ on.mid;
            behind = rest;
            stands = on.stands ∙ ap (λ (z : List Node). on.before ++ on.node ∷ (on.mid ++ z)) l ∙ sym (assoc on.before (on.node ∷ on.mid) (n ∷ rest));
          } in
          record {
            node = n;
            rest = rest;
            left = l;
            is_id = same;
            is_op = some_op n.op y (sym (op_is g graph n at) ∙ ap (op_of g) same ∙ e);
            at = at;
            at_block = refl;
            at_before = refl;
            at_behind = refl;
          }
        where
          some_op : (a b : Op) → Some a ≡ Some b → a ≡ b
          some_op a b e = cc

  -- what a use becomes is none, and ends a walk where the use did
  pub record Settles : Type 0 where
    pub none : (k z : OpKind) → f k ≡ Some z → f z ≡ None
    pub end : (k z : OpKind) → f k ≡ Some z → ends z ≡ ends k

  pub record Moved (g : GraphView) (id : ℕ) (x : Op) (o : ℕ) (y : Op) : Type 0 where
    pub block : Block
    pub before : List Node
    pub node : Node
    pub mid : List Node
    pub here : Node
    pub rest : List Node
    pub among : Has g.blocks block
    pub stands : block.ops ≡ before ++ node ∷ (mid ++ here ∷ rest)
    pub is_id : node.id ≡ id
    pub is_op : node.op ≡ x
    pub here_id : here.id ≡ o
    pub passed : Passed mid
    pub none : f here.op.kind ≡ None
    pub end : ends here.op.kind ≡ ends y.kind

  pub moved : Settles → (g : GraphView) (id : ℕ) (x : Op) (o : ℕ) (y : Op) (on : OnUses g id x (Some o)) → IsGraph g → op_of g o ≡ Some y → Moved (set_if g o (f y.kind)) id x o y
  unfolding replaced_at next_use
  moved settles g id x o y on graph e = by_kind (f y.kind) refl
    where
      n : NextUse g id x o y on
      n = next_use g id x o y on graph e

      by_kind : (k : Option OpKind) → f y.kind ≡ k → Moved (set_if g o k) id x o y
      by_kind None z = record {
        block = on.block;
        before = on.before;
        node = on.node;
        mid = on.mid;
        here = n.node;
        rest = n.rest;
        among = on.among;
        stands = on.stands ∙ ap (λ (l : List Node). on.before ++ on.node ∷ (on.mid ++ l)) n.left;
        is_id = on.is_id;
        is_op = on.is_op;
        here_id = n.is_id;
        passed = on.passed;
        none = ap (λ (v : Op). f v.kind) n.is_op ∙ z;
        end = ap (λ (v : Op). ends v.kind) n.is_op;
      }
      by_kind (Some k) z = subst (λ (i : ℕ). Moved (replaced g i k) id x o y) n.is_id (record {
        block = r.block;
        before = on.before;
        node = on.node;
        mid = on.mid;
        here = with_kind n.node k;
        rest = n.rest;
        among = r.among;
        stands = r.stands ∙ ap (λ (l : List Node). l ++ with_kind n.node k ∷ n.at.behind) n.at_before ∙ ap (λ (l : List Node). (on.before ++ on.node ∷ on.mid) ++ with_kind n.node k ∷ l) n.at_behind
            ∙ assoc on.before (on.node ∷ on.mid) (with_kind n.node k ∷ n.rest);
        is_id = on.is_id;
        is_op = on.is_op;
        here_id = n.is_id;
        passed = on.passed;
        none = settles.none y.kind k z;
        end = settles.end y.kind k z;
      })
        where
          r : At (replaced g n.node.id k) (with_kind n.node k)
          r = replaced_at g graph n.node n.at k

  pub at_moved : (g : GraphView) (id : ℕ) (x : Op) (o : ℕ) (y : Op) (m : Moved g id x o y) → At g m.here
  at_moved g id x o y m = record {
    block = m.block;
    among = m.among;
    before = m.before ++ m.node ∷ m.mid;
    behind = m.rest;
    stands = m.stands ∙ sym (assoc m.before (m.node ∷ m.mid) (m.here ∷ m.rest));
  }

  pub walk_goes_on : (g : GraphView) (id : ℕ) (x : Op) (o : ℕ) (y : Op) (next : Option ℕ) → Moved g id x o y → IsGraph g → ends y.kind ≡ false → next ≡ next_op_of g o → OnUses g id x next
  unfolding at_moved
  walk_goes_on g id x o y next m graph e n = record {
    block = m.block;
    among = m.among;
    before = m.before;
    node = m.node;
    mid = m.mid ++ m.here ∷ [];
    left = m.rest;
    stands = m.stands ∙ ap (λ (l : List Node). m.before ++ m.node ∷ l) (sym (assoc m.mid (m.here ∷ []) m.rest));
    is_id = m.is_id;
    is_op = m.is_op;
    at = n ∙ ap (next_op_of g) (sym m.here_id) ∙ next_is g graph m.here (at_moved g id x o y m);
    passed = passed_more m.mid m.here m.passed m.none (m.end ∙ e);
  }

  pub walk_fewer : (g h : GraphView) (id : ℕ) (x : Op) (o : ℕ) (y : Op) (next : Option ℕ) → Moved h id x o y → IsGraph h → op_ids h.blocks ≡ op_ids g.blocks → next ≡ next_op_of h o → ops_left h next < ops_left g (Some o)
  unfolding at_moved
  walk_fewer g h id x o y next m graph same n =
      let at = at_moved h id x o y m in
      let e : next ≡ first_id m.rest = n ∙ ap (next_op_of h) (sym m.here_id) ∙ next_is h graph m.here at in
      subst (λ (i : Option ℕ). ops_left h i < ops_left g (Some o)) (sym e)
      (subst (λ (i : ℕ). ops_left h (first_id m.rest) < ops_left g (Some i)) m.here_id (fewer_left g h m.here at graph same))

  pub walk_stops : (g : GraphView) (id : ℕ) (x : Op) (o : ℕ) (y : Op) → Moved g id x o y → ends y.kind ≡ true → Walked g id x
  walk_stops g id x o y m e = record {
    node = m.node;
    at = record { block = m.block; among = m.among; before = m.before; behind = m.mid ++ m.here ∷ m.rest; stands = m.stands };
    is_id = m.is_id;
    is_op = m.is_op;
    none = passed_then m.mid (m.here ∷ m.rest) m.passed (m.none, λ h. absurd (true≢false (sym e ∙ sym m.end ∙ h)));
  }

  pub walk_ends : (g : GraphView) (id : ℕ) (x : Op) → OnUses g id x None → Walked g id x
  walk_ends g id x on = record {
    node = on.node;
    at = record { block = on.block; among = on.among; before = on.before; behind = on.mid ++ on.left; stands = on.stands };
    is_id = on.is_id;
    is_op = on.is_op;
    none = passed_then on.mid on.left on.passed (subst (λ (l : List Node). NoneLeft l) (sym (none_left on.left on.at)) tt);
  }

-- what stands behind the op stays
pub replaced_behind : (g : GraphView) (graph : IsGraph g) (n : Node) (at : At g n) (k : OpKind) → (replaced_at g graph n at k).behind ≡ at.behind
unfolding replaced_at
replaced_behind g graph n at k = refl

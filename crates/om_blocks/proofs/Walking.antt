-- Walks over the ops of a block and over the blocks of a graph, whatever is made on the way.
use Rattle.std.proofs.Common.{◌≡◌, inl, inr, ℕ, suc, ◌<◌, Bool, true, false, cond, ◌==◌, List, [], ◌∷◌, ◌++◌, length, Option, Some, None, IfSome, IsTrue, refl, ap, sym, subst, ◌∙◌, arith}
use Rattle.std.specs.Prelude.{map, find, is_some, option_map, option_and_then}
use Rattle.std.proofs.lemmas.Bool.Decides.{nat_tests}
use Rattle.om_graph.specs.declared.op.Op.{Op}
use Rattle.om_graph.specs.View.{Node, Block, GraphView, Has, ops_of, is_block, is_node, node_in, holds_node, block_of, block_with, op_of, next_op_of, first_op_of, first_id, id_after, first_block_id, block_id_after, is_live_block, is_live_op}
use Rattle.om_graph.specs.Held.{IsGraph, Apart, node_ids, block_ids, op_ids}

-- ---- lists

pub assoc : {A : Type 0} (xs ys zs : List A) → (xs ++ ys) ++ zs ≡ xs ++ (ys ++ zs)
assoc [] ys zs = refl
assoc (x ∷ xs) ys zs = ap (λ l. x ∷ l) (assoc xs ys zs)

pub no_more : {A : Type 0} (xs : List A) → xs ++ [] ≡ xs
no_more [] = refl
no_more (x ∷ xs) = ap (λ l. x ∷ l) (no_more xs)

pub map_both : {A B : Type 0} (f : A → B) (xs ys : List A) → map f (xs ++ ys) ≡ map f xs ++ map f ys
map_both f [] ys = refl
map_both f (x ∷ xs) ys = ap (λ l. f x ∷ l) (map_both f xs ys)

pub has_mid : {A : Type 0} (xs : List A) (y : A) (ys : List A) → Has (xs ++ y ∷ ys) y
has_mid [] y ys = inl refl
has_mid (x ∷ xs) y ys = inr (has_mid xs y ys)

-- ---- names

eqb_self : (n : ℕ) → (n == n) ≡ true
eqb_self n = grind (arith, nat_tests)

pub not_same : (m n : ℕ) → (m ≡ n → ⊥) → (m == n) ≡ false
not_same m n h = grind (arith, nat_tests, h)

pub has_left : (xs ys : List ℕ) (x : ℕ) → Has xs x → Has (xs ++ ys) x
has_left [] ys x h = absurd h
has_left (z ∷ zs) ys x (inl e) = inl e
has_left (z ∷ zs) ys x (inr h) = inr (has_left zs ys x h)

pub has_right : (xs ys : List ℕ) (x : ℕ) → Has ys x → Has (xs ++ ys) x
has_right [] ys x h = h
has_right (z ∷ zs) ys x h = inr (has_right zs ys x h)

pub apart_first : (xs ys : List ℕ) → Apart (xs ++ ys) → Apart xs
apart_first [] ys a = tt
apart_first (x ∷ xs) ys a = ((λ h. a.0 (has_left xs ys x h)), apart_first xs ys a.1)

pub apart_rest : (xs ys : List ℕ) → Apart (xs ++ ys) → Apart ys
apart_rest [] ys a = a
apart_rest (x ∷ xs) ys a = apart_rest xs ys a.1

pub apart_two : (xs ys : List ℕ) (x : ℕ) → Apart (xs ++ ys) → Has xs x → Has ys x → ⊥
apart_two [] ys x a h k = h
apart_two (z ∷ zs) ys x a (inl e) k = a.0 (has_right zs ys z (subst (λ n. Has ys n) (sym e) k))
apart_two (z ∷ zs) ys x a (inr h) k = apart_two zs ys x a.1 h k

-- ---- the ops of a block

-- what is left from an id on
abbrev pub ops_from : Option ℕ → List Node → List Node
ops_from None ns = []
ops_from (Some id) [] = []
ops_from (Some id) (n ∷ ns) = cond (n.id == id) (n ∷ ns) (ops_from (Some id) ns)

pub has_node : (done : List Node) (n : Node) (rest : List Node) → Has (node_ids (done ++ n ∷ rest)) n.id
has_node [] n rest = inl refl
has_node (m ∷ ms) n rest = inr (has_node ms n rest)

other_node : (m : Node) (done : List Node) (n : Node) (rest : List Node) → Apart (node_ids (m ∷ done ++ n ∷ rest)) → (m.id == n.id) ≡ false
other_node m done n rest a = not_same m.id n.id (λ e. a.0 (subst (λ k. Has (node_ids (done ++ n ∷ rest)) k) (sym e) (has_node done n rest)))

pub find_op : (done : List Node) (n : Node) (rest : List Node) → Apart (node_ids (done ++ n ∷ rest)) → find (is_node n.id) (done ++ n ∷ rest) ≡ Some n
find_op [] n rest a = let e = eqb_self n.id in rw e refl
find_op (m ∷ ms) n rest a = let e = other_node m ms n rest a in rw e (find_op ms n rest a.1)

pub op_after : (done : List Node) (n : Node) (rest : List Node) → Apart (node_ids (done ++ n ∷ rest)) → id_after n.id (done ++ n ∷ rest) ≡ first_id rest
op_after [] n rest a = let e = eqb_self n.id in rw e refl
op_after (m ∷ ms) n rest a = let e = other_node m ms n rest a in rw e (op_after ms n rest a.1)

pub left_ops : (done : List Node) (n : Node) (rest : List Node) → Apart (node_ids (done ++ n ∷ rest)) → ops_from (Some n.id) (done ++ n ∷ rest) ≡ n ∷ rest
left_ops [] n rest a = let e = eqb_self n.id in rw e refl
left_ops (m ∷ ms) n rest a = let e = other_node m ms n rest a in rw e (left_ops ms n rest a.1)

pub left_all : (done left : List Node) → Apart (node_ids (done ++ left)) → length (ops_from (first_id left) (done ++ left)) ≡ length left
left_all done [] a = refl
left_all done (n ∷ rest) a = ap (λ l. length l) (left_ops done n rest a)

-- ---- the block of an op

pub has_op : (bs : List Block) (b : Block) (id : ℕ) → Has bs b → Has (node_ids b.ops) id → Has (op_ids bs) id
has_op [] b id h k = absurd h
has_op (c ∷ cs) b id (inl e) k = has_left (node_ids c.ops) (op_ids cs) id (subst (λ (x : Block). Has (node_ids x.ops) id) (sym e) k)
has_op (c ∷ cs) b id (inr h) k = has_right (node_ids c.ops) (op_ids cs) id (has_op cs b id h k)

no_node : (ns : List Node) (id : ℕ) → (Has (node_ids ns) id → ⊥) → find (is_node id) ns ≡ None
no_node [] id h = refl
no_node (n ∷ ns) id h = let e = not_same n.id id (λ f. h (inl f)) in rw e (no_node ns id (λ k. h (inr k)))

pub apart_in : (bs : List Block) (b : Block) → Apart (op_ids bs) → Has bs b → Apart (node_ids b.ops)
apart_in [] b a h = absurd h
apart_in (c ∷ cs) b a (inl e) = subst (λ (x : Block). Apart (node_ids x.ops)) e (apart_first (node_ids c.ops) (op_ids cs) a)
apart_in (c ∷ cs) b a (inr h) = apart_in cs b (apart_rest (node_ids c.ops) (op_ids cs) a) h

pub find_with : (bs : List Block) (b : Block) (n : Node) → Apart (op_ids bs) → Has bs b → find (is_node n.id) b.ops ≡ Some n → Has (node_ids b.ops) n.id → find (holds_node n.id) bs ≡ Some b
find_with [] b n a h f k = absurd h
find_with (c ∷ cs) b n a (inl e) f k =
    let g : find (is_node n.id) c.ops ≡ Some n = subst (λ (x : Block). find (is_node n.id) x.ops ≡ Some n) (sym e) f in
    rw g (ap (λ (x : Block). Some x) e)
find_with (c ∷ cs) b n a (inr h) f k =
    let none = no_node c.ops n.id (λ m. apart_two (node_ids c.ops) (op_ids cs) n.id a m (has_op cs b n.id h k)) in
    rw none (find_with cs b n (apart_rest (node_ids c.ops) (op_ids cs) a) h f k)

-- ---- blocks

abbrev pub blocks_from : Option ℕ → List Block → List Block
blocks_from None bs = []
blocks_from (Some id) [] = []
blocks_from (Some id) (b ∷ bs) = cond (b.id == id) (b ∷ bs) (blocks_from (Some id) bs)

has_block : (done : List Block) (b : Block) (rest : List Block) → Has (block_ids (done ++ b ∷ rest)) b.id
has_block [] b rest = inl refl
has_block (c ∷ cs) b rest = inr (has_block cs b rest)

other_block : (c : Block) (done : List Block) (b : Block) (rest : List Block) → Apart (block_ids (c ∷ done ++ b ∷ rest)) → (c.id == b.id) ≡ false
other_block c done b rest a = not_same c.id b.id (λ e. a.0 (subst (λ k. Has (block_ids (done ++ b ∷ rest)) k) (sym e) (has_block done b rest)))

pub find_block : (done : List Block) (b : Block) (rest : List Block) → Apart (block_ids (done ++ b ∷ rest)) → find (is_block b.id) (done ++ b ∷ rest) ≡ Some b
find_block [] b rest a = let e = eqb_self b.id in rw e refl
find_block (c ∷ cs) b rest a = let e = other_block c cs b rest a in rw e (find_block cs b rest a.1)

pub block_after : (done : List Block) (b : Block) (rest : List Block) → Apart (block_ids (done ++ b ∷ rest)) → block_id_after b.id (done ++ b ∷ rest) ≡ first_block_id rest
block_after [] b rest a = let e = eqb_self b.id in rw e refl
block_after (c ∷ cs) b rest a = let e = other_block c cs b rest a in rw e (block_after cs b rest a.1)

left_blocks : (done : List Block) (b : Block) (rest : List Block) → Apart (block_ids (done ++ b ∷ rest)) → blocks_from (Some b.id) (done ++ b ∷ rest) ≡ b ∷ rest
left_blocks [] b rest a = let e = eqb_self b.id in rw e refl
left_blocks (c ∷ cs) b rest a = let e = other_block c cs b rest a in rw e (left_blocks cs b rest a.1)

pub blocks_all : (done left : List Block) → Apart (block_ids (done ++ left)) → length (blocks_from (first_block_id left) (done ++ left)) ≡ length left
blocks_all done [] a = refl
blocks_all done (b ∷ rest) a = ap (λ l. length l) (left_blocks done b rest a)

pub found_block : (bs : List Block) (id : ℕ) (b : Block) → find (is_block id) bs ≡ Some b → Has bs b
found_block [] id b e = cc
found_block (c ∷ cs) id b e = by_test (c.id == id) e (λ f. found_block cs id b f)
  where
    by_test : (t : Bool) → cond t (Some c) (find (is_block id) cs) ≡ Some b → (find (is_block id) cs ≡ Some b → Has cs b) → Has (c ∷ cs) b
    by_test true e again = let f : c ≡ b = cc in inl f
    by_test false e again = inr (again e)

-- the block of an id
pub split : (bs : List Block) (x : Block) → Has bs x → (done : List Block) × (rest : List Block) × (bs ≡ done ++ x ∷ rest)
split [] x h = absurd h
split (c ∷ bs) x (inl e) = ([], bs, ap (λ (y : Block). y ∷ bs) e)
split (c ∷ bs) x (inr h) = let k = split bs x h in (c ∷ k.0, k.1, ap (λ l. c ∷ l) k.2)

pub found_here : (g : GraphView) → IsGraph g → (x : Block) (id : ℕ) → Has g.blocks x → x.id ≡ id → (block_of g id ≡ Some x) × (is_live_block g id ≡ true)
found_here g graph x id h e =
    let k = split g.blocks x h in
    let apart : Apart (block_ids (k.0 ++ x ∷ k.1)) = subst (λ l. Apart (block_ids l)) k.2 graph.block_ids in
    let here : block_of g id ≡ Some x = subst (λ (i : ℕ). block_of g i ≡ Some x) e (ap (find (is_block x.id)) k.2 ∙ find_block k.0 x k.1 apart) in
    (here, ap is_some here)

-- ---- the walk over the ops of a block

pub some_is : {A : Type 0} (x y : A) → Some x ≡ Some y → x ≡ y
some_is x y e = cc

pub none_left : (ns : List Node) → None ≡ first_id ns → ns ≡ []
none_left [] e = refl
none_left (n ∷ ns) e = cc

none_left_blocks : (bs : List Block) → None ≡ first_block_id bs → bs ≡ []
none_left_blocks [] e = refl
none_left_blocks (b ∷ bs) e = cc

pub a_some : {A : Type 0} (o : Option A) → is_some o ≡ true → (x : A) × (o ≡ Some x)
a_some None e = cc
a_some (Some x) e = (x, refl)

abbrev pub ops_in : Option Block → List Node
ops_in None = []
ops_in (Some b) = b.ops

abbrev pub op_list : List Node → List Op
op_list ns = map (λ (n : Node). n.op) ns

module _ (S : Type 0) (P : Block → List Op → S → Type 0) (g : GraphView) where
  -- how many of a block's ops are left
  abbrev pub ops_left : ℕ → Option ℕ → ℕ
  ops_left id next = length (ops_from next (ops_in (block_of g id)))

  pub record OnOps (id : ℕ) (next : Option ℕ) (s : S) : Type 0 where
    pub block : Block
    pub is : block_of g id ≡ Some block
    pub done : List Node
    pub left : List Node
    pub all : block.ops ≡ done ++ left
    pub at : next ≡ first_id left
    pub live : IfSome next (λ o. IsTrue (is_live_op g o))
    pub holds : P block (op_list done) s

module _ (S : Type 0) (P : Block → List Op → S → Type 0) (g : GraphView) (graph : IsGraph g) where
  abbrev On : ℕ → Option ℕ → S → Type 0
  On = OnOps S P g

  abbrev left_of : ℕ → Option ℕ → ℕ
  left_of = ops_left S P g

  pub ops_begin :
      (id : ℕ) (next : Option ℕ) (s : S) → is_live_block g id ≡ true → next ≡ first_op_of g id →
      IfSome next (λ o. IsTrue (is_live_op g o)) → ((b : Block) → P b [] s) → OnOps S P g id next s
  ops_begin id next s l e live h =
      let b = a_some (block_of g id) l in
      record {
        block = b.0;
        is = b.1;
        done = [];
        left = b.0.ops;
        all = refl;
        at = e ∙ ap (option_and_then (λ (x : Block). first_id x.ops)) b.1;
        live = live;
        holds = h b.0;
      }

  -- an op that is left, and what the graph says of it
  record NextOp (id o : ℕ) (s : S) (on : OnOps S P g id (Some o) s) : Type 0 where
    node : Node
    rest : List Node
    left : on.left ≡ node ∷ rest
    id_is : node.id ≡ o
    op : op_of g o ≡ Some node.op
    after : next_op_of g o ≡ first_id rest
    before_it : ops_left S P g id (Some o) ≡ suc (length rest)
    behind_it : ops_left S P g id (first_id rest) ≡ length rest

  next_op_is : (id o : ℕ) (s : S) (on : OnOps S P g id (Some o) s) → NextOp id o s on
  next_op_is id o s on = by_left on.left refl on.at
    where
      among : Has g.blocks on.block
      among = found_block g.blocks id on.block on.is

      by_left : (left : List Node) → on.left ≡ left → Some o ≡ first_id left → NextOp id o s on
      by_left [] e f = cc
      by_left (n ∷ rest) e f = record {
        node = n;
        rest = rest;
        left = e;
        id_is = same;
        op = subst (λ k. op_of g k ≡ Some n.op) same (ap (λ (x : Option Block). option_map (λ (m : Node). m.op) (option_and_then (node_in n.id) x)) with_it ∙ ap (option_map (λ (m : Node). m.op)) in_it);
        after = subst (λ k. next_op_of g k ≡ first_id rest) same (ap (option_and_then (λ (x : Block). id_after n.id x.ops)) with_it ∙ ap (id_after n.id) ops ∙ op_after on.done n rest apart);
        before_it = ap (λ k. ops_left S P g id (Some k)) (sym same) ∙ ap (λ (x : Option Block). length (ops_from (Some n.id) (ops_in x))) on.is ∙ ap (λ l. length (ops_from (Some n.id) l)) ops ∙ ap (λ l. length l) (left_ops on.done n rest apart);
        behind_it = ap (λ (x : Option Block). length (ops_from (first_id rest) (ops_in x))) on.is ∙ ap (λ l. length (ops_from (first_id rest) l)) (ops ∙ sym (assoc on.done (n ∷ []) rest)) ∙ left_all (on.done ++ n ∷ []) rest (subst (λ l. Apart (node_ids l)) (sym (assoc on.done (n ∷ []) rest)) apart);
      }
        where
          same : n.id ≡ o
          same = sym (some_is o n.id f)

          ops : on.block.ops ≡ on.done ++ n ∷ rest
          ops = on.all ∙ ap (λ l. on.done ++ l) e

          apart : Apart (node_ids (on.done ++ n ∷ rest))
          apart = subst (λ l. Apart (node_ids l)) ops (apart_in g.blocks on.block graph.op_ids among)

          in_it : find (is_node n.id) on.block.ops ≡ Some n
          in_it = ap (find (is_node n.id)) ops ∙ find_op on.done n rest apart

          with_it : block_with g n.id ≡ Some on.block
          with_it = find_with g.blocks on.block n graph.op_ids among in_it (subst (λ l. Has (node_ids l) n.id) (sym ops) (has_node on.done n rest))

  has_map : (ns : List Node) (n : Node) → Has ns n → Has (op_list ns) n.op
  has_map [] n h = absurd h
  has_map (m ∷ ns) n (inl e) = inl (ap (λ (x : Node). x.op) e)
  has_map (m ∷ ns) n (inr h) = inr (has_map ns n h)

  -- the op that is read stands in the block
  pub reads_one : (id o : ℕ) (s : S) (found : Op) (on : OnOps S P g id (Some o) s) → op_of g o ≡ Some found → Has g.blocks on.block × Has (ops_of on.block) found
  reads_one id o s found on e =
      let it = next_op_is id o s on in
      let same : it.node.op ≡ found = some_is it.node.op found (sym it.op ∙ e) in
      let ops : on.block.ops ≡ on.done ++ it.node ∷ it.rest = on.all ∙ ap (λ l. on.done ++ l) it.left in (
        found_block g.blocks id on.block on.is,
        subst (λ (x : Op). Has (ops_of on.block) x) same (has_map on.block.ops it.node (subst (λ (l : List Node). Has l it.node) (sym ops) (has_mid on.done it.node it.rest))),
      )

  pub ops_more :
      (id o : ℕ) (mid new : S) (next : Option ℕ) (found : Op) (on : OnOps S P g id (Some o) mid) → op_of g o ≡ Some found →
      ((ops : List Op) → Has g.blocks on.block → Has (ops_of on.block) found → P on.block ops mid → P on.block (ops ++ found ∷ []) new) →
      next ≡ next_op_of g o → IfSome next (λ n. IsTrue (is_live_op g n)) → OnOps S P g id next new
  ops_more id o mid new next found on e more n live =
      let it = next_op_is id o mid on in
      let same : it.node.op ≡ found = some_is it.node.op found (sym it.op ∙ e) in
      let at = reads_one id o mid found on e in
      record {
        block = on.block;
        is = on.is;
        done = on.done ++ it.node ∷ [];
        left = it.rest;
        all = on.all ∙ ap (λ l. on.done ++ l) it.left ∙ sym (assoc on.done (it.node ∷ []) it.rest);
        at = n ∙ it.after;
        live = live;
        holds = subst (λ (l : List Op). P on.block l new)
            (ap (λ (x : Op). op_list on.done ++ x ∷ []) (sym same) ∙ sym (map_both (λ (m : Node). m.op) on.done (it.node ∷ [])))
            (more (op_list on.done) at.0 at.1 on.holds);
      }

  pub ops_fewer : (id o : ℕ) (mid : S) (next : Option ℕ) (on : OnOps S P g id (Some o) mid) → next ≡ next_op_of g o → ops_left S P g id next < ops_left S P g id (Some o)
  ops_fewer id o mid next on n =
      let it = next_op_is id o mid on in
      let a = ap (ops_left S P g id) (n ∙ it.after) in
      let b = it.before_it in
      let c = it.behind_it in
      omega (arith, a, b, c)

  pub ops_end : (id : ℕ) (mid : S) (on : OnOps S P g id None mid) → Has g.blocks on.block × P on.block (ops_of on.block) mid
  ops_end id mid on =
      let all : on.block.ops ≡ on.done = on.all ∙ ap (λ l. on.done ++ l) (none_left on.left on.at) ∙ no_more on.done in
      (found_block g.blocks id on.block on.is, subst (λ (l : List Node). P on.block (op_list l) mid) (sym all) on.holds)

-- ---- the walk over the blocks

module _ (S : Type 0) (Q : List Block → S → Type 0) (g : GraphView) where
  -- how many blocks are left
  abbrev pub blocks_left : Option ℕ → ℕ
  blocks_left next = length (blocks_from next g.blocks)

  pub record OnBlocks (next : Option ℕ) (s : S) : Type 0 where
    pub done : List Block
    pub left : List Block
    pub split : g.blocks ≡ done ++ left
    pub at : next ≡ first_block_id left
    pub live : IfSome next (λ b. IsTrue (is_live_block g b))
    pub holds : Q done s

module _ (S : Type 0) (Q : List Block → S → Type 0) (g : GraphView) (graph : IsGraph g) where
  pub blocks_begin : (next : Option ℕ) (s : S) → next ≡ first_block_id g.blocks → IfSome next (λ b. IsTrue (is_live_block g b)) → Q [] s → OnBlocks S Q g next s
  blocks_begin next s e live h = record { done = []; left = g.blocks; split = refl; at = e; live = live; holds = h }

  record NextBlock (b : ℕ) (s : S) (on : OnBlocks S Q g (Some b) s) : Type 0 where
    block : Block
    rest : List Block
    left : on.left ≡ block ∷ rest
    id_is : block.id ≡ b
    after : block_id_after b g.blocks ≡ first_block_id rest
    before_it : blocks_left S Q g (Some b) ≡ suc (length rest)
    behind_it : blocks_left S Q g (first_block_id rest) ≡ length rest

  next_block_is : (b : ℕ) (s : S) (on : OnBlocks S Q g (Some b) s) → NextBlock b s on
  next_block_is b s on = by_left on.left refl on.at
    where
      by_left : (left : List Block) → on.left ≡ left → Some b ≡ first_block_id left → NextBlock b s on
      by_left [] e f = cc
      by_left (x ∷ rest) e f = record {
        block = x;
        rest = rest;
        left = e;
        id_is = same;
        after = subst (λ k. block_id_after k g.blocks ≡ first_block_id rest) same (ap (block_id_after x.id) blocks ∙ block_after on.done x rest apart);
        before_it = ap (λ k. blocks_left S Q g (Some k)) (sym same) ∙ ap (λ l. length (blocks_from (Some x.id) l)) blocks ∙ ap (λ l. length l) (left_blocks on.done x rest apart);
        behind_it = ap (λ l. length (blocks_from (first_block_id rest) l)) (blocks ∙ sym (assoc on.done (x ∷ []) rest)) ∙ blocks_all (on.done ++ x ∷ []) rest (subst (λ l. Apart (block_ids l)) (sym (assoc on.done (x ∷ []) rest)) apart);
      }
        where
          same : x.id ≡ b
          same = sym (some_is b x.id f)

          blocks : g.blocks ≡ on.done ++ x ∷ rest
          blocks = on.split ∙ ap (λ l. on.done ++ l) e

          apart : Apart (block_ids (on.done ++ x ∷ rest))
          apart = subst (λ l. Apart (block_ids l)) blocks graph.block_ids

  pub blocks_more :
      (b : ℕ) (next : Option ℕ) (mid new : S) → OnBlocks S Q g (Some b) mid →
      ((done : List Block) (x : Block) → Has g.blocks x → x.id ≡ b → Q done mid → Q (done ++ x ∷ []) new) →
      next ≡ block_id_after b g.blocks → IfSome next (λ n. IsTrue (is_live_block g n)) → OnBlocks S Q g next new
  blocks_more b next mid new on more n live =
      let it = next_block_is b mid on in
      let blocks : g.blocks ≡ on.done ++ it.block ∷ it.rest = on.split ∙ ap (λ l. on.done ++ l) it.left in
      record {
        done = on.done ++ it.block ∷ [];
        left = it.rest;
        split = blocks ∙ sym (assoc on.done (it.block ∷ []) it.rest);
        at = n ∙ it.after;
        live = live;
        holds = more on.done it.block (subst (λ (l : List Block). Has l it.block) (sym blocks) (has_mid on.done it.block it.rest)) it.id_is on.holds;
      }

  pub blocks_fewer : (b : ℕ) (next : Option ℕ) (mid : S) → OnBlocks S Q g (Some b) mid → next ≡ block_id_after b g.blocks → blocks_left S Q g next < blocks_left S Q g (Some b)
  blocks_fewer b next mid on n =
      let it = next_block_is b mid on in
      let a = ap (blocks_left S Q g) (n ∙ it.after) in
      let c = it.before_it in
      let d = it.behind_it in
      omega (arith, a, c, d)

  pub blocks_end : (s : S) → OnBlocks S Q g None s → Q g.blocks s
  blocks_end s on =
      subst (λ (l : List Block). Q l s) (sym (no_more on.done) ∙ ap (λ l. on.done ++ l) (sym (none_left_blocks on.left on.at)) ∙ sym on.split) on.holds

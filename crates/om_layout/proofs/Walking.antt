-- A walk over the blocks of a graph lists its words.
use Rattle.std.proofs.Common.{◌≡◌, inl, inr, ℕ, suc, ◌<◌, Bool, true, false, cond, ◌==◌, List, [], ◌∷◌, ◌++◌, length, Option, Some, None, IfSome, IsTrue, refl, ap, sym, subst, ◌∙◌, arith}
use Rattle.std.specs.Prelude.{map, flat_map, find, is_some, option_map, option_and_then}
use Rattle.std.proofs.lemmas.Bool.Decides.{nat_tests}
use Rattle.om_isa.specs.declared.instr.Instr.{Instr}
use Rattle.om_isa.specs.declared.instr.Instr.TheVariants.{Mem, Jump, Branch, Alu, Cmov, Misc, Fnop, Halt, Callsys}
use Rattle.om_value.specs.declared.value.Place.{Place}
use Rattle.om_value.specs.declared.value.Target.{Target}
use Rattle.om_prog.specs.Act.{Act, Word}
use Rattle.om_prog.specs.Act as act
use Rattle.om_graph.specs.declared.op.Op.{Op}
use Rattle.om_graph.specs.declared.op.OpKind.{OpKind}
use Rattle.om_graph.specs.declared.op.OpKind.TheVariants as op
use Rattle.om_graph.specs.declared.op.Last.{Last}
use Rattle.om_graph.specs.declared.op.Last.TheVariants.{Fall, Off, Br, Cond, Call, CallBy, JumpBy}
use Rattle.om_graph.specs.View.{Node, Block, GraphView, Has, ops_of, is_block, is_node, node_in, holds_node, block_of, block_with, op_of, last_of, first_op_of, next_op_of, first_id, id_after, first_block_id, block_id_after, is_live_block, is_live_op}
use Rattle.om_graph.specs.Held.{IsGraph, Apart, node_ids, block_ids, op_ids}
use Rattle.om_graph.specs.Run.{words, all_words, block_words, op_word, op_act, use_of, target_at, last_words, cond_act}
use Rattle.om_layout.specs.declared.words.Words.{Words}
use Rattle.om_layout.specs.Order.{act_targets}
use Rattle.om_layout.specs.Walked.{kind_target, last_place, option_list, IsWordOf, Lists, load_in, word_loads, words_in, words_of_block}

-- ---- lists

assoc : {A : Type 0} (xs ys zs : List A) → (xs ++ ys) ++ zs ≡ xs ++ (ys ++ zs)
assoc [] ys zs = refl
assoc (x ∷ xs) ys zs = ap (λ l. x ∷ l) (assoc xs ys zs)

no_more : {A : Type 0} (xs : List A) → xs ++ [] ≡ xs
no_more [] = refl
no_more (x ∷ xs) = ap (λ l. x ∷ l) (no_more xs)

pub map_both : {A B : Type 0} (f : A → B) (xs ys : List A) → map f (xs ++ ys) ≡ map f xs ++ map f ys
map_both f [] ys = refl
map_both f (x ∷ xs) ys = ap (λ l. f x ∷ l) (map_both f xs ys)

pub flat_both : {A B : Type 0} (f : A → List B) (xs ys : List A) → flat_map f (xs ++ ys) ≡ flat_map f xs ++ flat_map f ys
flat_both f [] ys = refl
flat_both f (x ∷ xs) ys = ap (λ l. f x ++ l) (flat_both f xs ys) ∙ sym (assoc (f x) (flat_map f xs) (flat_map f ys))

-- ---- words

kind_targets : (ops : List Op) (k : OpKind) → act_targets (op_act ops k) ≡ option_list (kind_target k)
kind_targets ops (op.Plain i) = refl
kind_targets ops (op.Lit ra rb t) = refl
kind_targets ops (op.AddrLda ra rb t) = refl
kind_targets ops (op.AddrHi ra rb t least) = refl
kind_targets ops (op.UseGp i gp t) = refl
kind_targets ops (op.GpHi ra rb base) = refl
kind_targets ops (op.GpLo ra rb hi) = refl
kind_targets ops (op.UseLo i hi) = by_target (target_at ops hi)
  where
    by_target : (o : Option Target) → act_targets (use_of i hi o) ≡ []
    by_target None = refl
    by_target (Some t) = refl

pub op_is : (ops : List Op) (o : Op) → IsWordOf o.place (kind_target o.kind) (op_word ops o)
op_is ops o = record { place = refl; loads = kind_targets ops o.kind }

cond_targets : (i : Instr) (to : Place) → act_targets (cond_act i to) ≡ []
cond_targets (Branch op ra disp) to = refl
cond_targets (Mem op ra rb d) to = refl
cond_targets (Jump k ra rb h) to = refl
cond_targets (Alu op ra rb rc) to = refl
cond_targets (Cmov k ra rb rc) to = refl
cond_targets (Misc op ra rb) to = refl
cond_targets Fnop to = refl
cond_targets Halt to = refl
cond_targets Callsys to = refl

-- the words that end a block, at most one
pub data AreLast (last : Last) : Option Place → Type 0 where
  none : last_words last ≡ [] → AreLast last None
  one : (at : Place) (w : Word) → last_words last ≡ w ∷ [] → IsWordOf at None w → AreLast last (Some at)

pub last_is : (last : Last) → AreLast last (last_place last)
last_is Fall = none refl
last_is Off = none refl
last_is (Br at op ra to) = one at (record { at = at; act = act.To op ra to }) refl (record { place = refl; loads = refl })
last_is (Cond at i to) = one at (record { at = at; act = cond_act i to }) refl (record { place = refl; loads = cond_targets i to })
last_is (Call at op ra to) = one at (record { at = at; act = act.To op ra to }) refl (record { place = refl; loads = refl })
last_is (CallBy at i) = one at (record { at = at; act = act.Plain i }) refl (record { place = refl; loads = refl })
last_is (JumpBy at i) = one at (record { at = at; act = act.Plain i }) refl (record { place = refl; loads = refl })

-- ---- one more word

pub listed_more :
    (at : Place) (target : Option Target) (ws : List Word) (w : Word) (old new : Words) → IsWordOf at target w → Lists ws old →
    new.places.items ≡ old.places.items ++ at ∷ [] → new.loads.items ≡ old.loads.items ++ map (load_in at.obj) (option_list target) →
    Lists (ws ++ w ∷ []) new
listed_more at target ws w old new is h places loads = record {
  places = places ∙ ap (λ l. l ++ at ∷ []) h.places ∙ ap (λ (q : Place). map (λ (v : Word). v.at) ws ++ q ∷ []) (sym is.place) ∙ sym (map_both (λ (v : Word). v.at) ws (w ∷ []));
  loads =
      loads ∙ ap (λ l. l ++ map (load_in at.obj) (option_list target)) h.loads
      ∙ ap (λ (q : Place). flat_map word_loads ws ++ map (load_in q.obj) (option_list target)) (sym is.place)
      ∙ ap (λ ts. flat_map word_loads ws ++ map (load_in w.at.obj) ts) (sym is.loads)
      ∙ ap (λ l. flat_map word_loads ws ++ l) (sym (no_more (map (load_in w.at.obj) (act_targets w.act))))
      ∙ sym (flat_both word_loads ws (w ∷ []));
}

pub listed_same : (ws vs : List Word) (all : Words) → ws ≡ vs → Lists ws all → Lists vs all
listed_same ws vs all e h = subst (λ l. Lists l all) e h

-- ---- names

eqb_self : (n : ℕ) → (n == n) ≡ true
eqb_self n = grind (arith, nat_tests)

not_same : (m n : ℕ) → (m ≡ n → ⊥) → (m == n) ≡ false
not_same m n h = grind (arith, nat_tests, h)

has_left : (xs ys : List ℕ) (x : ℕ) → Has xs x → Has (xs ++ ys) x
has_left [] ys x h = absurd h
has_left (z ∷ zs) ys x (inl e) = inl e
has_left (z ∷ zs) ys x (inr h) = inr (has_left zs ys x h)

has_right : (xs ys : List ℕ) (x : ℕ) → Has ys x → Has (xs ++ ys) x
has_right [] ys x h = h
has_right (z ∷ zs) ys x h = inr (has_right zs ys x h)

apart_first : (xs ys : List ℕ) → Apart (xs ++ ys) → Apart xs
apart_first [] ys a = tt
apart_first (x ∷ xs) ys a = ((λ h. a.0 (has_left xs ys x h)), apart_first xs ys a.1)

apart_rest : (xs ys : List ℕ) → Apart (xs ++ ys) → Apart ys
apart_rest [] ys a = a
apart_rest (x ∷ xs) ys a = apart_rest xs ys a.1

apart_two : (xs ys : List ℕ) (x : ℕ) → Apart (xs ++ ys) → Has xs x → Has ys x → ⊥
apart_two [] ys x a h k = h
apart_two (z ∷ zs) ys x a (inl e) k = a.0 (has_right zs ys z (subst (λ n. Has ys n) (sym e) k))
apart_two (z ∷ zs) ys x a (inr h) k = apart_two zs ys x a.1 h k

-- ---- the ops of a block

-- what is left from an id on
abbrev pub ops_from : Option ℕ → List Node → List Node
ops_from None ns = []
ops_from (Some id) [] = []
ops_from (Some id) (n ∷ ns) = cond (n.id == id) (n ∷ ns) (ops_from (Some id) ns)

has_node : (done : List Node) (n : Node) (rest : List Node) → Has (node_ids (done ++ n ∷ rest)) n.id
has_node [] n rest = inl refl
has_node (m ∷ ms) n rest = inr (has_node ms n rest)

other_node : (m : Node) (done : List Node) (n : Node) (rest : List Node) → Apart (node_ids (m ∷ done ++ n ∷ rest)) → (m.id == n.id) ≡ false
other_node m done n rest a = not_same m.id n.id (λ e. a.0 (subst (λ k. Has (node_ids (done ++ n ∷ rest)) k) (sym e) (has_node done n rest)))

find_op : (done : List Node) (n : Node) (rest : List Node) → Apart (node_ids (done ++ n ∷ rest)) → find (is_node n.id) (done ++ n ∷ rest) ≡ Some n
find_op [] n rest a = let e = eqb_self n.id in rw e refl
find_op (m ∷ ms) n rest a = let e = other_node m ms n rest a in rw e (find_op ms n rest a.1)

op_after : (done : List Node) (n : Node) (rest : List Node) → Apart (node_ids (done ++ n ∷ rest)) → id_after n.id (done ++ n ∷ rest) ≡ first_id rest
op_after [] n rest a = let e = eqb_self n.id in rw e refl
op_after (m ∷ ms) n rest a = let e = other_node m ms n rest a in rw e (op_after ms n rest a.1)

left_ops : (done : List Node) (n : Node) (rest : List Node) → Apart (node_ids (done ++ n ∷ rest)) → ops_from (Some n.id) (done ++ n ∷ rest) ≡ n ∷ rest
left_ops [] n rest a = let e = eqb_self n.id in rw e refl
left_ops (m ∷ ms) n rest a = let e = other_node m ms n rest a in rw e (left_ops ms n rest a.1)

left_all : (done left : List Node) → Apart (node_ids (done ++ left)) → length (ops_from (first_id left) (done ++ left)) ≡ length left
left_all done [] a = refl
left_all done (n ∷ rest) a = ap (λ l. length l) (left_ops done n rest a)

-- ---- the block of an op

has_op : (bs : List Block) (b : Block) (id : ℕ) → Has bs b → Has (node_ids b.ops) id → Has (op_ids bs) id
has_op [] b id h k = absurd h
has_op (c ∷ cs) b id (inl e) k = has_left (node_ids c.ops) (op_ids cs) id (subst (λ (x : Block). Has (node_ids x.ops) id) (sym e) k)
has_op (c ∷ cs) b id (inr h) k = has_right (node_ids c.ops) (op_ids cs) id (has_op cs b id h k)

no_node : (ns : List Node) (id : ℕ) → (Has (node_ids ns) id → ⊥) → find (is_node id) ns ≡ None
no_node [] id h = refl
no_node (n ∷ ns) id h = let e = not_same n.id id (λ f. h (inl f)) in rw e (no_node ns id (λ k. h (inr k)))

pub apart_in : (bs : List Block) (b : Block) → Apart (op_ids bs) → Has bs b → Apart (node_ids b.ops)
apart_in [] b a h = absurd h
apart_in (c ∷ cs) b a (inl e) = subst (λ (x : Block). Apart (node_ids x.ops)) e (apart_first (node_ids c.ops) (op_ids cs) a)
apart_in (c ∷ cs) b a (inr h) = apart_in cs b (apart_rest (node_ids c.ops) (op_ids cs) a) h

find_with : (bs : List Block) (b : Block) (n : Node) → Apart (op_ids bs) → Has bs b → find (is_node n.id) b.ops ≡ Some n → Has (node_ids b.ops) n.id → find (holds_node n.id) bs ≡ Some b
find_with [] b n a h f k = absurd h
find_with (c ∷ cs) b n a (inl e) f k =
    let g : find (is_node n.id) c.ops ≡ Some n = subst (λ (x : Block). find (is_node n.id) x.ops ≡ Some n) (sym e) f in
    rw g (ap (λ (x : Block). Some x) e)
find_with (c ∷ cs) b n a (inr h) f k =
    let none = no_node c.ops n.id (λ m. apart_two (node_ids c.ops) (op_ids cs) n.id a m (has_op cs b n.id h k)) in
    rw none (find_with cs b n (apart_rest (node_ids c.ops) (op_ids cs) a) h f k)

-- ---- blocks

abbrev pub blocks_from : Option ℕ → List Block → List Block
blocks_from None bs = []
blocks_from (Some id) [] = []
blocks_from (Some id) (b ∷ bs) = cond (b.id == id) (b ∷ bs) (blocks_from (Some id) bs)

has_block : (done : List Block) (b : Block) (rest : List Block) → Has (block_ids (done ++ b ∷ rest)) b.id
has_block [] b rest = inl refl
has_block (c ∷ cs) b rest = inr (has_block cs b rest)

other_block : (c : Block) (done : List Block) (b : Block) (rest : List Block) → Apart (block_ids (c ∷ done ++ b ∷ rest)) → (c.id == b.id) ≡ false
other_block c done b rest a = not_same c.id b.id (λ e. a.0 (subst (λ k. Has (block_ids (done ++ b ∷ rest)) k) (sym e) (has_block done b rest)))

find_block : (done : List Block) (b : Block) (rest : List Block) → Apart (block_ids (done ++ b ∷ rest)) → find (is_block b.id) (done ++ b ∷ rest) ≡ Some b
find_block [] b rest a = let e = eqb_self b.id in rw e refl
find_block (c ∷ cs) b rest a = let e = other_block c cs b rest a in rw e (find_block cs b rest a.1)

block_after : (done : List Block) (b : Block) (rest : List Block) → Apart (block_ids (done ++ b ∷ rest)) → block_id_after b.id (done ++ b ∷ rest) ≡ first_block_id rest
block_after [] b rest a = let e = eqb_self b.id in rw e refl
block_after (c ∷ cs) b rest a = let e = other_block c cs b rest a in rw e (block_after cs b rest a.1)

left_blocks : (done : List Block) (b : Block) (rest : List Block) → Apart (block_ids (done ++ b ∷ rest)) → blocks_from (Some b.id) (done ++ b ∷ rest) ≡ b ∷ rest
left_blocks [] b rest a = let e = eqb_self b.id in rw e refl
left_blocks (c ∷ cs) b rest a = let e = other_block c cs b rest a in rw e (left_blocks cs b rest a.1)

blocks_all : (done left : List Block) → Apart (block_ids (done ++ left)) → length (blocks_from (first_block_id left) (done ++ left)) ≡ length left
blocks_all done [] a = refl
blocks_all done (b ∷ rest) a = ap (λ l. length l) (left_blocks done b rest a)

found_block : (bs : List Block) (id : ℕ) (b : Block) → find (is_block id) bs ≡ Some b → Has bs b
found_block [] id b e = cc
found_block (c ∷ cs) id b e = by_test (c.id == id) e (λ f. found_block cs id b f)
  where
    by_test : (t : Bool) → cond t (Some c) (find (is_block id) cs) ≡ Some b → (find (is_block id) cs ≡ Some b → Has cs b) → Has (c ∷ cs) b
    by_test true e again = let f : c ≡ b = cc in inl f
    by_test false e again = inr (again e)

-- ---- the walk over the ops of a block

abbrev pub ops_in : Option Block → List Node
ops_in None = []
ops_in (Some b) = b.ops

module _ (g : GraphView) where
  -- how many of a block's ops are left
  abbrev pub ops_left : ℕ → Option ℕ → ℕ
  ops_left id next = length (ops_from next (ops_in (block_of g id)))

  pub record OnOps (id : ℕ) (next : Option ℕ) (old new : Words) : Type 0 where
    pub block : Block
    pub is : block_of g id ≡ Some block
    pub done : List Node
    pub left : List Node
    pub all : block.ops ≡ done ++ left
    pub at : next ≡ first_id left
    pub live : IfSome next (λ o. IsTrue (is_live_op g o))
    pub lists : (ws : List Word) → Lists ws old → Lists (ws ++ map (op_word (ops_of block)) (map (λ n. n.op) done)) new

  -- how many blocks are left
  abbrev pub blocks_left : Option ℕ → ℕ
  blocks_left next = length (blocks_from next g.blocks)

  pub record OnBlocks (next : Option ℕ) (all : Words) : Type 0 where
    pub done : List Block
    pub left : List Block
    pub split : g.blocks ≡ done ++ left
    pub at : next ≡ first_block_id left
    pub live : IfSome next (λ b. IsTrue (is_live_block g b))
    pub lists : Lists (all_words done) all

some_is : {A : Type 0} (x y : A) → Some x ≡ Some y → x ≡ y
some_is x y e = cc

none_left : (ns : List Node) → None ≡ first_id ns → ns ≡ []
none_left [] e = refl
none_left (n ∷ ns) e = cc

none_left_blocks : (bs : List Block) → None ≡ first_block_id bs → bs ≡ []
none_left_blocks [] e = refl
none_left_blocks (b ∷ bs) e = cc

a_some : {A : Type 0} (o : Option A) → is_some o ≡ true → (x : A) × (o ≡ Some x)
a_some None e = cc
a_some (Some x) e = (x, refl)

module _ (g : GraphView) (graph : IsGraph g) where
  pub ops_begin :
      (id : ℕ) (next : Option ℕ) (old : Words) → is_live_block g id ≡ true → next ≡ first_op_of g id →
      IfSome next (λ o. IsTrue (is_live_op g o)) → OnOps g id next old old
  ops_begin id next old l e live =
      let b = a_some (block_of g id) l in
      record {
        block = b.0;
        is = b.1;
        done = [];
        left = b.0.ops;
        all = refl;
        at = e ∙ ap (option_and_then (λ (x : Block). first_id x.ops)) b.1;
        live = live;
        lists = λ ws h. listed_same ws (ws ++ []) old (sym (no_more ws)) h;
      }

  -- an op that is left, and what the graph says of it
  pub record NextOp (id o : ℕ) (old new : Words) (on : OnOps g id (Some o) old new) : Type 0 where
    pub node : Node
    pub rest : List Node
    pub left : on.left ≡ node ∷ rest
    pub id_is : node.id ≡ o
    pub op : op_of g o ≡ Some node.op
    pub after : next_op_of g o ≡ first_id rest
    pub before_it : ops_left g id (Some o) ≡ suc (length rest)
    pub behind_it : ops_left g id (first_id rest) ≡ length rest

  pub next_op_is : (id o : ℕ) (old new : Words) (on : OnOps g id (Some o) old new) → NextOp id o old new on
  next_op_is id o old new on = by_left on.left refl on.at
    where
      among : Has g.blocks on.block
      among = found_block g.blocks id on.block on.is

      by_left : (left : List Node) → on.left ≡ left → Some o ≡ first_id left → NextOp id o old new on
      by_left [] e f = cc
      by_left (n ∷ rest) e f = record {
        node = n;
        rest = rest;
        left = e;
        id_is = same;
        op = subst (λ k. op_of g k ≡ Some n.op) same (ap (λ (x : Option Block). option_map (λ (m : Node). m.op) (option_and_then (node_in n.id) x)) with_it ∙ ap (option_map (λ (m : Node). m.op)) in_it);
        after = subst (λ k. next_op_of g k ≡ first_id rest) same (ap (option_and_then (λ (x : Block). id_after n.id x.ops)) with_it ∙ ap (id_after n.id) ops ∙ op_after on.done n rest apart);
        before_it = ap (λ k. ops_left g id (Some k)) (sym same) ∙ ap (λ (x : Option Block). length (ops_from (Some n.id) (ops_in x))) on.is ∙ ap (λ l. length (ops_from (Some n.id) l)) ops ∙ ap (λ l. length l) (left_ops on.done n rest apart);
        behind_it = ap (λ (x : Option Block). length (ops_from (first_id rest) (ops_in x))) on.is ∙ ap (λ l. length (ops_from (first_id rest) l)) (ops ∙ sym (assoc on.done (n ∷ []) rest)) ∙ left_all (on.done ++ n ∷ []) rest (subst (λ l. Apart (node_ids l)) (sym (assoc on.done (n ∷ []) rest)) apart);
      }
        where
          same : n.id ≡ o
          same = sym (some_is o n.id f)

          ops : on.block.ops ≡ on.done ++ n ∷ rest
          ops = on.all ∙ ap (λ l. on.done ++ l) e

          apart : Apart (node_ids (on.done ++ n ∷ rest))
          apart = subst (λ l. Apart (node_ids l)) ops (apart_in g.blocks on.block graph.op_ids among)

          in_it : find (is_node n.id) on.block.ops ≡ Some n
          in_it = ap (find (is_node n.id)) ops ∙ find_op on.done n rest apart

          with_it : block_with g n.id ≡ Some on.block
          with_it = find_with g.blocks on.block n graph.op_ids among in_it (subst (λ l. Has (node_ids l) n.id) (sym ops) (has_node on.done n rest))

  pub ops_more :
      (id o : ℕ) (old mid new : Words) (next : Option ℕ) (found : Op) (on : OnOps g id (Some o) old mid) → op_of g o ≡ Some found →
      ((ws : List Word) (ops : List Op) → Lists ws mid → Lists (ws ++ op_word ops found ∷ []) new) →
      next ≡ next_op_of g o → IfSome next (λ n. IsTrue (is_live_op g n)) → OnOps g id next old new
  ops_more id o old mid new next found on e more n live =
      let it = next_op_is id o old mid on in
      let same : it.node.op ≡ found = some_is it.node.op found (sym it.op ∙ e) in
      record {
        block = on.block;
        is = on.is;
        done = on.done ++ it.node ∷ [];
        left = it.rest;
        all = on.all ∙ ap (λ l. on.done ++ l) it.left ∙ sym (assoc on.done (it.node ∷ []) it.rest);
        at = n ∙ it.after;
        live = live;
        lists =
            λ ws h.
            listed_same
            ((ws ++ map (op_word (ops_of on.block)) (map (λ (m : Node). m.op) on.done)) ++ op_word (ops_of on.block) found ∷ [])
            (ws ++ map (op_word (ops_of on.block)) (map (λ (m : Node). m.op) (on.done ++ it.node ∷ []))) new
            (assoc ws (map (op_word (ops_of on.block)) (map (λ (m : Node). m.op) on.done)) (op_word (ops_of on.block) found ∷ [])
            ∙ ap (λ l. ws ++ l) (
            ap (λ (f : Op). map (op_word (ops_of on.block)) (map (λ (m : Node). m.op) on.done) ++ op_word (ops_of on.block) f ∷ []) (sym same)
            ∙ sym (map_both (op_word (ops_of on.block)) (map (λ (m : Node). m.op) on.done) (it.node.op ∷ []))
            ∙ ap (map (op_word (ops_of on.block))) (sym (map_both (λ (m : Node). m.op) on.done (it.node ∷ [])))
            ))
            (more (ws ++ map (op_word (ops_of on.block)) (map (λ (m : Node). m.op) on.done)) (ops_of on.block) (on.lists ws h));
      }

  pub ops_fewer : (id o : ℕ) (old mid : Words) (next : Option ℕ) (on : OnOps g id (Some o) old mid) → next ≡ next_op_of g o → ops_left g id next < ops_left g id (Some o)
  ops_fewer id o old mid next on n =
      let it = next_op_is id o old mid on in
      let a = ap (ops_left g id) (n ∙ it.after) in
      let b = it.before_it in
      let c = it.behind_it in
      omega (arith, a, b, c)

  pub ops_end :
      (id : ℕ) (old mid new : Words) (last : Last) → OnOps g id None old mid → last_of g id ≡ Some last →
      ((ws : List Word) → Lists ws mid → Lists (ws ++ last_words last) new) → (ws : List Word) → Lists ws old → Lists (ws ++ words_of_block g id) new
  ops_end id old mid new last on e more ws h =
      let all : on.block.ops ≡ on.done = on.all ∙ ap (λ l. on.done ++ l) (none_left on.left on.at) ∙ no_more on.done in
      let same : on.block.last ≡ last = some_is on.block.last last (sym (ap (option_map (λ (x : Block). x.last)) on.is) ∙ e) in
      let done = map (op_word (ops_of on.block)) (map (λ (m : Node). m.op) on.done) in
      listed_same ((ws ++ done) ++ last_words last) (ws ++ words_of_block g id) new
      (assoc ws done (last_words last)
      ∙ ap (λ l. ws ++ l) (
      ap (λ (l : Last). done ++ last_words l) (sym same)
      ∙ ap (λ (l : List Node). map (op_word (ops_of on.block)) (map (λ (m : Node). m.op) l) ++ last_words on.block.last) (sym all)
      ∙ sym (ap words_in on.is)
      ))
      (more (ws ++ done) (on.lists ws h))

  -- ---- the walk over the blocks

  pub blocks_begin : (next : Option ℕ) (all : Words) → next ≡ first_block_id g.blocks → IfSome next (λ b. IsTrue (is_live_block g b)) → all.places.items ≡ [] → all.loads.items ≡ [] → OnBlocks g next all
  blocks_begin next all e live places loads = record {
    done = [];
    left = g.blocks;
    split = refl;
    at = e;
    live = live;
    lists = record { places = places; loads = loads };
  }

  record NextBlock (b : ℕ) (all : Words) (on : OnBlocks g (Some b) all) : Type 0 where
    block : Block
    rest : List Block
    left : on.left ≡ block ∷ rest
    id_is : block.id ≡ b
    here : words_of_block g b ≡ block_words block
    after : block_id_after b g.blocks ≡ first_block_id rest
    before_it : blocks_left g (Some b) ≡ suc (length rest)
    behind_it : blocks_left g (first_block_id rest) ≡ length rest

  next_block_is : (b : ℕ) (all : Words) (on : OnBlocks g (Some b) all) → NextBlock b all on
  next_block_is b all on = by_left on.left refl on.at
    where
      by_left : (left : List Block) → on.left ≡ left → Some b ≡ first_block_id left → NextBlock b all on
      by_left [] e f = cc
      by_left (x ∷ rest) e f = record {
        block = x;
        rest = rest;
        left = e;
        id_is = same;
        here = subst (λ k. words_of_block g k ≡ block_words x) same (ap (λ bs. words_in (find (is_block x.id) bs)) blocks ∙ ap words_in (find_block on.done x rest apart));
        after = subst (λ k. block_id_after k g.blocks ≡ first_block_id rest) same (ap (block_id_after x.id) blocks ∙ block_after on.done x rest apart);
        before_it = ap (λ k. blocks_left g (Some k)) (sym same) ∙ ap (λ l. length (blocks_from (Some x.id) l)) blocks ∙ ap (λ l. length l) (left_blocks on.done x rest apart);
        behind_it = ap (λ l. length (blocks_from (first_block_id rest) l)) (blocks ∙ sym (assoc on.done (x ∷ []) rest)) ∙ blocks_all (on.done ++ x ∷ []) rest (subst (λ l. Apart (block_ids l)) (sym (assoc on.done (x ∷ []) rest)) apart);
      }
        where
          same : x.id ≡ b
          same = sym (some_is b x.id f)

          blocks : g.blocks ≡ on.done ++ x ∷ rest
          blocks = on.split ∙ ap (λ l. on.done ++ l) e

          apart : Apart (block_ids (on.done ++ x ∷ rest))
          apart = subst (λ l. Apart (block_ids l)) blocks graph.block_ids

  pub blocks_more :
      (b : ℕ) (next : Option ℕ) (mid new : Words) → OnBlocks g (Some b) mid → ((ws : List Word) → Lists ws mid → Lists (ws ++ words_of_block g b) new) →
      next ≡ block_id_after b g.blocks → IfSome next (λ n. IsTrue (is_live_block g n)) → OnBlocks g next new
  blocks_more b next mid new on more n live =
      let it = next_block_is b mid on in
      record {
        done = on.done ++ it.block ∷ [];
        left = it.rest;
        split = on.split ∙ ap (λ l. on.done ++ l) it.left ∙ sym (assoc on.done (it.block ∷ []) it.rest);
        at = n ∙ it.after;
        live = live;
        lists =
            listed_same (all_words on.done ++ words_of_block g b) (all_words (on.done ++ it.block ∷ [])) new
            (ap (λ l. all_words on.done ++ l) (it.here ∙ sym (no_more (block_words it.block))) ∙ sym (flat_both block_words on.done (it.block ∷ [])))
            (more (all_words on.done) on.lists);
      }

  pub blocks_fewer : (b : ℕ) (next : Option ℕ) (mid : Words) → OnBlocks g (Some b) mid → next ≡ block_id_after b g.blocks → blocks_left g next < blocks_left g (Some b)
  blocks_fewer b next mid on n =
      let it = next_block_is b mid on in
      let a = ap (blocks_left g) (n ∙ it.after) in
      let c = it.before_it in
      let d = it.behind_it in
      omega (arith, a, c, d)

  pub blocks_end : (all : Words) → OnBlocks g None all → Lists (words g) all
  blocks_end all on =
      listed_same (all_words on.done) (words g) all
      (ap all_words (sym (no_more on.done) ∙ ap (λ l. on.done ++ l) (sym (none_left_blocks on.left on.at)) ∙ sym on.split))
      on.lists

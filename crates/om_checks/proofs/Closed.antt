-- Closed pairs and opening pairs, as passes find them: the premises of the laws on facts follow.
use Rattle.std.proofs.Common.{◌≡◌, ◌⊎◌, inl, inr, ◌<◌, ◌≤◌, ◌+◌, ℕ, Bool, true, false, cond, not, ◌||◌, ◌==◌, List, [], ◌∷◌, ◌++◌, Some, None, refl, sym, ap, ◌∙◌, subst, arith}
use Rattle.std.proofs.lemmas.Bool.{true≢false, eqb-true, eq-eqb}
use Rattle.om_isa.specs.declared.instr.BrOp.TheVariants.{Bsr}
use Rattle.om_isa.specs.declared.instr.Instr.{Instr}
use Rattle.om_isa.specs.declared.instr.Instr.TheVariants.{Mem, Jump as Jumps, Branch, Alu, Cmov, Misc, Fnop, Halt, Callsys}
use Rattle.om_value.specs.declared.value.Place.{Place}
use Rattle.om_prog.specs.Act as act
use Rattle.om_prog.specs.Act.{Act, GpHi, GpLo, To, Word, Script, act_writes}
use Rattle.om_prog.specs.View.{ProgramView}
use Rattle.om_prog.specs.Facts.{Fact, Any, Table, Unknown, has, changed, changed_by, fact_behind, IsFact}
use Rattle.om_prog.specs.Step.{next_place}
use Rattle.om_graph.specs.declared.op.Op.{Op}
use Rattle.om_graph.specs.declared.op.OpKind.TheVariants as op
use Rattle.om_graph.specs.declared.op.Last.{Last}
use Rattle.om_graph.specs.declared.op.Last.TheVariants.{Fall, Off, Br, Cond, Call, CallBy, JumpBy}
use Rattle.om_graph.specs.View.{Node, Block, GraphView, Has, InPlaceOrder, ops_of, delete_in, deleted, place_lt}
use Rattle.om_graph.specs.Held.{IsGraph, Apart, node_ids, op_ids, label_list}
use Rattle.om_graph.specs.Run.{block_words, last_words, op_word, cond_act, high_target, graph_script, rev_onto}
use Rattle.om_graph.specs.Form.{InForm, InPlace, Ordered, After}
use Rattle.om_graph.specs.Kept.{FallsOn}
use Rattle.om_graph.specs.Checks.{Next, Enters, falls_in, GpChecked, onward, end_fact}
use Rattle.om_graph.specs.Uses.{IsClosedPair, IsClosedOpening}
use Rattle.om_graph.proofs.Labels.{append_left, append_right, has_label, lt_cases, lt_off, least_after, Least, true_is}
use Rattle.om_checks.specs.Steps.{KeepsTargets, node_words, PairOf}
use Rattle.om_checks.proofs.Edges.{of_map}
use Rattle.om_checks.proofs.Edits.{words_same, left_nodes, to_map}
use Rattle.om_checks.proofs.Drops.{PairGone, gp_pair, keeps_targets, told_leaves, onward_split}

-- ---- ids

apart_first : (xs ys : List ℕ) → Apart (xs ++ ys) → Apart xs
apart_first [] ys a = tt
apart_first (x ∷ xs) ys a = (λ h. a.0 (append_left xs ys x h), apart_first xs ys a.1)

apart_rest : (xs ys : List ℕ) → Apart (xs ++ ys) → Apart ys
apart_rest [] ys a = a
apart_rest (x ∷ xs) ys a = apart_rest xs ys a.1

apart_two : (xs ys : List ℕ) (z : ℕ) → Apart (xs ++ ys) → Has xs z → Has ys z → ⊥
apart_two [] ys z a h k = h
apart_two (x ∷ xs) ys z a (inl e) k = a.0 (append_right xs ys x (subst (λ (n : ℕ). Has ys n) (sym e) k))
apart_two (x ∷ xs) ys z a (inr h) k = apart_two xs ys z a.1 h k

pub apart_in : (bs : List Block) (b : Block) → Apart (op_ids bs) → Has bs b → Apart (node_ids b.ops)
apart_in [] b a h = absurd h
apart_in (x ∷ bs) b a (inl e) = subst (λ (y : Block). Apart (node_ids y.ops)) e (apart_first (node_ids x.ops) (op_ids bs) a)
apart_in (x ∷ bs) b a (inr h) = apart_in bs b (apart_rest (node_ids x.ops) (op_ids bs) a) h

pub ids_in : (bs : List Block) (b : Block) (id : ℕ) → Has bs b → Has (node_ids b.ops) id → Has (op_ids bs) id
ids_in [] b id h k = absurd h
ids_in (x ∷ bs) b id (inl e) k = append_left (node_ids x.ops) (op_ids bs) id (subst (λ (y : Block). Has (node_ids y.ops) id) (sym e) k)
ids_in (x ∷ bs) b id (inr h) k = append_right (node_ids x.ops) (op_ids bs) id (ids_in bs b id h k)

-- an id stands in one block
pub one_home : (bs : List Block) (b z : Block) (id : ℕ) → Apart (op_ids bs) → Has bs b → Has bs z → Has (node_ids b.ops) id → Has (node_ids z.ops) id → b ≡ z
one_home [] b z id a h k m n = absurd h
one_home (x ∷ bs) b z id a (inl e) (inl f) m n = sym e ∙ f
one_home (x ∷ bs) b z id a (inl e) (inr k) m n = absurd (apart_two (node_ids x.ops) (op_ids bs) id a (subst (λ (y : Block). Has (node_ids y.ops) id) (sym e) m) (ids_in bs z id k n))
one_home (x ∷ bs) b z id a (inr h) (inl f) m n = absurd (apart_two (node_ids x.ops) (op_ids bs) id a (subst (λ (y : Block). Has (node_ids y.ops) id) (sym f) n) (ids_in bs b id h m))
one_home (x ∷ bs) b z id a (inr h) (inr k) m n = one_home bs b z id (apart_rest (node_ids x.ops) (op_ids bs) a) h k m n

left_all : (id : ℕ) (ns : List Node) → (Has (node_ids ns) id → ⊥) → left_nodes id ns ≡ ns
left_all id [] h = refl
left_all id (n ∷ ns) h = by_id (n.id == id) refl (left_all id ns (λ m. h (inr m)))
  where
    by_id : (t : Bool) → (n.id == id) ≡ t → left_nodes id ns ≡ ns → cond (not t) (n ∷ left_nodes id ns) (left_nodes id ns) ≡ n ∷ ns
    by_id true e i = absurd (h (inl (eqb-true _ _ e)))
    by_id false e i = ap (λ (l : List Node). n ∷ l) i

left_append : (id : ℕ) (xs ys : List Node) → left_nodes id (xs ++ ys) ≡ left_nodes id xs ++ left_nodes id ys
left_append id [] ys = refl
left_append id (x ∷ xs) ys = by_id (x.id == id) (left_append id xs ys)
  where
    by_id :
        (t : Bool) → left_nodes id (xs ++ ys) ≡ left_nodes id xs ++ left_nodes id ys →
        cond (not t) (x ∷ left_nodes id (xs ++ ys)) (left_nodes id (xs ++ ys)) ≡ cond (not t) (x ∷ left_nodes id xs) (left_nodes id xs) ++ left_nodes id ys
    by_id true i = i
    by_id false i = ap (λ (l : List Node). x ∷ l) i

-- without the one node of its id
left_one : (xs ys : List Node) (n : Node) → Apart (node_ids (xs ++ n ∷ ys)) → left_nodes n.id (xs ++ n ∷ ys) ≡ xs ++ ys
left_one [] ys n a = by_id (n.id == n.id) (eq-eqb n.id n.id refl) ∙ left_all n.id ys a.0
  where
    by_id : (t : Bool) → t ≡ true → cond (not t) (n ∷ left_nodes n.id ys) (left_nodes n.id ys) ≡ left_nodes n.id ys
    by_id true e = refl
    by_id false e = absurd (true≢false (sym e))
left_one (x ∷ xs) ys n a = by_id (x.id == n.id) refl (left_one xs ys n a.1)
  where
    there : (zs : List Node) → Has (node_ids (zs ++ n ∷ ys)) n.id
    there [] = inl refl
    there (z ∷ zs) = inr (there zs)

    by_id : (t : Bool) → (x.id == n.id) ≡ t → left_nodes n.id (xs ++ n ∷ ys) ≡ xs ++ ys → cond (not t) (x ∷ left_nodes n.id (xs ++ n ∷ ys)) (left_nodes n.id (xs ++ n ∷ ys)) ≡ x ∷ xs ++ ys
    by_id true e i = absurd (a.0 (subst (λ (k : ℕ). Has (node_ids (xs ++ n ∷ ys)) k) (sym (eqb-true _ _ e)) (there xs)))
    by_id false e i = ap (λ (l : List Node). x ∷ l) i

-- some node has an id
holds : ℕ → List Node → Bool
holds id [] = false
holds id (n ∷ ns) = (n.id == id) || holds id ns

holds_true : (id : ℕ) (ns : List Node) → holds id ns ≡ true → Has (node_ids ns) id
unfolding holds
holds_true id [] h = absurd (true≢false (sym h))
holds_true id (n ∷ ns) h = by_id (n.id == id) refl h (holds_true id ns)
  where
    by_id : (t : Bool) → (n.id == id) ≡ t → (t || holds id ns) ≡ true → (holds id ns ≡ true → Has (node_ids ns) id) → Has (node_ids (n ∷ ns)) id
    by_id true e h i = inl (eqb-true _ _ e)
    by_id false e h i = inr (i h)

holds_false : (id : ℕ) (ns : List Node) → holds id ns ≡ false → Has (node_ids ns) id → ⊥
unfolding holds
holds_false id [] h m = m
holds_false id (n ∷ ns) h (inl e) = true≢false (sym (ap (λ (t : Bool). t || holds id ns) (eq-eqb n.id id e)) ∙ h)
holds_false id (n ∷ ns) h (inr m) = by_id (n.id == id) h (λ k. holds_false id ns k m)
  where
    by_id : (t : Bool) → (t || holds id ns) ≡ false → (holds id ns ≡ false → ⊥) → ⊥
    by_id true h i = true≢false h
    by_id false h i = i h

append_assoc : (xs ys zs : List Node) → (xs ++ ys) ++ zs ≡ xs ++ (ys ++ zs)
append_assoc [] ys zs = refl
append_assoc (x ∷ xs) ys zs = ap (λ (l : List Node). x ∷ l) (append_assoc xs ys zs)

words_assoc : (xs ys zs : List Word) → (xs ++ ys) ++ zs ≡ xs ++ (ys ++ zs)
words_assoc [] ys zs = refl
words_assoc (x ∷ xs) ys zs = ap (λ (l : List Word). x ∷ l) (words_assoc xs ys zs)

-- the words of nodes
module _ (os : List Op) where
  node_words_append : (xs ys : List Node) → node_words os (xs ++ ys) ≡ node_words os xs ++ node_words os ys
  node_words_append [] ys = refl
  node_words_append (x ∷ xs) ys = ap (λ (l : List Word). op_word os x.op ∷ l) (node_words_append xs ys)

-- ---- a closed pair that is dropped

back_back : (xs acc : List Word) → rev_onto (rev_onto xs acc) [] ≡ rev_onto acc xs
back_back [] acc = refl
back_back (x ∷ xs) acc = back_back xs (x ∷ acc)

module _ (p : ProgramView) (facts : Place → Fact) (g : GraphView) (graph : IsGraph g) (b : Block) (hb : Has g.blocks b) (high low : Node) (k : PairOf (graph_script p g) facts b high low) where
  ids : Apart (node_ids ((k.xs ++ high ∷ k.ms) ++ low ∷ k.ys))
  ids = subst (λ (l : List Node). Apart (node_ids l)) k.ops (apart_in g.blocks b graph.op_ids hb)

  ids_after : (xs ys : List Node) (n : Node) → Apart (node_ids (xs ++ n ∷ ys)) → Apart (node_ids (xs ++ ys))
  ids_after [] ys n a = a.1
  ids_after (x ∷ xs) ys n a = (λ h. a.0 (more xs h), ids_after xs ys n a.1)
    where
      more : (zs : List Node) → Has (node_ids (zs ++ ys)) x.id → Has (node_ids (zs ++ n ∷ ys)) x.id
      more [] h = inr h
      more (z ∷ zs) (inl e) = inl e
      more (z ∷ zs) (inr h) = inr (more zs h)

  ops_are : b.ops ≡ k.xs ++ (high ∷ (k.ms ++ low ∷ k.ys))
  ops_are = k.ops ∙ append_assoc k.xs (high ∷ k.ms) (low ∷ k.ys)

  left_are : left_nodes low.id (left_nodes high.id b.ops) ≡ (k.xs ++ k.ms) ++ k.ys
  left_are =
      let a : Apart (node_ids (k.xs ++ high ∷ (k.ms ++ low ∷ k.ys))) = subst (λ (l : List Node). Apart (node_ids l)) (append_assoc k.xs (high ∷ k.ms) (low ∷ k.ys)) ids in
      let one = ap (left_nodes high.id) ops_are ∙ left_one k.xs (k.ms ++ low ∷ k.ys) high a in
      let z : k.xs ++ (k.ms ++ low ∷ k.ys) ≡ (k.xs ++ k.ms) ++ low ∷ k.ys = sym (append_assoc k.xs k.ms (low ∷ k.ys)) in
      let a2 : Apart (node_ids ((k.xs ++ k.ms) ++ low ∷ k.ys)) = subst (λ (l : List Node). Apart (node_ids l)) z (ids_after k.xs (k.ms ++ low ∷ k.ys) high a) in
      ap (left_nodes low.id) (one ∙ z) ∙ left_one (k.xs ++ k.ms) k.ys low a2

  node_there : (zs ys : List Node) (n : Node) → Has (zs ++ n ∷ ys) n
  node_there [] ys n = inl refl
  node_there (z ∷ zs) ys n = inr (node_there zs ys n)

  id_of : (ns : List Node) (n : Node) → Has ns n → Has (node_ids ns) n.id
  id_of [] n h = h
  id_of (x ∷ ns) n (inl e) = inl (ap (λ (y : Node). y.id) e)
  id_of (x ∷ ns) n (inr h) = inr (id_of ns n h)

  same_node : (ns : List Node) (m n : Node) → Apart (node_ids ns) → Has ns m → Has ns n → m.id ≡ n.id → m ≡ n
  same_node [] m n a h i e = absurd h
  same_node (x ∷ ns) m n a (inl h) (inl i) e = sym h ∙ i
  same_node (x ∷ ns) m n a (inl h) (inr i) e = absurd (a.0 (subst (λ (j : ℕ). Has (node_ids ns) j) (sym (ap (λ (y : Node). y.id) h ∙ e)) (id_of ns n i)))
  same_node (x ∷ ns) m n a (inr h) (inl i) e = absurd (a.0 (subst (λ (j : ℕ). Has (node_ids ns) j) (e ∙ sym (ap (λ (y : Node). y.id) i)) (id_of ns m h)))
  same_node (x ∷ ns) m n a (inr h) (inr i) e = same_node ns m n a.1 h i e

  has_low : Has b.ops low
  has_low = subst (λ (l : List Node). Has l low) (sym k.ops) (node_there (k.xs ++ high ∷ k.ms) k.ys low)

  has_high : Has b.ops high
  has_high = subst (λ (l : List Node). Has l high) (sym ops_are) (node_there k.xs (k.ms ++ low ∷ k.ys) high)

  no_high : (n m : Node) (x : Block) → Has g.blocks x → Has x.ops n → Has b.ops m → high_target m.op.kind ≡ None → n.id ≡ m.id → high_target n.op.kind ≡ None
  no_high n m x hx hn hm e i =
      let home : x ≡ b = one_home g.blocks x b n.id graph.op_ids hx hb (id_of x.ops n hn) (subst (λ (j : ℕ). Has (node_ids b.ops) j) (sym i) (id_of b.ops m hm)) in
      let same : n ≡ m = same_node b.ops n m (apart_in g.blocks b graph.op_ids hb) (subst (λ (y : Block). Has y.ops n) home hn) hm i in
      subst (λ (y : Node). high_target y.op.kind ≡ None) (sym same) e

  first : (x : Block) → Has g.blocks x → KeepsTargets x (delete_in high.id x)
  first x hx = keeps_targets high.id x (λ n hn i. no_high n high x hx hn has_high (ap high_target k.is_high) i)

  left_has : (id : ℕ) (ns : List Node) (n : Node) → Has (left_nodes id ns) n → Has ns n
  left_has id [] n h = h
  left_has id (x ∷ ns) n h = by_id (x.id == id) h (left_has id ns n)
    where
      by_id : (t : Bool) → Has (cond (not t) (x ∷ left_nodes id ns) (left_nodes id ns)) n → (Has (left_nodes id ns) n → Has ns n) → Has (x ∷ ns) n
      by_id true h i = inr (i h)
      by_id false (inl e) i = inl e
      by_id false (inr h) i = inr (i h)

  second : (x : Block) → Has g.blocks x → KeepsTargets (delete_in high.id x) (delete_in low.id (delete_in high.id x))
  second x hx = keeps_targets low.id (delete_in high.id x) (λ n hn i. no_high n low x hx (left_has high.id x.ops n hn) has_low (ap high_target k.is_low) i)

  both_targets : (x : Block) → Has g.blocks x → KeepsTargets x (delete_in low.id (delete_in high.id x))
  both_targets x hx o i hi m e = second x hx o i hi m e ∙ first x hx o i hi (still m) e
    where
      still : Has (ops_of (delete_in low.id (delete_in high.id x))) o → Has (ops_of (delete_in high.id x)) o
      still m =
          let n = of_map (λ n. n.op) (left_nodes low.id (left_nodes high.id x.ops)) o m in
          subst (λ (y : Op). Has (ops_of (delete_in high.id x)) y) n.2 (to_map (λ n. n.op) (left_nodes high.id x.ops) n.0 (left_has low.id (left_nodes high.id x.ops) n.0 n.1))

  -- the words of a block without the two
  left_words : (x : Block) → Has g.blocks x → block_words (delete_in low.id (delete_in high.id x)) ≡ node_words (ops_of x) (left_nodes low.id (left_nodes high.id x.ops)) ++ last_words x.last
  left_words x hx =
      let z = delete_in low.id (delete_in high.id x) in
      ap (λ (l : List Word). l ++ last_words x.last) (words_same (ops_of x) (ops_of z) (ops_of z) (both_targets x hx))

  gone : PairGone (graph_script p g) facts b (delete_in low.id (delete_in high.id b))
  gone =
      let os = ops_of b in
      let ws = node_words os in
      let w1 : node_words os b.ops ≡ (node_words os k.xs ++ op_word os high.op ∷ node_words os k.ms) ++ op_word os low.op ∷ node_words os k.ys =
      ap (node_words os) k.ops ∙ node_words_append os (k.xs ++ high ∷ k.ms) (low ∷ k.ys) ∙ ap (λ (l : List Word). l ++ node_words os (low ∷ k.ys)) (node_words_append os k.xs (high ∷ k.ms)) in
      let w2 : node_words os ((k.xs ++ k.ms) ++ k.ys) ≡ (node_words os k.xs ++ node_words os k.ms) ++ node_words os k.ys =
      node_words_append os (k.xs ++ k.ms) k.ys ∙ ap (λ (l : List Word). l ++ node_words os k.ys) (node_words_append os k.xs k.ms) in
      record {
        before = node_words os k.xs;
        mid = node_words os k.ms;
        after = node_words os k.ys ++ last_words b.last;
        high = op_word os high.op;
        low = op_word os low.op;
        ra = k.ra;
        rb = k.rb;
        rd = k.rd;
        base = k.base;
        first = k.first;
        was = ap (λ (l : List Word). l ++ last_words b.last) w1 ∙ words_assoc (node_words os k.xs ++ op_word os high.op ∷ node_words os k.ms) (op_word os low.op ∷ node_words os k.ys) (last_words b.last);
        is =
            left_words b hb ∙ ap (λ (l : List Node). node_words os l ++ last_words b.last) left_are ∙ ap (λ (l : List Word). l ++ last_words b.last) w2
            ∙ words_assoc (node_words os k.xs ++ node_words os k.ms) (node_words os k.ys) (last_words b.last);
        is_high = ap (Rattle.om_graph.specs.Run.op_act os) k.is_high;
        is_low = ap (Rattle.om_graph.specs.Run.op_act os) k.is_low;
        unwritten = k.unwritten;
        bf = rev_onto (node_words os k.xs) [];
        before_is = sym (back_back (node_words os k.xs) []);
        fact = k.fact;
      }

  -- facts after a pair is dropped before which its table is the fact
  pub gp_pair_dropped : InForm (deleted (deleted g high.id) low.id) → GpChecked (graph_script p g) facts g → GpChecked (graph_script p (deleted (deleted g high.id) low.id)) facts (deleted (deleted g high.id) low.id)
  gp_pair_dropped form checked = gp_pair p facts high.id low.id g form first second words checked
    where
      words : (x : Block) → Has g.blocks x → (block_words (delete_in low.id (delete_in high.id x)) ≡ block_words x) ⊎ PairGone (graph_script p g) facts x (delete_in low.id (delete_in high.id x))
      words x hx = by_ids (holds high.id x.ops) (holds low.id x.ops) refl refl
        where
          home : (m : Node) → Has b.ops m → Has (node_ids x.ops) m.id → (block_words (delete_in low.id (delete_in high.id x)) ≡ block_words x) ⊎ PairGone (graph_script p g) facts x (delete_in low.id (delete_in high.id x))
          home m hm h =
              let same = one_home g.blocks x b m.id graph.op_ids hx hb h (id_of b.ops m hm) in
              inr (subst (λ (y : Block). PairGone (graph_script p g) facts y (delete_in low.id (delete_in high.id y))) (sym same) gone)

          by_ids : (t v : Bool) → holds high.id x.ops ≡ t → holds low.id x.ops ≡ v → (block_words (delete_in low.id (delete_in high.id x)) ≡ block_words x) ⊎ PairGone (graph_script p g) facts x (delete_in low.id (delete_in high.id x))
          by_ids true v e f = home high has_high (holds_true high.id x.ops e)
          by_ids false true e f = home low has_low (holds_true low.id x.ops f)
          by_ids false false e f =
              let l : left_nodes low.id (left_nodes high.id x.ops) ≡ x.ops = ap (left_nodes low.id) (left_all high.id x.ops (holds_false high.id x.ops e)) ∙ left_all low.id x.ops (holds_false low.id x.ops f) in
              inl (left_words x hx ∙ ap (λ (ns : List Node). node_words (ops_of x) ns ++ last_words x.last) l)

-- ---- the block of an opening pair

pub before_in : (xs ys : List Word) (x y : Word) → Ordered (xs ++ ys) → Has xs x → Has ys y → y.at.obj ≡ x.at.obj → x.at.off + 4 ≤ y.at.off
before_in [] ys x y o h k e = absurd h
before_in (z ∷ xs) ys x y o (inl i) k e =
    subst (λ (w : Word). w.at.off + 4 ≤ y.at.off) i (after_all (xs ++ ys) z y o.0 (append_right xs ys y k) (e ∙ ap (λ (w : Word). w.at.obj) (sym i)))
  where
    after_all : (ws : List Word) (z y : Word) → After z ws → Has ws y → y.at.obj ≡ z.at.obj → z.at.off + 4 ≤ y.at.off
    after_all [] z y a h e = absurd h
    after_all (w ∷ ws) z y a (inl i) e =
        let f = ap (λ (v : Word). v.at.off) i in
        let b = a.0 (ap (λ (v : Word). v.at.obj) i ∙ e) in
        omega (arith, f, b)
    after_all (w ∷ ws) z y a (inr i) e = after_all ws z y a.1 i e
before_in (z ∷ xs) ys x y o (inr h) k e = before_in xs ys x y o.1 h k e

none_in : (ws : List Word) → ((w : Word) → Has ws w → ⊥) → ws ≡ []
none_in [] n = refl
none_in (w ∷ ws) n = absurd (n w (inl refl))

-- blocks with none between are next to each other
next_of :
    (bs : List Block) (e n : Block) → InPlaceOrder (label_list bs) → Has bs e → Has bs n → place_lt e.label n.label ≡ true →
    ((x : Block) → Has bs x → place_lt e.label x.label ≡ true → place_lt x.label n.label ≡ true → ⊥) → Next bs e n
next_of [] e n o h k l f = h
next_of (b ∷ []) e n o (inl i) (inl j) l f = absurd (irreflexive b.label (subst (λ (x : Block). place_lt b.label x.label ≡ true) (sym j) (subst (λ (x : Block). place_lt x.label n.label ≡ true) (sym i) l)))
  where
    irreflexive : (q : Place) → place_lt q q ≡ true → ⊥
    irreflexive q h = let x = lt_off q q h refl in omega (arith, x)
next_of (b ∷ []) e n o (inl i) (inr k) l f = absurd k
next_of (b ∷ []) e n o (inr h) k l f = absurd h
next_of (b ∷ c ∷ bs) e n o (inl i) (inl j) l f = absurd (irreflexive b.label (subst (λ (x : Block). place_lt b.label x.label ≡ true) (sym j) (subst (λ (x : Block). place_lt x.label n.label ≡ true) (sym i) l)))
  where
    irreflexive : (q : Place) → place_lt q q ≡ true → ⊥
    irreflexive q h = let x = lt_off q q h refl in omega (arith, x)
next_of (b ∷ c ∷ bs) e n o (inl i) (inr (inl j)) l f = inl (i, j)
next_of (b ∷ c ∷ bs) e n o (inl i) (inr (inr k)) l f =
    absurd (f c (inr (inl refl)) (subst (λ (x : Block). place_lt x.label c.label ≡ true) i (o.0 c.label (inl refl))) (o.1.0 n.label (has_label bs n k)))
next_of (b ∷ c ∷ bs) e n o (inr h) (inl j) l f =
    let a = o.0 e.label (has_label (c ∷ bs) e h) in
    absurd (asymmetric b.label e.label a (subst (λ (x : Block). place_lt e.label x.label ≡ true) (sym j) l))
  where
    asymmetric : (p q : Place) → place_lt p q ≡ true → place_lt q p ≡ true → ⊥
    asymmetric p q h k = by_cases (lt_cases p q h) (lt_cases q p k)
      where
        by_cases : ((p.obj ≡ q.obj) × (p.off < q.off)) ⊎ (p.obj < q.obj) → ((q.obj ≡ p.obj) × (q.off < p.off)) ⊎ (q.obj < p.obj) → ⊥
        by_cases (inl x) (inl y) = let a = x.1 in let b = y.1 in omega (arith, a, b)
        by_cases (inl x) (inr y) = let a = x.0 in omega (arith, a, y)
        by_cases (inr x) (inl y) = let b = y.0 in omega (arith, b, x)
        by_cases (inr x) (inr y) = omega (arith, x, y)
next_of (b ∷ c ∷ bs) e n o (inr h) (inr k) l f = inr (next_of (c ∷ bs) e n o.1 h k l (λ x m. f x (inr m)))

-- a block that begins with a closed opening pair, where the place behind the pair is a label, is the pair, and falls into the
-- block behind it
pub record IsPairBlock (g : GraphView) (e : Block) : Type 0 where
  pub high : Word
  pub low : Word
  pub rc : ℕ
  pub base : Place
  pub words : block_words e ≡ high ∷ low ∷ []
  pub is_high : high.act ≡ GpHi 29 rc base
  pub is_low : low.act ≡ GpLo 29 29 e.label
  pub low_at : low.at ≡ next_place e.label
  pub next : (n : Block) → Has g.blocks n → n.label ≡ next_place (next_place e.label) → Enters g e n

module _ (g : GraphView) (graph : IsGraph g) (form : InForm g) (places : InPlace g) (e : Block) (he : Has g.blocks e) (closed : IsClosedOpening g e) (behind : Has g.labels (next_place (next_place e.label))) where
  k : IsClosedPair g e e.label (next_place e.label)
  k = closed.pair

  hi : Word
  hi = record { at = e.label; act = GpHi 29 k.rb k.base }

  lo : Word
  lo = record { at = next_place e.label; act = GpLo 29 29 e.label }

  xs : List Word
  xs = k.stands.0

  ys : List Word
  ys = k.stands.1

  split : block_words e ≡ (k.stands.0 ++ record { at = e.label; act = GpHi 29 k.rb k.base } ∷ k.mid) ++ record { at = next_place e.label; act = GpLo 29 29 e.label } ∷ k.stands.1
  split = k.stands.2

  ordered : Ordered ((k.stands.0 ++ record { at = e.label; act = GpHi 29 k.rb k.base } ∷ k.mid) ++ record { at = next_place e.label; act = GpLo 29 29 e.label } ∷ k.stands.1)
  ordered = subst (λ (ws : List Word). Ordered ws) split (places.ordered e he)

  split2 : (k.stands.0 ++ record { at = e.label; act = GpHi 29 k.rb k.base } ∷ k.mid) ++ record { at = next_place e.label; act = GpLo 29 29 e.label } ∷ k.stands.1
      ≡ k.stands.0 ++ (record { at = e.label; act = GpHi 29 k.rb k.base } ∷ (k.mid ++ record { at = next_place e.label; act = GpLo 29 29 e.label } ∷ k.stands.1))
  split2 = words_assoc k.stands.0 (record { at = e.label; act = GpHi 29 k.rb k.base } ∷ k.mid) (record { at = next_place e.label; act = GpLo 29 29 e.label } ∷ k.stands.1)

  here : (w : Word) → Has ((k.stands.0 ++ record { at = e.label; act = GpHi 29 k.rb k.base } ∷ k.mid) ++ record { at = next_place e.label; act = GpLo 29 29 e.label } ∷ k.stands.1) w → Has (block_words e) w
  here w h = subst (λ (ws : List Word). Has ws w) (sym split) h

  none_before : k.stands.0 ≡ []
  none_before = none_in k.stands.0 never
    where
      never : (w : Word) → Has k.stands.0 w → ⊥
      never w h =
          let l : Word = record { at = e.label; act = GpHi 29 k.rb k.base } in
          let p = places.words e w he (here w (append_left (k.stands.0 ++ l ∷ k.mid) _ w (append_left k.stands.0 (l ∷ k.mid) w h))) in
          let b = before_in k.stands.0 (l ∷ (k.mid ++ record { at = next_place e.label; act = GpLo 29 29 e.label } ∷ k.stands.1)) w l (subst (λ (ws : List Word). Ordered ws) split2 ordered) h (inl refl) (sym p.object) in
          let a = p.after in
          omega (arith, b, a)

  none_between : k.mid ≡ []
  none_between = none_in k.mid never
    where
      never : (w : Word) → Has k.mid w → ⊥
      never w h =
          let u : Word = record { at = e.label; act = GpHi 29 k.rb k.base } in
          let v : Word = record { at = next_place e.label; act = GpLo 29 29 e.label } in
          let m = append_right k.stands.0 (u ∷ k.mid) w (inr h) in
          let p = places.words e w he (here w (append_left (k.stands.0 ++ u ∷ k.mid) (v ∷ k.stands.1) w m)) in
          let b = before_in (k.stands.0 ++ u ∷ k.mid) (v ∷ k.stands.1) w v ordered m (inl refl) (sym p.object) in
          let o : Ordered ((k.stands.0 ++ u ∷ []) ++ (k.mid ++ v ∷ k.stands.1)) = subst (λ (ws : List Word). Ordered ws) (split2 ∙ sym (words_assoc k.stands.0 (u ∷ []) (k.mid ++ v ∷ k.stands.1))) ordered in
          let c = before_in (k.stands.0 ++ u ∷ []) (k.mid ++ v ∷ k.stands.1) u w o (append_right k.stands.0 (u ∷ []) u (inl refl)) (append_left k.mid (v ∷ k.stands.1) w h) p.object in
          omega (arith, b, c)

  next_label : Least g.labels e.label (next_place (next_place e.label))
  next_label = least_after g.labels e.label (next_place (next_place e.label)) graph.labels behind (true_is e.label (next_place (next_place e.label)) refl (omega arith))

  none_after : k.stands.1 ≡ []
  none_after = none_in k.stands.1 never
    where
      never : (w : Word) → Has k.stands.1 w → ⊥
      never w h =
          let u : Word = record { at = e.label; act = GpHi 29 k.rb k.base } in
          let v : Word = record { at = next_place e.label; act = GpLo 29 29 e.label } in
          let p = places.words e w he (here w (append_right (k.stands.0 ++ u ∷ k.mid) (v ∷ k.stands.1) w (inr h))) in
          let o : Ordered (((k.stands.0 ++ u ∷ k.mid) ++ v ∷ []) ++ k.stands.1) = subst (λ (ws : List Word). Ordered ws) (sym (words_assoc (k.stands.0 ++ u ∷ k.mid) (v ∷ []) k.stands.1)) ordered in
          let c = before_in ((k.stands.0 ++ u ∷ k.mid) ++ v ∷ []) k.stands.1 v w o (append_right (k.stands.0 ++ u ∷ k.mid) (v ∷ []) v (inl refl)) h p.object in
          let n = p.before next_label.at next_label.found in
          let l = next_label.least in
          omega (arith, c, n, l)

  pair_words : block_words e ≡ record { at = e.label; act = GpHi 29 k.rb k.base } ∷ record { at = next_place e.label; act = GpLo 29 29 e.label } ∷ []
  pair_words =
      let u : Word = record { at = e.label; act = GpHi 29 k.rb k.base } in
      let v : Word = record { at = next_place e.label; act = GpLo 29 29 e.label } in
      split ∙ ap (λ (l : List Word). (l ++ u ∷ k.mid) ++ v ∷ k.stands.1) none_before ∙ ap (λ (l : List Word). u ∷ (l ++ v ∷ k.stands.1)) none_between ∙ ap (λ (l : List Word). u ∷ v ∷ l) none_after

  no_end : (l : Last) (w : Word) → Has (last_words l) w → ((rb : ℕ) (base : Place) → w.act ≡ GpHi 29 rb base → ⊥) × (w.act ≡ GpLo 29 29 e.label → ⊥)
  no_end Fall w h = absurd h
  no_end Off w h = absurd h
  no_end (Br at o ra to) w (inl h) = ((λ rb base x. hi (ap (λ (y : Word). y.act) h ∙ x)), (λ x. lo (ap (λ (y : Word). y.act) h ∙ x)))
    where
      hi : {rb : ℕ} {base : Place} → act.To o ra to ≡ GpHi 29 rb base → ⊥
      hi x = cc

      lo : act.To o ra to ≡ GpLo 29 29 e.label → ⊥
      lo x = cc
  no_end (Call at o ra to) w (inl h) = ((λ rb base x. hi (ap (λ (y : Word). y.act) h ∙ x)), (λ x. lo (ap (λ (y : Word). y.act) h ∙ x)))
    where
      hi : {rb : ℕ} {base : Place} → act.To o ra to ≡ GpHi 29 rb base → ⊥
      hi x = cc

      lo : act.To o ra to ≡ GpLo 29 29 e.label → ⊥
      lo x = cc
  no_end (CallBy at i) w (inl h) = ((λ rb base x. hi (ap (λ (y : Word). y.act) h ∙ x)), (λ x. lo (ap (λ (y : Word). y.act) h ∙ x)))
    where
      hi : {rb : ℕ} {base : Place} → act.Plain i ≡ GpHi 29 rb base → ⊥
      hi x = cc

      lo : act.Plain i ≡ GpLo 29 29 e.label → ⊥
      lo x = cc
  no_end (JumpBy at i) w (inl h) = ((λ rb base x. hi (ap (λ (y : Word). y.act) h ∙ x)), (λ x. lo (ap (λ (y : Word). y.act) h ∙ x)))
    where
      hi : {rb : ℕ} {base : Place} → act.Plain i ≡ GpHi 29 rb base → ⊥
      hi x = cc

      lo : act.Plain i ≡ GpLo 29 29 e.label → ⊥
      lo x = cc
  no_end (Cond at i to) w (inl h) = ((λ rb base x. hi i (ap (λ (y : Word). y.act) h ∙ x)), (λ x. lo i (ap (λ (y : Word). y.act) h ∙ x)))
    where
      hi : (i : Instr) {rb : ℕ} {base : Place} → cond_act i to ≡ GpHi 29 rb base → ⊥
      hi (Branch o ra d) x = cc
      hi (Mem o ra rb d) x = cc
      hi (Jumps k ra rb y) x = cc
      hi (Alu o ra rb rc) x = cc
      hi (Cmov k ra rb rc) x = cc
      hi (Misc o ra rb) x = cc
      hi Fnop x = cc
      hi Halt x = cc
      hi Callsys x = cc

      lo : (i : Instr) → cond_act i to ≡ GpLo 29 29 e.label → ⊥
      lo (Branch o ra d) x = cc
      lo (Mem o ra rb d) x = cc
      lo (Jumps k ra rb y) x = cc
      lo (Alu o ra rb rc) x = cc
      lo (Cmov k ra rb rc) x = cc
      lo (Misc o ra rb) x = cc
      lo Fnop x = cc
      lo Halt x = cc
      lo Callsys x = cc
  no_end (Br at o ra to) w (inr h) = absurd h
  no_end (Call at o ra to) w (inr h) = absurd h
  no_end (CallBy at i) w (inr h) = absurd h
  no_end (JumpBy at i) w (inr h) = absurd h
  no_end (Cond at i to) w (inr h) = absurd h

  falls : FallsOn e.last
  falls = by_last e.last refl
    where
      not_word : (w : Word) → Has (last_words e.last) w → ⊥
      not_word w h = by_word (subst (λ (ws : List Word). Has ws w) pair_words (append_right _ (last_words e.last) w h)) (no_end e.last w h)
        where
          by_word : Has (record { at = e.label; act = GpHi 29 k.rb k.base } ∷ record { at = next_place e.label; act = GpLo 29 29 e.label } ∷ []) w → ((rb : ℕ) (base : Place) → w.act ≡ GpHi 29 rb base → ⊥) × (w.act ≡ GpLo 29 29 e.label → ⊥) → ⊥
          by_word (inl x) n = n.0 k.rb k.base (sym (ap (λ (y : Word). y.act) x))
          by_word (inr (inl x)) n = n.1 (sym (ap (λ (y : Word). y.act) x))
          by_word (inr (inr x)) n = x

      by_last : (l : Last) → e.last ≡ l → FallsOn e.last
      by_last Fall x = subst (λ (l : Last). FallsOn l) (sym x) tt
      by_last (Cond at i to) x = subst (λ (l : Last). FallsOn l) (sym x) tt
      by_last Off x = absurd (none_some (sym (form.ends e he x) ∙ next_label.found))
        where
          none_some : {q : Place} → None ≡ Some q → ⊥
          none_some y = cc
      by_last (Br at o ra to) x = absurd (not_word _ (subst (λ (l : Last). Has (last_words l) (record { at = at; act = act.To o ra to })) (sym x) (inl refl)))
      by_last (Call at o ra to) x = absurd (not_word _ (subst (λ (l : Last). Has (last_words l) (record { at = at; act = act.To o ra to })) (sym x) (inl refl)))
      by_last (CallBy at i) x = absurd (not_word _ (subst (λ (l : Last). Has (last_words l) (record { at = at; act = act.Plain i })) (sym x) (inl refl)))
      by_last (JumpBy at i) x = absurd (not_word _ (subst (λ (l : Last). Has (last_words l) (record { at = at; act = act.Plain i })) (sym x) (inl refl)))

  enters_next : (n : Block) → Has g.blocks n → n.label ≡ next_place (next_place e.label) → Enters g e n
  enters_next n hn l = falls_in (next_of g.blocks e n graph.blocks he hn less between) (ap (λ (q : Place). q.obj) l) falls
    where
      less : place_lt e.label n.label ≡ true
      less = subst (λ (q : Place). place_lt e.label q ≡ true) (sym l) (later e.label)
        where
          later : (q : Place) → place_lt q (next_place (next_place q)) ≡ true
          later q = let a = eq-eqb q.obj q.obj refl in let b = Rattle.std.proofs.lemmas.Bool.lt-ltb q.off (q.off + 4 + 4) (omega arith) in rw a b

      between : (x : Block) → Has g.blocks x → place_lt e.label x.label ≡ true → place_lt x.label n.label ≡ true → ⊥
      between x hx a b = by_obj (subst (λ (q : Place). place_lt x.label q ≡ true) l b)
        where
          by_obj : place_lt x.label (next_place (next_place e.label)) ≡ true → ⊥
          by_obj b =
              let o1 = Rattle.om_graph.proofs.Labels.lt_obj e.label x.label a in
              let o2 = Rattle.om_graph.proofs.Labels.lt_obj x.label (next_place (next_place e.label)) b in
              let o : x.label.obj ≡ e.label.obj = omega (arith, o1, o2) in
              let f1 = lt_off e.label x.label a o in
              let f2 = lt_off x.label (next_place (next_place e.label)) b (sym o) in
              let among = graph.among x.label (has_label g.blocks x hx) in
              let least = least_after g.labels e.label x.label graph.labels among (true_is e.label x.label o f1) in
              let v : Word = record { at = next_place e.label; act = GpLo 29 29 e.label } in
              let p = places.words e v he (subst (λ (ws : List Word). Has ws v) (sym pair_words) (inr (inl refl))) in
              let m = p.before least.at least.found in
              let y = least.least in
              omega (arith, m, y, f2)

  pub pair_block : IsPairBlock g e
  pair_block = record {
    high = record { at = e.label; act = GpHi 29 k.rb k.base };
    low = record { at = next_place e.label; act = GpLo 29 29 e.label };
    rc = k.rb;
    base = k.base;
    words = pair_words;
    is_high = refl;
    is_low = refl;
    low_at = refl;
    next = enters_next;
  }

-- ---- the fact behind a call

-- a BSR with a link register other than r29 leaves the fact in front of it
pub call_leaves : (c : Script) (facts : Place → Fact) (b : Block) (bf : List Word) (w : Word) (ra t : ℕ) (to : Place) → rev_onto bf (w ∷ []) ≡ block_words b → w.act ≡ To Bsr ra to → (ra ≡ 29 → ⊥) →
    IsFact (fact_behind c (facts b.label) bf) t → (end_fact c facts b ≡ Any) ⊎ (end_fact c facts b ≡ Table t)
call_leaves c facts b bf w ra t to s e n f = by_fact (told_leaves c (facts b.label) bf t f)
  where
    not_29 : (ra == 29) ≡ false
    not_29 = by_test (ra == 29) refl
      where
        by_test : (v : Bool) → (ra == 29) ≡ v → (ra == 29) ≡ false
        by_test true h = absurd (n (eqb-true ra 29 h))
        by_test false h = h

    kept : (x : Fact) → changed c w x ≡ x
    kept Any = refl
    kept (Table u) = ap (λ (a : Act). cond (has (act_writes a) 29) (Rattle.om_prog.specs.Facts.set_fact c w w.act) (Table u)) e ∙ rw not_29 refl
    kept Unknown = ap (λ (a : Act). cond (has (act_writes a) 29) (Rattle.om_prog.specs.Facts.set_fact c w w.act) Unknown) e ∙ rw not_29 refl

    same : end_fact c facts b ≡ onward c (facts b.label) (rev_onto bf [])
    same =
        ap (onward c (facts b.label)) (sym s) ∙ onward_split c (facts b.label) bf (w ∷ []) ∙ kept (changed_by c (facts b.label) bf) ∙ sym (onward_split c (facts b.label) bf [])

    by_fact : (onward c (facts b.label) (rev_onto bf []) ≡ Any) ⊎ (onward c (facts b.label) (rev_onto bf []) ≡ Table t) → (end_fact c facts b ≡ Any) ⊎ (end_fact c facts b ≡ Table t)
    by_fact (inl x) = inl (same ∙ x)
    by_fact (inr x) = inr (same ∙ x)

-- The ops behind one in its block, and what is found among them.
use Rattle.std.proofs.Common.{◌≡◌, ◌⊎◌, inl, inr, ℕ, ◌+◌, ◌<◌, ◌≤◌, Bool, true, false, cond, not, ◌&&◌, ◌==◌, List, [], ◌∷◌, ◌++◌, length, Option, Some, None, refl, sym, ap, subst, ◌∙◌, arith}
use Rattle.std.proofs.lemmas.Bool.{true≢false, eqb-true}
use Rattle.std.proofs.lemmas.List.{length-map}
use Rattle.om_isa.specs.Registers.{mask_of}
use Rattle.om_prog.specs.Facts.{has}
use Rattle.om_arena.proofs.Orders.{AreBelow, no_more as no_more_than}
use Rattle.om_arena.specs.Lists.{AreApart, IsApart}
use Rattle.om_graph.specs.View.{Node, Block, GraphView, Has, first_id}
use Rattle.om_graph.specs.Held.{IsGraph, Apart, node_ids}
use Rattle.om_blocks.specs.Effects.{kind_reads, kind_writes, last_reads, last_writes}
use Rattle.om_blocks.proofs.Walking.{apart_in, assoc}
use Rattle.om_uses.specs.declared.tables.OpUses.{OpUses}
use Rattle.om_uses.specs.declared.tables.BlockUses.{BlockUses}
use Rattle.om_uses.specs.Parts.{Kept, AreWithin, AreLinked, IsKeptOf, IsUsesOf, op_at, block_at, alone, next_or, uses_of}
use Rattle.om_uses.specs.Scans.{has_bit}
use Rattle.om_uses.specs.Readers.{IsResult, IsAmong, reads, writes, with_id, readers, is_kept, is_read_last, is_at_end, first_of, next_of}
use Rattle.om_uses.specs.Results.{IsBehind}
use Rattle.om_uses.proofs.Reading.{bit_has, same_id, Reader, reader_at}

-- ---- no more ops than the table has

apart_ids : (x : ℕ) (xs : List ℕ) → (Has xs x → ⊥) → IsApart x xs
apart_ids x [] out = tt
apart_ids x (y ∷ ys) out = ((λ e. out (inl (sym e))), apart_ids x ys (λ h. out (inr h)))

all_apart : (xs : List ℕ) → Apart xs → AreApart xs
all_apart [] a = tt
all_apart (x ∷ xs) a = (apart_ids x xs a.0, all_apart xs a.1)

all_below : (m : ℕ) (ns : List Node) → AreWithin m ns → AreBelow m (node_ids ns)
all_below m [] w = tt
all_below m (n ∷ ns) w = (w.0, all_below m ns w.1)

node_count : (ns : List Node) → length (node_ids ns) ≡ length ns
node_count [] = refl
node_count (n ∷ ns) = let e = node_count ns in omega (arith, e)

few : (m : ℕ) (ns : List Node) → Apart (node_ids ns) → AreWithin m ns → length ns ≤ m
few m ns a w = let l = no_more_than m (node_ids ns) (all_apart (node_ids ns) a) (all_below m ns w) in let e = node_count ns in omega (arith, l, e)

-- ---- the ops behind one

links_behind : (ops : List OpUses) (i : ℕ) (before rest : List Node) → AreLinked ops i (before ++ rest) → AreLinked ops i rest
links_behind ops i [] rest are = are
links_behind ops i (b ∷ before) rest are = links_behind ops i before rest are.1

within_behind : (m : ℕ) (before rest : List Node) → AreWithin m (before ++ rest) → AreWithin m rest
within_behind m [] rest w = w
within_behind m (b ∷ before) rest w = within_behind m before rest w.1

apart_behind : (before rest : List Node) → Apart (node_ids (before ++ rest)) → Apart (node_ids rest)
apart_behind [] rest a = a
apart_behind (b ∷ before) rest a = apart_behind before rest a.1

-- those behind an op of a kept block
behind_in : (g : GraphView) (u : Kept) (b : Block) (before : List Node) (n : Node) (rest : List Node) → IsGraph g → IsUsesOf g u → Has g.blocks b → b.ops ≡ before ++ n ∷ rest → IsBehind u n.id n rest
behind_in g u b before n rest graph is among e =
    let k = (is.all b.id).kept b among refl in
    let apart : Apart (node_ids (n ∷ rest)) = apart_behind before (n ∷ rest) (subst (λ (l : List Node). Apart (node_ids l)) e (apart_in g.blocks b graph.op_ids among)) in
    let within : AreWithin (length u.ops) (n ∷ rest) = within_behind (length u.ops) before (n ∷ rest) (subst (λ (l : List Node). AreWithin (length u.ops) l) e k.within) in
    record {
      is = refl;
      number = b.id;
      linked = links_behind u.ops b.id before (n ∷ rest) (subst (λ (l : List Node). AreLinked u.ops b.id l) e k.linked);
      apart = apart;
      few = let l = few (length u.ops) (n ∷ rest) apart within in omega (arith, l);
    }

-- what is kept of a result and of its block
pub record Stands (u : Kept) (id r : ℕ) (b : Block) (node : Node) (behind : List Node) : Type 0 where
  pub behind_it : IsBehind u id node behind
  pub writes : (op_at u id).writes ≡ mask_of (r ∷ [])
  pub last_reads_are : (block_at u (op_at u id).block).reads ≡ mask_of (last_reads b.last)
  pub last_writes_are : (block_at u (op_at u id).block).writes ≡ mask_of (last_writes b.last)

pub stands : (g : GraphView) (u : Kept) (id r : ℕ) (b : Block) (behind : List Node) → IsGraph g → IsUsesOf g u → (h : IsResult g id r b behind) → Stands u id r b h.node behind
stands g u id r b behind graph is h = subst (λ (i : ℕ). Stands u i r b h.node behind) h.is_id (record {
  behind_it = it;
  writes = ap (λ (o : OpUses). o.writes) op ∙ ap mask_of h.writes;
  last_reads_are = ap (λ (o : OpUses). (block_at u o.block).reads) op ∙ ap (λ (x : BlockUses). x.reads) k.end;
  last_writes_are = ap (λ (o : OpUses). (block_at u o.block).writes) op ∙ ap (λ (x : BlockUses). x.writes) k.end;
})
  where
    k : IsKeptOf u b
    k = (is.all b.id).kept b h.among refl

    it : IsBehind u h.node.id h.node behind
    it = behind_in g u b h.before h.node behind graph is h.among h.stands

    op : op_at u h.node.id ≡ uses_of h.node.op.kind (next_or h.node.id (first_id behind)) b.id
    op = (links_behind u.ops b.id h.before (h.node ∷ behind) (subst (λ (l : List Node). AreLinked u.ops b.id l) h.stands k.linked)).0

-- those behind a reader, which stands in the same block
pub later : (g : GraphView) (u : Kept) (id r a : ℕ) (b : Block) (behind : List Node) → IsGraph g → IsUsesOf g u → IsResult g id r b behind → (f : Reader r a behind) → IsBehind u a f.node f.rest
later g u id r a b behind graph is h f =
    subst (λ (i : ℕ). IsBehind u i f.node f.rest) f.is_id (behind_in g u b ((h.before ++ h.node ∷ []) ++ f.mid) f.node f.rest graph is h.among all)
  where
    all : b.ops ≡ ((h.before ++ h.node ∷ []) ++ f.mid) ++ f.node ∷ f.rest
    all = h.stands ∙ ap (λ (l : List Node). h.before ++ h.node ∷ l) f.stands
        ∙ sym (assoc h.before (h.node ∷ []) (f.mid ++ f.node ∷ f.rest))
        ∙ sym (assoc (h.before ++ h.node ∷ []) f.mid (f.node ∷ f.rest))

-- ids are apart behind an op too
pub ids_behind : (g : GraphView) (id r : ℕ) (b : Block) (behind : List Node) → IsGraph g → IsResult g id r b behind → Apart (node_ids behind)
ids_behind g id r b behind graph h = (apart_behind h.before (h.node ∷ behind) (subst (λ (l : List Node). Apart (node_ids l)) h.stands (apart_in g.blocks b graph.op_ids h.among))).1

-- ---- walks behind an op

-- what a walk that has come to an op still finds is what it looked for, after so many steps
pub record OnWalk {X : Type 0} (u : Kept) (find : List Node → X) (behind : List Node) (at k : ℕ) : Type 0 where
  pub node : Node
  pub rest : List Node
  pub behind_it : IsBehind u at node rest
  pub same : find rest ≡ find behind
  pub steps : length rest + k ≡ length behind

pub walk_begins : {X : Type 0} (u : Kept) (find : List Node → X) (id : ℕ) (n : Node) (behind : List Node) → IsBehind u id n behind → OnWalk u find behind id 0
walk_begins u find id n behind is = record { node = n; rest = behind; behind_it = is; same = refl; steps = omega arith }

-- the op of the walk is the last, exactly where it is its own next one
module _ (u : Kept) (at : ℕ) (n : Node) where
  next_is : (rest : List Node) → IsBehind u at n rest → (op_at u at).next ≡ next_or at (first_id rest)
  next_is rest is = subst (λ (i : ℕ). (op_at u i).next ≡ next_or i (first_id rest)) is.is (ap (λ (o : OpUses). o.next) is.linked.0)

  pub at_last : (rest : List Node) → IsBehind u at n rest → (op_at u at).next ≡ at → rest ≡ []
  at_last [] is e = refl
  at_last (m ∷ rest) is e = absurd (is.apart.0 (inl (sym (next_is (m ∷ rest) is) ∙ e ∙ sym is.is)))

  -- the op behind it
  pub record NextOp (next : ℕ) (rest : List Node) : Type 0 where
    pub node : Node
    pub behind : List Node
    pub left : rest ≡ node ∷ behind
    pub is : IsBehind u next node behind
    pub kept : op_at u next ≡ uses_of node.op.kind (next_or node.id (first_id behind)) is.number

  pub next_op : (rest : List Node) → IsBehind u at n rest → ((op_at u at).next ≡ at → ⊥) → NextOp (op_at u at).next rest
  next_op [] is differs = absurd (differs (next_is [] is))
  next_op (m ∷ rest) is differs =
      let e : m.id ≡ (op_at u at).next = sym (next_is (m ∷ rest) is) in
      record {
        node = m;
        behind = rest;
        left = refl;
        is = record { is = e; number = is.number; linked = is.linked.1; apart = is.apart.1; few = let l = is.few in omega (arith, l) };
        kept = ap (op_at u) (sym e) ∙ is.linked.1.0;
      }

-- ---- a reader

first_reads : (r : ℕ) (n : Node) (ns : List Node) → reads r n ≡ true → first_of (readers r (n ∷ ns)) ≡ Some n.id
first_reads r n ns e = rw e refl

first_written : (r : ℕ) (n : Node) (ns : List Node) → reads r n ≡ false → writes r n ≡ true → first_of (readers r (n ∷ ns)) ≡ None
first_written r n ns e f = rw (e, f) refl

first_later : (r : ℕ) (n : Node) (ns : List Node) → reads r n ≡ false → writes r n ≡ false → first_of (readers r ns) ≡ first_of (readers r (n ∷ ns))
first_later r n ns e f = rw (e, f) refl

kept_false : (r : ℕ) (n : Node) (ns : List Node) → writes r n ≡ true → is_kept r (n ∷ ns) ≡ false
kept_false r n ns e = rw e refl

module _ (u : Kept) (r : ℕ) (h : r < 31) (at : ℕ) (n : Node) (rest : List Node) (is : IsBehind u at n rest) where
  abbrev next_at : ℕ
  next_at = (op_at u at).next

  read_bit : (o : NextOp u at n next_at rest) → has_bit (op_at u next_at).reads r ≡ reads r o.node
  read_bit o = ap (λ (x : OpUses). has_bit x.reads r) o.kept ∙ bit_has (kind_reads o.node.op.kind) r h

  write_bit : (o : NextOp u at n next_at rest) → has_bit (op_at u next_at).writes r ≡ writes r o.node
  write_bit o = ap (λ (x : OpUses). has_bit x.writes r) o.kept ∙ bit_has (kind_writes o.node.op.kind) r h

  pub none_behind : next_at ≡ at → None ≡ first_of (readers r rest)
  none_behind e = ap (λ (l : List Node). first_of (readers r l)) (sym (at_last u at n rest is e))

  pub reads_next : (next_at ≡ at → ⊥) → has_bit (op_at u next_at).reads r ≡ true → Some next_at ≡ first_of (readers r rest)
  reads_next differs t =
      let o = next_op u at n rest is differs in
      ap (λ (i : ℕ). Some i) (sym o.is.is) ∙ sym (first_reads r o.node o.behind (sym (read_bit o) ∙ t)) ∙ ap (λ (l : List Node). first_of (readers r l)) (sym o.left)

  pub written_next : (next_at ≡ at → ⊥) → has_bit (op_at u next_at).reads r ≡ false → has_bit (op_at u next_at).writes r ≡ true → None ≡ first_of (readers r rest)
  written_next differs f t =
      let o = next_op u at n rest is differs in
      sym (first_written r o.node o.behind (sym (read_bit o) ∙ f) (sym (write_bit o) ∙ t)) ∙ ap (λ (l : List Node). first_of (readers r l)) (sym o.left)

  pub kept_last : next_at ≡ at → true ≡ is_kept r rest
  kept_last e = ap (is_kept r) (sym (at_last u at n rest is e))

  pub kept_written : (next_at ≡ at → ⊥) → has_bit (op_at u next_at).writes r ≡ true → false ≡ is_kept r rest
  kept_written differs t =
      let o = next_op u at n rest is differs in
      let w : writes r o.node ≡ true = sym (write_bit o) ∙ t in
      sym (ap (is_kept r) o.left ∙ kept_false r o.node o.behind w)

pub walk_reads :
    (u : Kept) (r : ℕ) (behind : List Node) (at k : ℕ) → r < 31 → OnWalk u (λ l. first_of (readers r l)) behind at k → ((op_at u at).next ≡ at → ⊥) →
    has_bit (op_at u (op_at u at).next).reads r ≡ false → has_bit (op_at u (op_at u at).next).writes r ≡ false → OnWalk u (λ l. first_of (readers r l)) behind (op_at u at).next (k + 1)
walk_reads u r behind at k h on differs f w =
    let o = next_op u at on.node on.rest on.behind_it differs in
    record {
      node = o.node;
      rest = o.behind;
      behind_it = o.is;
      same =
          first_later r o.node o.behind (sym (read_bit u r h at on.node on.rest on.behind_it o) ∙ f) (sym (write_bit u r h at on.node on.rest on.behind_it o) ∙ w)
          ∙ ap (λ (l : List Node). first_of (readers r l)) (sym o.left) ∙ on.same;
      steps = let s = on.steps in let e = ap (λ (l : List Node). length l) o.left in omega (arith, s, e);
    }

pub walk_keeps :
    (u : Kept) (r : ℕ) (behind : List Node) (at k : ℕ) → r < 31 → OnWalk u (is_kept r) behind at k → ((op_at u at).next ≡ at → ⊥) →
    has_bit (op_at u (op_at u at).next).writes r ≡ false → OnWalk u (is_kept r) behind (op_at u at).next (k + 1)
walk_keeps u r behind at k h on differs w =
    let o = next_op u at on.node on.rest on.behind_it differs in
    let f : writes r o.node ≡ false = sym (write_bit u r h at on.node on.rest on.behind_it o) ∙ w in
    record {
      node = o.node;
      rest = o.behind;
      behind_it = o.is;
      same = kept_later r o.node o.behind f ∙ ap (is_kept r) (sym o.left) ∙ on.same;
      steps = let s = on.steps in let e = ap (λ (l : List Node). length l) o.left in omega (arith, s, e);
    }
  where
    kept_later : (s : ℕ) (n : Node) (ns : List Node) → writes s n ≡ false → is_kept s ns ≡ is_kept s (n ∷ ns)
    kept_later s n ns e = rw e refl

-- a walk of as many steps as there are ops has come to the last
pub walk_ends : {X : Type 0} (u : Kept) (find : List Node → X) (behind : List Node) (at k : ℕ) → OnWalk u find behind at k → length u.ops ≤ k → length behind ≤ length u.ops → find [] ≡ find behind
walk_ends {X = X} u find behind at k on long short = by_rest on.rest refl
  where
    by_rest : (rest : List Node) → on.rest ≡ rest → find [] ≡ find behind
    by_rest [] e = ap find (sym e) ∙ on.same
    by_rest (n ∷ rest) e =
        let s = on.steps in
        let l = ap (λ (ns : List Node). length ns) e in
        absurd (omega (arith, s, l, long, short))

-- ---- steps of the walks

pub id_same : (a b : ℕ) → ((a == b) && true) ≡ true → a ≡ b
id_same a b e = by_test (a == b) refl e
  where
    by_test : (t : Bool) → (a == b) ≡ t → (t && true) ≡ true → a ≡ b
    by_test true f g = eqb-true a b f
    by_test false f g = absurd (true≢false (sym g))

pub id_differs : (a b : ℕ) → ((a == b) && true) ≡ false → a ≡ b → ⊥
id_differs a b e s = true≢false (sym (rw s (ap (λ (t : Bool). t && true) (same_id b))) ∙ e)

module _ (u : Kept) (r : ℕ) (h : r < 31) (behind : List Node) (at k next : ℕ) (is_next : next ≡ (op_at u at).next) where
  abbrev Reads : Type 0
  Reads = OnWalk u (λ l. first_of (readers r l)) behind at k

  abbrev Keeps : Type 0
  Keeps = OnWalk u (is_kept r) behind at k

  pub reads_end : Reads → next ≡ at → None ≡ first_of (readers r behind)
  reads_end on e = none_behind u r h at on.node on.rest on.behind_it (sym is_next ∙ e) ∙ on.same

  pub reads_found : Reads → (op : OpUses) → op ≡ op_at u next → (next ≡ at → ⊥) → has_bit op.reads r ≡ true → Some next ≡ first_of (readers r behind)
  reads_found on = subst (λ (n : ℕ). (op : OpUses) → op ≡ op_at u n → (n ≡ at → ⊥) → has_bit op.reads r ≡ true → Some n ≡ first_of (readers r behind)) (sym is_next)
      (λ op f differs t. reads_next u r h at on.node on.rest on.behind_it differs (ap (λ (o : OpUses). has_bit o.reads r) (sym f) ∙ t) ∙ on.same)

  pub reads_written : Reads → (op : OpUses) → op ≡ op_at u next → (next ≡ at → ⊥) → has_bit op.reads r ≡ false → has_bit op.writes r ≡ true → None ≡ first_of (readers r behind)
  reads_written on = subst (λ (n : ℕ). (op : OpUses) → op ≡ op_at u n → (n ≡ at → ⊥) → has_bit op.reads r ≡ false → has_bit op.writes r ≡ true → None ≡ first_of (readers r behind)) (sym is_next)
      (λ op f differs t w. written_next u r h at on.node on.rest on.behind_it differs
      (ap (λ (o : OpUses). has_bit o.reads r) (sym f) ∙ t) (ap (λ (o : OpUses). has_bit o.writes r) (sym f) ∙ w) ∙ on.same)

  pub reads_more : Reads → (op : OpUses) → op ≡ op_at u next → (next ≡ at → ⊥) → has_bit op.reads r ≡ false → has_bit op.writes r ≡ false → OnWalk u (λ l. first_of (readers r l)) behind next (k + 1)
  reads_more on = subst (λ (n : ℕ). (op : OpUses) → op ≡ op_at u n → (n ≡ at → ⊥) → has_bit op.reads r ≡ false → has_bit op.writes r ≡ false → OnWalk u (λ l. first_of (readers r l)) behind n (k + 1)) (sym is_next)
      (λ op f differs t w. walk_reads u r behind at k h on differs
      (ap (λ (o : OpUses). has_bit o.reads r) (sym f) ∙ t) (ap (λ (o : OpUses). has_bit o.writes r) (sym f) ∙ w))

  pub keeps_end : Keeps → next ≡ at → true ≡ is_kept r behind
  keeps_end on e = kept_last u r h at on.node on.rest on.behind_it (sym is_next ∙ e) ∙ on.same

  pub keeps_written : Keeps → (op : OpUses) → op ≡ op_at u next → (next ≡ at → ⊥) → has_bit op.writes r ≡ true → false ≡ is_kept r behind
  keeps_written on = subst (λ (n : ℕ). (op : OpUses) → op ≡ op_at u n → (n ≡ at → ⊥) → has_bit op.writes r ≡ true → false ≡ is_kept r behind) (sym is_next)
      (λ op f differs w. kept_written u r h at on.node on.rest on.behind_it differs (ap (λ (o : OpUses). has_bit o.writes r) (sym f) ∙ w) ∙ on.same)

  pub keeps_more : Keeps → (op : OpUses) → op ≡ op_at u next → (next ≡ at → ⊥) → has_bit op.writes r ≡ false → OnWalk u (is_kept r) behind next (k + 1)
  keeps_more on = subst (λ (n : ℕ). (op : OpUses) → op ≡ op_at u n → (n ≡ at → ⊥) → has_bit op.writes r ≡ false → OnWalk u (is_kept r) behind n (k + 1)) (sym is_next)
      (λ op f differs w. walk_keeps u r behind at k h on differs (ap (λ (o : OpUses). has_bit o.writes r) (sym f) ∙ w))

-- ---- answers

pub some_same : (o : Option ℕ) (a b : ℕ) → o ≡ Some a → o ≡ Some b → a ≡ b
some_same o a b e f = cc

-- behind a reader that writes the register there is none
module _ (u : Kept) (r : ℕ) (h : r < 31) (at : ℕ) (n : Node) (rest : List Node) (is : IsBehind u at n rest) where
  own_bit : has_bit (op_at u at).writes r ≡ writes r n
  own_bit =
      ap (λ (i : ℕ). has_bit (op_at u i).writes r) (sym is.is)
      ∙ ap (λ (o : OpUses). has_bit o.writes r) is.linked.0 ∙ bit_has (kind_writes n.op.kind) r h

  pub after_written : has_bit (op_at u at).writes r ≡ true → None ≡ first_of (cond (writes r n) [] (readers r rest))
  after_written t = ap (λ (w : Bool). first_of (cond w [] (readers r rest))) (sym (sym own_bit ∙ t))

  pub after_unwritten : (answer : Option ℕ) → has_bit (op_at u at).writes r ≡ false → answer ≡ first_of (readers r rest) → answer ≡ first_of (cond (writes r n) [] (readers r rest))
  after_unwritten answer f e = e ∙ ap (λ (w : Bool). first_of (cond w [] (readers r rest))) (sym (sym own_bit ∙ f))

module _ (g : GraphView) (u : Kept) (def r : ℕ) (b : Block) (behind : List Node) (graph : IsGraph g) (is : IsUsesOf g u) (h : IsResult g def r b behind) where
  s : Stands u def r b h.node behind
  s = stands g u def r b behind graph is h

  -- the one register that an op writes
  pub register_is : (mask : ℕ) (found : Option ℕ) → mask ≡ (op_at u def).writes → ((k : ℕ) → k < 31 → mask ≡ mask_of (k ∷ []) → found ≡ Some k) → found ≡ Some r
  register_is mask found e says = says r h.register (e ∙ s.writes)

  pub first_is : (k : ℕ) (answer : Option ℕ) → k ≡ r → ((n : Node) (rest : List Node) → IsBehind u def n rest → answer ≡ first_of (readers k rest)) → answer ≡ next_of None (readers r behind)
  first_is k answer e says = says h.node behind s.behind_it ∙ ap (λ (i : ℕ). first_of (readers i behind)) e

  pub after_is :
      (k a : ℕ) (answer : Option ℕ) → k ≡ r → IsAmong (Some a) (readers r behind) →
      ((n : Node) (rest : List Node) → IsBehind u a n rest → answer ≡ first_of (cond (writes k n) [] (readers k rest))) → answer ≡ next_of (Some a) (readers r behind)
  after_is k a answer e among says =
      let f = reader_at r a behind (ids_behind g def r b behind graph h) among in
      says f.node f.rest (later g u def r a b behind graph is h f)
      ∙ ap (λ (i : ℕ). first_of (cond (writes i f.node) [] (readers i f.rest))) e ∙ sym f.next

  abbrev TellsKept : ℕ → Bool → Type 0
  TellsKept k kept = (n : Node) (rest : List Node) → IsBehind u def n rest → kept ≡ is_kept k rest

  kept_as : (k : ℕ) (kept t : Bool) → k ≡ r → TellsKept k kept → kept ≡ t → is_kept r behind ≡ t
  kept_as k kept t e says f = ap (λ (i : ℕ). is_kept i behind) (sym e) ∙ sym (says h.node behind s.behind_it) ∙ f

  pub read_is : (k mask : ℕ) (kept answer : Bool) → k ≡ r → TellsKept k kept → kept ≡ true → mask ≡ (block_at u (op_at u def).block).reads → answer ≡ has_bit mask k → answer ≡ is_read_last r b behind
  read_is k mask kept answer e says f m a =
      a ∙ ap (λ (i : ℕ). has_bit mask i) e ∙ ap (λ (i : ℕ). has_bit i r) (m ∙ s.last_reads_are) ∙ bit_has (last_reads b.last) r h.register
      ∙ ap (λ (t : Bool). t && has (last_reads b.last) r) (sym (kept_as k kept true e says f))

  pub unread_is : (k : ℕ) (kept : Bool) → k ≡ r → TellsKept k kept → kept ≡ false → false ≡ is_read_last r b behind
  unread_is k kept e says f = ap (λ (t : Bool). t && has (last_reads b.last) r) (sym (kept_as k kept false e says f))

  pub end_is : (k mask : ℕ) (kept answer : Bool) → k ≡ r → TellsKept k kept → kept ≡ true → mask ≡ (block_at u (op_at u def).block).writes → answer ≡ has_bit mask k → not answer ≡ is_at_end r b behind
  end_is k mask kept answer e says f m a =
      ap not (a ∙ ap (λ (i : ℕ). has_bit mask i) e ∙ ap (λ (i : ℕ). has_bit i r) (m ∙ s.last_writes_are) ∙ bit_has (last_writes b.last) r h.register)
      ∙ ap (λ (t : Bool). t && not (has (last_writes b.last) r)) (sym (kept_as k kept true e says f))

  pub written_is : (k : ℕ) (kept : Bool) → k ≡ r → TellsKept k kept → kept ≡ false → false ≡ is_at_end r b behind
  written_is k kept e says f = ap (λ (t : Bool). t && not (has (last_writes b.last) r)) (sym (kept_as k kept false e says f))

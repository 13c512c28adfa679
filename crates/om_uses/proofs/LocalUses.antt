-- The readers of a result are its local uses.
use Rattle.std.proofs.Common.{◌≡◌, ◌↔◌, ◌⊎◌, inl, inr, ℕ, ◌<◌, Bool, true, false, cond, not, ◌&&◌, ◌||◌, ◌==◌, List, [], ◌∷◌, ◌++◌, map, Option, Some, None, refl, sym, ap, subst, ◌∙◌, arith}
use Rattle.std.proofs.lemmas.Bool.{true≢false}
use Rattle.om_isa.specs.declared.instr.Instr.{Instr}
use Rattle.om_isa.specs.declared.instr.Instr.TheVariants.{Mem, Jump, Branch, Alu, Cmov, Misc, Fnop, Halt, Callsys}
use Rattle.om_value.specs.declared.value.Place.{Place}
use Rattle.om_value.specs.declared.value.Target.{Target}
use Rattle.om_prog.specs.Act.{Act, Word, base_of, used_reads, act_reads, act_writes}
use Rattle.om_prog.specs.Act as act
use Rattle.om_prog.specs.Flow.{Among}
use Rattle.om_prog.specs.Facts.{has}
use Rattle.om_isa.specs.Registers.{regs_written}
use Rattle.om_graph.specs.declared.op.Op.{Op}
use Rattle.om_graph.specs.declared.op.OpKind.{OpKind}
use Rattle.om_graph.specs.declared.op.OpKind.TheVariants as op
use Rattle.om_graph.specs.declared.op.Last.{Last}
use Rattle.om_graph.specs.declared.op.Last.TheVariants as last
use Rattle.om_graph.specs.View.{Node, Block, GraphView, Has, ops_of}
use Rattle.om_graph.specs.Held.{IsGraph, Apart, node_ids}
use Rattle.om_graph.specs.Run.{op_act, op_word, use_of, target_at, block_words, last_words}
use Rattle.om_graph.specs.Form.{After, Ordered}
use Rattle.om_graph.specs.Uses.{NoneWrites, IsLocalUse}
use Rattle.om_graph.proofs.Masks.{has_among, among_true}
use Rattle.om_graph.proofs.Ends.{after_apart, words_apart}
use Rattle.om_blocks.specs.IsFlow.{HasFlow}
use Rattle.om_blocks.specs.Effects.{kind_reads, kind_writes, last_reads, last_writes}
use Rattle.om_blocks.proofs.Walking.{assoc, has_mid, apart_in}
use Rattle.om_blocks.proofs.LastWords.{has_left, has_right, has_both}
use Rattle.om_uses.specs.Readers.{IsResult, reads, writes, with_id, readers, is_kept, is_read_last, is_at_end}
use Rattle.om_uses.specs.LocalUses.{word_of, words_of, words_behind, IsUsedLast}

both_true : (a b : Bool) → (a && b) ≡ true → (a ≡ true) × (b ≡ true)
both_true true b e = (refl, e)
both_true false b e = absurd (true≢false (sym e))

-- ---- what words read and write is what their ops do

pub act_reads_of : (os : List Op) (k : OpKind) → (op_act os k ≡ act.Wrong → ⊥) → act_reads (op_act os k) ≡ kind_reads k
act_reads_of os (op.Plain i) right = refl
act_reads_of os (op.Lit ra rb t) right = refl
act_reads_of os (op.AddrLda ra rb t) right = refl
act_reads_of os (op.AddrHi ra rb t least) right = refl
act_reads_of os (op.UseLo i hi) right = by_target (target_at os hi) right
  where
    by_target : (z : Option Target) → (use_of i hi z ≡ act.Wrong → ⊥) → act_reads (use_of i hi z) ≡ base_of i ∷ used_reads i
    by_target None right = absurd (right refl)
    by_target (Some t) right = refl
act_reads_of os (op.UseGp i gp t) right = refl
act_reads_of os (op.GpHi ra rb base) right = refl
act_reads_of os (op.GpLo ra rb hi) right = refl

pub act_writes_of : (os : List Op) (k : OpKind) → (op_act os k ≡ act.Wrong → ⊥) → act_writes (op_act os k) ≡ kind_writes k
act_writes_of os (op.Plain i) right = refl
act_writes_of os (op.Lit ra rb t) right = refl
act_writes_of os (op.AddrLda ra rb t) right = refl
act_writes_of os (op.AddrHi ra rb t least) right = refl
act_writes_of os (op.UseLo i hi) right = by_target (target_at os hi) right
  where
    by_target : (z : Option Target) → (use_of i hi z ≡ act.Wrong → ⊥) → act_writes (use_of i hi z) ≡ regs_written i
    by_target None right = absurd (right refl)
    by_target (Some t) right = refl
act_writes_of os (op.UseGp i gp t) right = refl
act_writes_of os (op.GpHi ra rb base) right = refl
act_writes_of os (op.GpLo ra rb hi) right = refl

abbrev pub AreRight : List Word → Type 0
AreRight ws = (w : Word) → Has ws w → w.act ≡ act.Wrong → ⊥

-- a block ends with one word or none
pub record OneLast (l : Last) (w : Word) : Type 0 where
  pub word : last_words l ≡ w ∷ []
  pub reads : act_reads w.act ≡ last_reads l
  pub writes : act_writes w.act ≡ last_writes l

pub record NoLast (l : Last) : Type 0 where
  pub word : last_words l ≡ []
  pub reads : last_reads l ≡ []
  pub writes : last_writes l ≡ []

pub last_is : (l : Last) → ((w : Word) → Has (last_words l) w → w.act ≡ act.Wrong → ⊥) → NoLast l ⊎ ((w : Word) × OneLast l w)
last_is last.Fall right = inl (record { word = refl; reads = refl; writes = refl })
last_is last.Off right = inl (record { word = refl; reads = refl; writes = refl })
last_is (last.Br at o ra to) right = inr (record { at = at; act = act.To o ra to }, record { word = refl; reads = refl; writes = refl })
last_is (last.Cond at i to) right = by_instr i right
  where
    by_instr : (i : Instr) → ((w : Word) → Has (last_words (last.Cond at i to)) w → w.act ≡ act.Wrong → ⊥) → NoLast (last.Cond at i to) ⊎ ((w : Word) × OneLast (last.Cond at i to) w)
    by_instr (Branch o ra disp) right = inr (record { at = at; act = act.To o ra to }, record { word = refl; reads = refl; writes = refl })
    by_instr (Mem o ra rb disp) right = absurd (right (record { at = at; act = act.Wrong }) (inl refl) refl)
    by_instr (Jump o ra rb hint) right = absurd (right (record { at = at; act = act.Wrong }) (inl refl) refl)
    by_instr (Alu o ra rb rc) right = absurd (right (record { at = at; act = act.Wrong }) (inl refl) refl)
    by_instr (Cmov c ra rb rc) right = absurd (right (record { at = at; act = act.Wrong }) (inl refl) refl)
    by_instr (Misc o ra rb) right = absurd (right (record { at = at; act = act.Wrong }) (inl refl) refl)
    by_instr Fnop right = absurd (right (record { at = at; act = act.Wrong }) (inl refl) refl)
    by_instr Halt right = absurd (right (record { at = at; act = act.Wrong }) (inl refl) refl)
    by_instr Callsys right = absurd (right (record { at = at; act = act.Wrong }) (inl refl) refl)
last_is (last.Call at o ra to) right = inr (record { at = at; act = act.To o ra to }, record { word = refl; reads = refl; writes = refl })
last_is (last.CallBy at i) right = inr (record { at = at; act = act.Plain i }, record { word = refl; reads = refl; writes = refl })
last_is (last.JumpBy at i) right = inr (record { at = at; act = act.Plain i }, record { word = refl; reads = refl; writes = refl })

-- ---- lists

-- words in order stand behind a word of theirs in one way
same_behind : (xs ys zs us : List Word) (w : Word) → xs ++ w ∷ ys ≡ zs ++ w ∷ us → Ordered (xs ++ w ∷ ys) → ys ≡ us
same_behind [] ys [] us w e o = cc
same_behind [] ys (z ∷ zs) us w e o =
    let t : ys ≡ zs ++ w ∷ us = cc in
    absurd (after_apart ys w w o.0 (subst (λ (l : List Word). Has l w) (sym t) (has_mid zs w us)) refl)
same_behind (x ∷ xs) ys [] us w e o =
    let h : x ≡ w = cc in
    absurd (after_apart (xs ++ w ∷ ys) x w o.0 (has_mid xs w ys) (ap (λ (y : Word). y.at) (sym h)))
same_behind (x ∷ xs) ys (z ∷ zs) us w e o =
    let t : xs ++ w ∷ ys ≡ zs ++ w ∷ us = cc in
    same_behind xs ys zs us w t o.1

id_in : (ns : List Node) (n : Node) → Has ns n → Has (node_ids ns) n.id
id_in [] n k = k
id_in (y ∷ ns) n (inl k) = inl (ap (λ (z : Node). z.id) k)
id_in (y ∷ ns) n (inr k) = inr (id_in ns n k)

-- nodes of one id are one node
pub same_node : (ns : List Node) (m n : Node) → Apart (node_ids ns) → Has ns m → Has ns n → m.id ≡ n.id → m ≡ n
same_node [] m n a h k e = absurd h
same_node (x ∷ ns) m n a (inl h) (inl k) e = sym h ∙ k
same_node (x ∷ ns) m n a (inl h) (inr k) e =
    absurd (a.0 (subst (λ (i : ℕ). Has (node_ids ns) i) (sym e ∙ ap (λ (y : Node). y.id) (sym h)) (id_in ns n k)))
same_node (x ∷ ns) m n a (inr h) (inl k) e =
    absurd (a.0 (subst (λ (i : ℕ). Has (node_ids ns) i) (e ∙ ap (λ (y : Node). y.id) (sym k)) (id_in ns m h)))
same_node (x ∷ ns) m n a (inr h) (inr k) e = same_node ns m n a.1 h k e

-- ---- readers of a register in nodes

pub record Splits (r a : ℕ) (ns : List Node) : Type 0 where
  pub mid : List Node
  pub node : Node
  pub rest : List Node
  pub stands : ns ≡ mid ++ node ∷ rest
  pub is_id : node.id ≡ a
  pub reads_it : reads r node ≡ true
  pub kept : is_kept r mid ≡ true

splits : (r a : ℕ) (ns : List Node) → Has (readers r ns) a → Splits r a ns
splits r a [] h = absurd h
splits r a (n ∷ ns) h = by_reads (reads r n) (writes r n) refl refl h (splits r a ns)
  where
    later : writes r n ≡ false → Splits r a ns → Splits r a (n ∷ ns)
    later w s = record {
      mid = n ∷ s.mid;
      node = s.node;
      rest = s.rest;
      stands = ap (λ (l : List Node). n ∷ l) s.stands;
      is_id = s.is_id;
      reads_it = s.reads_it;
      kept = rw w s.kept;
    }

    by_reads : (b w : Bool) → reads r n ≡ b → writes r n ≡ w → Has (with_id b n.id (cond w [] (readers r ns))) a → (Has (readers r ns) a → Splits r a ns) → Splits r a (n ∷ ns)
    by_reads true w e f (inl s) again = record { mid = []; node = n; rest = ns; stands = refl; is_id = s; reads_it = e; kept = refl }
    by_reads true true e f (inr k) again = absurd k
    by_reads true false e f (inr k) again = later f (again k)
    by_reads false true e f k again = absurd k
    by_reads false false e f k again = later f (again k)

pub is_reader : (r : ℕ) (mid : List Node) (n : Node) (rest : List Node) → reads r n ≡ true → is_kept r mid ≡ true → Has (readers r (mid ++ n ∷ rest)) n.id
is_reader r [] n rest e k = rw e (inl refl)
is_reader r (m ∷ mid) n rest e k = by_writes (reads r m) (writes r m) k (is_reader r mid n rest e)
  where
    by_writes : (b w : Bool) → cond w false (is_kept r mid) ≡ true → (is_kept r mid ≡ true → Has (readers r (mid ++ n ∷ rest)) n.id) → Has (with_id b m.id (cond w [] (readers r (mid ++ n ∷ rest)))) n.id
    by_writes b true k again = absurd (true≢false (sym k))
    by_writes true false k again = inr (again k)
    by_writes false false k again = again k

-- ---- in a block

module _ (b : Block) (r : ℕ) where
  pub word_in : (ns : List Node) (n : Node) → Has ns n → Has (words_of b ns) (word_of b n)
  word_in [] n h = absurd h
  word_in (m ∷ ns) n (inl e) = inl (ap (word_of b) e)
  word_in (m ∷ ns) n (inr h) = inr (word_in ns n h)

  pub words_append : (xs ys : List Node) → words_of b (xs ++ ys) ≡ words_of b xs ++ words_of b ys
  words_append [] ys = refl
  words_append (x ∷ xs) ys = ap (λ (l : List Word). word_of b x ∷ l) (words_append xs ys)

  pub kept_none : (ns : List Node) → AreRight (words_of b ns) → is_kept r ns ≡ true → NoneWrites r (words_of b ns)
  kept_none [] right k = λ w h a. h
  kept_none (n ∷ ns) right k = by_writes (writes r n) refl k (kept_none ns (λ w h. right w (inr h)))
    where
      by_writes : (t : Bool) → writes r n ≡ t → cond t false (is_kept r ns) ≡ true → (is_kept r ns ≡ true → NoneWrites r (words_of b ns)) → NoneWrites r (words_of b (n ∷ ns))
      by_writes true e k again = absurd (true≢false (sym k))
      by_writes false e k again = λ w h a. by_word e (again k) w h a
        where
          by_word : writes r n ≡ false → NoneWrites r (words_of b ns) → (w : Word) → Has (words_of b (n ∷ ns)) w → Among (act_writes w.act) r → ⊥
          by_word e none w (inl s) a =
              let m : Among (act_writes (word_of b n).act) r = subst (λ (y : Word). Among (act_writes y.act) r) (sym s) a in
              let l = act_writes_of (ops_of b) n.op.kind (right (word_of b n) (inl refl)) in
              true≢false (sym (among_true (kind_writes n.op.kind) r (subst (λ (rs : List ℕ). Among rs r) l m)) ∙ e)
          by_word e none w (inr h) a = none w h a

  pub none_kept : (ns : List Node) → AreRight (words_of b ns) → NoneWrites r (words_of b ns) → is_kept r ns ≡ true
  none_kept [] right none = refl
  none_kept (n ∷ ns) right none = by_writes (writes r n) refl (none_kept ns (λ w h. right w (inr h)) (λ w h. none w (inr h)))
    where
      by_writes : (t : Bool) → writes r n ≡ t → is_kept r ns ≡ true → cond t false (is_kept r ns) ≡ true
      by_writes true e k =
          let l = act_writes_of (ops_of b) n.op.kind (right (word_of b n) (inl refl)) in
          absurd (none (word_of b n) (inl refl) (subst (λ (rs : List ℕ). Among rs r) (sym l) (has_among (kind_writes n.op.kind) r e)))
      by_writes false e k = k

  -- where a word of the words of nodes and of others stands
  pub record AmongNodes (ns : List Node) (mid : List Word) (x : Word) : Type 0 where
    pub front : List Node
    pub node : Node
    pub rest : List Node
    pub stands : ns ≡ front ++ node ∷ rest
    pub mid_is : mid ≡ words_of b front
    pub is : word_of b node ≡ x

  pub record BehindNodes (ns : List Node) (mid : List Word) (x : Word) (others : List Word) : Type 0 where
    pub extra : List Word
    pub mid_is : mid ≡ words_of b ns ++ extra
    pub among : Has others x

  pub where_is :
      (ns : List Node) (others mid : List Word) (x : Word) (after : List Word) → words_of b ns ++ others ≡ mid ++ x ∷ after →
      AmongNodes ns mid x ⊎ BehindNodes ns mid x others
  where_is [] others mid x after e = inr (record { extra = mid; mid_is = refl; among = subst (λ (l : List Word). Has l x) (sym e) (has_mid mid x after) })
  where_is (n ∷ ns) others [] x after e =
      let h : word_of b n ≡ x = cc in
      inl (record { front = []; node = n; rest = ns; stands = refl; mid_is = refl; is = h })
  where_is (n ∷ ns) others (y ∷ mid) x after e =
      let h : word_of b n ≡ y = cc in
      let t : words_of b ns ++ others ≡ mid ++ x ∷ after = cc in
      more h (where_is ns others mid x after t)
    where
      more : word_of b n ≡ y → AmongNodes ns mid x ⊎ BehindNodes ns mid x others → AmongNodes (n ∷ ns) (y ∷ mid) x ⊎ BehindNodes (n ∷ ns) (y ∷ mid) x others
      more h (inl a) = inl (record {
        front = n ∷ a.front;
        node = a.node;
        rest = a.rest;
        stands = ap (λ (l : List Node). n ∷ l) a.stands;
        mid_is = ap (λ (l : List Word). y ∷ l) a.mid_is ∙ ap (λ (z : Word). z ∷ words_of b a.front) (sym h);
        is = a.is;
      })
      more h (inr k) = inr (record {
        extra = k.extra;
        mid_is = ap (λ (l : List Word). y ∷ l) k.mid_is ∙ ap (λ (z : Word). z ∷ words_of b ns ++ k.extra) (sym h);
        among = k.among;
      })

  -- nodes whose words stand in order at one place are one
  node_by_place : (ns : List Node) (others : List Word) (m n : Node) → Ordered (words_of b ns ++ others) → Has ns m → Has ns n → m.op.place ≡ n.op.place → m ≡ n
  node_by_place [] others m n o h k e = absurd h
  node_by_place (x ∷ ns) others m n o (inl h) (inl k) e = sym h ∙ k
  node_by_place (x ∷ ns) others m n o (inl h) (inr k) e =
      absurd (after_apart (words_of b ns ++ others) (word_of b x) (word_of b n) o.0 (has_left (words_of b ns) others (word_of b n) (word_in ns n k)) (sym e ∙ ap (λ (y : Node). y.op.place) (sym h)))
  node_by_place (x ∷ ns) others m n o (inr h) (inl k) e =
      absurd (after_apart (words_of b ns ++ others) (word_of b x) (word_of b m) o.0 (has_left (words_of b ns) others (word_of b m) (word_in ns m h)) (e ∙ ap (λ (y : Node). y.op.place) (sym k)))
  node_by_place (x ∷ ns) others m n o (inr h) (inr k) e = node_by_place ns others m n o.1 h k e

module _ (g : GraphView) (id r : ℕ) (b : Block) (behind : List Node) (graph : IsGraph g) (flow : HasFlow g) (h : IsResult g id r b behind) where
  right : (w : Word) → Has (block_words b) w → w.act ≡ act.Wrong → ⊥
  right w m = flow.right.none b w h.among m

  order : Ordered (block_words b)
  order = flow.places.ordered b h.among

  pub words_are : block_words b ≡ words_of b h.before ++ word_of b h.node ∷ words_behind b behind
  words_are =
      ap (λ (ns : List Node). words_of b ns ++ last_words b.last) h.stands
      ∙ ap (λ (l : List Word). l ++ last_words b.last) (words_append b r h.before (h.node ∷ behind))
      ∙ assoc (words_of b h.before) (word_of b h.node ∷ words_of b behind) (last_words b.last)

  in_behind : (n : Node) → Has behind n → Has b.ops n
  in_behind n k = subst (λ (l : List Node). Has l n) (sym h.stands) (has_right h.before (h.node ∷ behind) n (inr k))

  pub right_behind : (w : Word) → Has (words_behind b behind) w → w.act ≡ act.Wrong → ⊥
  right_behind w k =
      right w (subst (λ (l : List Word). Has l w) (sym words_are) (has_right (words_of b h.before) (word_of b h.node ∷ words_behind b behind) w (inr k)))

  pub right_nodes : (w : Word) → Has (words_of b behind) w → w.act ≡ act.Wrong → ⊥
  right_nodes w k = right_behind w (has_left (words_of b behind) (last_words b.last) w k)

  right_last : (w : Word) → Has (last_words b.last) w → w.act ≡ act.Wrong → ⊥
  right_last w k = right_behind w (has_right (words_of b behind) (last_words b.last) w k)

  right_node : (n : Node) → Has b.ops n → op_act (ops_of b) n.op.kind ≡ act.Wrong → ⊥
  right_node n k = right (word_of b n) (has_left (words_of b b.ops) (last_words b.last) (word_of b n) (word_in b r b.ops n k))

  not_31 : r ≡ 31 → ⊥
  not_31 e = let l = h.register in omega (arith, l, e)

  def_writes : Among (act_writes (word_of b h.node).act) r
  def_writes =
      let m = subst (λ (l : List Node). Has l h.node) (sym h.stands) (has_mid h.before h.node behind) in
      subst (λ (rs : List ℕ). Among rs r) (sym (act_writes_of (ops_of b) h.node.op.kind (right_node h.node m) ∙ h.writes)) (inl refl)

  -- what stands behind the result's word, by a local use of it
  pub behind_is : (w : Word) (u : IsLocalUse (block_words b) (word_of b h.node) w r) → words_behind b behind ≡ u.mid ++ w ∷ u.stands.1
  behind_is w u =
      same_behind (words_of b h.before) (words_behind b behind) u.stands.0 (u.mid ++ w ∷ u.stands.1) (word_of b h.node)
      (sym words_are ∙ u.stands.2 ∙ assoc u.stands.0 (word_of b h.node ∷ u.mid) (w ∷ u.stands.1)) (subst (λ (l : List Word). Ordered l) words_are order)

  -- an op's word is no end
  pub not_last : (n : Node) → Has b.ops n → Has (last_words b.last) (word_of b n) → ⊥
  not_last n k e = words_apart (words_of b b.ops) (last_words b.last) (word_of b n) (word_of b n) order (word_in b r b.ops n k) e refl

  pub reader_is_use : (n : Node) → Has b.ops n → Has (readers r behind) n.id → IsLocalUse (block_words b) (word_of b h.node) (word_of b n) r
  reader_is_use n k m = by_split (splits r n.id behind m)
    where
      by_split : Splits r n.id behind → IsLocalUse (block_words b) (word_of b h.node) (word_of b n) r
      by_split s = record {
        mid = words_of b s.mid;
        stands = (words_of b h.before, words_of b s.rest ++ last_words b.last, words_are ∙ ap (λ (l : List Word). words_of b h.before ++ word_of b h.node ∷ l) behind_words ∙ sym (assoc (words_of b h.before) (word_of b h.node ∷ words_of b s.mid) (word_of b n ∷ (words_of b s.rest ++ last_words b.last))));
        writes = def_writes;
        unwritten = kept_none b r s.mid (λ w q. right_nodes w (subst (λ (l : List Node). Has (words_of b l) w) (sym s.stands) (subst (λ (l : List Word). Has l w) (sym (words_append b r s.mid (s.node ∷ s.rest))) (has_left (words_of b s.mid) (words_of b (s.node ∷ s.rest)) w q)))) s.kept;
        reads = subst (λ (rs : List ℕ). Among rs r) (sym (act_reads_of (ops_of b) n.op.kind (right_node n k))) (has_among (kind_reads n.op.kind) r (ap (reads r) (sym same) ∙ s.reads_it));
        register = not_31;
      }
        where
          same : s.node ≡ n
          same =
              same_node b.ops s.node n (apart_in g.blocks b graph.op_ids h.among)
              (in_behind s.node (subst (λ (l : List Node). Has l s.node) (sym s.stands) (has_mid s.mid s.node s.rest))) k s.is_id

          behind_words : words_behind b behind ≡ words_of b s.mid ++ word_of b n ∷ (words_of b s.rest ++ last_words b.last)
          behind_words =
              ap (λ (ns : List Node). words_of b ns ++ last_words b.last) s.stands
              ∙ ap (λ (l : List Word). l ++ last_words b.last) (words_append b r s.mid (s.node ∷ s.rest))
              ∙ assoc (words_of b s.mid) (word_of b s.node ∷ words_of b s.rest) (last_words b.last)
              ∙ ap (λ (y : Node). words_of b s.mid ++ word_of b y ∷ (words_of b s.rest ++ last_words b.last)) same

  pub use_is_reader : (n : Node) → Has b.ops n → IsLocalUse (block_words b) (word_of b h.node) (word_of b n) r → Has (readers r behind) n.id
  use_is_reader n k u = by_where (where_is b r behind (last_words b.last) u.mid (word_of b n) u.stands.1 (behind_is (word_of b n) u))
    where
      by_where : AmongNodes b r behind u.mid (word_of b n) ⊎ BehindNodes b r behind u.mid (word_of b n) (last_words b.last) → Has (readers r behind) n.id
      by_where (inr p) = absurd (not_last n k p.among)
      by_where (inl a) =
          let among = in_behind a.node (subst (λ (l : List Node). Has l a.node) (sym a.stands) (has_mid a.front a.node a.rest)) in
          let same : a.node ≡ n = node_by_place b r b.ops (last_words b.last) a.node n order among k (ap (λ (w : Word). w.at) a.is) in
          let is_read : reads r a.node ≡ true = ap (reads r) same ∙ among_true (kind_reads n.op.kind) r (subst (λ (rs : List ℕ). Among rs r) (act_reads_of (ops_of b) n.op.kind (right_node n k)) u.reads) in
          let kept : is_kept r a.front ≡ true =
          none_kept b r a.front
          (λ w q. right_nodes w (subst (λ (l : List Node). Has (words_of b l) w) (sym a.stands) (subst (λ (l : List Word). Has l w) (sym (words_append b r a.front (a.node ∷ a.rest))) (has_left (words_of b a.front) (words_of b (a.node ∷ a.rest)) w q))))
          (subst (λ (l : List Word). NoneWrites r l) a.mid_is u.unwritten) in
          subst (λ (i : ℕ). Has (readers r behind) i) (ap (λ (y : Node). y.id) same)
          (subst (λ (l : List Node). Has (readers r l) a.node.id) (sym a.stands) (is_reader r a.front a.node a.rest is_read kept))

  pub last_is_use : is_read_last r b behind ≡ true → IsUsedLast b (word_of b h.node) r
  last_is_use e = by_last (last_is b.last right_last) (both_true (is_kept r behind) (has (last_reads b.last) r) e)
    where
      by_last : NoLast b.last ⊎ ((w : Word) × OneLast b.last w) → (is_kept r behind ≡ true) × (has (last_reads b.last) r ≡ true) → IsUsedLast b (word_of b h.node) r
      by_last (inl none) p = absurd (true≢false (sym p.1 ∙ ap (λ (rs : List ℕ). has rs r) none.reads))
      by_last (inr one) p = (
        one.0,
        one.1.word,
        record {
          mid = words_of b behind;
          stands = (words_of b h.before, [], words_are ∙ ap (λ (l : List Word). words_of b h.before ++ word_of b h.node ∷ (words_of b behind ++ l)) one.1.word ∙ sym (assoc (words_of b h.before) (word_of b h.node ∷ words_of b behind) (one.0 ∷ [])));
          writes = def_writes;
          unwritten = kept_none b r behind right_nodes p.0;
          reads = subst (λ (rs : List ℕ). Among rs r) (sym one.1.reads) (has_among (last_reads b.last) r p.1);
          register = not_31;
        },
      )

  pub use_is_last : IsUsedLast b (word_of b h.node) r → is_read_last r b behind ≡ true
  use_is_last (w, s, u) = by_where (where_is b r behind (last_words b.last) u.mid w u.stands.1 (behind_is w u)) (last_is b.last right_last)
    where
      is_last : Has (last_words b.last) w
      is_last = subst (λ (l : List Word). Has l w) (sym s) (inl refl)

      by_where : AmongNodes b r behind u.mid w ⊎ BehindNodes b r behind u.mid w (last_words b.last) → NoLast b.last ⊎ ((v : Word) × OneLast b.last v) → is_read_last r b behind ≡ true
      by_where (inl a) l =
          let among = in_behind a.node (subst (λ (l : List Node). Has l a.node) (sym a.stands) (has_mid a.front a.node a.rest)) in
          absurd (not_last a.node among (subst (λ (x : Word). Has (last_words b.last) x) (sym a.is) is_last))
      by_where (inr p) (inl none) = absurd (subst (λ (l : List Word). Has l w) none.word is_last)
      by_where (inr p) (inr one) =
          let kept : is_kept r behind ≡ true =
          none_kept b r behind right_nodes (λ v q. u.unwritten v (subst (λ (l : List Word). Has l v) (sym p.mid_is) (has_left (words_of b behind) p.extra v q))) in
          let same : w ∷ [] ≡ one.0 ∷ [] = sym s ∙ one.1.word in
          let one_word : w ≡ one.0 = cc in
          let is_read : has (last_reads b.last) r ≡ true =
          among_true (last_reads b.last) r (subst (λ (rs : List ℕ). Among rs r) one.1.reads (subst (λ (v : Word). Among (act_reads v.act) r) one_word u.reads)) in
          rw (kept, is_read) refl

  pub end_is_none : is_at_end r b behind ≡ true → NoneWrites r (words_behind b behind)
  end_is_none e w k a = by_last (both_true (is_kept r behind) (not (has (last_writes b.last) r)) e) (has_both (words_of b behind) (last_words b.last) w k) (last_is b.last right_last)
    where
      not_true : (t : Bool) → not t ≡ true → t ≡ true → ⊥
      not_true true e f = true≢false (sym e)
      not_true false e f = true≢false (sym f)

      by_last : (is_kept r behind ≡ true) × (not (has (last_writes b.last) r) ≡ true) → Has (words_of b behind) w ⊎ Has (last_words b.last) w → NoLast b.last ⊎ ((v : Word) × OneLast b.last v) → ⊥
      by_last p (inl q) l = kept_none b r behind right_nodes p.0 w q a
      by_last p (inr q) (inl none) = subst (λ (l : List Word). Has l w) none.word q
      by_last p (inr q) (inr one) = by_one (subst (λ (l : List Word). Has l w) one.1.word q)
        where
          by_one : Has (one.0 ∷ []) w → ⊥
          by_one (inl s) =
              not_true (has (last_writes b.last) r) p.1
              (among_true (last_writes b.last) r (subst (λ (rs : List ℕ). Among rs r) one.1.writes (subst (λ (v : Word). Among (act_writes v.act) r) (sym s) a)))
          by_one (inr n) = n

  pub none_is_end : NoneWrites r (words_behind b behind) → is_at_end r b behind ≡ true
  none_is_end none = by_last (last_is b.last right_last)
    where
      kept : is_kept r behind ≡ true
      kept = none_kept b r behind right_nodes (λ w q. none w (has_left (words_of b behind) (last_words b.last) w q))

      with_end : (t : Bool) → (t ≡ true → ⊥) → not t ≡ true
      with_end true f = absurd (f refl)
      with_end false f = refl

      unwritten : NoLast b.last ⊎ ((v : Word) × OneLast b.last v) → has (last_writes b.last) r ≡ true → ⊥
      unwritten (inl n) e = true≢false (sym e ∙ ap (λ (rs : List ℕ). has rs r) n.writes)
      unwritten (inr one) e =
          none one.0 (has_right (words_of b behind) (last_words b.last) one.0 (subst (λ (l : List Word). Has l one.0) (sym one.1.word) (inl refl)))
          (subst (λ (rs : List ℕ). Among rs r) (sym one.1.writes) (has_among (last_writes b.last) r e))

      by_last : NoLast b.last ⊎ ((v : Word) × OneLast b.last v) → is_at_end r b behind ≡ true
      by_last l = let e = with_end (has (last_writes b.last) r) (unwritten l) in rw (kept, e) refl

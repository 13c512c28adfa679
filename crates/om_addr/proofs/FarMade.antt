-- A load of which all uses are base uses, made far by replaces in a row.
use Rattle.std.proofs.Common.{◌≡◌, ◌⊎◌, inl, inr, ◌<◌, ℕ, Bool, true, false, cond, not, ◌&&◌, List, [], ◌∷◌, ◌++◌, map, Option, Some, None, refl, sym, ap, ◌∙◌, subst, arith}
use Rattle.std.specs.Prelude.{ℤ, ◌≤ℤ◌, is_some}
use Rattle.std.specs.Option.{option_or}
use Rattle.std.proofs.lemmas.Bool.{true≢false}
use Rattle.om_isa.specs.declared.instr.Instr.{Instr}
use Rattle.om_value.specs.declared.value.Place.{Place}
use Rattle.om_value.specs.declared.value.Region.{Region}
use Rattle.om_value.specs.declared.value.Target.{Target}
use Rattle.om_value.specs.declared.value.Target.TheVariants as target
use Rattle.om_value.specs.Same.{place_eq}
use Rattle.om_prog.specs.Act as act
use Rattle.om_prog.specs.Act.{Act, Word}
use Rattle.om_prog.specs.Facts.{has}
use Rattle.om_prog.specs.View.{ProgramView}
use Rattle.om_prog.specs.Valid.{IsProgram}
use Rattle.om_graph.specs.declared.op.Op.{Op}
use Rattle.om_graph.specs.declared.op.OpKind.{OpKind}
use Rattle.om_graph.specs.declared.op.OpKind.TheVariants as op
use Rattle.om_graph.specs.declared.op.Last.{Last}
use Rattle.om_graph.specs.View.{Node, Block, GraphView, Has, ops_of}
use Rattle.om_graph.specs.Held.{IsGraph, Apart, node_ids}
use Rattle.om_graph.specs.Run.{block_words, last_words, high_target, target_at, use_of, op_act, op_word, rev_onto}
use Rattle.om_graph.specs.Form.{Ordered}
use Rattle.om_graph.specs.Checks.{written_in}
use Rattle.om_graph.specs.Outs.{outs_of}
use Rattle.om_graph.specs.Uses.{IsLocalUse, IsBaseUse, IsByteUse}
use Rattle.om_graph.proofs.Ends.{words_apart}
use Rattle.om_graph.proofs.Labels.{append_left, has_append, same_place}
use Rattle.om_graph.proofs.OfProgram.{of_map, to_map}
use Rattle.om_blocks.specs.IsFlow.{HasFlow}
use Rattle.om_blocks.specs.Effects.{last_reads}
use Rattle.om_blocks.proofs.OfPrograms.{graphs_have_flows}
use Rattle.om_blocks.proofs.Walking.{apart_in}
use Rattle.om_uses.specs.Readers.{IsResult, readers, is_kept, is_read_last}
use Rattle.om_uses.specs.LocalUses.{word_of, words_of, words_behind}
use Rattle.om_uses.proofs.LocalUses.{OneLast, NoLast, last_is, AmongNodes, BehindNodes, where_is, words_are, behind_is, right_behind, reader_is_use, use_is_reader, use_is_last}
use Rattle.om_passes.specs.Far.{FarLoad, far_target, far_op, use_kind, IsFarUse, IsFarLoad}
use Rattle.om_passes.specs.OneEdit.{MayGoOn}
use Rattle.om_passes.proofs.FarEdits.{one_disp}
use Rattle.om_addr.specs.Laws.{far_load, IsWhollyFar}
use Rattle.om_addr.specs.FarRow.{edits_of, is_set_at}
use Rattle.om_addr.specs.FarTest.{base_disp_of, base_of_kind, half_kind, writes_it, AllBase, IsReaderOf}
use Rattle.om_addr.proofs.FarKinds.{Differ, AllDiffer, all_differ, from_it, none_set}
use Rattle.om_addr.proofs.FarTest.{base_is, no_byte, StandsAs, kind_stands, SetReader, set_found, set_there, reader_base, last_unread}

-- ---- lists

same_by_place : (ns : List Node) (m n : Node) → AllDiffer ns → Has ns m → Has ns n → m.op.place ≡ n.op.place → m ≡ n
same_by_place [] m n a h k e = absurd h
same_by_place (x ∷ ns) m n a (inl h) (inl k) e = sym h ∙ k
same_by_place (x ∷ ns) m n a (inl h) (inr k) e = absurd ((a.0 n k).places (ap (λ (y : Node). y.op.place) h ∙ e))
same_by_place (x ∷ ns) m n a (inr h) (inl k) e = absurd ((a.0 m h).places (ap (λ (y : Node). y.op.place) k ∙ sym e))
same_by_place (x ∷ ns) m n a (inr h) (inr k) e = same_by_place ns m n a.1 h k e

-- words in front, the last one first
reversed : (acc xs ys : List Word) → (bf : List Word) × (rev_onto bf ys ≡ rev_onto acc (xs ++ ys))
reversed acc [] ys = (acc, refl)
reversed acc (x ∷ xs) ys = reversed (x ∷ acc) xs ys

-- an op that gives a half, where a target is found
target_found : (os : List Op) (q : Place) (t : Target) → target_at os q ≡ Some t → (o : Op) × Has os o × (o.place ≡ q) × (high_target o.kind ≡ Some t)
target_found [] q t e = cc
target_found (o ∷ os) q t e = by_place (place_eq o.place q) refl (high_target o.kind) refl e (target_found os q t)
  where
    more : (x : Op) × Has os x × (x.place ≡ q) × (high_target x.kind ≡ Some t) → (x : Op) × Has (o ∷ os) x × (x.place ≡ q) × (high_target x.kind ≡ Some t)
    more (x, h, s, k) = (x, inr h, s, k)

    by_place :
        (b : Bool) → place_eq o.place q ≡ b → (z : Option Target) → high_target o.kind ≡ z → option_or (cond b z None) (target_at os q) ≡ Some t →
        (target_at os q ≡ Some t → (x : Op) × Has os x × (x.place ≡ q) × (high_target x.kind ≡ Some t)) → (x : Op) × Has (o ∷ os) x × (x.place ≡ q) × (high_target x.kind ≡ Some t)
    by_place true s (Some y) k e again = let c : Some y ≡ Some t = e in (o, inl refl, same_place o.place q s, k ∙ c)
    by_place true s None k e again = more (again e)
    by_place false s z k e again = more (again e)

module _ (p : ProgramView) (prog : IsProgram p) (g : GraphView) (m : MayGoOn p g) (id r rb : ℕ) (b : Block) (behind : List Node) (res : IsResult g id r b behind) (q : Place) (region : Region) (x : ℕ)
    (is : (res.node).op ≡ record { place = q; kind = op.Lit r rb (target.Ptr region x) }) (least most : ℤ) (all : AllBase r b.last least most behind) (first : IsReaderOf r behind least) where
  abbrev pub load_of_it : FarLoad
  load_of_it = record { hi = q; ra = r; rb = rb; region = region; offset = x; least = least; use_at = is_set_at (half_kind r q) (writes_it r) behind }

  graph : IsGraph g
  graph = m.graph.graph

  flow : HasFlow g
  flow = graphs_have_flows.flow p g prog m.graph

  order : Ordered (block_words b)
  order = flow.places.ordered b res.among

  all_apart : AllDiffer b.ops
  all_apart = all_differ (ops_of b) b.ops (last_words b.last) (apart_in g.blocks b graph.op_ids res.among) order

  pub parts_apart : AllDiffer (res.before ++ res.node ∷ behind)
  parts_apart = subst (λ (l : List Node). AllDiffer l) res.stands all_apart

  behind_apart : AllDiffer behind
  behind_apart = (from_it res.before behind res.node parts_apart).1

  in_ops : (n : Node) → Has (res.before ++ res.node ∷ behind) n → Has b.ops n
  in_ops n h = subst (λ (l : List Node). Has l n) (sym res.stands) h

  mid_has : (xs ys : List Node) (n : Node) → Has (xs ++ n ∷ ys) n
  mid_has [] ys n = inl refl
  mid_has (y ∷ xs) ys n = inr (mid_has xs ys n)

  right_has : (xs ys : List Node) (n k : Node) → Has ys k → Has (xs ++ n ∷ ys) k
  right_has [] ys n k h = inr h
  right_has (y ∷ xs) ys n k h = inr (right_has xs ys n k h)

  pub node_in : Has b.ops res.node
  node_in = in_ops res.node (mid_has res.before behind res.node)

  pub behind_in : (n : Node) → Has behind n → Has b.ops n
  behind_in n h = in_ops n (right_has res.before behind res.node n h)

  op_in : (n : Node) → Has b.ops n → Has (ops_of b) n.op
  op_in n h = to_map (λ n. n.op) b.ops n h

  word_in : (n : Node) → Has b.ops n → Has (map (op_word (ops_of b)) (ops_of b)) (word_of b n)
  word_in n h = to_map (op_word (ops_of b)) (ops_of b) n.op (op_in n h)

  pub load_is : word_of b res.node ≡ far_load load_of_it
  load_is = ap (op_word (ops_of b)) is

  -- ---- uses

  -- a local use of the load is an op behind it, a base use
  pub record UseNode (y : Word) : Type 0 where
    pub node : Node
    pub among : Has behind node
    pub is_word : word_of b node ≡ y
    pub reader : Has (readers r behind) node.id
    pub disp : ℤ
    pub is_disp : base_of_kind r node.op.kind ≡ Some disp
    pub no_less : least ≤ℤ disp
    pub no_more : disp ≤ℤ most

  pub use_node : (y : Word) → IsLocalUse (block_words b) (far_load load_of_it) y r → UseNode y
  use_node y u' = by_where (where_is b r behind (last_words b.last) u.mid y u.stands.1 (behind_is g id r b behind graph flow res y u))
    where
      u : IsLocalUse (block_words b) (word_of b res.node) y r
      u = subst (λ (w : Word). IsLocalUse (block_words b) w y r) (sym load_is) u'

      right_last : (w : Word) → Has (last_words b.last) w → w.act ≡ act.Wrong → ⊥
      right_last w k = right_behind g id r b behind graph flow res w (right_words (words_of b behind) (last_words b.last) w k)
        where
          right_words : (xs ys : List Word) (w : Word) → Has ys w → Has (xs ++ ys) w
          right_words [] ys w h = h
          right_words (z ∷ xs) ys w h = inr (right_words xs ys w h)

      both : (s t : Bool) → (s && t) ≡ true → (s ≡ true) × (t ≡ true)
      both true t h = (refl, h)
      both false t h = absurd (true≢false (sym h))

      by_last : Has (last_words b.last) y → NoLast b.last ⊎ ((w : Word) × OneLast b.last w) → ⊥
      by_last h (inl none) = subst (λ (l : List Word). Has l y) none.word h
      by_last h (inr one) = by_one (subst (λ (l : List Word). Has l y) one.1.word h)
        where
          by_one : Has (one.0 ∷ []) y → ⊥
          by_one (inr k) = k
          by_one (inl s) =
              let e = use_is_last g id r b behind graph flow res (y, one.1.word ∙ ap (λ (w : Word). w ∷ []) s, u) in
              let t = both (is_kept r behind) (has (last_reads b.last) r) e in
              true≢false (sym t.1 ∙ last_unread r q b.last least most behind all t.0)

      by_where : AmongNodes b r behind u.mid y ⊎ BehindNodes b r behind u.mid y (last_words b.last) → UseNode y
      by_where (inr k) = absurd (by_last k.among (last_is b.last right_last))
      by_where (inl a) =
          let h : Has behind a.node = subst (λ (l : List Node). Has l a.node) (sym a.stands) (mid_has a.front a.rest a.node) in
          let k = use_is_reader g id r b behind graph flow res a.node (behind_in a.node h) (subst (λ (w : Word). IsLocalUse (block_words b) (word_of b res.node) w r) (sym a.is) u) in
          let d = reader_base r q b.last least most behind a.node behind_apart all h k in
          record { node = a.node; among = h; is_word = a.is; reader = k; disp = d.0; is_disp = d.1; no_less = d.2; no_more = d.3 }

  -- one that is set is a use
  far_use : (o : Op) → Has (ops_of b) o → is_set_at (half_kind r q) (writes_it r) behind o.place ≡ true → IsFarUse load_of_it b o
  far_use o h u = subst (λ (y : Op). IsFarUse load_of_it b y) same (record {
    instr = a.instr;
    disp = d.0;
    plain = a.plain;
    local = subst (λ (k : OpKind). IsLocalUse (block_words b) (far_load load_of_it) (record { at = s.node.op.place; act = op_act (ops_of b) k }) r) a.plain
        (subst (λ (w : Word). IsLocalUse (block_words b) w (word_of b s.node) r) load_is (reader_is_use g id r b behind graph flow res s.node (behind_in s.node s.among) s.reader));
    base = (base_is r a.instr d.0 a.disp).0;
    no_less = d.2;
  })
    where
      s : SetReader r q behind o.place
      s = set_found r q behind o.place u

      d : (z : ℤ) × (base_of_kind r s.node.op.kind ≡ Some z) × (least ≤ℤ z) × (z ≤ℤ most)
      d = reader_base r q b.last least most behind s.node behind_apart all s.among s.reader

      a : StandsAs r s.node.op.kind d.0
      a = kind_stands r s.node.op.kind d.0 d.1

      same : s.node.op ≡ o
      same =
          let n = of_map (λ n. n.op) b.ops o h in
          ap (λ (y : Node). y.op) (same_by_place b.ops s.node n.0 all_apart (behind_in s.node s.among) n.1 (s.place ∙ ap (λ (y : Op). y.place) (sym n.2))) ∙ n.2

  pub use_bounds : (o : Op) → Has (ops_of b) o → is_set_at (half_kind r q) (writes_it r) behind o.place ≡ true → (i : Instr) (z : ℤ) → o.kind ≡ op.Plain i → IsBaseUse r i z → (least ≤ℤ z) × (z ≤ℤ most)
  use_bounds o h u i z k w = (subst (λ (y : ℤ). least ≤ℤ y) same d.2, subst (λ (y : ℤ). y ≤ℤ most) same d.3)
    where
      s : SetReader r q behind o.place
      s = set_found r q behind o.place u

      d : (y : ℤ) × (base_of_kind r s.node.op.kind ≡ Some y) × (least ≤ℤ y) × (y ≤ℤ most)
      d = reader_base r q b.last least most behind s.node behind_apart all s.among s.reader

      is_op : s.node.op ≡ o
      is_op =
          let n = of_map (λ n. n.op) b.ops o h in
          ap (λ (y : Node). y.op) (same_by_place b.ops s.node n.0 all_apart (behind_in s.node s.among) n.1 (s.place ∙ ap (λ (y : Op). y.place) (sym n.2))) ∙ n.2

      same : d.0 ≡ z
      same =
          let e : base_disp_of r i ≡ Some d.0 = ap (base_of_kind r) (sym k ∙ ap (λ (y : Op). y.kind) (sym is_op)) ∙ d.1 in
          one_disp i r r d.0 z (base_is r i d.0 e).0 w

  pub set_use : (y : Word) → IsLocalUse (block_words b) (far_load load_of_it) y r → is_set_at (half_kind r q) (writes_it r) behind y.at ≡ true
  set_use y u =
      let n = use_node y u in
      subst (λ (w : Word). is_set_at (half_kind r q) (writes_it r) behind w.at ≡ true) n.is_word (set_there r q behind n.node n.disp behind_apart n.among n.reader n.is_disp)

  -- ---- the load

  unnamed : (o : Op) (i : Instr) → Has (ops_of b) o → o.kind ≡ op.UseLo i q → ⊥
  unnamed o i h k = by_target (target_at (ops_of b) q) refl
    where
      there : Has (block_words b) (op_word (ops_of b) o)
      there = append_left (map (op_word (ops_of b)) (ops_of b)) (last_words b.last) (op_word (ops_of b) o) (to_map (op_word (ops_of b)) (ops_of b) o h)

      by_target : (t : Option Target) → target_at (ops_of b) q ≡ t → ⊥
      by_target None e = flow.right.none b (op_word (ops_of b) o) res.among there (ap (op_act (ops_of b)) k ∙ ap (use_of i q) e)
      by_target (Some t) e =
          let f = target_found (ops_of b) q t e in
          let n = of_map (λ n. n.op) b.ops f.0 f.1 in
          let s = same_by_place b.ops n.0 res.node all_apart n.1 node_in (ap (λ (y : Op). y.place) n.2 ∙ f.2 ∙ sym (ap (λ (y : Op). y.place) is)) in
          let c : None ≡ Some t = ap high_target (ap (λ (y : Op). y.kind) (sym is)) ∙ ap (λ (y : Node). high_target y.op.kind) (sym s) ∙ ap (λ (y : Op). high_target y.kind) n.2 ∙ f.3 in
          cc

  pub is_far_load : IsFarLoad load_of_it b
  is_far_load = record {
    load = subst (λ (o : Op). Has (ops_of b) o) is (op_in res.node node_in);
    uses = far_use;
    first = first.node.op;
    among = op_in first.node (behind_in first.node first.among);
    used = set_there r q behind first.node least behind_apart first.among first.reader first.disp;
    takes = λ i z k u. takes i z k u;
    bytes = λ y s i u k w. bytes y s i u k w;
    ends = λ w h. none_set (half_kind r q) (writes_it r) behind w.at (λ n k e. words_apart (map (op_word (ops_of b)) (ops_of b)) (last_words b.last) (word_of b n) w order (word_in n (behind_in n k)) h e);
    unnamed = unnamed;
  }
    where
      takes : (i : Instr) (z : ℤ) → first.node.op.kind ≡ op.Plain i → IsBaseUse r i z → z ≡ least
      takes i z k u =
          let d : base_disp_of r i ≡ Some least = ap (base_of_kind r) (sym k) ∙ first.disp in
          one_disp i r r z least u (base_is r i least d).0

      bytes : (y : Word) (s : ℕ) (i : Instr) → IsLocalUse (block_words b) (far_load load_of_it) y s → y.act ≡ act.Plain i → IsByteUse s i → ⊥
      bytes y s i u k w = by_writes u.writes
        where
          plain : {i j : Instr} → act.Plain i ≡ act.Plain j → i ≡ j
          plain e = cc

          by_writes : (r ≡ s) ⊎ ⊥ → ⊥
          by_writes (inr f) = f
          by_writes (inl e) =
              let n = use_node y (subst (λ (z : ℕ). IsLocalUse (block_words b) (far_load load_of_it) y z) (sym e) u) in
              let a = kind_stands r n.node.op.kind n.disp n.is_disp in
              let c : act.Plain a.instr ≡ act.Plain i = ap (op_act (ops_of b)) (sym a.plain) ∙ ap (λ (v : Word). v.act) n.is_word ∙ k in
              no_byte r s i n.disp (subst (λ (j : Instr). IsBaseUse r j n.disp) (plain c) (base_is r a.instr n.disp a.disp).0) w

  -- ---- and nothing else reads it

  pub wholly : (masks : Place → ℕ → Bool) → (written_in (words_behind b behind) r ≡ true) ⊎ (outs_of g masks b.label r ≡ false) →
      (bf : List Word) × IsWhollyFar g masks load_of_it b bf (words_behind b behind)
  wholly masks unread =
      let f = reversed [] (words_of b res.before) (far_load load_of_it ∷ words_behind b behind) in (
        f.0,
        record {
          stands = f.1 ∙ ap (λ (w : Word). words_of b res.before ++ w ∷ words_behind b behind) (sym load_is) ∙ sym (words_are g id r b behind graph flow res);
          all_uses = set_use;
          register = res.register;
          unread = unread;
        },
      )

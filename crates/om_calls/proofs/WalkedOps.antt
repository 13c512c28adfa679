-- A walk over the ops of a block for closed pairs.
use Rattle.std.proofs.Common.{◌≡◌, ◌⊎◌, inl, inr, ℕ, Bool, true, false, cond, ◌||◌, ◌==◌, List, [], ◌∷◌, ◌++◌, map, Option, Some, None, refl, sym, ap, ◌∙◌, subst, arith}
use Rattle.std.proofs.lemmas.Bool.{true≢false, eqb-true}
use Rattle.om_value.specs.declared.value.Place.{Place}
use Rattle.om_value.specs.declared.value.Target.{Target}
use Rattle.om_prog.specs.Act.{Word, Script, act_reads, act_writes}
use Rattle.om_prog.specs.Act as act
use Rattle.om_prog.specs.Flow.{Among}
use Rattle.om_prog.specs.Facts as prog
use Rattle.om_prog.specs.Facts.{has, fact_behind, IsFact}
use Rattle.om_flow.specs.declared.parts.Fact.{Fact}
use Rattle.om_graph.specs.declared.op.Op.{Op}
use Rattle.om_graph.specs.declared.op.OpKind.{OpKind}
use Rattle.om_graph.specs.declared.op.OpKind.TheVariants as op
use Rattle.om_graph.specs.View.{Node, Block, GraphView, Has, ops_of}
use Rattle.om_graph.specs.Held.{IsGraph}
use Rattle.om_graph.specs.Run.{op_act, op_word, use_of, target_at, block_words, rev_onto, table_of}
use Rattle.om_graph.specs.Uses.{NoneReads, NoneWrites, IsTextsLast}
use Rattle.om_graph.proofs.Masks.{has_among, among_true}
use Rattle.om_blocks.specs.IsFlow.{HasFlow}
use Rattle.om_blocks.specs.Effects.{kind_reads, kind_writes}
use Rattle.om_blocks.specs.Found.{seen}
use Rattle.om_blocks.proofs.Walking.{assoc, has_mid}
use Rattle.om_blocks.proofs.OfFlow.{has_label_in}
use Rattle.om_gpfacts.specs.Inside.{IsBehindOp}
use Rattle.om_gpfacts.proofs.Inside.{rev_more, word_in, behind_none}
use Rattle.om_checks.specs.Steps.{node_words}
use Rattle.om_calls.specs.declared.pairs.High.{High}
use Rattle.om_calls.specs.declared.pairs.Walk.{Walk}
use Rattle.om_calls.specs.Pairs.{is_high_half, low_half, touches_gp, Waits, PairAt, HasTables, FoundBehind, NoneSetsSame, WalksPast, Closes, IsInText, IsHigh, IsWalked}

-- ---- one op

reads_are : (ops : List Op) (k : OpKind) → (op_act ops k ≡ act.Wrong → ⊥) → act_reads (op_act ops k) ≡ kind_reads k
reads_are ops (op.Plain i) right = refl
reads_are ops (op.Lit ra rb z) right = refl
reads_are ops (op.AddrLda ra rb z) right = refl
reads_are ops (op.AddrHi ra rb z least) right = refl
reads_are ops (op.UseLo i hi) right = by_target (target_at ops hi) right
  where
    by_target : (z : Option Target) → (use_of i hi z ≡ act.Wrong → ⊥) → act_reads (use_of i hi z) ≡ kind_reads (op.UseLo i hi)
    by_target None right = absurd (right refl)
    by_target (Some z) right = refl
reads_are ops (op.UseGp i gp z) right = refl
reads_are ops (op.GpHi ra rb base) right = refl
reads_are ops (op.GpLo ra rb hi) right = refl

writes_are : (ops : List Op) (k : OpKind) → (op_act ops k ≡ act.Wrong → ⊥) → act_writes (op_act ops k) ≡ kind_writes k
writes_are ops (op.Plain i) right = refl
writes_are ops (op.Lit ra rb z) right = refl
writes_are ops (op.AddrLda ra rb z) right = refl
writes_are ops (op.AddrHi ra rb z least) right = refl
writes_are ops (op.UseLo i hi) right = by_target (target_at ops hi) right
  where
    by_target : (z : Option Target) → (use_of i hi z ≡ act.Wrong → ⊥) → act_writes (use_of i hi z) ≡ kind_writes (op.UseLo i hi)
    by_target None right = absurd (right refl)
    by_target (Some z) right = refl
writes_are ops (op.UseGp i gp z) right = refl
writes_are ops (op.GpHi ra rb base) right = refl
writes_are ops (op.GpLo ra rb hi) right = refl

-- an op that does not touch r29 reads and writes it not
untouched : (ops : List Op) (k : OpKind) → (op_act ops k ≡ act.Wrong → ⊥) → touches_gp k ≡ false → (Among (act_reads (op_act ops k)) 29 → ⊥) × (Among (act_writes (op_act ops k)) 29 → ⊥)
untouched ops k right e = by_tests (has (kind_reads k) 29) (has (kind_writes k) 29) refl refl e
  where
    by_tests : (a b : Bool) → has (kind_reads k) 29 ≡ a → has (kind_writes k) 29 ≡ b → (a || b) ≡ false → (Among (act_reads (op_act ops k)) 29 → ⊥) × (Among (act_writes (op_act ops k)) 29 → ⊥)
    by_tests true b x y e = absurd (true≢false e)
    by_tests false true x y e = absurd (true≢false e)
    by_tests false false x y e = (
      λ m. true≢false (sym (among_true (kind_reads k) 29 (subst (λ (l : List ℕ). Among l 29) (reads_are ops k right) m)) ∙ x),
      λ m. true≢false (sym (among_true (kind_writes k) 29 (subst (λ (l : List ℕ). Among l 29) (writes_are ops k right) m)) ∙ y),
    )

touched : (ops : List Op) (k : OpKind) → (op_act ops k ≡ act.Wrong → ⊥) → touches_gp k ≡ true → Among (act_reads (op_act ops k)) 29 ⊎ Among (act_writes (op_act ops k)) 29
touched ops k right e = by_tests (has (kind_reads k) 29) (has (kind_writes k) 29) refl refl e
  where
    by_tests : (a b : Bool) → has (kind_reads k) 29 ≡ a → has (kind_writes k) 29 ≡ b → (a || b) ≡ true → Among (act_reads (op_act ops k)) 29 ⊎ Among (act_writes (op_act ops k)) 29
    by_tests true b x y e = inl (subst (λ (l : List ℕ). Among l 29) (sym (reads_are ops k right)) (has_among (kind_reads k) 29 x))
    by_tests false true x y e = inr (subst (λ (l : List ℕ). Among l 29) (sym (writes_are ops k right)) (has_among (kind_writes k) 29 y))
    by_tests false false x y e = absurd (true≢false (sym e))

high_is : (k : OpKind) → is_high_half k ≡ true → (rb : ℕ) × (base : Place) × (k ≡ op.GpHi 29 rb base)
high_is (op.GpHi ra rb base) e = (rb, base, ap (λ (r : ℕ). op.GpHi r rb base) (eqb-true ra 29 e))
high_is (op.Plain i) e = absurd (true≢false (sym e))
high_is (op.Lit ra rb z) e = absurd (true≢false (sym e))
high_is (op.AddrLda ra rb z) e = absurd (true≢false (sym e))
high_is (op.AddrHi ra rb z least) e = absurd (true≢false (sym e))
high_is (op.UseLo i hi) e = absurd (true≢false (sym e))
high_is (op.UseGp i gp z) e = absurd (true≢false (sym e))
high_is (op.GpLo ra rb hi) e = absurd (true≢false (sym e))

pub low_is : (k : OpKind) (hi : Place) → low_half k ≡ Some hi → k ≡ op.GpLo 29 29 hi
low_is (op.GpLo ra rb q) hi e = by_tests (ra == 29) (rb == 29) refl refl e
  where
    by_tests : (a b : Bool) → (ra == 29) ≡ a → (rb == 29) ≡ b → cond a (cond b (Some q) None) None ≡ Some hi → op.GpLo ra rb q ≡ op.GpLo 29 29 hi
    by_tests true true x y e =
        let a : ra ≡ 29 = eqb-true ra 29 x in
        let b : rb ≡ 29 = eqb-true rb 29 y in
        let s : q ≡ hi = cc in
        cc
    by_tests true false x y e = cc
    by_tests false b x y e = cc
low_is (op.Plain i) hi e = cc
low_is (op.Lit ra rb z) hi e = cc
low_is (op.AddrLda ra rb z) hi e = cc
low_is (op.AddrHi ra rb z least) hi e = cc
low_is (op.UseLo i q) hi e = cc
low_is (op.UseGp i gp z) hi e = cc
low_is (op.GpHi ra rb base) hi e = cc

-- ---- lists

pub node_words_both : (os : List Op) (xs ys : List Node) → node_words os (xs ++ ys) ≡ node_words os xs ++ node_words os ys
node_words_both os [] ys = refl
node_words_both os (x ∷ xs) ys = ap (λ (l : List Word). op_word os x.op ∷ l) (node_words_both os xs ys)

-- where a list with one more at its end is split
data EndSplit (done before : List Node) (n m : Node) (mid : List Node) : Type 0 where
  at_end : mid ≡ [] → m ≡ n → before ≡ done → EndSplit done before n m mid
  inside : (rest : List Node) → mid ≡ rest ++ n ∷ [] → done ≡ before ++ m ∷ rest → EndSplit done before n m mid

none_empty : (xs : List Node) (y : Node) (ys : List Node) → [] ≡ xs ++ y ∷ ys → ⊥
none_empty [] y ys e = cc
none_empty (x ∷ xs) y ys e = cc

end_split : (done before : List Node) (n m : Node) (mid : List Node) → done ++ n ∷ [] ≡ before ++ m ∷ mid → EndSplit done before n m mid
end_split [] [] n m mid e =
    let a : n ≡ m = cc in
    let b : [] ≡ mid = cc in
    at_end (sym b) (sym a) refl
end_split [] (x ∷ before) n m mid e = let b : [] ≡ before ++ m ∷ mid = cc in absurd (none_empty before m mid b)
end_split (d ∷ done) [] n m mid e =
    let a : d ≡ m = cc in
    let b : done ++ n ∷ [] ≡ mid = cc in
    inside done (sym b) (ap (λ (x : Node). x ∷ done) a)
end_split (d ∷ done) (x ∷ before) n m mid e =
    let a : d ≡ x = cc in
    let b : done ++ n ∷ [] ≡ before ++ m ∷ mid = cc in
    by_split a (end_split done before n m mid b)
  where
    by_split : d ≡ x → EndSplit done before n m mid → EndSplit (d ∷ done) (x ∷ before) n m mid
    by_split a (at_end p q r) = at_end p q (ap (λ (l : List Node). x ∷ l) r ∙ ap (λ (y : Node). y ∷ done) (sym a))
    by_split a (inside rest p q) = inside rest p (ap (λ (y : Node). y ∷ done) a ∙ ap (λ (l : List Node). x ∷ l) q)

has_split : (ws vs : List Word) (w : Word) → Has (ws ++ vs) w → Has ws w ⊎ Has vs w
has_split [] vs w h = inr h
has_split (x ∷ ws) vs w (inl e) = inl (inl e)
has_split (x ∷ ws) vs w (inr h) = elim (has_split ws vs w h) [ inl k ↦ inl (inr k) | inr k ↦ inr k ]

-- ---- the ops of a block of a graph with a flow

module _ (g : GraphView) (graph : IsGraph g) (flow : HasFlow g) (b : Block) (hb : Has g.blocks b) where
  has_map : (ns : List Node) (n : Node) → Has ns n → Has (map (λ (m : Node). m.op) ns) n.op
  has_map [] n h = absurd h
  has_map (m ∷ ns) n (inl e) = inl (ap (λ (x : Node). x.op) e)
  has_map (m ∷ ns) n (inr h) = inr (has_map ns n h)

  word_at : (n : Node) → Has b.ops n → Has (block_words b) (op_word (ops_of b) n.op)
  word_at n h = word_in b n.op (has_map b.ops n h)

  right_at : (n : Node) → Has b.ops n → op_act (ops_of b) n.op.kind ≡ act.Wrong → ⊥
  right_at n h = flow.right.none b (op_word (ops_of b) n.op) hb (word_at n h)

  pub object_at : (n : Node) → Has b.ops n → n.op.place.obj ≡ b.label.obj
  object_at n h = (flow.places.words b (op_word (ops_of b) n.op) hb (word_at n h)).object

  pub in_text : (n : Node) → Has b.ops n → IsInText g n.op.place
  in_text n h =
      let w = flow.places.words b (op_word (ops_of b) n.op) hb (word_at n h) in
      let l = (flow.places.labels b.label (graph.among b.label (has_label_in g.blocks b hb))).0 in
      let o = object_at n h in
      record { object = omega (arith, l, o); small = flow.small n.op.place.obj; aligned = w.aligned; inside = w.inside }

  -- ---- past an op that stays

  module _ (done : List Node) (n : Node) (hn : Has b.ops n) (w : Walk) where
    -- it reads or writes r29 among these
    among_mid : (rest : List Node) → NoneReads 29 (node_words (ops_of b) (rest ++ n ∷ [])) → NoneWrites 29 (node_words (ops_of b) (rest ++ n ∷ [])) → touches_gp n.op.kind ≡ true → ⊥
    among_mid rest reads writes e = by_use (touched (ops_of b) n.op.kind (right_at n hn) e)
      where
        there : Has (node_words (ops_of b) (rest ++ n ∷ [])) (op_word (ops_of b) n.op)
        there = subst (λ (l : List Word). Has l (op_word (ops_of b) n.op)) (sym (node_words_both (ops_of b) rest (n ∷ []))) (has_mid (node_words (ops_of b) rest) (op_word (ops_of b) n.op) [])

        by_use : Among (act_reads (op_act (ops_of b) n.op.kind)) 29 ⊎ Among (act_writes (op_act (ops_of b) n.op.kind)) 29 → ⊥
        by_use (inl m) = reads (op_word (ops_of b) n.op) there m
        by_use (inr m) = writes (op_word (ops_of b) n.op) there m

    high_touches : (k : OpKind) (rb : ℕ) (base : Place) → k ≡ op.GpHi 29 rb base → touches_gp k ≡ true
    high_touches k rb base e = ap touches_gp e ∙ or_true (has (rb ∷ []) 29)
      where
        or_true : (a : Bool) → (a || true) ≡ true
        or_true true = refl
        or_true false = refl

    fewer_in : (rest : List Node) (v : Word) → Has (node_words (ops_of b) rest) v → Has (node_words (ops_of b) (rest ++ n ∷ [])) v
    fewer_in rest v h = subst (λ (l : List Word). Has l v) (sym (node_words_both (ops_of b) rest (n ∷ []))) (left (node_words (ops_of b) rest) h)
      where
        left : (ws : List Word) → Has ws v → Has (ws ++ op_word (ops_of b) n.op ∷ []) v
        left [] h = absurd h
        left (x ∷ ws) (inl e) = inl e
        left (x ∷ ws) (inr h) = inr (left ws h)

    -- a half that waited before waits still, and where the last op is none no other one does
    waits_before : (before mid rest : List Node) (m : Node) → Waits b (done ++ n ∷ []) before m mid → mid ≡ rest ++ n ∷ [] → done ≡ before ++ m ∷ rest → Waits b done before m rest
    waits_before before mid rest m x e s = record {
      split = s;
      rb = x.rb;
      base = x.base;
      is_high = x.is_high;
      unread = λ v h. x.unread v (subst (λ (l : List Node). Has (node_words (ops_of b) l) v) (sym e) (fewer_in rest v h));
      unwritten = λ v h. x.unwritten v (subst (λ (l : List Node). Has (node_words (ops_of b) l) v) (sym e) (fewer_in rest v h));
    }

    waits_still : (before mid : List Node) (m : Node) → touches_gp n.op.kind ≡ false → Waits b done before m mid → Waits b (done ++ n ∷ []) before m (mid ++ n ∷ [])
    waits_still before mid m e x =
        let u = untouched (ops_of b) n.op.kind (right_at n hn) e in
        record {
          split = ap (λ (l : List Node). l ++ n ∷ []) x.split ∙ assoc before (m ∷ mid) (n ∷ []);
          rb = x.rb;
          base = x.base;
          is_high = x.is_high;
          unread = λ v h. by_part v x.unread u.0 (has_split (node_words (ops_of b) mid) (op_word (ops_of b) n.op ∷ []) v (subst (λ (l : List Word). Has l v) (node_words_both (ops_of b) mid (n ∷ [])) h));
          unwritten = λ v h. by_part_too v x.unwritten u.1 (has_split (node_words (ops_of b) mid) (op_word (ops_of b) n.op ∷ []) v (subst (λ (l : List Word). Has l v) (node_words_both (ops_of b) mid (n ∷ [])) h));
        }
      where
        by_part :
            (v : Word) → NoneReads 29 (node_words (ops_of b) mid) → (Among (act_reads (op_act (ops_of b) n.op.kind)) 29 → ⊥) →
            Has (node_words (ops_of b) mid) v ⊎ Has (op_word (ops_of b) n.op ∷ []) v → Among (act_reads v.act) 29 → ⊥
        by_part v old new (inl h) a = old v h a
        by_part v old new (inr (inl s)) a = new (subst (λ (y : Word). Among (act_reads y.act) 29) (sym s) a)
        by_part v old new (inr (inr h)) a = h

        by_part_too :
            (v : Word) → NoneWrites 29 (node_words (ops_of b) mid) → (Among (act_writes (op_act (ops_of b) n.op.kind)) 29 → ⊥) →
            Has (node_words (ops_of b) mid) v ⊎ Has (op_word (ops_of b) n.op ∷ []) v → Among (act_writes v.act) 29 → ⊥
        by_part_too v old new (inl h) a = old v h a
        by_part_too v old new (inr (inl s)) a = new (subst (λ (y : Word). Among (act_writes y.act) 29) (sym s) a)
        by_part_too v old new (inr (inr h)) a = h

    waits_here : (rb : ℕ) (base : Place) → n.op.kind ≡ op.GpHi 29 rb base → Waits b (done ++ n ∷ []) done n []
    waits_here rb base e = record { split = refl; rb = rb; base = base; is_high = e; unread = λ v h. absurd h; unwritten = λ v h. absurd h }

    module _ (walked : IsWalked g b done w) where
      -- the fact behind it
      pub found_more : (now : Fact) → IsBehindOp n.op.kind w.table w.start w.fact now → FoundBehind g b w.start (done ++ n ∷ []) now
      found_more now more = record {
        is = λ c tables.
            let word = op_word (ops_of b) n.op in
            let f = node_words (ops_of b) done in
            let at : c.table n.op.place.obj ≡ w.table = tables n.op.place.obj ∙ ap (table_of g) (object_at n hn) ∙ sym walked.table in
            ap (λ (l : List Word). fact_behind c (seen w.start) (rev_onto l [])) (node_words_both (ops_of b) done (n ∷ []))
            ∙ ap (fact_behind c (seen w.start)) (rev_more f word [])
            ∙ more.is c (ops_of b) n.op.place (rev_onto f []) (right_at n hn) at (walked.fact.is c tables);
      }

      abbrev Known : Option High → Type 0
      Known h = (x : High) → h ≡ Some x → (before mid : List Node) × (m : Node) × Waits b (done ++ n ∷ []) before m mid × IsHigh g b w.start before m x

      abbrev Only : Option High → Type 0
      Only h = (before mid : List Node) (m : Node) → Waits b (done ++ n ∷ []) before m mid → (x : High) × (h ≡ Some x) × IsHigh g b w.start before m x

      abbrev here : High
      here = record { op = n.id; place = n.op.place; before = w.fact }

      is_here : IsHigh g b w.start done n here
      is_here = record { id = refl; place = refl; fact = walked.fact }

      high_known : (t v : Bool) → is_high_half n.op.kind ≡ t → touches_gp n.op.kind ≡ v → Known (cond t (Some here) (cond v None w.high))
      high_known true v e f x s =
          let k = high_is n.op.kind e in
          let same : here ≡ x = cc in
          (done, [], n, waits_here k.0 k.1 k.2, subst (λ (y : High). IsHigh g b w.start done n y) same is_here)
      high_known false true e f x s = cc
      high_known false false e f x s =
          let old = walked.high x s in
          (old.0, old.1 ++ n ∷ [], old.2, waits_still old.0 old.1 old.2 f old.3, old.4)

      high_only : w.changed ≡ false → (t v : Bool) → is_high_half n.op.kind ≡ t → touches_gp n.op.kind ≡ v → Only (cond t (Some here) (cond v None w.high))
      high_only same t v e f before mid m x = by_split (end_split done before n m mid x.split)
        where
          by_end : m ≡ n → before ≡ done → (t v : Bool) → is_high_half n.op.kind ≡ t → (x : High) × (cond t (Some here) (cond v None w.high) ≡ Some x) × IsHigh g b w.start before m x
          by_end q r true v e =
              (here, refl, subst (λ (l : List Node). IsHigh g b w.start l m here) (sym r) (subst (λ (y : Node). IsHigh g b w.start done y here) (sym q) is_here))
          by_end q r false v e = absurd (true≢false (sym (ap is_high_half (ap (λ (y : Node). y.op.kind) (sym q) ∙ x.is_high)) ∙ e))

          by_inside :
              (rest : List Node) → mid ≡ rest ++ n ∷ [] → done ≡ before ++ m ∷ rest → (t v : Bool) → is_high_half n.op.kind ≡ t → touches_gp n.op.kind ≡ v →
              (x : High) × (cond t (Some here) (cond v None w.high) ≡ Some x) × IsHigh g b w.start before m x
          by_inside rest p s true v e f = let k = high_is n.op.kind e in absurd (among_mid rest (reads p) (writes p) (high_touches n.op.kind k.0 k.1 k.2))
            where
              reads : mid ≡ rest ++ n ∷ [] → NoneReads 29 (node_words (ops_of b) (rest ++ n ∷ []))
              reads p = subst (λ (l : List Node). NoneReads 29 (node_words (ops_of b) l)) p x.unread

              writes : mid ≡ rest ++ n ∷ [] → NoneWrites 29 (node_words (ops_of b) (rest ++ n ∷ []))
              writes p = subst (λ (l : List Node). NoneWrites 29 (node_words (ops_of b) l)) p x.unwritten
          by_inside rest p s false true e f =
              absurd (among_mid rest (subst (λ (l : List Node). NoneReads 29 (node_words (ops_of b) l)) p x.unread) (subst (λ (l : List Node). NoneWrites 29 (node_words (ops_of b) l)) p x.unwritten) f)
          by_inside rest p s false false e f = walked.only same before rest m (waits_before before mid rest m x p s)

          by_split : EndSplit done before n m mid → (x : High) × (cond t (Some here) (cond v None w.high) ≡ Some x) × IsHigh g b w.start before m x
          by_split (at_end p q r) = by_end q r t v e
          by_split (inside rest p s) = by_inside rest p s t v e f

      pub walked_past : (v : Walk) → WalksPast w n.id n.op v → IsWalked g b (done ++ n ∷ []) v
      walked_past v past = record {
        table = past.table ∙ walked.table;
        fact = subst (λ (s : Fact). FoundBehind g b s (done ++ n ∷ []) v.fact) (sym past.start) (found_more v.fact past.fact);
        high = λ x s.
            let k = high_known (is_high_half n.op.kind) (touches_gp n.op.kind) refl refl x (sym past.high ∙ s) in
            (k.0, k.1, k.2, k.3, subst (λ (f : Fact). IsHigh g b f k.0 k.2 x) (sym past.start) k.4);
        only = λ same before mid m x.
            let k = high_only (sym past.changed ∙ same) (is_high_half n.op.kind) (touches_gp n.op.kind) refl refl before mid m x in
            (k.0, past.high ∙ k.1, subst (λ (f : Fact). IsHigh g b f before m k.0) (sym past.start) k.2);
      }

      -- none so far, and the op closes none
      pub none_more : ((m : Node) → Has done m → Has b.ops m) → w.changed ≡ false → ((h : High) → Closes g w n.op h → ⊥) → NoneSetsSame g b w.start done → NoneSetsSame g b w.start (done ++ n ∷ [])
      none_more in_block same none old = record { none = λ c before mid rest high low tables pair fact. by_split c before mid rest high low tables pair fact (end_split done (before ++ high ∷ mid) n low rest pair.split) }
        where
          by_split :
              (c : Script) (before mid rest : List Node) (high low : Node) → HasTables c g → PairAt g b (done ++ n ∷ []) before high mid low rest →
              IsFact (fact_behind c (seen w.start) (rev_onto (node_words (ops_of b) before) [])) (table_of g high.op.place.obj) →
              EndSplit done (before ++ high ∷ mid) n low rest → ⊥
          by_split c before mid rest high low tables pair fact (inside less p s) =
              old.none c before mid less high low tables (record { waits = pair.waits; split = s; is_low = pair.is_low; high_stays = pair.high_stays; low_stays = pair.low_stays }) fact
          by_split c before mid rest high low tables pair fact (at_end p q r) =
              let waits : Waits b done before high mid = subst (λ (l : List Node). Waits b l before high mid) r pair.waits in
              let k = walked.only same before mid high waits in
              let place : high.op.place ≡ (k.0).place = (k.2).place in
              let there : Has b.ops high = in_block high (subst (λ (l : List Node). Has l high) r (has_mid before high mid)) in
              none k.0 (record {
                waits = k.1;
                low = ap (λ (y : Node). low_half y.op.kind) (sym q) ∙ ap low_half pair.is_low ∙ ap (λ (z : Place). Some z) place;
                fact = subst (λ (t : ℕ). IsFact (seen (k.0).before) t) (ap (table_of g) (object_at high there) ∙ sym walked.table)
                    (subst (λ (f : prog.Fact). IsFact f (table_of g high.op.place.obj)) ((k.2).fact.is c tables) fact);
                high_stays = subst (λ (z : Place). IsTextsLast g z → ⊥) place pair.high_stays;
                low_stays = subst (λ (y : Node). IsTextsLast g y.op.place → ⊥) q pair.low_stays;
              })

  -- ---- the start of the block

  pub walked_first : (w : Walk) → w.table ≡ table_of g b.label.obj → w.fact ≡ w.start → w.high ≡ None → IsWalked g b [] w
  walked_first w table fact high = record {
    table = table;
    fact = record { is = λ c tables. behind_none c w.start ∙ ap seen (sym fact) };
    high = λ x s. let n : None ≡ Some x = sym high ∙ s in cc;
    only = λ same before mid n x. absurd (none_empty before n mid x.split);
  }

  pub none_first : (start : Fact) → NoneSetsSame g b start []
  none_first start = record { none = λ c before mid rest high low tables pair fact. none_empty (before ++ high ∷ mid) low rest pair.split }

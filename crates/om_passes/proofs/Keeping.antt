-- What each step of rewriting keeps beside that the graph is of the program.
use Rattle.std.proofs.Common.{◌≡◌, ◌⊎◌, inl, inr, ◌<◌, ◌≤◌, ◌+◌, ◌*◌, ◌/◌, ◌%◌, ◌==◌, ℕ, zero, suc, Bool, true, cond, List, [], ◌∷◌, Some, refl, sym, ap, ◌∙◌, subst, arith}
use Rattle.std.specs.List.{fold}
use Rattle.std.specs.Prelude.{count_by, slice_get, slice_index_or}
use Rattle.std.proofs.lemmas.Bool.{eqb-true}
use Rattle.om_isa.specs.declared.instr.Instr.{Instr}
use Rattle.om_isa.specs.declared.instr.Instr.TheVariants.{Mem, Jump, Branch, Alu, Cmov, Misc, Fnop, Halt, Callsys}
use Rattle.om_value.specs.declared.value.Place.{Place}
use Rattle.om_value.specs.declared.value.Target.{Target}
use Rattle.om_prog.specs.declared.item.Role.{Role}
use Rattle.om_prog.specs.declared.item.Role.TheVariants as role
use Rattle.om_prog.specs.declared.item.Item.{Item}
use Rattle.om_prog.specs.Act as act
use Rattle.om_prog.specs.Act.{Act, Word, act_writes}
use Rattle.om_prog.specs.Flow.{Among}
use Rattle.om_prog.specs.View.{ProgramView, item_at, is_word}
use Rattle.om_prog.specs.Script.{program_fetch, act_of}
use Rattle.om_prog.specs.Valid.{IsProgram, is_low_of, names_high, fits}
use Rattle.om_graph.specs.View.{Block, Shape, GraphView, Has, place_lt}
use Rattle.om_graph.specs.Run.{words, block_words, shape_words}
use Rattle.om_graph.specs.LeftIn.{is_kept}
use Rattle.om_graph.specs.Lifted.{lifted_shapes}
use Rattle.om_graph.specs.OfProgram.{IsForm, as_was, near, number, far, by_gp, by_high, byte, called, direct, IsBlockOf, IsGraphOf}
use Rattle.om_graph.specs.Uses.{IsTextsLast, IsClosedPair}
use Rattle.om_graph.proofs.Labels.{self_eq, equal_places, in_all, has_in}
use Rattle.om_graph.proofs.OfProgram.{same_some, shape_at, words_in_place}
use Rattle.om_graph.proofs.Itself.{unique, all_ordered}
use Rattle.om_graph.proofs.Places.{placed}
use Rattle.om_graph.specs.Left.{high_word}
use Rattle.om_graph.specs.Stands.{HasStandingBase, IsClosedIn, IsIdle, BasesStand, PairsWhole, PairsStand}
use Rattle.om_passes.specs.Keeping.{GainsStand, IsLess, IsOneOf, IsIn, StepsKeep}
use Rattle.om_passes.proofs.Origins.{kept_at, kept_of, here_kept, has_kept, label_apart, shape_of_block, source_of, source_fetch, compared}
use Rattle.om_passes.proofs.Sources.{some_item, in_text, role_fits, high_fits, both, source_in, source_object, form_writes}
use Rattle.om_passes.proofs.Betweens.{first_in, last_in}
use Rattle.om_passes.proofs.Locals.{block_object}
use Rattle.om_passes.proofs.Closed.{low_word, one_block}
use Rattle.om_passes.proofs.Deleting.{pairs_deleted}
use Rattle.om_passes.proofs.Standing.{use_stands}
use Rattle.om_passes.proofs.Whole.{pairs_whole}

-- ---- bases

module _ (p : ProgramView) (prog : IsProgram p) (old new : GraphView) (of : IsGraphOf p old) (then : IsGraphOf p new) (fewer : (q : Place) → is_kept new q ≡ true → is_kept old q ≡ true) where
  block_is : (n : Block) (s : Shape) → Has new.blocks n → Has (lifted_shapes p) s → n.label ≡ s.label → IsBlockOf p s n
  block_is n s hn hs e =
      subst (λ (x : Shape). IsBlockOf p x n)
      (label_apart p prog new then (shape_at p prog new then n hn) s (shape_of_block p prog new then n hn) hs (sym (then.blocks n hn).2.label ∙ e)) (then.blocks n hn).2

  -- the word of the old graph at the place of one of the new graph
  pub record OldWord (s : Shape) (v : Word) : Type 0 where
    pub block : Block
    pub among : Has old.blocks block
    pub of_shape : IsBlockOf p s block
    pub word : Word
    pub has : Has (block_words block) word
    pub place : word.at ≡ v.at
    pub writes : act_writes word.act ≡ act_writes v.act

  pub old_word : (s : Shape) (n : Block) (v : Word) → Has (lifted_shapes p) s → Has new.blocks n → n.label ≡ s.label → Has (block_words n) v → OldWord s v
  old_word s n v hs hn e hv =
      let q = source_in p prog new then s n v hs (block_is n s hn hs e) hn hv in
      let k = fewer v.at (has_kept p prog new then n v hn hv) in
      let r = kept_at p prog old of s q.word hs q.has (subst (λ (x : Place). is_kept old x ≡ true) q.place k) in
      record {
        block = r.block;
        among = r.among;
        of_shape = r.of;
        word = r.word;
        has = r.has;
        place = r.place ∙ sym q.place;
        writes = form_writes p (shape_words s) q.word r.word.act r.form ∙ sym (form_writes p (shape_words s) q.word v.act q.form);
      }

module _ (p : ProgramView) (prog : IsProgram p) (old new : GraphView) (of : IsGraphOf p old) (then : IsGraphOf p new) (gains : GainsStand p old new) (stand : BasesStand p old) where
  last_stays : (q : Place) → IsTextsLast old q → IsTextsLast new q
  last_stays q l = l ∙ ap (λ (c : List ℕ). 4 * slice_index_or c q.obj 0) (of.counts ∙ sym then.counts)

  was : (s : Shape) (n : Block) (v : Word) → Has (lifted_shapes p) s → Has new.blocks n → n.label ≡ s.label → Has (block_words n) v → OldWord p prog old new of then gains.fewer s v
  was s n v hs hn e hv = old_word p prog old new of then gains.fewer s n v hs hn e hv

  -- what a base is to a block of the old graph it is to that of the new one
  stands_on : (s : Shape) (b n : Block) (at : Place) (gp : ℕ) → Has (lifted_shapes p) s → Has old.blocks b → Has new.blocks n → b.label ≡ s.label → n.label ≡ s.label → HasStandingBase s b at gp → HasStandingBase s n at gp
  stands_on s b n at gp hs hb hn eb en d = record {
    load = d.load;
    user = d.user;
    reg = d.reg;
    target = d.target;
    local = d.local;
    place = d.place;
    loads = d.loads;
    unwritten =
        λ n31 v hv after before writes.
        let c = was s n v hs hn en hv in
        let same = one_block old.blocks c.block b of.graph.blocks c.among hb (c.of_shape.label ∙ sym eb) in
        d.unwritten n31 c.word (subst (λ (x : Block). Has (block_words x) c.word) same c.has) (subst (λ (q : Place). place_lt d.load.at q ≡ true) (sym c.place) after)
        (subst (λ (q : Place). place_lt q at ≡ true) (sym c.place) before) (subst (λ (l : List ℕ). Among l gp) (sym c.writes) writes);
  }

  pub bases_kept : BasesStand p new
  bases_kept = record { uses = uses; idle = idle }
    where
      uses :
          (n : Block) (s : Shape) (w : Word) (i : Instr) (gp : ℕ) (t : Target) → Has new.blocks n → Has (lifted_shapes p) s →
          n.label ≡ s.label → Has (block_words n) w → w.act ≡ act.UseGp i gp t → HasStandingBase s n w.at gp
      uses n s w i gp t hn hs e hw a = by_gain (gains.uses n w i gp t hn hw a)
        where
          c : OldWord p prog old new of then gains.fewer s w
          c = was s n w hs hn e hw

          in_block : Has (words old) w → Has (block_words c.block) w
          in_block h =
              subst (λ (x : Word). Has (block_words c.block) x)
              (sym (unique (words old) c.word w (all_ordered old.blocks (placed old of.graph of.form (words_in_place p prog old of))) (in_all old.blocks c.block c.word c.among c.has) h (sym c.place)))
              c.has

          by_gain :
              Has (words old) w ⊎ ((b : Block) (s : Shape) → Has old.blocks b → Has (lifted_shapes p) s → b.label ≡ s.label → n.label ≡ s.label → HasStandingBase s b w.at gp) →
              HasStandingBase s n w.at gp
          by_gain (inl h) = stands_on s c.block n w.at gp hs c.among hn c.of_shape.label e (stand.uses c.block s w i gp t c.among hs c.of_shape.label (in_block h) a)
          by_gain (inr f) = stands_on s c.block n w.at gp hs c.among hn c.of_shape.label e (f c.block s c.among hs c.of_shape.label e)

      idle : (n : Block) (w : Word) → Has new.blocks n → Has (block_words n) w → IsIdle w.act → IsTextsLast new w.at
      idle n w hn hw i = last_stays w.at (by_gain (gains.idle n w hn hw i))
        where
          by_gain : Has (words old) w ⊎ IsTextsLast old w.at → IsTextsLast old w.at
          by_gain (inl h) = let k = has_in old.blocks w h in stand.idle k.block w k.among k.word i
          by_gain (inr l) = l

-- ---- one low half of each high half

module _ (f : Item → Bool) where
  abbrev count_from : ℕ → List Item → ℕ
  count_from n xs = fold (λ a x. a + cond (f x) 1 0) n xs

  grows : (n : ℕ) (xs : List Item) → n ≤ count_from n xs
  grows n [] = omega arith
  grows n (x ∷ xs) = let i = grows (n + cond (f x) 1 0) xs in omega (arith, i)

  counts_one : (n : ℕ) (xs : List Item) (k : ℕ) (y : Item) → slice_get xs k ≡ Some y → f y ≡ true → n + 1 ≤ count_from n xs
  counts_one n [] k y e t = cc
  counts_one n (x ∷ xs) zero y e t =
      let same : x ≡ y = cc in
      let c : f x ≡ true = ap f same ∙ t in
      let i = grows (n + 1) xs in
      subst (λ (b : Bool). n + 1 ≤ count_from (n + cond b 1 0) xs) (sym c) i
  counts_one n (x ∷ xs) (suc k) y e t = let i = counts_one (n + cond (f x) 1 0) xs k y e t in omega (arith, i)

  counts_two : (n : ℕ) (xs : List Item) (j k : ℕ) (x y : Item) → slice_get xs j ≡ Some x → slice_get xs k ≡ Some y → f x ≡ true → f y ≡ true → j < k → n + 2 ≤ count_from n xs
  counts_two n [] j k x y e g t u l = cc
  counts_two n (z ∷ xs) zero zero x y e g t u l = absurd (omega (arith, l))
  counts_two n (z ∷ xs) zero (suc k) x y e g t u l =
      let same : z ≡ x = cc in
      let c : f z ≡ true = ap f same ∙ t in
      let i = counts_one (n + 1) xs k y g u in
      subst (λ (b : Bool). n + 2 ≤ count_from (n + cond b 1 0) xs) (sym c) (omega (arith, i))
  counts_two n (z ∷ xs) (suc j) zero x y e g t u l = absurd (omega (arith, l))
  counts_two n (z ∷ xs) (suc j) (suc k) x y e g t u l = let i = counts_two (n + cond (f z) 1 0) xs j k x y e g t u (omega (arith, l)) in omega (arith, i)

  one_counted : (xs : List Item) (j k : ℕ) (x y : Item) → (count_by f xs == 1) ≡ true → slice_get xs j ≡ Some x → slice_get xs k ≡ Some y → f x ≡ true → f y ≡ true → j ≡ k
  one_counted xs j k x y e g h t u = by_order (compared j k)
    where
      one : count_by f xs ≡ 1
      one = eqb-true (count_by f xs) 1 e

      by_order : (j < k) ⊎ ((k < j) ⊎ (j ≡ k)) → j ≡ k
      by_order (inl l) = let a = counts_two 0 xs j k x y g h t u l in let o = one in absurd (omega (arith, a, o))
      by_order (inr (inl l)) = let a = counts_two 0 xs k j y x h g u t l in let o = one in absurd (omega (arith, a, o))
      by_order (inr (inr s)) = s

low_role : (r : Role) (i : Instr) (ra rb : ℕ) (hi : Place) → act_of r i ≡ act.GpLo ra rb hi → r ≡ role.GpLo hi
low_role role.Plain i ra rb hi e = cc
low_role (role.GpLo q) (Mem o rc rd d) ra rb hi e = cc
low_role (role.GpLo q) (Jump k rc rd d) ra rb hi e = cc
low_role (role.GpLo q) (Branch o rc d) ra rb hi e = cc
low_role (role.GpLo q) (Alu o rc rd re) ra rb hi e = cc
low_role (role.GpLo q) (Cmov k rc rd re) ra rb hi e = cc
low_role (role.GpLo q) (Misc o rc rd) ra rb hi e = cc
low_role (role.GpLo q) Fnop ra rb hi e = cc
low_role (role.GpLo q) Halt ra rb hi e = cc
low_role (role.GpLo q) Callsys ra rb hi e = cc
low_role (role.Lit t) (Mem o rc rd d) ra rb hi e = cc
low_role (role.Lit t) (Jump k rc rd d) ra rb hi e = cc
low_role (role.Lit t) (Branch o rc d) ra rb hi e = cc
low_role (role.Lit t) (Alu o rc rd re) ra rb hi e = cc
low_role (role.Lit t) (Cmov k rc rd re) ra rb hi e = cc
low_role (role.Lit t) (Misc o rc rd) ra rb hi e = cc
low_role (role.Lit t) Fnop ra rb hi e = cc
low_role (role.Lit t) Halt ra rb hi e = cc
low_role (role.Lit t) Callsys ra rb hi e = cc
low_role (role.GpHi q) (Mem o rc rd d) ra rb hi e = cc
low_role (role.GpHi q) (Jump k rc rd d) ra rb hi e = cc
low_role (role.GpHi q) (Branch o rc d) ra rb hi e = cc
low_role (role.GpHi q) (Alu o rc rd re) ra rb hi e = cc
low_role (role.GpHi q) (Cmov k rc rd re) ra rb hi e = cc
low_role (role.GpHi q) (Misc o rc rd) ra rb hi e = cc
low_role (role.GpHi q) Fnop ra rb hi e = cc
low_role (role.GpHi q) Halt ra rb hi e = cc
low_role (role.GpHi q) Callsys ra rb hi e = cc
low_role (role.To q) (Mem o rc rd d) ra rb hi e = cc
low_role (role.To q) (Jump k rc rd d) ra rb hi e = cc
low_role (role.To q) (Branch o rc d) ra rb hi e = cc
low_role (role.To q) (Alu o rc rd re) ra rb hi e = cc
low_role (role.To q) (Cmov k rc rd re) ra rb hi e = cc
low_role (role.To q) (Misc o rc rd) ra rb hi e = cc
low_role (role.To q) Fnop ra rb hi e = cc
low_role (role.To q) Halt ra rb hi e = cc
low_role (role.To q) Callsys ra rb hi e = cc

high_role : (r : Role) (i : Instr) (ra rb : ℕ) (base : Place) → act_of r i ≡ act.GpHi ra rb base → r ≡ role.GpHi base
high_role role.Plain i ra rb hi e = cc
high_role (role.GpHi q) (Mem o rc rd d) ra rb hi e = cc
high_role (role.GpHi q) (Jump k rc rd d) ra rb hi e = cc
high_role (role.GpHi q) (Branch o rc d) ra rb hi e = cc
high_role (role.GpHi q) (Alu o rc rd re) ra rb hi e = cc
high_role (role.GpHi q) (Cmov k rc rd re) ra rb hi e = cc
high_role (role.GpHi q) (Misc o rc rd) ra rb hi e = cc
high_role (role.GpHi q) Fnop ra rb hi e = cc
high_role (role.GpHi q) Halt ra rb hi e = cc
high_role (role.GpHi q) Callsys ra rb hi e = cc
high_role (role.Lit t) (Mem o rc rd d) ra rb hi e = cc
high_role (role.Lit t) (Jump k rc rd d) ra rb hi e = cc
high_role (role.Lit t) (Branch o rc d) ra rb hi e = cc
high_role (role.Lit t) (Alu o rc rd re) ra rb hi e = cc
high_role (role.Lit t) (Cmov k rc rd re) ra rb hi e = cc
high_role (role.Lit t) (Misc o rc rd) ra rb hi e = cc
high_role (role.Lit t) Fnop ra rb hi e = cc
high_role (role.Lit t) Halt ra rb hi e = cc
high_role (role.Lit t) Callsys ra rb hi e = cc
high_role (role.GpLo q) (Mem o rc rd d) ra rb hi e = cc
high_role (role.GpLo q) (Jump k rc rd d) ra rb hi e = cc
high_role (role.GpLo q) (Branch o rc d) ra rb hi e = cc
high_role (role.GpLo q) (Alu o rc rd re) ra rb hi e = cc
high_role (role.GpLo q) (Cmov k rc rd re) ra rb hi e = cc
high_role (role.GpLo q) (Misc o rc rd) ra rb hi e = cc
high_role (role.GpLo q) Fnop ra rb hi e = cc
high_role (role.GpLo q) Halt ra rb hi e = cc
high_role (role.GpLo q) Callsys ra rb hi e = cc
high_role (role.To q) (Mem o rc rd d) ra rb hi e = cc
high_role (role.To q) (Jump k rc rd d) ra rb hi e = cc
high_role (role.To q) (Branch o rc d) ra rb hi e = cc
high_role (role.To q) (Alu o rc rd re) ra rb hi e = cc
high_role (role.To q) (Cmov k rc rd re) ra rb hi e = cc
high_role (role.To q) (Misc o rc rd) ra rb hi e = cc
high_role (role.To q) Fnop ra rb hi e = cc
high_role (role.To q) Halt ra rb hi e = cc
high_role (role.To q) Callsys ra rb hi e = cc

-- the word of the program of a half is the half
high_source : (p : ProgramView) (ws : List Word) (w : Word) (a : Act) (ra rb : ℕ) (base : Place) → IsForm p ws w a → a ≡ act.GpHi ra rb base → w.act ≡ act.GpHi ra rb base
high_source p ws w a ra rb base (as_was e) h = sym e ∙ h
high_source p ws w a ra rb base (near rc rd x r l e) h = cc
high_source p ws w a ra rb base (number rc rd n l e) h = cc
high_source p ws w a ra rb base (far rc rd x r l e) h = cc
high_source p ws w a ra rb base (by_gp load r rd x region i z u l s b e) h = cc
high_source p ws w a ra rb base (by_high load r rd x region i z u l s b e) h = cc
high_source p ws w a ra rb base (byte load r rd x region i u l s b e) h = cc
high_source p ws w a ra rb base (called rc q to s c e) h = cc
high_source p ws w a ra rb base (direct rc q to k c e) h = cc

low_source : (p : ProgramView) (ws : List Word) (w : Word) (a : Act) (ra rb : ℕ) (hi : Place) → IsForm p ws w a → a ≡ act.GpLo ra rb hi → w.act ≡ act.GpLo ra rb hi
low_source p ws w a ra rb hi (as_was e) h = sym e ∙ h
low_source p ws w a ra rb hi (near rc rd x r l e) h = cc
low_source p ws w a ra rb hi (number rc rd n l e) h = cc
low_source p ws w a ra rb hi (far rc rd x r l e) h = cc
low_source p ws w a ra rb hi (by_gp load r rd x region i z u l s b e) h = cc
low_source p ws w a ra rb hi (by_high load r rd x region i z u l s b e) h = cc
low_source p ws w a ra rb hi (byte load r rd x region i u l s b e) h = cc
low_source p ws w a ra rb hi (called rc q to s c e) h = cc
low_source p ws w a ra rb hi (direct rc q to k c e) h = cc

module _ (p : ProgramView) (prog : IsProgram p) where
  -- two low halves of one high half in its text are one
  one_low :
      (hi l m : Place) (v w u : Word) (ra rb : ℕ) (base : Place) (rc rd re rf : ℕ) → program_fetch p hi ≡ Some v → v.act ≡ act.GpHi ra rb base → program_fetch p l ≡ Some w →
      w.act ≡ act.GpLo rc rd hi → program_fetch p m ≡ Some u → u.act ≡ act.GpLo re rf hi → l.obj ≡ hi.obj → m.obj ≡ hi.obj → l ≡ m
  one_low hi l m v w u ra rb base rc rd re rf fh ah fl al fm am ol om = equal_places l m (ol ∙ sym om) offs
    where
      ih : (item : Item) × (item_at p hi ≡ Some item) × (record { at = hi; act = act_of item.role item.instr } ≡ v)
      ih = some_item p hi v fh

      il : (item : Item) × (item_at p l ≡ Some item) × (record { at = l; act = act_of item.role item.instr } ≡ w)
      il = some_item p l w fl

      im : (item : Item) × (item_at p m ≡ Some item) × (record { at = m; act = act_of item.role item.instr } ≡ u)
      im = some_item p m u fm

      rh : ih.0.role ≡ role.GpHi base
      rh = high_role ih.0.role ih.0.instr ra rb base (ap (λ (x : Word). x.act) ih.2 ∙ ah)

      rl : il.0.role ≡ role.GpLo hi
      rl = low_role il.0.role il.0.instr rc rd hi (ap (λ (x : Word). x.act) il.2 ∙ al)

      rm : im.0.role ≡ role.GpLo hi
      rm = low_role im.0.role im.0.instr re rf hi (ap (λ (x : Word). x.act) im.2 ∙ am)

      th : (text : List Item) × (slice_get p.texts hi.obj ≡ Some text) × (fits p text hi ih.0.role ih.0.instr ≡ true)
      th = role_fits p prog hi ih.0 ih.1

      once : (count_by (is_low_of hi) th.0 == 1) ≡ true
      once = (both p prog (is_word p base) _ (high_fits p prog th.0 hi base ih.0.instr (subst (λ (x : Role). fits p th.0 hi x ih.0.instr ≡ true) rh th.2))).1

      tl : (text : List Item) × (slice_get p.texts l.obj ≡ Some text) × (slice_get text (l.off / 4) ≡ Some il.0) × (l.off % 4 ≡ 0)
      tl = in_text p l il.0 il.1

      tm : (text : List Item) × (slice_get p.texts m.obj ≡ Some text) × (slice_get text (m.off / 4) ≡ Some im.0) × (m.off % 4 ≡ 0)
      tm = in_text p m im.0 im.1

      same_l : tl.0 ≡ th.0
      same_l = same_some (sym tl.1 ∙ ap (λ (o : ℕ). slice_get p.texts o) ol ∙ th.1)

      same_m : tm.0 ≡ th.0
      same_m = same_some (sym tm.1 ∙ ap (λ (o : ℕ). slice_get p.texts o) om ∙ th.1)

      offs : l.off ≡ m.off
      offs =
          let k =
          one_counted (is_low_of hi) th.0 (l.off / 4) (m.off / 4) il.0 im.0 once (subst (λ (t : List Item). slice_get t (l.off / 4) ≡ Some il.0) same_l tl.2)
          (subst (λ (t : List Item). slice_get t (m.off / 4) ≡ Some im.0) same_m tm.2) (ap (names_high hi) rl ∙ self_eq hi) (ap (names_high hi) rm ∙ self_eq hi) in
          let a = tl.3 in
          let b = tm.3 in
          omega (arith, k, a, b)

  module _ (old new : GraphView) (of : IsGraphOf p old) (whole : PairsWhole p old) where
    module _ (s : Shape) (hs : Has (lifted_shapes p) s) (h l : Place) (c : IsClosedIn p s h l) where
      high_in : Has (shape_words s) (high_word h c.rb c.base)
      high_in = first_in (shape_words s) (high_word h c.rb c.base) c.mid (low_word h l) c.stands

      low_in : Has (shape_words s) (low_word h l)
      low_in = last_in (shape_words s) (high_word h c.rb c.base) c.mid (low_word h l) c.stands

      high_fetch : program_fetch p h ≡ Some (high_word h c.rb c.base)
      high_fetch = source_fetch p prog old of s (high_word h c.rb c.base) hs high_in

      low_fetch : program_fetch p l ≡ Some (low_word h l)
      low_fetch = source_fetch p prog old of s (low_word h l) hs low_in

    -- ---- a pair is dropped

    module _ (b : Block) (hi lo : Place) (hb : Has old.blocks b) (pair : IsClosedPair old b hi lo) (less : IsLess old new (IsOneOf hi lo)) where
      high_src : (w : Word) × (program_fetch p hi ≡ Some w) × (w.act ≡ act.GpHi 29 pair.rb pair.base)
      high_src =
          let r = source_of p prog old of b (high_word hi pair.rb pair.base) hb (first_in (block_words b) (high_word hi pair.rb pair.base) pair.mid (low_word hi lo) pair.stands) in
          (r.word, r.fetched, high_source p (shape_words r.shape) r.word (act.GpHi 29 pair.rb pair.base) 29 pair.rb pair.base r.form refl)

      low_src : (w : Word) × (program_fetch p lo ≡ Some w) × (w.act ≡ act.GpLo 29 29 hi)
      low_src =
          let r = source_of p prog old of b (low_word hi lo) hb (last_in (block_words b) (high_word hi pair.rb pair.base) pair.mid (low_word hi lo) pair.stands) in
          (r.word, r.fetched, low_source p (shape_words r.shape) r.word (act.GpLo 29 29 hi) 29 29 hi r.form refl)

      pair_object : lo.obj ≡ hi.obj
      pair_object =
          block_object p prog old of b hb (low_word hi lo) (high_word hi pair.rb pair.base) (last_in (block_words b) (high_word hi pair.rb pair.base) pair.mid (low_word hi lo) pair.stands)
          (first_in (block_words b) (high_word hi pair.rb pair.base) pair.mid (low_word hi lo) pair.stands)

      -- a high half is no low half
      not_low : (s : Shape) (hs : Has (lifted_shapes p) s) (h l : Place) (c : IsClosedIn p s h l) → h ≡ lo → ⊥
      not_low s hs h l c e =
          let f = high_fetch s hs h l c in
          let k = ap (λ (q : Place). program_fetch p q) e in
          let m = low_src.1 in
          let a = low_src.2 in
          let same : high_word h c.rb c.base ≡ low_src.0 = cc in
          let x = ap (λ (w : Word). w.act) same in
          cc

      not_high : (s : Shape) (hs : Has (lifted_shapes p) s) (h l : Place) (c : IsClosedIn p s h l) → l ≡ hi → ⊥
      not_high s hs h l c e =
          let f = low_fetch s hs h l c in
          let k = ap (λ (q : Place). program_fetch p q) e in
          let m = high_src.1 in
          let a = high_src.2 in
          let same : low_word h l ≡ high_src.0 = cc in
          let x = ap (λ (w : Word). w.act) same in
          cc

      same_high : (s : Shape) (hs : Has (lifted_shapes p) s) (h l : Place) (c : IsClosedIn p s h l) → l ≡ lo → h ≡ hi
      same_high s hs h l c e =
          let f = low_fetch s hs h l c in
          let k = ap (λ (q : Place). program_fetch p q) e in
          let m = low_src.1 in
          let a = low_src.2 in
          let same : low_word h l ≡ low_src.0 = cc in
          let x = ap (λ (w : Word). w.act) same in
          cc

      same_low : (s : Shape) (hs : Has (lifted_shapes p) s) (h l : Place) (c : IsClosedIn p s h l) → h ≡ hi → l ≡ lo
      same_low s hs h l c e =
          let lf = low_fetch s hs h l c in
          one_low hi l lo high_src.0 (low_word h l) low_src.0 29 pair.rb pair.base 29 29 29 29 high_src.1 high_src.2 lf
          (ap (λ (q : Place). act.GpLo 29 29 q) e) low_src.1 low_src.2
          (source_object p prog old of s hs (low_word h l) (high_word h c.rb c.base) (low_in s hs h l c) (high_in s hs h l c) ∙ ap (λ (q : Place). q.obj) e) pair_object

      pub pair_dropped : PairsWhole p new
      pair_dropped = record { low = low; high = high }
        where
          low : (s : Shape) (h l : Place) → Has (lifted_shapes p) s → IsClosedIn p s h l → is_kept new l ≡ true → is_kept new h ≡ true
          low s h l hs c k = by_less (less.1 h (whole.low s h l hs c (less.0 l k).0))
            where
              by_less : (is_kept new h ≡ true) ⊎ IsOneOf hi lo h → is_kept new h ≡ true
              by_less (inl e) = e
              by_less (inr (inl e)) = absurd ((less.0 l k).1 (inr (same_low s hs h l c e)))
              by_less (inr (inr e)) = absurd (not_low s hs h l c e)

          high : (s : Shape) (h l : Place) → Has (lifted_shapes p) s → IsClosedIn p s h l → is_kept new h ≡ true → is_kept new l ≡ true
          high s h l hs c k = by_less (less.1 l (whole.high s h l hs c (less.0 h k).0))
            where
              by_less : (is_kept new l ≡ true) ⊎ IsOneOf hi lo l → is_kept new l ≡ true
              by_less (inl e) = e
              by_less (inr (inl e)) = absurd (not_high s hs h l c e)
              by_less (inr (inr e)) = absurd ((less.0 h k).1 (inl (same_high s hs h l c e)))

    -- ---- a block is dropped

    module _ (b : Block) (hb : Has old.blocks b) (less : IsLess old new (IsIn b)) where
      -- words of one block of the program stand in one block
      both_in : (s : Shape) (hs : Has (lifted_shapes p) s) (v w : Word) → Has (shape_words s) v → Has (shape_words s) w → IsIn b v.at → is_kept old w.at ≡ true → IsIn b w.at
      both_in s hs v w hv hw i k =
          let x = kept_of p prog old of s v i.0 b hs hv hb i.1 i.2 in
          let d = kept_at p prog old of s w hs hw k in
          let same = one_block old.blocks d.block b of.graph.blocks d.among hb (d.of.label ∙ sym x.0.label) in
          (d.word, subst (λ (y : Block). Has (block_words y) d.word) same d.has, d.place)

      pub block_dropped : PairsWhole p new
      block_dropped = record { low = low; high = high }
        where
          low : (s : Shape) (h l : Place) → Has (lifted_shapes p) s → IsClosedIn p s h l → is_kept new l ≡ true → is_kept new h ≡ true
          low s h l hs c k = by_less (less.1 h (whole.low s h l hs c (less.0 l k).0))
            where
              by_less : (is_kept new h ≡ true) ⊎ IsIn b h → is_kept new h ≡ true
              by_less (inl e) = e
              by_less (inr i) =
                  absurd ((less.0 l k).1 (both_in s hs (high_word h c.rb c.base) (low_word h l) (high_in s hs h l c) (low_in s hs h l c) i (less.0 l k).0))

          high : (s : Shape) (h l : Place) → Has (lifted_shapes p) s → IsClosedIn p s h l → is_kept new h ≡ true → is_kept new l ≡ true
          high s h l hs c k = by_less (less.1 l (whole.high s h l hs c (less.0 h k).0))
            where
              by_less : (is_kept new l ≡ true) ⊎ IsIn b l → is_kept new l ≡ true
              by_less (inl e) = e
              by_less (inr i) =
                  absurd ((less.0 h k).1 (both_in s hs (low_word h l) (high_word h c.rb c.base) (low_in s hs h l c) (high_in s hs h l c) i (less.0 h k).0))

pub whole_stand : (p : ProgramView) (g : GraphView) → PairsWhole p g → PairsStand p g
whole_stand p g whole = record {
  low = whole.low;
  high = λ s hi lo w hs c hw e. inl (whole.high s hi lo hs c (subst (λ (q : Place). is_kept g q ≡ true) e (here_kept (words g) w hw)));
}

pub steps_keep : StepsKeep
steps_keep = record {
  gained = λ p g b s load user r gp x region i prog of hb hs label u loads plain free. use_stands p prog g of b s load user r gp x region i hb hs label u loads plain free;
  bases = λ p old new prog of then gains stand. bases_kept p prog old new of then gains stand;
  same_places = λ p old new same whole. record {
    low = λ s hi lo hs c k. same hi ∙ whole.low s hi lo hs c (sym (same lo) ∙ k);
    high = λ s hi lo hs c k. same lo ∙ whole.high s hi lo hs c (sym (same hi) ∙ k);
  };
  dropped_pair = λ p old new b hi lo prog of hb pair less whole. pair_dropped p prog old new of whole b hi lo hb pair less;
  dropped_block = λ p old new b prog of hb less whole. block_dropped p prog old new of whole b hb less;
  begun = whole_stand;
  deleted = λ p old new x prog of bases d stand. pairs_deleted p prog old of new x d bases stand;
  done = λ p g masks outs prog of exact left stand. pairs_whole p prog g of masks outs exact left stand;
}

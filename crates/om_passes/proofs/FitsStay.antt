-- Address ops that fitted in some numbers still fit in them after an edit.
use Rattle.std.proofs.Common.{◌≡◌, ◌⊎◌, inl, inr, ℕ, true, false, List, [], ◌∷◌, ◌++◌, Option, Some, None, refl, sym, ap, ◌∙◌, subst}
use Rattle.std.specs.Prelude.{ℤ, map}
use Rattle.std.proofs.lemmas.Bool.{true≢false}
use Rattle.om_isa.specs.declared.instr.Instr.{Instr}
use Rattle.om_isa.specs.declared.instr.Instr.TheVariants.{Mem, Jump, Branch, Alu, Cmov, Misc, Fnop, Halt, Callsys}
use Rattle.om_value.specs.declared.value.Place.{Place}
use Rattle.om_value.specs.declared.value.Target.{Target}
use Rattle.om_value.specs.declared.value.Target.TheVariants as target
use Rattle.om_value.specs.Same.{place_eq}
use Rattle.om_prog.specs.Act as act
use Rattle.om_prog.specs.Act.{Act, Word, act_writes}
use Rattle.om_prog.specs.Flow.{Among}
use Rattle.om_prog.specs.View.{ProgramView}
use Rattle.om_prog.specs.Valid.{IsProgram}
use Rattle.om_graph.specs.declared.op.Op.{Op}
use Rattle.om_graph.specs.declared.op.OpKind.{OpKind}
use Rattle.om_graph.specs.declared.op.OpKind.TheVariants as op
use Rattle.om_graph.specs.declared.op.Last.{Last}
use Rattle.om_graph.specs.declared.op.Last.TheVariants as last
use Rattle.om_graph.specs.View.{Node, Block, GraphView, Has, ops_of, replace_in, delete_in, replaced, deleted, last_set, dropped, block_of}
use Rattle.om_graph.specs.Run.{block_words, last_words, cond_act, use_of, target_at, high_target, op_act, op_word, shape_words}
use Rattle.om_graph.specs.Form.{Ordered, is_address}
use Rattle.om_graph.specs.Fits.{HaveOneQuotient, OpFits, OpsFit}
use Rattle.om_graph.specs.OfProgram.{IsGraphOf, TakesHigh}
use Rattle.om_graph.specs.Rewritten.{each_word}
use Rattle.om_graph.specs.Uses.{IsLocalUse}
use Rattle.om_graph.proofs.Labels.{append_left, append_right, has_append, self_eq}
use Rattle.om_graph.proofs.Ends.{each_has}
use Rattle.om_graph.proofs.Itself.{unique}
use Rattle.om_graph.proofs.OfProgram.{shape_at, words_in_place, to_map}
use Rattle.om_passes.specs.AtPlaces.{set_at, gone_at, NoHalf}
use Rattle.om_passes.specs.Blocks.{OneBlock}
use Rattle.om_passes.specs.OneEdit.{IsOp, word_of, NamesNoHalf}
use Rattle.om_passes.proofs.AtPlaces.{set_else, gone_else, IsSet, here, elsewhere, is_set, IsGone, gone, left, is_gone}
use Rattle.om_passes.proofs.Edits.{local_of, last_local, first_in, second_in}
use Rattle.om_passes.proofs.LastWriters.{Stays, UserStays, last_of, last_is, last_kept}
use Rattle.om_passes.proofs.OneBlock.{old_block, new_there, new_block}
use Rattle.om_passes.proofs.OneBlock as one
use Rattle.om_passes.proofs.Origins.{shape_of_block, same_word}
use Rattle.om_passes.proofs.Sources.{source_in, form_writes}
use Rattle.om_passes.proofs.OpEdits.{replaced_words, deleted_words}
use Rattle.om_passes.proofs.OneEdit.{no_use_lo}
use Rattle.om_passes.proofs.LastEdits.{last_words_are}

-- ---- halves and their uses

-- a use of a half that stands in a block names the place
pub record IsNamed (n : Block) (q : Place) : Type 0 where
  pub user : Op
  pub instr : Instr
  pub among : Has (ops_of n) user
  pub kind : user.kind ≡ op.UseLo instr q

high_kind : (os : List Op) (k : OpKind) (ra rb : ℕ) (t : Target) → op_act os k ≡ act.AddrHi ra rb t → (z : ℤ) × (k ≡ op.AddrHi ra rb t z)
high_kind os (op.AddrHi rc rd u z) ra rb t e = (z, cc)
high_kind os (op.Plain i) ra rb t e = cc
high_kind os (op.Lit rc rd u) ra rb t e = cc
high_kind os (op.AddrLda rc rd u) ra rb t e = cc
high_kind os (op.UseGp i gp u) ra rb t e = cc
high_kind os (op.GpHi rc rd q) ra rb t e = cc
high_kind os (op.GpLo rc rd q) ra rb t e = cc
high_kind os (op.UseLo i q) ra rb t e = by_target (target_at os q) e
  where
    by_target : (o : Option Target) → use_of i q o ≡ act.AddrHi ra rb t → (z : ℤ) × (op.UseLo i q ≡ op.AddrHi ra rb t z)
    by_target None e = cc
    by_target (Some u) e = cc

no_high : (os : List Op) (k : OpKind) → NoHalf k → (ra rb : ℕ) (t : Target) → op_act os k ≡ act.AddrHi ra rb t → ⊥
no_high os k n ra rb t e = let z = high_kind os k ra rb t e in subst (λ (x : OpKind). NoHalf x) z.1 n

no_low : (os : List Op) (k : OpKind) → NoHalf k → (i : Instr) (hi : Place) (t : Target) → op_act os k ≡ act.UseLo i hi t → ⊥
no_low os (op.AddrHi rc rd u z) n i hi t e = n
no_low os (op.UseLo j q) n i hi t e = n
no_low os (op.Plain j) n i hi t e = cc
no_low os (op.Lit rc rd u) n i hi t e = cc
no_low os (op.AddrLda rc rd u) n i hi t e = cc
no_low os (op.UseGp j gp u) n i hi t e = cc
no_low os (op.GpHi rc rd q) n i hi t e = cc
no_low os (op.GpLo rc rd q) n i hi t e = cc

-- a block's Last is no half and no use of one
abbrev NoHalfAct : Act → Type 0
NoHalfAct (act.AddrHi ra rb t) = ⊥
NoHalfAct (act.UseLo i hi t) = ⊥
NoHalfAct _ = Unit {0}

cond_no_half : (i : Instr) (to : Place) → NoHalfAct (cond_act i to)
cond_no_half (Branch o ra d) to = tt
cond_no_half (Mem o ra rb d) to = tt
cond_no_half (Jump k ra rb h) to = tt
cond_no_half (Alu o ra rb rc) to = tt
cond_no_half (Cmov c ra rb rc) to = tt
cond_no_half (Misc o ra rb) to = tt
cond_no_half Fnop to = tt
cond_no_half Halt to = tt
cond_no_half Callsys to = tt

last_no_half : (l : Last) (w : Word) → Has (last_words l) w → NoHalfAct w.act
last_no_half last.Fall w h = absurd h
last_no_half last.Off w h = absurd h
last_no_half (last.Br at o ra to) w (inl e) = subst (λ (x : Word). NoHalfAct x.act) e tt
last_no_half (last.Br at o ra to) w (inr h) = absurd h
last_no_half (last.Cond at i to) w (inl e) = subst (λ (x : Word). NoHalfAct x.act) e (cond_no_half i to)
last_no_half (last.Cond at i to) w (inr h) = absurd h
last_no_half (last.Call at o ra to) w (inl e) = subst (λ (x : Word). NoHalfAct x.act) e tt
last_no_half (last.Call at o ra to) w (inr h) = absurd h
last_no_half (last.CallBy at i) w (inl e) = subst (λ (x : Word). NoHalfAct x.act) e tt
last_no_half (last.CallBy at i) w (inr h) = absurd h
last_no_half (last.JumpBy at i) w (inl e) = subst (λ (x : Word). NoHalfAct x.act) e tt
last_no_half (last.JumpBy at i) w (inr h) = absurd h

module _ (p : ProgramView) (gp : ℕ → ℕ) (address : Target → ℕ) where
  -- what fits of an op that is no half and no use of one looks at no other op
  free_fits : (b n : Block) (at : Place) (k : OpKind) → NoHalf k → OpFits p gp address b at k → OpFits p gp address n at k
  free_fits b n at (op.AddrHi ra rb t z) h f = absurd h
  free_fits b n at (op.UseLo i hi) h f = absurd h
  free_fits b n at (op.Plain i) h f = f
  free_fits b n at (op.Lit ra rb t) h f = f
  free_fits b n at (op.AddrLda ra rb t) h f = f
  free_fits b n at (op.UseGp i g t) h f = f
  free_fits b n at (op.GpHi ra rb q) h f = f
  free_fits b n at (op.GpLo ra rb q) h f = f

  module _ (prog : IsProgram p) (old new : GraphView) (of : IsGraphOf p old) (then : IsGraphOf p new) (b n : Block) (one_block : OneBlock old.blocks new.blocks b n) (f : Word → Option Word)
      (in_place : (w u : Word) → f w ≡ Some u → u.at ≡ w.at) (words : block_words n ≡ each_word f (block_words b))
      (lows : (w : Word) (i : Instr) (hi : Place) (t : Target) → Has (block_words b) w → w.act ≡ act.UseLo i hi t → f w ≡ Some w)
      (highs : (w : Word) (ra rb : ℕ) (t : Target) → Has (block_words b) w → w.act ≡ act.AddrHi ra rb t → IsNamed n w.at → f w ≡ Some w)
      (high_ops : (o : Op) (ra rb : ℕ) (t : Target) (z : ℤ) → Has (ops_of b) o → o.kind ≡ op.AddrHi ra rb t z → IsNamed n o.place → Has (ops_of n) o)
      (takes : (o : Op) (ra rb : ℕ) (t : Target) (z y : ℤ) → Has (ops_of b) o → o.kind ≡ op.AddrHi ra rb t z → TakesHigh n o.place y → TakesHigh b o.place y)
      (ops : (o : Op) → Has (ops_of n) o → Has (ops_of b) o ⊎ OpFits p gp address n o.place o.kind) (fits : OpsFit p gp address old) where
    hb : Has old.blocks b
    hb = old_block one_block

    hn : Has new.blocks n
    hn = new_there one_block

    old_order : Ordered (block_words b)
    old_order = (words_in_place p prog old of).ordered b hb

    new_order : Ordered (each_word f (block_words b))
    new_order = subst (λ (l : List Word). Ordered l) words ((words_in_place p prog new then).ordered n hn)

    -- a word writes what it wrote, as both come of one word of the program
    same_writes : (x u : Word) → Has (block_words b) x → f x ≡ Some u → act_writes x.act ≡ act_writes u.act
    same_writes x u h e =
        let hu : Has (block_words n) u = subst (λ (l : List Word). Has l u) (sym words) (each_has f (block_words b) x u h e) in
        let s = source_in p prog old of (shape_at p prog old of b hb) b x (shape_of_block p prog old of b hb) (of.blocks b hb).2 hb h in
        let t = source_in p prog new then (shape_at p prog new then n hn) n u (shape_of_block p prog new then n hn) (then.blocks n hn).2 hn hu in
        let same : t.word ≡ s.word =
        same_word p prog old of (shape_at p prog old of b hb) (shape_at p prog new then n hn) s.word t.word (shape_of_block p prog old of b hb) (shape_of_block p prog new then n hn) s.has t.has
        (sym t.place ∙ in_place x u e ∙ s.place) in
        form_writes p (shape_words (shape_at p prog old of b hb)) s.word x.act s.form ∙ sym (ap (λ (w : Word). act_writes w.act) same)
        ∙ sym (form_writes p (shape_words (shape_at p prog new then n hn)) t.word u.act t.form)

    stays : (r : ℕ) → Stays f r (block_words b)
    stays r = record {
      places = λ x u h e. in_place x u e;
      more = λ x u h e a. subst (λ (l : List ℕ). Among l r) (same_writes x u h e) a;
      fewer = λ x u h e a. subst (λ (l : List ℕ). Among l r) (sym (same_writes x u h e)) a;
    }

    -- a use of a word that stays, which stays itself, is one still
    local_stays : (d x : Word) (r : ℕ) → f d ≡ Some d → f x ≡ Some x → IsLocalUse (block_words b) d x r → IsLocalUse (block_words n) d x r
    local_stays d x r ed ex u =
        let hx = second_in (block_words b) u.mid d x u.stands in
        let l = last_kept f x.at r (block_words b) d d (stays r) (users hx) (last_of (block_words b) x.at r d (last_local (block_words b) d x r u)) ed in
        subst (λ (ws : List Word). IsLocalUse ws d x r) (sym words)
        (local_of (each_word f (block_words b)) d x r new_order (each_has f (block_words b) x x hx ex) (last_is (each_word f (block_words b)) x.at r d l) u.reads u.register)
      where
        no_word : None ≡ Some x → ⊥
        no_word e = cc

        users : Has (block_words b) x → UserStays f x.at r (block_words b)
        users hx z hz a g =
            let same : z ≡ x = unique (block_words b) x z old_order hx hz a in
            no_word (sym g ∙ ap f same ∙ ex)

    one_quotient : (hi : Place) (t : Target) → ((y : ℤ) → TakesHigh n hi y → TakesHigh b hi y) → HaveOneQuotient p gp address b hi t → HaveOneQuotient p gp address n hi t
    one_quotient hi (target.Ptr r x) k q = (q.0, λ z h. q.1 z (k z h))
    one_quotient hi (target.Num m) k q = q
    one_quotient hi (target.Code c) k q = q

    op_fits : (o : Op) → Has (ops_of n) o → OpFits p gp address n o.place o.kind
    op_fits o h = by_op (ops o h)
      where
        by_kind : Has (ops_of b) o → (k : OpKind) → o.kind ≡ k → OpFits p gp address b o.place k → OpFits p gp address n o.place k
        by_kind m (op.Plain i) e g = g
        by_kind m (op.Lit ra rb t) e g = g
        by_kind m (op.AddrLda ra rb t) e g = g
        by_kind m (op.UseGp i gp t) e g = g
        by_kind m (op.GpHi ra rb q) e g = g
        by_kind m (op.GpLo ra rb q) e g = g
        by_kind m (op.AddrHi ra rb t z) e g = (g.0, one_quotient o.place t (λ y. takes o ra rb t z y m e) g.1, g.2)
        by_kind m (op.UseLo i hi) e g =
            let named : IsNamed n hi = record { user = o; instr = i; among = h; kind = e } in
            let d : Word = record { at = hi; act = act.AddrHi g.ra g.rb g.target } in
            let x : Word = record { at = o.place; act = act.UseLo i hi g.target } in
            let ed = highs d g.ra g.rb g.target (first_in (block_words b) g.used.mid d x g.used.stands) refl named in
            let ex = lows x i hi g.target (second_in (block_words b) g.used.mid d x g.used.stands) refl in
            record {
              target = g.target;
              ra = g.ra;
              rb = g.rb;
              least = g.least;
              load = high_ops (record { place = hi; kind = op.AddrHi g.ra g.rb g.target g.least }) g.ra g.rb g.target g.least g.load refl named;
              used = local_stays d x g.ra ed ex g.used;
              disp = g.disp;
              base = g.base;
              high = g.high;
              is_high = g.is_high;
              fits = g.fits;
              within = g.within;
            }

        by_op : Has (ops_of b) o ⊎ OpFits p gp address n o.place o.kind → OpFits p gp address n o.place o.kind
        by_op (inl m) = by_kind m o.kind refl (fits.ops b o hb m)
        by_op (inr q) = q

    pub all_fit : OpsFit p gp address new
    all_fit = record { ops = λ m o hm ho. by_block m o ho (new_block one_block m hm) }
      where
        by_block : (m : Block) (o : Op) → Has (ops_of m) o → (n ≡ m) ⊎ Has old.blocks m → OpFits p gp address m o.place o.kind
        by_block m o ho (inr h) = fits.ops m o h ho
        by_block m o ho (inl e) = subst (λ (x : Block). OpFits p gp address x o.place o.kind) e (op_fits o (subst (λ (x : Block). Has (ops_of x) o) (sym e) ho))

  -- where no new op is a half or a use of one
  module _ (prog : IsProgram p) (old new : GraphView) (of : IsGraphOf p old) (then : IsGraphOf p new) (b n : Block) (one_block : OneBlock old.blocks new.blocks b n) (f : Word → Option Word)
      (in_place : (w u : Word) → f w ≡ Some u → u.at ≡ w.at) (words : block_words n ≡ each_word f (block_words b))
      (lows : (w : Word) (i : Instr) (hi : Place) (t : Target) → Has (block_words b) w → w.act ≡ act.UseLo i hi t → f w ≡ Some w)
      (highs : (w : Word) (ra rb : ℕ) (t : Target) → Has (block_words b) w → w.act ≡ act.AddrHi ra rb t → IsNamed n w.at → f w ≡ Some w)
      (high_ops : (o : Op) (ra rb : ℕ) (t : Target) (z : ℤ) → Has (ops_of b) o → o.kind ≡ op.AddrHi ra rb t z → IsNamed n o.place → Has (ops_of n) o)
      (ops : (o : Op) → Has (ops_of n) o → Has (ops_of b) o ⊎ (NoHalf o.kind × OpFits p gp address n o.place o.kind)) (fits : OpsFit p gp address old) where
    pub block_fits : OpsFit p gp address new
    block_fits =
        all_fit prog old new of then b n one_block f in_place words lows highs high_ops (λ o ra rb t z y m e h. takes o.place y h)
        (λ o h. fitting o (ops o h)) fits
      where
        takes : (hi : Place) (z : ℤ) → TakesHigh n hi z → TakesHigh b hi z
        takes hi z (o, i, r, h, k, base) = by_op (ops o h)
          where
            by_op : Has (ops_of b) o ⊎ (NoHalf o.kind × OpFits p gp address n o.place o.kind) → TakesHigh b hi z
            by_op (inl m) = (o, i, r, m, k, base)
            by_op (inr q) = absurd (subst (λ (x : OpKind). NoHalf x) k q.0)

        fitting : (o : Op) → Has (ops_of b) o ⊎ (NoHalf o.kind × OpFits p gp address n o.place o.kind) → Has (ops_of b) o ⊎ OpFits p gp address n o.place o.kind
        fitting o (inl m) = inl m
        fitting o (inr q) = inr q.1

  -- ---- the edits

  module _ (prog : IsProgram p) (g : GraphView) (of : IsGraphOf p g) (fits : OpsFit p gp address g) where
    in_order : (b : Block) → Has g.blocks b → Ordered (block_words b)
    in_order b h = (words_in_place p prog g of).ordered b h

    module _ (id : ℕ) (b : Block) (x : Node) (o : IsOp g id b x) where
      among : Has g.blocks b
      among = old_block (one.deleted_one g of.graph id b o.block)

      op_there : Has (ops_of b) x.op
      op_there =
          subst (λ (l : List Op). Has l x.op) (sym (one.ops_were g of.graph id b o.block x o.node))
          (append_right (one.pre g of.graph id b o.block x o.node) (x.op ∷ one.post g of.graph id b o.block x o.node) x.op (inl refl))

      there : Has (block_words b) (word_of b x)
      there = append_left (map (op_word (ops_of b)) (ops_of b)) (last_words b.last) (word_of b x) (to_map (op_word (ops_of b)) (ops_of b) x.op op_there)

      is_word : (w : Word) → Has (block_words b) w → w.at ≡ (x.op).place → w ≡ word_of b x
      is_word w h a = unique (block_words b) (word_of b x) w (in_order b among) there h a

      -- an op of the block is the one, or one of the others
      part : (y : Op) → Has (ops_of b) y → (y ≡ x.op) ⊎ (Has (one.pre g of.graph id b o.block x o.node) y ⊎ Has (one.post g of.graph id b o.block x o.node) y)
      part y h = by_part (has_append (one.pre g of.graph id b o.block x o.node) (x.op ∷ one.post g of.graph id b o.block x o.node) y (subst (λ (l : List Op). Has l y) (one.ops_were g of.graph id b o.block x o.node) h))
        where
          by_part : Has (one.pre g of.graph id b o.block x o.node) y ⊎ Has (x.op ∷ one.post g of.graph id b o.block x o.node) y → (y ≡ x.op) ⊎ (Has (one.pre g of.graph id b o.block x o.node) y ⊎ Has (one.post g of.graph id b o.block x o.node) y)
          by_part (inl m) = inr (inl m)
          by_part (inr (inl e)) = inl (sym e)
          by_part (inr (inr m)) = inr (inr m)

      -- one of the others was there
      other_was : (y : Op) → Has (one.pre g of.graph id b o.block x o.node) y ⊎ Has (one.post g of.graph id b o.block x o.node) y → Has (ops_of b) y
      other_was y (inl m) = subst (λ (l : List Op). Has l y) (sym (one.ops_were g of.graph id b o.block x o.node)) (append_left (one.pre g of.graph id b o.block x o.node) (x.op ∷ one.post g of.graph id b o.block x o.node) y m)
      other_was y (inr m) = subst (λ (l : List Op). Has l y) (sym (one.ops_were g of.graph id b o.block x o.node)) (append_right (one.pre g of.graph id b o.block x o.node) (x.op ∷ one.post g of.graph id b o.block x o.node) y (inr m))

      -- ---- an op is deleted

      module _ (address_word : is_address (word_of b x).act ≡ true) (unnamed : NamesNoHalf b x) (then : IsGraphOf p (deleted g id)) where
        left_has : (y : Op) → Has (ops_of (delete_in id b)) y → Has (ops_of b) y
        left_has y h = other_was y (has_append (one.pre g of.graph id b o.block x o.node) (one.post g of.graph id b o.block x o.node) y (subst (λ (l : List Op). Has l y) (one.ops_deleted g of.graph id b o.block x o.node) h))

        -- it gives no half that a use names
        no_half_here : (ra rb : ℕ) (t : Target) → (word_of b x).act ≡ act.AddrHi ra rb t → IsNamed (delete_in id b) (x.op).place → ⊥
        no_half_here ra rb t a m = by_case unnamed
          where
            k : (z : ℤ) × ((x.op).kind ≡ op.AddrHi ra rb t z)
            k = high_kind (ops_of b) (x.op).kind ra rb t a

            none_some : None ≡ Some t → ⊥
            none_some e = cc

            by_case : (high_target (x.op).kind ≡ None) ⊎ ((y : Op) (i : Instr) (hi : Place) → Has (ops_of b) y → y.kind ≡ op.UseLo i hi → place_eq (x.op).place hi ≡ false) → ⊥
            by_case (inl e) = none_some (sym e ∙ ap high_target k.1)
            by_case (inr h) = true≢false (sym (self_eq (x.op).place) ∙ h m.user m.instr (x.op).place (left_has m.user m.among) m.kind)

        pub delete_fits : OpsFit p gp address (deleted g id)
        delete_fits =
            block_fits prog g (deleted g id) of then b (delete_in id b) (one.deleted_one g of.graph id b o.block) (gone_at (x.op).place) in_place words lows highs high_ops (λ y h. inl (left_has y h)) fits
          where
            words : block_words (delete_in id b) ≡ each_word (gone_at (x.op).place) (block_words b)
            words =
                deleted_words p b (delete_in id b) (one.pre g of.graph id b o.block x o.node) (one.post g of.graph id b o.block x o.node) x.op (one.ops_were g of.graph id b o.block x o.node) refl refl refl
                (in_order b among) (λ y h. of.form.ops b y among h) (of.form.lasts b among) (one.ops_deleted g of.graph id b o.block x o.node) (no_use_lo (ops_of b) (x.op).kind address_word) unnamed

            in_place : (w u : Word) → gone_at (x.op).place w ≡ Some u → u.at ≡ w.at
            in_place w u e = by_case (gone_at (x.op).place w) (is_gone (x.op).place w) e
              where
                by_case : (v : Option Word) → IsGone (x.op).place w v → v ≡ Some u → u.at ≡ w.at
                by_case v (gone a c) k = let n : None ≡ Some u = sym c ∙ k in cc
                by_case v (left a c) k = let s : Some w ≡ Some u = sym c ∙ k in same s
                  where
                    same : Some w ≡ Some u → u.at ≡ w.at
                    same e = cc

            lows : (w : Word) (i : Instr) (hi : Place) (t : Target) → Has (block_words b) w → w.act ≡ act.UseLo i hi t → gone_at (x.op).place w ≡ Some w
            lows w i hi t h a =
                gone_else (x.op).place w (λ e. true≢false (sym address_word ∙ ap (λ (v : Word). is_address v.act) (sym (is_word w h e)) ∙ ap is_address a))

            highs : (w : Word) (ra rb : ℕ) (t : Target) → Has (block_words b) w → w.act ≡ act.AddrHi ra rb t → IsNamed (delete_in id b) w.at → gone_at (x.op).place w ≡ Some w
            highs w ra rb t h a m =
                gone_else (x.op).place w (λ e. no_half_here ra rb t (ap (λ (v : Word). v.act) (sym (is_word w h e)) ∙ a) (subst (λ (q : Place). IsNamed (delete_in id b) q) e m))

            high_ops : (y : Op) (ra rb : ℕ) (t : Target) (z : ℤ) → Has (ops_of b) y → y.kind ≡ op.AddrHi ra rb t z → IsNamed (delete_in id b) y.place → Has (ops_of (delete_in id b)) y
            high_ops y ra rb t z h k m = by_part (part y h)
              where
                into : Has (one.pre g of.graph id b o.block x o.node ++ one.post g of.graph id b o.block x o.node) y → Has (ops_of (delete_in id b)) y
                into i = subst (λ (l : List Op). Has l y) (sym (one.ops_deleted g of.graph id b o.block x o.node)) i

                by_part : (y ≡ x.op) ⊎ (Has (one.pre g of.graph id b o.block x o.node) y ⊎ Has (one.post g of.graph id b o.block x o.node) y) → Has (ops_of (delete_in id b)) y
                by_part (inl e) =
                    absurd (no_half_here ra rb t (ap (λ (v : Op). op_act (ops_of b) v.kind) (sym e) ∙ ap (op_act (ops_of b)) k) (subst (λ (v : Op). IsNamed (delete_in id b) v.place) e m))
                by_part (inr (inl i)) = into (append_left (one.pre g of.graph id b o.block x o.node) (one.post g of.graph id b o.block x o.node) y i)
                by_part (inr (inr i)) = into (append_right (one.pre g of.graph id b o.block x o.node) (one.post g of.graph id b o.block x o.node) y i)

      -- ---- an op is replaced, and neither it nor the new one is a half or a use of one

      module _ (kind : OpKind) (no_old : NoHalf (x.op).kind) (no_new : NoHalf kind) (then : IsGraphOf p (replaced g id kind)) (new_fits : OpFits p gp address b (x.op).place kind) where
        made : Op
        made = record { place = (x.op).place; kind = kind }

        now_part : (y : Op) → Has (ops_of (replace_in id kind b)) y → (y ≡ record { place = (x.op).place; kind = kind }) ⊎ Has (ops_of b) y
        now_part y h =
            by_part
            (has_append (one.pre g of.graph id b o.block x o.node) (record { place = (x.op).place; kind = kind } ∷ one.post g of.graph id b o.block x o.node) y
            (subst (λ (l : List Op). Has l y) (one.ops_replaced g of.graph id b o.block x o.node kind) h))
          where
            by_part :
                Has (one.pre g of.graph id b o.block x o.node) y ⊎ Has (record { place = (x.op).place; kind = kind } ∷ one.post g of.graph id b o.block x o.node) y →
                (y ≡ record { place = (x.op).place; kind = kind }) ⊎ Has (ops_of b) y
            by_part (inl m) = inr (other_was y (inl m))
            by_part (inr (inl e)) = inl (sym e)
            by_part (inr (inr m)) = inr (other_was y (inr m))

        pub replace_fits : OpsFit p gp address (replaced g id kind)
        replace_fits =
            block_fits prog g (replaced g id kind) of then b (replace_in id kind b) (one.replaced_one g of.graph id b o.block kind) (set_at (x.op).place (op_act (ops_of b) kind)) in_place words lows highs high_ops ops fits
          where
            words : block_words (replace_in id kind b) ≡ each_word (set_at (x.op).place (op_act (ops_of b) kind)) (block_words b)
            words =
                replaced_words p b (replace_in id kind b) (one.pre g of.graph id b o.block x o.node) (one.post g of.graph id b o.block x o.node) x.op (one.ops_were g of.graph id b o.block x o.node) refl refl refl
                (in_order b among) (λ y h. of.form.ops b y among h) (of.form.lasts b among) kind (one.ops_replaced g of.graph id b o.block x o.node kind) no_old no_new

            in_place : (w u : Word) → set_at (x.op).place (op_act (ops_of b) kind) w ≡ Some u → u.at ≡ w.at
            in_place w u e = by_case (is_set (x.op).place (op_act (ops_of b) kind) w u e)
              where
                by_case : IsSet (x.op).place (op_act (ops_of b) kind) w u → u.at ≡ w.at
                by_case (here a c) = ap (λ (v : Word). v.at) c
                by_case (elsewhere a c) = ap (λ (v : Word). v.at) c

            lows : (w : Word) (i : Instr) (hi : Place) (t : Target) → Has (block_words b) w → w.act ≡ act.UseLo i hi t → set_at (x.op).place (op_act (ops_of b) kind) w ≡ Some w
            lows w i hi t h a = set_else (x.op).place (op_act (ops_of b) kind) w (λ e. no_low (ops_of b) (x.op).kind no_old i hi t (ap (λ (v : Word). v.act) (sym (is_word w h e)) ∙ a))

            highs : (w : Word) (ra rb : ℕ) (t : Target) → Has (block_words b) w → w.act ≡ act.AddrHi ra rb t → IsNamed (replace_in id kind b) w.at → set_at (x.op).place (op_act (ops_of b) kind) w ≡ Some w
            highs w ra rb t h a m = set_else (x.op).place (op_act (ops_of b) kind) w (λ e. no_high (ops_of b) (x.op).kind no_old ra rb t (ap (λ (v : Word). v.act) (sym (is_word w h e)) ∙ a))

            high_ops : (y : Op) (ra rb : ℕ) (t : Target) (z : ℤ) → Has (ops_of b) y → y.kind ≡ op.AddrHi ra rb t z → IsNamed (replace_in id kind b) y.place → Has (ops_of (replace_in id kind b)) y
            high_ops y ra rb t z h k m = by_part (part y h)
              where
                into : Has (one.pre g of.graph id b o.block x o.node ++ record { place = (x.op).place; kind = kind } ∷ one.post g of.graph id b o.block x o.node) y → Has (ops_of (replace_in id kind b)) y
                into i = subst (λ (l : List Op). Has l y) (sym (one.ops_replaced g of.graph id b o.block x o.node kind)) i

                by_part : (y ≡ x.op) ⊎ (Has (one.pre g of.graph id b o.block x o.node) y ⊎ Has (one.post g of.graph id b o.block x o.node) y) → Has (ops_of (replace_in id kind b)) y
                by_part (inl e) = absurd (subst (λ (v : OpKind). NoHalf v) (ap (λ (v : Op). v.kind) (sym e) ∙ k) no_old)
                by_part (inr (inl i)) = into (append_left (one.pre g of.graph id b o.block x o.node) (record { place = (x.op).place; kind = kind } ∷ one.post g of.graph id b o.block x o.node) y i)
                by_part (inr (inr i)) = into (append_right (one.pre g of.graph id b o.block x o.node) (record { place = (x.op).place; kind = kind } ∷ one.post g of.graph id b o.block x o.node) y (inr i))

            ops : (y : Op) → Has (ops_of (replace_in id kind b)) y → Has (ops_of b) y ⊎ (NoHalf y.kind × OpFits p gp address (replace_in id kind b) y.place y.kind)
            ops y h = by_part (now_part y h)
              where
                by_part : (y ≡ record { place = (x.op).place; kind = kind }) ⊎ Has (ops_of b) y → Has (ops_of b) y ⊎ (NoHalf y.kind × OpFits p gp address (replace_in id kind b) y.place y.kind)
                by_part (inr m) = inl m
                by_part (inl e) =
                    inr
                    (subst (λ (v : Op). NoHalf v.kind × OpFits p gp address (replace_in id kind b) v.place v.kind) (sym e)
                    (no_new, free_fits b (replace_in id kind b) (x.op).place kind no_new new_fits))

    -- ---- a Last is set

    module _ (id : ℕ) (b : Block) (block : block_of g id ≡ Some b) (call : Word) (a : Act) (l : Last) (was : last_words b.last ≡ call ∷ []) (is : last_words l ≡ record { at = call.at; act = a } ∷ [])
        (then : IsGraphOf p (last_set g id l)) where
      home : Has g.blocks b
      home = old_block (one.last_one g of.graph id b block l)

      call_in : Has (last_words b.last) call
      call_in = subst (λ (z : List Word). Has z call) (sym was) (inl refl)

      call_there : Has (block_words b) call
      call_there = append_right (map (op_word (ops_of b)) (ops_of b)) (last_words b.last) call call_in

      no_half_call : (w : Word) → Has (block_words b) w → w.at ≡ call.at → NoHalfAct w.act
      no_half_call w h e = subst (λ (v : Word). NoHalfAct v.act) (sym (unique (block_words b) call w (in_order b home) call_there h e)) (last_no_half b.last call call_in)

      pub end_fits : OpsFit p gp address (last_set g id l)
      end_fits =
          block_fits prog g (last_set g id l) of then b (record b { last = l }) (one.last_one g of.graph id b block l) (set_at call.at a) in_place words lows highs (λ y ra rb t z h k m. h) (λ y h. inl h) fits
        where
          words : block_words (record b { last = l }) ≡ each_word (set_at call.at a) (block_words b)
          words =
              last_words_are p b (record b { last = l }) call a refl refl refl was is (in_order b home) (λ y h. of.form.ops b y home h)
              (then.form.lasts (record b { last = l }) (new_there (one.last_one g of.graph id b block l)))

          in_place : (w u : Word) → set_at call.at a w ≡ Some u → u.at ≡ w.at
          in_place w u e = by_case (is_set call.at a w u e)
            where
              by_case : IsSet call.at a w u → u.at ≡ w.at
              by_case (here d c) = ap (λ (v : Word). v.at) c
              by_case (elsewhere d c) = ap (λ (v : Word). v.at) c

          lows : (w : Word) (i : Instr) (hi : Place) (t : Target) → Has (block_words b) w → w.act ≡ act.UseLo i hi t → set_at call.at a w ≡ Some w
          lows w i hi t h d = set_else call.at a w (λ e. subst (λ (v : Act). NoHalfAct v) d (no_half_call w h e))

          highs : (w : Word) (ra rb : ℕ) (t : Target) → Has (block_words b) w → w.act ≡ act.AddrHi ra rb t → IsNamed (record b { last = l }) w.at → set_at call.at a w ≡ Some w
          highs w ra rb t h d m = set_else call.at a w (λ e. subst (λ (v : Act). NoHalfAct v) d (no_half_call w h e))

    -- ---- a block is dropped

    pub drop_fits : (id : ℕ) (b : Block) → block_of g id ≡ Some b → OpsFit p gp address (dropped g id)
    drop_fits id b block = record { ops = λ m y hm hy. fits.ops m y (one.dropped_blocks g of.graph id b block m hm) hy }

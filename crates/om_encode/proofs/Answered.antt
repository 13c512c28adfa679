-- The instruction that is written for a kept word has one of the word's forms.
use Rattle.std.proofs.Common.{◌≡◌, ℕ, ◌+◌, ◌*◌, ◌<◌, List, [], ◌∷◌, ◌++◌, length, Option, refl, ap, sym, subst, ◌∙◌, arith}
use Rattle.std.specs.Prelude.{ℤ, pos, ◌+ℤ◌, ◌-ℤ◌, ◌*ℤ◌}
use Rattle.std.proofs.lemmas.Int.{ints}
use Rattle.om_isa.specs.declared.instr.BrOp.{BrOp}
use Rattle.om_isa.specs.declared.instr.Instr.{Instr}
use Rattle.om_isa.specs.declared.instr.Instr.TheVariants.{Mem, Jump, Branch, Alu, Cmov, Misc, Fnop, Halt, Callsys}
use Rattle.om_isa.specs.declared.instr.MemOp.TheVariants.{Lda, Ldah, Ldq}
use Rattle.om_isa.specs.Fields.{IsDisp}
use Rattle.om_isa.specs.Words.{Encodes}
use Rattle.om_value.specs.declared.value.Place.{Place}
use Rattle.om_value.specs.declared.value.Target.{Target}
use Rattle.om_value.specs.declared.value.Target.TheVariants as target
use Rattle.om_prog.specs.Act as act
use Rattle.om_prog.specs.Act.{Act, Word, base_of}
use Rattle.om_prog.specs.View.{ProgramView}
use Rattle.om_graph.specs.declared.op.Op.{Op}
use Rattle.om_graph.specs.declared.op.OpKind.{OpKind}
use Rattle.om_graph.specs.declared.op.OpKind.TheVariants as op
use Rattle.om_graph.specs.declared.op.Last.{Last}
use Rattle.om_graph.specs.declared.op.Last.TheVariants as last
use Rattle.om_graph.specs.View.{Block, GraphView, Has, ops_of}
use Rattle.om_graph.specs.Run.{words, op_act, last_words}
use Rattle.om_graph.specs.Form.{IsCondition, LastForm}
use Rattle.om_graph.specs.Uses.{IsBaseUse}
use Rattle.om_graph.proofs.Labels.{has_in, has_label}
use Rattle.om_graph.proofs.OfProgram.{words_in_place}
use Rattle.om_layout.specs.Layout.{LayoutView, position_of, gp_of, table_at, start_at}
use Rattle.om_encode.specs.declared.highs.High.{High}
use Rattle.om_encode.specs.Halves.{high_part, from_gp, from_base}
use Rattle.om_encode.specs.Fields.{HasForm, HasUse, HasLda, IsFar}
use Rattle.om_encode.specs.Fitting.{low_part, branch_disp, BranchFits}
use Rattle.om_encode.specs.Encoded.{IsEncodable, Writes, WritesInstr, WritesIf}
use Rattle.om_encode.specs.Written.{FitsBranch, FitsLast, IsOver, IsLda, IsInstrOf, AreHighs, behind, last_instr, cond_instr}
use Rattle.om_encode.proofs.Fitted.{all_fit, op_fits, known, has_op, near_slotted, use_act, half_is, position_small}

slot_exact : (slot gp : ℕ) → pos gp +ℤ (pos slot -ℤ pos gp) ≡ pos slot
slot_exact slot gp = omega (arith, ints)

branch_lands : (base at q : ℕ) → pos (base + 4 * at + 4) +ℤ (pos 4 *ℤ ((pos q -ℤ pos at) -ℤ pos 1)) ≡ pos (base + 4 * q)
branch_lands base at q = omega (arith, ints)

module _ (p : ProgramView) (g : GraphView) (l : LayoutView) where
  -- a use over another base
  over_use : (at : Place) (word : ℕ) (i result : Instr) (r base : ℕ) (z start : ℤ) → Encodes word result → IsBaseUse r i z → IsOver i base start result → HasUse p g l at word i base start
  over_use at word (Mem o ra rb d) result r base z start enc b is =
      (start +ℤ d, subst (λ (x : Instr). Encodes word x) is.0 enc, refl, is.1, b.2)
  over_use at word (Jump k ra rb h) result r base z start enc b is = absurd b
  over_use at word (Branch o ra d) result r base z start enc b is = absurd b
  over_use at word (Alu o ra rb rc) result r base z start enc b is = absurd b
  over_use at word (Cmov k ra rb rc) result r base z start enc b is = absurd b
  over_use at word (Misc o ra rb) result r base z start enc b is = absurd b
  over_use at word Fnop result r base z start enc b is = absurd b
  over_use at word Halt result r base z start enc b is = absurd b
  over_use at word Callsys result r base z start enc b is = absurd b

  module _ (c : IsEncodable p g l) (b : Block) (among : Has g.blocks b) (done : List Op) (o : Op) (rest : List Op) (split : ops_of b ≡ done ++ o ∷ rest) (highs : List (Option High)) (are : AreHighs done highs) (instr : Instr) (word : ℕ) (enc : Encodes word instr) where
    abbrev here : Place
    here = o.place

    encodes : (i : Instr) → instr ≡ i → Encodes word i
    encodes i e = subst (λ (x : Instr). Encodes word x) e enc

    use_formed : (i : Instr) (hi : Place) → o.kind ≡ op.UseLo i hi → IsInstrOf p l highs here.obj (op.UseLo i hi) instr → HasForm p g l here (op_act (ops_of b) (op.UseLo i hi)) word
    use_formed i hi e is =
        let u = op_fits p g l c b among done o rest split (op.UseLo i hi) e in
        let a : op_act (ops_of b) (op.UseLo i hi) ≡ act.UseLo i hi u.target = ap (op_act (ops_of b)) (sym e) ∙ use_act p g l c b among done o rest split i hi u in
        let h : High = record { target = u.target; least = u.least } in
        let far : IsFar g hi u.target u.least = record {
          block = b;
          op = record { place = hi; kind = op.AddrHi u.ra u.rb u.target u.least };
          ra = u.ra;
          rb = u.rb;
          among = among;
          has = u.load;
          place = refl;
          kind = refl;
        }
        in
        subst (λ (x : Act). HasForm p g l here x word) (sym a)
        (u.least, far, over_use here word i instr u.ra (base_of i) u.disp (behind l here.obj h) enc u.base (is h (half_is p g l c b among done o rest split i hi u highs are)))

    lda_formed : (ra rb : ℕ) (t : Target) → o.kind ≡ op.AddrLda ra rb t → IsLda l here.obj ra rb t instr → HasLda p g l here word ra rb t
    lda_formed ra rb (target.Num n) e is =
        let k : rb ≡ 31 = (known p g l c b among done o rest split (act.AddrLda ra rb (target.Num n)) (ap (op_act (ops_of b)) e)).1 in
        (is.0, encodes (Mem Lda ra 31 is.0) (is.1 ∙ ap (λ (r : ℕ). Mem Lda ra r is.0) k), is.2, k)
    lda_formed ra rb (target.Ptr r x) e is = (from_gp l here.obj (target.Ptr r x), encodes _ is, refl)
    lda_formed ra rb (target.Code q) e is = absurd (op_fits p g l c b among done o rest split (op.AddrLda ra rb (target.Code q)) e)

    slot_formed : (ra rb : ℕ) (t : Target) → o.kind ≡ op.Lit ra rb t → IsInstrOf p l highs here.obj (op.Lit ra rb t) instr → HasForm p g l here (act.Lit ra rb t) word
    slot_formed ra rb t e is =
        let s = near_slotted p g l c b among done o rest split ra rb t e in
        let slot : ℕ = start_at l (table_at l here.obj) + 8 * s.number in (
          pos slot -ℤ pos (gp_of l here.obj),
          s.number,
          encodes (Mem Ldq ra rb (pos slot -ℤ pos (gp_of l here.obj))) (is slot s.slot),
          (s.table, s.found, s.there),
          slot_exact slot (gp_of l here.obj),
        )

    pub formed : IsInstrOf p l highs here.obj o.kind instr → HasForm p g l here (op_act (ops_of b) o.kind) word
    formed is = by_kind o.kind refl is
      where
        by_kind : (k : OpKind) → o.kind ≡ k → IsInstrOf p l highs here.obj k instr → HasForm p g l here (op_act (ops_of b) k) word
        by_kind (op.Plain i) e is = encodes i is
        by_kind (op.Lit ra rb t) e is = slot_formed ra rb t e is
        by_kind (op.AddrLda ra rb t) e is = lda_formed ra rb t e is
        by_kind (op.AddrHi ra rb t least) e is = (
          least,
          record { block = b; op = o; ra = ra; rb = rb; among = among; has = has_op p g l c b among done o rest split; place = refl; kind = e },
          encodes (Mem Ldah ra rb (high_part (from_gp l here.obj t +ℤ least))) is,
        )
        by_kind (op.UseLo i hi) e is = use_formed i hi e is
        by_kind (op.UseGp i gp t) e is =
            let f = op_fits p g l c b among done o rest split (op.UseGp i gp t) e in
            over_use here word i instr f.0 gp f.1 (from_gp l here.obj t) enc f.2 is
        by_kind (op.GpHi ra rb base) e is = (
          high_part (from_base l here.obj base),
          low_part (from_base l here.obj base),
          encodes (Mem Ldah ra rb (high_part (from_base l here.obj base))) is,
          (all_fit p g l c).pairs here.obj base,
        )
        by_kind (op.GpLo ra rb hi) e is =
            let k = known p g l c b among done o rest split (act.GpLo ra rb hi) (ap (op_act (ops_of b)) e) in (
              k.base,
              high_part (from_base l here.obj k.base),
              low_part (from_base l here.obj k.base),
              encodes (Mem Lda ra rb (low_part (from_base l here.obj k.base))) (is k.base k.found),
              (all_fit p g l c).pairs here.obj k.base,
              k.first,
            )

-- ---- the word at a block's end

append_nil : (xs : List ℕ) → xs ++ [] ≡ xs
append_nil [] = refl
append_nil (x ∷ xs) = ap (λ (l : List ℕ). x ∷ l) (append_nil xs)

module _ (p : ProgramView) (g : GraphView) (l : LayoutView) (c : IsEncodable p g l) where
  pub word_object : (w : Word) → Has (words g) w → w.at.obj < length g.counts
  word_object w h =
      let i = has_in g.blocks w h in
      let places = words_in_place p c.program g c.graph in
      let q = (places.labels i.block.label (c.graph.graph.among i.block.label (has_label g.blocks i.block i.among))).0 in
      let e = (places.words i.block w i.among i.word).object in
      omega (arith, q, e)

  branch_fits : (at q : Place) → IsDisp (branch_disp l at q) → FitsBranch l at q
  branch_fits at q d = record { at_position = position_small p g l c at; to_position = position_small p g l c q; disp = d }

  pub last_fits : (b : Block) → Has g.blocks b → FitsLast l b.last
  last_fits b among = by_last b.last (c.branches.lasts b among) (c.graph.form.lasts b among)
    where
      by_cond : (at : Place) (i : Instr) (q : Place) → IsDisp (branch_disp l at q) → IsCondition i → FitsLast l (last.Cond at i q)
      by_cond at (Branch o ra d) q r f = branch_fits at q r
      by_cond at (Mem o ra rb d) q r f = absurd f
      by_cond at (Jump k ra rb h) q r f = absurd f
      by_cond at (Alu o ra rb rc) q r f = absurd f
      by_cond at (Cmov k ra rb rc) q r f = absurd f
      by_cond at (Misc o ra rb) q r f = absurd f
      by_cond at Fnop q r f = absurd f
      by_cond at Halt q r f = absurd f
      by_cond at Callsys q r f = absurd f

      by_last : (x : Last) → BranchFits l x → LastForm x → FitsLast l x
      by_last last.Fall r f = tt
      by_last last.Off r f = tt
      by_last (last.Br at o ra q) r f = branch_fits at q r
      by_last (last.Cond at i q) r f = by_cond at i q r f
      by_last (last.Call at o ra q) r f = branch_fits at q r
      by_last (last.CallBy at i) r f = tt
      by_last (last.JumpBy at i) r f = tt

module _ (p : ProgramView) (g : GraphView) (l : LayoutView) where
  branch_formed : (at : Place) (o : BrOp) (ra : ℕ) (q : Place) (w : ℕ) → Encodes w (Branch o ra (branch_disp l at q)) → HasForm p g l at (act.To o ra q) w
  branch_formed at o ra q w e = (branch_disp l at q, e, branch_lands _ (position_of l at) (position_of l q))

  -- the words of a block's end are behind others
  one_form : (v : Word) (i : Instr) (old new : List ℕ) → WritesInstr i old new → ((w : ℕ) → Encodes w i → HasForm p g l v.at v.act w) → Writes p g l (v ∷ []) old new
  one_form v i old new is f = record { added = is.word ∷ []; text = is.text; forms = (f is.word is.encoded, tt) }

  no_form : (old new : List ℕ) → new ≡ old → Writes p g l [] old new
  no_form old new e = record { added = []; text = e ∙ sym (append_nil old); forms = tt }

  cond_formed : (at : Place) (i : Instr) (q : Place) (old new : List ℕ) → IsCondition i → WritesInstr (cond_instr l at i q) old new → Writes p g l (last_words (last.Cond at i q)) old new
  cond_formed at (Branch o ra d) q old new f is = one_form (record { at = at; act = act.To o ra q }) (Branch o ra (branch_disp l at q)) old new is (λ w e. branch_formed at o ra q w e)
  cond_formed at (Mem o ra rb d) q old new f is = absurd f
  cond_formed at (Jump k ra rb h) q old new f is = absurd f
  cond_formed at (Alu o ra rb rc) q old new f is = absurd f
  cond_formed at (Cmov k ra rb rc) q old new f is = absurd f
  cond_formed at (Misc o ra rb) q old new f is = absurd f
  cond_formed at Fnop q old new f is = absurd f
  cond_formed at Halt q old new f is = absurd f
  cond_formed at Callsys q old new f is = absurd f

  pub last_formed : (x : Last) (old new : List ℕ) → LastForm x → WritesIf (last_instr l x) old new → Writes p g l (last_words x) old new
  last_formed last.Fall old new f is = no_form old new is
  last_formed last.Off old new f is = no_form old new is
  last_formed (last.Br at o ra q) old new f is = one_form (record { at = at; act = act.To o ra q }) (Branch o ra (branch_disp l at q)) old new is (λ w e. branch_formed at o ra q w e)
  last_formed (last.Cond at i q) old new f is = cond_formed at i q old new f is
  last_formed (last.Call at o ra q) old new f is = one_form (record { at = at; act = act.To o ra q }) (Branch o ra (branch_disp l at q)) old new is (λ w e. branch_formed at o ra q w e)
  last_formed (last.CallBy at i) old new f is = one_form (record { at = at; act = act.Plain i }) i old new is (λ w e. e)
  last_formed (last.JumpBy at i) old new f is = one_form (record { at = at; act = act.Plain i }) i old new is (λ w e. e)

-- The words of a true map stand where a run looks for them, in forms of their acts.
use Rattle.std.proofs.Common.{◌≡◌, inl, inr, ℕ, zero, suc, ◌+◌, ◌-◌, ◌*◌, ◌/◌, ◌%◌, ◌^◌, ◌<◌, true, cond, ◌&&◌, ◌==◌, List, [], ◌∷◌, length, Option, Some, None, refl, ap, sym, subst, ◌∙◌, arith}
use Rattle.std.specs.Prelude.{ℤ, pos, ◌+ℤ◌, ◌*ℤ◌, FitsSigned, slice_get, slice_index_or}
use Rattle.std.specs.Int.{w16}
use Rattle.std.proofs.lemmas.Bool.Decides.{nat_tests}
use Rattle.om_isa.specs.declared.instr.MemOp.TheVariants.{Lda}
use Rattle.om_isa.specs.declared.instr.Instr.{Instr}
use Rattle.om_isa.specs.declared.instr.Instr.TheVariants.{Mem, Jump, Branch, Alu, Cmov, Misc, Fnop, Halt, Callsys}
use Rattle.om_isa.specs.Words.{Encodes}
use Rattle.om_value.specs.declared.value.Place.{Place}
use Rattle.om_value.specs.declared.value.Target.{Target}
use Rattle.om_value.specs.declared.value.Target.TheVariants as target
use Rattle.om_prog.specs.Act.{Act, Plain, Lit, GpHi, GpLo, To, AddrLda, AddrHi, UseLo, UseGp, Wrong, Word, base_of}
use Rattle.om_prog.specs.View.{ProgramView}
use Rattle.om_prog.specs.Script.{program_fetch}
use Rattle.om_isa.specs.declared.instr.BrOp.{BrOp}
use Rattle.om_isa.specs.declared.instr.BrOp.TheVariants.{Br, Bsr, If}
use Rattle.om_graph.specs.View.{GraphView, Has}
use Rattle.om_graph.specs.Run.{words, next_word, table_of, graph_script}
use Rattle.om_graph.specs.Form.{Ordered}
use Rattle.om_graph.proofs.Fetching.{found_has}
use Rattle.om_graph.proofs.Labels.{in_all, append_left}
use Rattle.om_graph.proofs.OfProgram.{to_map}
use Rattle.om_graph.specs.Run.{op_word, op_act, last_words}
use Rattle.om_graph.specs.View.{ops_of}
use Rattle.om_image.specs.declared.image.Image.{Image}
use Rattle.om_image.specs.NumAccess.{plus}
use Rattle.om_image.specs.NumStep.{word_at, is_text}
use Rattle.om_lockstep.specs.Addresses.{Addresses, IsTarget, IsLaidOut, target_number}
use Rattle.om_lockstep.specs.Goes.{most_of}
use Rattle.om_lockstep.specs.Forms.{IsForm, IsUseForm, IsSlot, HasNext, Stands}
use Rattle.om_layout.specs.Layout.{LayoutView, TableAt, text_base, position_of, code_at, start_at, gp_at, gp_of, table_at, address_of}
use Rattle.om_layout.specs.Facts.{ArePositions, GoesOn}
use Rattle.om_encode.specs.Halves.{FarLoad, far_of, far_half, far_or, half_of, pair_half, high_part, from_gp, from_base, addresses_of}
use Rattle.om_encode.specs.Fields.{FieldsAreTrue, IsTrueWord, HasForm, HasUse, IsFar, IsBaseOf, Splits, behind_high}
use Rattle.om_encode.proofs.Exact.{plus_exact_1, to_exact, high_is, splits_plus, use_exact, use_high, branch_exact, number_exact}
use Rattle.om_encode.proofs.Sources.{Formed, IsLoad}
use Rattle.om_encode.proofs.Far.{far_found}

got_below : (text : List ℕ) (k word : ℕ) → slice_get text k ≡ Some word → k < length text
got_below [] k word e = cc
got_below (x ∷ xs) zero word e = omega arith
got_below (x ∷ xs) (suc k) word e = let h = got_below xs k word e in omega arith

-- what has a next word goes on
plain_on : (i : Instr) → HasNext (Plain i) → GoesOn (Plain i)
plain_on (Jump kind ra rb hint) n = inr n
plain_on (Mem op ra rb d) n = inl tt
plain_on (Branch op ra d) n = inl tt
plain_on (Alu op ra rb rc) n = inl tt
plain_on (Cmov c ra rb rc) n = inl tt
plain_on (Misc op ra rb) n = inl tt
plain_on Fnop n = inl tt
plain_on Halt n = inl tt
plain_on Callsys n = inl tt

branch_on : (op : BrOp) (ra : ℕ) (q : Place) → HasNext (To op ra q) → GoesOn (To op ra q)
branch_on Br ra q n = inr n
branch_on Bsr ra q n = inr n
branch_on (If c) ra q n = inl tt

next_on : (a : Act) → HasNext a → GoesOn a
next_on (Plain i) n = plain_on i n
next_on (To op ra q) n = branch_on op ra q n
next_on (Lit ra rb t) n = inl tt
next_on (GpHi ra rb base) n = inl tt
next_on (GpLo ra rb hi) n = inl tt
next_on (AddrLda ra rb t) n = inl tt
next_on (AddrHi ra rb t) n = inl tt
next_on (UseLo i hi t) n = inl tt
next_on (UseGp i gp t) n = inl tt
next_on Wrong n = inl tt

module _ (p : ProgramView) (g : GraphView) (l : LayoutView) (i : Image) (tables_same : l.object_tables ≡ g.tables) (G : Place → Type 0) (at_positions : ArePositions G (words g) (position_of l)) (laid : IsLaidOut (addresses_of p g l) (most_of (graph_script p g))) (ordered : Ordered (words g)) (fields : FieldsAreTrue p g l i) where
  abbrev addr : Addresses
  addr = addresses_of p g l

  gp_same : (obj : ℕ) → gp_of l obj ≡ gp_at l (table_of g obj)
  gp_same obj = ap (λ ts. gp_at l (slice_index_or ts obj obj)) tables_same

  gp_objects : (a b : Place) → a.obj ≡ b.obj → gp_of l a.obj ≡ gp_of l b.obj
  gp_objects a b e = ap (gp_of l) e

  code_small : (q : Place) → code_at l q < 2 ^ 63
  code_small q = laid.code_below q

  gp_small : (obj : ℕ) → gp_of l obj < 2 ^ 64
  gp_small obj = let h = laid.gp (table_at l obj) in omega (arith, h)

  target_small : (t : Target) → IsTarget t → address_of l t < 2 ^ 64
  target_small (target.Num n) h = h
  target_small (target.Ptr r x) h = omega arith
  target_small (target.Code q) h = let k = code_small q in omega (arith, k)

  same_target_at : (t : Target) → target_number addr t ≡ address_of l t
  same_target_at (target.Num n) = refl
  same_target_at (target.Ptr r x) = refl
  same_target_at (target.Code q) = refl

  -- the half of a pair, and of a load that became LDAH
  half_pair : (at base : Place) (ra rb : ℕ) → program_fetch p at ≡ Some (record { at = at; act = GpHi ra rb base }) → addr.half at ≡ pair_half l at.obj base
  half_pair at base ra rb e = ap (λ w. half_of l at.obj w (far_of g.blocks at)) e

  half_far : (at : Place) (t : Target) (least : ℤ) → IsLoad p at t → IsFar g at t least → addr.half at ≡ far_half l at.obj (t, least)
  half_far at t least load far =
      ap (λ w. half_of l at.obj w (far_of g.blocks at)) load.fetch ∙ ap (far_or l at.obj) (far_found g at t least ordered far)

  abbrev least_or : Option FarLoad → ℤ
  least_or None = pos 0
  least_or (Some f) = f.1

  one_least : (at : Place) (t : Target) (a b : ℤ) → IsFar g at t a → IsFar g at t b → a ≡ b
  one_least at t a b f h = ap least_or (sym (far_found g at t a ordered f) ∙ far_found g at t b ordered h)

  -- the high part of a load that became LDAH fits
  high_fits : (hi : Place) (t : Target) (least : ℤ) → IsFar g hi t least → FitsSigned w16 (high_part (from_gp l hi.obj t +ℤ least))
  high_fits hi t least far = by_form (subst (λ (q : Place). HasForm p g l q (AddrHi far.ra far.rb t) f.word) far.place at_op)
    where
      w : Word
      w = op_word (ops_of far.block) far.op

      has : Has (words g) w
      has = in_all g.blocks far.block w far.among (append_left _ (last_words far.block.last) w (to_map (op_word (ops_of far.block)) (ops_of far.block) far.op far.has))

      f : IsTrueWord p g l i w
      f = fields.forms w has

      at_op : HasForm p g l far.op.place (AddrHi far.ra far.rb t) f.word
      at_op = subst (λ (a : Act). HasForm p g l far.op.place a f.word) (ap (op_act (ops_of far.block)) far.kind) f.form

      by_form : HasForm p g l hi (AddrHi far.ra far.rb t) f.word → FitsSigned w16 (high_part (from_gp l hi.obj t +ℤ least))
      by_form form =
          subst (λ (z : ℤ). FitsSigned w16 (high_part (from_gp l hi.obj t +ℤ z))) (one_least hi t form.0 least form.1 far) form.2.fields.2

  module _ (slots : (k j : ℕ) (t : TableAt) (u : Target) → slice_get l.tables k ≡ Some t → slice_get t.slots j ≡ Some u → IsSlot (graph_script p g) addr i (start_at l k + 8 * j) u) (slot_small : (k j : ℕ) (t : TableAt) (u : Target) → slice_get l.tables k ≡ Some t → slice_get t.slots j ≡ Some u → start_at l k + 8 * j < 2 ^ 63) where
    use_form : (at : Place) (word : ℕ) (instr : Instr) (base held : ℕ) (t : Target) (start : ℤ) → ((d disp : ℤ) → FitsSigned w16 d → FitsSigned w16 disp → d ≡ start +ℤ disp → plus held d ≡ plus (address_of l t) disp) → HasUse p g l at word instr base start → IsUseForm (graph_script p g) addr i at instr base held t word
    use_form at word (Mem op ra rb disp) base held t start eq u =
        (u.0, u.1, eq u.0 disp u.1.fields.2 u.3 u.2 ∙ ap (λ n. plus n disp) (sym (same_target_at t)), u.3, u.4)
    use_form at word (Jump kind ra rb hint) base held t start eq u = absurd u
    use_form at word (Branch op ra d) base held t start eq u = absurd u
    use_form at word (Alu op ra rb rc) base held t start eq u = absurd u
    use_form at word (Cmov c ra rb rc) base held t start eq u = absurd u
    use_form at word (Misc op ra rb) base held t start eq u = absurd u
    use_form at word Fnop base held t start eq u = absurd u
    use_form at word Halt base held t start eq u = absurd u
    use_form at word Callsys base held t start eq u = absurd u

    -- the first half of a pair gives what the second needs
    low_half : (at first base : Place) (hi lo : ℤ) → first.obj ≡ at.obj → Splits (from_base l at.obj base) hi lo → IsBaseOf p first base → plus (addr.half first) (pos 1 *ℤ lo) ≡ gp_at l (table_of g at.obj)
    low_half at first base hi lo same split there =
        let other : Splits (from_base l first.obj base) hi lo = subst (λ o. Splits (from_base l o base) hi lo) (sym same) split in
        let k : addr.half first ≡ plus (code_at l base) (pos 65536 *ℤ hi) = half_pair first base there.ra there.rb there.first ∙ ap (λ n. plus (code_at l base) (pos 65536 *ℤ n)) (high_is (from_base l first.obj base) hi lo other) in
        ap (λ n. plus n (pos 1 *ℤ lo)) k ∙ splits_plus (gp_of l at.obj) (code_at l base) hi lo (gp_small at.obj) split ∙ gp_same at.obj

    form_is : (w : Word) (word : ℕ) → Formed p w.at w.act → HasForm p g l w.at w.act word → IsForm (graph_script p g) addr i w.at w.act word
    form_is w word known form = by_act w.act known form
      where
        gp : ℕ
        gp = gp_of l w.at.obj

        by_act : (a : Act) → Formed p w.at a → HasForm p g l w.at a word → IsForm (graph_script p g) addr i w.at a word
        by_act (Plain instr) known form = form
        by_act (Lit ra rb t) known form =
            let s = form.3 in
            let slot = slots (table_at l w.at.obj) form.1 s.0 t s.1 s.2 in
            let small = slot_small (table_at l w.at.obj) form.1 s.0 t s.1 s.2 in
            let same : plus (gp_of l w.at.obj) form.0 ≡ start_at l (table_at l w.at.obj) + 8 * form.1 = plus_exact_1 (gp_of l w.at.obj) (start_at l (table_at l w.at.obj) + 8 * form.1) form.0 (omega (arith, small)) (gp_small w.at.obj) form.2.fields.2 form.4 in
            let here : plus (gp_at l (table_of g w.at.obj)) form.0 ≡ start_at l (table_at l w.at.obj) + 8 * form.1 = ap (λ n. plus n form.0) (sym (gp_same w.at.obj)) ∙ same in
            (form.0, form.2, inr (subst (λ a. IsSlot (graph_script p g) addr i a t) (sym here) slot, known))
        by_act (GpHi ra rb base) known form =
            (form.0, form.2, ap (λ k. plus (code_at l base) (pos 65536 *ℤ k)) (sym (high_is (from_base l w.at.obj base) form.0 form.1 form.3)) ∙ sym (half_pair w.at base ra rb known))
        by_act (GpLo ra rb first) known form = (form.2, form.3, low_half w.at first form.0 form.1 form.2 known form.4 form.5)
        by_act (To op ra q) known form = (form.0, form.1, branch_exact (code_at l w.at) (code_at l q) form.0 (code_small q) (code_small w.at) form.1.fields.1 form.2)
        by_act (AddrLda ra rb (target.Num n)) known form =
            let base : rb ≡ 31 = form.3 in
            let t : (true && (rb == 31)) ≡ true = ap (λ r. r == 31) base in (
              form.0,
              subst (λ r. Encodes word (Mem Lda ra r form.0)) (sym base) form.1,
              known,
              inr (ap (λ b. plus (cond b 0 (gp_at l (table_of g w.at.obj))) (pos 1 *ℤ form.0)) t ∙ number_exact n form.0 known form.1.fields.2 form.2),
            )
        by_act (AddrLda ra rb (target.Ptr r x)) known form = (
          form.0,
          form.1,
          known,
          inr (ap (λ n. plus n (pos 1 *ℤ form.0)) (sym (gp_same w.at.obj)) ∙ to_exact (gp_of l w.at.obj) (address_of l (target.Ptr r x)) form.0 (target_small (target.Ptr r x) known) (gp_small w.at.obj) form.1.fields.2 form.2),
        )
        by_act (AddrLda ra rb (target.Code q)) known form = absurd form
        by_act (AddrHi ra rb t) known form =
            let h = half_far w.at t form.0 known form.1 in (
              high_part (from_gp l w.at.obj t +ℤ form.0),
              form.2,
              inr (ap (λ n. plus n (pos 65536 *ℤ high_part (from_gp l w.at.obj t +ℤ form.0))) (sym (gp_same w.at.obj)) ∙ sym h),
            )
        by_act (UseLo instr hi t) known form =
            let far = form.1 in
            let same = known.0 in
            let held : addr.half hi ≡ plus (gp_of l w.at.obj) (pos 65536 *ℤ high_part (from_gp l w.at.obj t +ℤ form.0)) =
            half_far hi t form.0 known.1 far ∙ ap (λ o. far_half l o (t, form.0)) same in
            let fz : FitsSigned w16 (high_part (from_gp l w.at.obj t +ℤ form.0)) =
            subst (λ o. FitsSigned w16 (high_part (from_gp l o t +ℤ form.0))) same (high_fits hi t form.0 far) in (
              subst (λ h. IsUseForm (graph_script p g) addr i w.at instr (base_of instr) h t word) (sym held)
                  (use_form w.at word instr (base_of instr) (plus (gp_of l w.at.obj) (pos 65536 *ℤ high_part (from_gp l w.at.obj t +ℤ form.0))) t (behind_high p g l w.at t form.0)
                  (λ d disp fd fdisp eq. use_high (gp_of l w.at.obj) (address_of l t) (high_part (from_gp l w.at.obj t +ℤ form.0)) d disp (gp_small w.at.obj) (target_small t known.1.target) fz fd fdisp eq)
                  form.2),
              known.1.target,
            )
        by_act (UseGp instr gp t) known form = (
          subst (λ h. IsUseForm (graph_script p g) addr i w.at instr gp h t word) (gp_same w.at.obj)
              (use_form w.at word instr gp (gp_of l w.at.obj) t (from_gp l w.at.obj t)
              (λ d disp fd fdisp eq. use_exact (gp_of l w.at.obj) (address_of l t) d disp (gp_small w.at.obj) (target_small t known) fd fdisp eq)
              form),
          known,
        )
        by_act Wrong known form = absurd form

    -- ---- where a run looks

    word_found : (k word : ℕ) → slice_get i.text k ≡ Some word → word_at i.text (text_base + 4 * k) ≡ Some word
    word_found k word e =
        let lt = got_below i.text k word e in
        let t : (is_text (length i.text) (text_base + 4 * k) && ((text_base + 4 * k) % 4 == 0)) ≡ true = grind (arith, nat_tests) in
        let index : (text_base + 4 * k - text_base) / 4 ≡ k = omega arith in
        rw t (ap (slice_get i.text) index ∙ e)

    pub stands : ((w : Word) → Has (words g) w → Formed p w.at w.act) → (q : Place) (w : Word) → G q → next_word (words g) q ≡ Some w → Stands (graph_script p g) addr i q w
    stands known q w good e =
        let has = found_has (words g) q w e in
        let f = fields.forms w has in
        record {
          here = ap (λ k. text_base + 4 * k) (at_positions.found q w good e);
          word = f.word;
          found = word_found (position_of l w.at) f.word f.found;
          form = form_is w f.word (known w has) f.form;
          next = λ n. let k = at_positions.follows w has (next_on w.act n) in omega (arith, k);
        }

    pub text_lands : (q : Place) (w : Word) → G q → next_word (words g) q ≡ Some w → is_text (length i.text) (code_at l q) ≡ true
    text_lands q w good e =
        let has = found_has (words g) q w e in
        let f = fields.forms w has in
        let same = at_positions.found q w good e in
        let lt = got_below i.text (position_of l w.at) f.word f.found in
        let k : position_of l q < length i.text = omega (arith, same, lt) in
        grind (arith, nat_tests)

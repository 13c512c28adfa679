-- No base use that could take its load's base is left as it was, and no byte use of a pointer.
use Rattle.om_passes.proofs.Sources.{source_object, kept_unwritten, same_fields}
use Rattle.std.proofs.Common.{◌≡◌, ◌⊎◌, inl, inr, ◌<◌, ◌+◌, ◌%◌, ℕ, List, Option, Some, None, refl, sym, ap, ◌∙◌, subst, arith}
use Rattle.std.specs.Prelude.{ℤ, ◌+ℤ◌, map, FitsSigned}
use Rattle.std.specs.Int.{w16}
use Rattle.om_isa.specs.declared.instr.MemOp.TheVariants.{Lda, Ldq}
use Rattle.om_isa.specs.declared.instr.JumpOp.TheVariants.{Jsr}
use Rattle.om_isa.specs.declared.instr.Opnd.TheVariants.{R, Lit as Literal}
use Rattle.om_isa.specs.declared.instr.Instr.{Instr}
use Rattle.om_isa.specs.declared.instr.Instr.TheVariants.{Mem, Jump, Branch, Alu, Cmov, Misc, Fnop, Halt, Callsys}
use Rattle.om_isa.specs.Words.{Encodes}
use Rattle.om_value.specs.declared.value.Place.{Place}
use Rattle.om_value.specs.declared.value.Region.{Region}
use Rattle.om_value.specs.declared.value.Target.{Target}
use Rattle.om_value.specs.declared.value.Target.TheVariants as target
use Rattle.om_prog.specs.Act as act
use Rattle.om_prog.specs.Act.{Act, Word, act_reads}
use Rattle.om_prog.specs.Flow.{Among}
use Rattle.om_prog.specs.View.{ProgramView}
use Rattle.om_prog.specs.Valid.{IsProgram}
use Rattle.om_graph.specs.declared.op.OpKind.{OpKind}
use Rattle.om_graph.specs.declared.op.OpKind.TheVariants as op
use Rattle.om_graph.specs.View.{Block, Shape, GraphView, Has, ops_of}
use Rattle.om_graph.specs.declared.op.Op.{Op}
use Rattle.om_graph.specs.declared.op.Last.{Last}
use Rattle.om_graph.specs.declared.op.Last.TheVariants.{Fall, Off, Br, Cond, Call, CallBy, JumpBy}
use Rattle.om_graph.specs.Run.{block_words, shape_words, op_word, op_act, last_words, cond_act, use_of, target_at}
use Rattle.om_graph.specs.Lifted.{lifted_shapes}
use Rattle.om_graph.specs.OfProgram.{IsForm, as_was, near, number, far, by_gp, by_high, byte, called, direct, IsGraphOf, CameFromLoad}
use Rattle.om_graph.specs.Uses.{Unwritten, IsLocalUse, IsBaseUse, IsByteUse, with_literal}
use Rattle.om_graph.specs.Fits.{from_gp, SumIsWithin, LdaFits, OpFits, OpsFit}
use Rattle.om_graph.specs.Form.{Ordered}
use Rattle.om_graph.proofs.Labels.{append_left, has_append, equal_places}
use Rattle.om_graph.proofs.Places.{of_op}
use Rattle.om_graph.proofs.OfProgram.{to_map}
use Rattle.om_graph.proofs.Itself.{unique}
use Rattle.om_image.specs.declared.image.Image.{Image}
use Rattle.om_layout.specs.Layout.{LayoutView, gp_of, address_of}
use Rattle.om_encode.specs.Text.{TextIsTrue}
use Rattle.om_encode.specs.Fields.{HasUse, IsFar, FieldsAreTrue}
use Rattle.om_graph.specs.Left.{NoUse, NoByte}
use Rattle.om_thorough.specs.Thorough.{Becomes, image_instr}
use Rattle.om_passes.proofs.Origins.{KeptAs, kept_at, source_fetch, compared}
use Rattle.om_thorough.proofs.Images.{kept_is}
use Rattle.om_passes.proofs.Betweens.{first_in, last_in, ends_apart, in_mid}
use Rattle.om_passes.proofs.Locals.{KeptLocal, kept_local, source_ordered, block_ordered}
use Rattle.om_thorough.proofs.Loads.{other_image}

-- ---- forms

-- a byte use is no base use, and differs from what it becomes
base_not_byte : (r s : ℕ) (z : ℤ) (i : Instr) → IsBaseUse r i z → IsByteUse s i → ⊥
base_not_byte r s z (Mem o ra rb d) b u = u
base_not_byte r s z (Jump k ra rb h) b u = u
base_not_byte r s z (Branch o ra d) b u = u
base_not_byte r s z (Alu o ra rb rc) b u = b
base_not_byte r s z (Cmov c ra rb rc) b u = u
base_not_byte r s z (Misc o ra rb) b u = u
base_not_byte r s z Fnop b u = u
base_not_byte r s z Halt b u = u
base_not_byte r s z Callsys b u = u

byte_differs : (r n : ℕ) (i : Instr) → IsByteUse r i → with_literal n i ≡ i → ⊥
byte_differs r n (Alu o ra (R rb) rc) u e = cc
byte_differs r n (Alu o ra (Literal m) rc) u e = u
byte_differs r n (Mem o ra rb d) u e = u
byte_differs r n (Jump k ra rb h) u e = u
byte_differs r n (Branch o ra d) u e = u
byte_differs r n (Cmov c ra rb rc) u e = u
byte_differs r n (Misc o ra rb) u e = u
byte_differs r n Fnop u e = u
byte_differs r n Halt u e = u
byte_differs r n Callsys u e = u

-- a word that came from a load and became LDA is that of such an op
lda_kind : (ops : List Op) (k : OpKind) (ra rb : ℕ) (t : Target) → op_act ops k ≡ act.AddrLda ra rb t → k ≡ op.AddrLda ra rb t
lda_kind ops (op.AddrLda rc rd u) ra rb t e = cc
lda_kind ops (op.Plain i) ra rb t e = cc
lda_kind ops (op.Lit rc rd u) ra rb t e = cc
lda_kind ops (op.AddrHi rc rd u z) ra rb t e = cc
lda_kind ops (op.UseGp i gp u) ra rb t e = cc
lda_kind ops (op.GpHi rc rd q) ra rb t e = cc
lda_kind ops (op.GpLo rc rd q) ra rb t e = cc
lda_kind ops (op.UseLo i q) ra rb t e = by_target (target_at ops q) e
  where
    by_target : (o : Option Target) → use_of i q o ≡ act.AddrLda ra rb t → op.UseLo i q ≡ op.AddrLda ra rb t
    by_target None e = cc
    by_target (Some u) e = cc

cond_lda : (i : Instr) (to : Place) (ra rb : ℕ) (t : Target) → cond_act i to ≡ act.AddrLda ra rb t → ⊥
cond_lda (Branch o rc d) to ra rb t e = cc
cond_lda (Mem o rc rd d) to ra rb t e = cc
cond_lda (Jump k rc rd h) to ra rb t e = cc
cond_lda (Alu o rc rd re) to ra rb t e = cc
cond_lda (Cmov c rc rd re) to ra rb t e = cc
cond_lda (Misc o rc rd) to ra rb t e = cc
cond_lda Fnop to ra rb t e = cc
cond_lda Halt to ra rb t e = cc
cond_lda Callsys to ra rb t e = cc

last_lda : (last : Last) (w : Word) (ra rb : ℕ) (t : Target) → Has (last_words last) w → w.act ≡ act.AddrLda ra rb t → ⊥
last_lda Fall w ra rb t h e = h
last_lda Off w ra rb t h e = h
last_lda (Br at o rc to) w ra rb t (inl s) e = let x = ap (λ (v : Word). v.act) s in cc
last_lda (Br at o rc to) w ra rb t (inr h) e = h
last_lda (Cond at i to) w ra rb t (inl s) e = cond_lda i to ra rb t (ap (λ (v : Word). v.act) s ∙ e)
last_lda (Cond at i to) w ra rb t (inr h) e = h
last_lda (Call at o rc to) w ra rb t (inl s) e = let x = ap (λ (v : Word). v.act) s in cc
last_lda (Call at o rc to) w ra rb t (inr h) e = h
last_lda (CallBy at i) w ra rb t (inl s) e = let x = ap (λ (v : Word). v.act) s in cc
last_lda (CallBy at i) w ra rb t (inr h) e = h
last_lda (JumpBy at i) w ra rb t (inl s) e = let x = ap (λ (v : Word). v.act) s in cc
last_lda (JumpBy at i) w ra rb t (inr h) e = h

pub lda_fits :
    (p : ProgramView) (gp : ℕ → ℕ) (address : Target → ℕ) (g : GraphView) → OpsFit p gp address g → (b : Block) (w : Word) → Has g.blocks b → Has (block_words b) w → (ra rb : ℕ) (t : Target) →
    w.act ≡ act.AddrLda ra rb t → LdaFits p gp address w.at.obj t
lda_fits p gp address g fit b w hb hw ra rb t e = by_part (has_append (map (op_word (ops_of b)) (ops_of b)) (last_words b.last) w hw)
  where
    by_part : Has (map (op_word (ops_of b)) (ops_of b)) w ⊎ Has (last_words b.last) w → LdaFits p gp address w.at.obj t
    by_part (inr h) = absurd (last_lda b.last w ra rb t h e)
    by_part (inl h) =
        let r = of_op (ops_of b) (ops_of b) w h in
        let k = lda_kind (ops_of b) r.op.kind ra rb t (ap (λ (v : Word). v.act) r.word ∙ e) in
        subst (λ (q : Place). LdaFits p gp address q.obj t) (ap (λ (v : Word). v.at) r.word)
        (subst (λ (o : OpKind). OpFits p gp address b r.op.place o) k (fit.ops b r.op hb r.among))

-- two base uses are of one register
base_same : (r s : ℕ) (y z : ℤ) (i : Instr) → IsBaseUse r i y → IsBaseUse s i z → r ≡ s
base_same r s y z (Mem o ra rb d) a b = sym a.0 ∙ b.0
base_same r s y z (Jump k ra rb h) a b = absurd a
base_same r s y z (Branch o ra d) a b = absurd a
base_same r s y z (Alu o ra rb rc) a b = absurd a
base_same r s y z (Cmov c ra rb rc) a b = absurd a
base_same r s y z (Misc o ra rb) a b = absurd a
base_same r s y z Fnop a b = absurd a
base_same r s y z Halt a b = absurd a
base_same r s y z Callsys a b = absurd a

-- a base use over another register has another image word
other_base :
    (p : ProgramView) (g : GraphView) (l : LayoutView) (at : Place) (word : ℕ) (i : Instr) (r base : ℕ) (start z : ℤ) → IsBaseUse r i z →
    HasUse p g l at word i base start → (r ≡ base → ⊥) → (k : Instr) × Encodes word k × (k ≡ i → ⊥)
other_base p g l at word (Mem o ra rb d) r base start z b u n = (Mem o ra base u.0, u.1, λ e. n (same e))
  where
    same : Mem o ra base u.0 ≡ Mem o ra rb d → r ≡ base
    same e = let s : base ≡ rb = cc in sym b.0 ∙ sym s
other_base p g l at word (Jump k ra rb h) r base start z b u n = absurd b
other_base p g l at word (Branch o ra d) r base start z b u n = absurd b
other_base p g l at word (Alu o ra rb rc) r base start z b u n = absurd b
other_base p g l at word (Cmov c ra rb rc) r base start z b u n = absurd b
other_base p g l at word (Misc o ra rb) r base start z b u n = absurd b
other_base p g l at word Fnop r base start z b u n = absurd b
other_base p g l at word Halt r base start z b u n = absurd b
other_base p g l at word Callsys r base start z b u n = absurd b

module _ (p : ProgramView) (prog : IsProgram p) (g : GraphView) (of : IsGraphOf p g) where
  -- a use has one load
  pub one_load : (s : Shape) (a b user : Word) (r : ℕ) → Has (lifted_shapes p) s → IsLocalUse (shape_words s) a user r → IsLocalUse (shape_words s) b user r → a ≡ b
  one_load s a b user r hs u v = by_order (compared a.at.off b.at.off)
    where
      ws : List Word
      ws = shape_words s

      ha : Has ws a
      ha = first_in ws a u.mid user u.stands

      hb : Has ws b
      hb = first_in ws b v.mid user v.stands

      o : Ordered ws
      o = source_ordered p prog g of s hs

      by_order : (a.at.off < b.at.off) ⊎ ((b.at.off < a.at.off) ⊎ (a.at.off ≡ b.at.off)) → a ≡ b
      by_order (inl l) =
          let e = ends_apart ws b v.mid user v.stands o (source_object p prog g of s hs) in
          absurd (u.unwritten b (in_mid ws a u.mid user u.stands o (source_object p prog g of s hs) b hb l (omega (arith, e))) v.writes)
      by_order (inr (inl l)) =
          let e = ends_apart ws a u.mid user u.stands o (source_object p prog g of s hs) in
          absurd (v.unwritten a (in_mid ws b v.mid user v.stands o (source_object p prog g of s hs) a ha l (omega (arith, e))) u.writes)
      by_order (inr (inr e)) = unique ws b a o hb ha (equal_places a.at b.at (source_object p prog g of s hs a b ha hb) e)

module _ (p : ProgramView) (prog : IsProgram p) (g : GraphView) (of : IsGraphOf p g) (l : LayoutView) (i : Image)
    (text : TextIsTrue p g l i) (fields : FieldsAreTrue p g l i) where
  module _ (s : Shape) (load user : Word) (r rb x : ℕ) (region : Region) (instr : Instr) (hs : Has (lifted_shapes p) s) (u : IsLocalUse (shape_words s) load user r)
      (loads : load.act ≡ act.Lit r rb (target.Ptr region x)) (plain : user.act ≡ act.Plain instr) (stays : Becomes p i user.at instr) where
    there : Has (shape_words s) user
    there = last_in (shape_words s) load u.mid user u.stands

    became : KeptAs p g s user
    became = kept_at p prog g of s user hs there (sym (kept_is p prog g of l i text fields user.at user (source_fetch p prog g of s user hs there)) ∙ stays.kept)

    came : CameFromLoad load.act
    came = subst (λ (a : Act). CameFromLoad a) (sym loads) tt

    image_there : image_instr p i became.word.at ≡ Some instr
    image_there = subst (λ (q : Place). image_instr p i q ≡ Some instr) (sym became.place) stays.instr

    reads_there : became.word.act ≡ act.Plain instr → Among (act_reads became.word.act) r
    reads_there e = subst (λ (a : Act). Among (act_reads a) r) (plain ∙ sym e) u.reads

    kept_load : became.word.act ≡ act.Plain instr → KeptLocal p prog g of s load became.word r became.block
    kept_load e = kept_local p prog g of s load user became.word r instr became.block hs u came became.among became.of became.has became.place e (reads_there e)

    -- ---- byte uses

    byte_left : NoByte g → IsByteUse r instr → became.word.act ≡ act.Plain instr → ⊥
    byte_left left bytes e =
        let k = kept_load e in
        let same : became.word ≡ user = same_fields became.word user.at user.act became.place (e ∙ sym plain) in
        let h = became.of.byte_load load user r rb x region instr u loads plain bytes (subst (λ (w : Word). Has (block_words became.block) w) same became.has) in
        let one : load ≡ k.load' = unique (block_words became.block) k.load' load (block_ordered p prog g of became.block became.among) k.has h (sym k.place) in
        left.uses became.block k.load' became.word r rb x region instr became.among k.local (subst (λ (w : Word). w.act ≡ act.Lit r rb (target.Ptr region x)) one loads) e bytes

    byte_by_form : (a : Act) → NoByte g → IsByteUse r instr → IsForm p (shape_words s) user a → became.word.act ≡ a → ⊥
    byte_by_form a left bytes (as_was e) m = byte_left left bytes (m ∙ e ∙ plain)
    byte_by_form a left bytes (near rc rd y t k e) m = cc
    byte_by_form a left bytes (number rc rd n k e) m = cc
    byte_by_form a left bytes (far rc rd y t k e) m = cc
    byte_by_form a left bytes (by_gp o rc rd y t j z v k n q e) m = let same : j ≡ instr = cc in base_not_byte rc r z instr (subst (λ (w : Instr). IsBaseUse rc w z) same q) bytes
    byte_by_form a left bytes (by_high o rc rd y t j z v k n q e) m = let same : j ≡ instr = cc in base_not_byte rc r z instr (subst (λ (w : Instr). IsBaseUse rc w z) same q) bytes
    byte_by_form a left bytes (byte o rc rd y t j v k n q e) m =
        let same : j ≡ instr = cc in
        other_image p prog g of l i text fields became.block became.word became.among became.has (act.Plain (with_literal (y % 8) j)) instr (m ∙ e) image_there
        (λ word f. (with_literal (y % 8) j, f, λ d. byte_differs rc (y % 8) j q (d ∙ sym same)))
    byte_by_form a left bytes (called rc q to k c e) m = cc
    byte_by_form a left bytes (direct rc q to k c e) m =
        let j = k.jumps in
        let same : instr ≡ Jump Jsr rc k.rb k.hint = cc in
        subst (λ (w : Instr). IsByteUse r w) same bytes

    pub no_byte_left : NoByte g → IsByteUse r instr → ⊥
    no_byte_left left bytes = byte_by_form became.word.act left bytes became.form refl

    -- ---- base uses

    module _ (z : ℤ) (rc rd : ℕ) (d : ℤ) (lda : Becomes p i load.at (Mem Lda rc rd d)) (base : IsBaseUse r instr z) (apart : r ≡ rb → ⊥) (unwritten : Unwritten rb u.mid)
        (within : SumIsWithin p (gp_of l) (address_of l) (target.Ptr region x) z)
        (fits : FitsSigned w16 (from_gp p (gp_of l) (address_of l) load.at.obj (target.Ptr region x) +ℤ z)) (ops : OpsFit p (gp_of l) (address_of l) g)
        (left : NoUse p (gp_of l) (address_of l) g) where
      -- the load became LDA
      became_lda : (k : KeptLocal p prog g of s load became.word r became.block) (a : Act) → IsForm p (shape_words s) load a → k.load'.act ≡ a → k.load'.act ≡ act.AddrLda r rb (target.Ptr region x)
      became_lda k a f m = by_form f m
        where
          image_load : image_instr p i k.load'.at ≡ Some (Mem Lda rc rd d)
          image_load = subst (λ (q : Place). image_instr p i q ≡ Some (Mem Lda rc rd d)) (sym k.place) lda.instr

          by_form : IsForm p (shape_words s) load a → k.load'.act ≡ a → k.load'.act ≡ act.AddrLda r rb (target.Ptr region x)
          by_form (as_was e) m =
              absurd (other_image p prog g of l i text fields became.block k.load' became.among k.has (act.Lit r rb (target.Ptr region x)) (Mem Lda rc rd d) (m ∙ e ∙ loads) image_load
              (λ word f. (Mem Ldq r rb f.0, f.2, λ v. cc)))
          by_form (near rg rh y t n e) m = cc
          by_form (number rg rh y n e) m = cc
          by_form (far rg rh y t n e) m =
              absurd (other_image p prog g of l i text fields became.block k.load' became.among k.has (act.AddrHi rg rh (target.Ptr t y)) (Mem Lda rc rd d) (m ∙ e) image_load
              (λ word f. (_, f.2, λ v. cc)))
          by_form (by_gp o rg rh y t j v w n q b e) m = cc
          by_form (by_high o rg rh y t j v w n q b e) m = cc
          by_form (byte o rg rh y t j w n q b e) m = cc
          by_form (called rg q to n c e) m = cc
          by_form (direct rg q to n c e) m = let j = n.jumps in cc

      use_left : became.word.act ≡ act.Plain instr → ⊥
      use_left e =
          let k = kept_load e in
          let a = became_lda k k.load'.act k.form refl in
          left.uses became.block k.load' became.word r rb x region instr z became.among k.local a
          (lda_fits p (gp_of l) (address_of l) g ops became.block k.load' became.among k.has r rb (target.Ptr region x) a) e base apart (free k unwritten) within
          (subst (λ (q : Place). FitsSigned w16 (from_gp p (gp_of l) (address_of l) q.obj (target.Ptr region x) +ℤ z)) (sym k.place) fits)
        where
          free : (k : KeptLocal p prog g of s load became.word r became.block) → Unwritten rb u.mid → Unwritten rb k.local.mid
          free k (inl e) = inl e
          free k (inr none) =
              inr (kept_unwritten p prog g of s became.block load user k.load' became.word u.mid k.local.mid rb hs became.of became.among u.stands k.local.stands k.place became.place none)

      -- no high half stands where the load became LDA
      no_high : (o : Word) (t : Target) (least : ℤ) → o ≡ load → IsFar g o.at t least → ⊥
      no_high o t least e f =
          let v = op_word (ops_of f.block) f.op in
          let h = append_left _ (last_words f.block.last) v (to_map (op_word (ops_of f.block)) (ops_of f.block) f.op f.has) in
          other_image p prog g of l i text fields f.block v f.among h (act.AddrHi f.ra f.rb t) (Mem Lda rc rd d) (ap (op_act (ops_of f.block)) f.kind)
          (subst (λ (q : Place). image_instr p i q ≡ Some (Mem Lda rc rd d)) (sym (f.place ∙ ap (λ (w : Word). w.at) e)) lda.instr)
          (λ word y. (_, y.2, λ w. cc))

      use_by_form : (a : Act) → IsForm p (shape_words s) user a → became.word.act ≡ a → ⊥
      use_by_form a (as_was e) m = use_left (m ∙ e ∙ plain)
      use_by_form a (near rg rh y t k e) m = cc
      use_by_form a (number rg rh n k e) m = cc
      use_by_form a (far rg rh y t k e) m = cc
      use_by_form a (by_gp o rg rh y t j v w k n q e) m =
          let same : j ≡ instr = cc in
          let b = subst (λ (c : Instr). IsBaseUse rg c v) same q in
          let reg = base_same rg r v z instr b base in
          let one = one_load p prog g of s o load user r hs (subst (λ (c : ℕ). IsLocalUse (shape_words s) o user c) reg w) u in
          let oact = ap (λ (c : Word). c.act) one in
          let over : rh ≡ rb = cc in
          other_image p prog g of l i text fields became.block became.word became.among became.has (act.UseGp j rh (target.Ptr t y)) instr (m ∙ e) image_there
          (λ word f.
          let c = other_base p g l became.word.at word j rg rh _ v q f (λ k. apart (sym reg ∙ k ∙ over)) in
          (c.0, c.1, λ k. c.2 (k ∙ sym same)))
      use_by_form a (by_high o rg rh y t j v w k n q e) m =
          let same : j ≡ instr = cc in
          let b = subst (λ (c : Instr). IsBaseUse rg c v) same q in
          let reg = base_same rg r v z instr b base in
          let one = one_load p prog g of s o load user r hs (subst (λ (c : ℕ). IsLocalUse (shape_words s) o user c) reg w) u in
          other_image p prog g of l i text fields became.block became.word became.among became.has (act.UseLo j o.at (target.Ptr t y)) instr (m ∙ e) image_there
          (λ word f. absurd (no_high o (target.Ptr t y) f.0 one f.1))
      use_by_form a (byte o rg rh y t j w k n q e) m = let same : j ≡ instr = cc in base_not_byte r rg z instr base (subst (λ (c : Instr). IsByteUse rg c) same q)
      use_by_form a (called rg q to k c e) m = cc
      use_by_form a (direct rg q to k c e) m =
          let j = k.jumps in
          let same : instr ≡ Jump Jsr rg k.rb k.hint = cc in
          subst (λ (w : Instr). IsBaseUse r w z) same base

      pub no_use_left : ⊥
      no_use_left = use_by_form became.word.act became.form refl

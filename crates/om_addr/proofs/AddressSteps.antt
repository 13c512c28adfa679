-- Edits of one address are steps.
use Rattle.std.proofs.Common.{◌≡◌, ◌⊎◌, inl, inr, ◌%◌, ℕ, ℤ, Bool, true, false, ◌==◌, List, ◌∷◌, Some, None, refl, sym, ap, ◌∙◌, subst}
use Rattle.std.proofs.lemmas.Bool.{true≢false, eqb-true, eq-eqb}
use Rattle.om_isa.specs.declared.instr.Instr.{Instr}
use Rattle.om_isa.specs.declared.instr.Instr.TheVariants.{Mem, Jump, Branch, Alu, Cmov, Misc, Fnop, Halt, Callsys}
use Rattle.om_isa.specs.declared.instr.Opnd.TheVariants.{R, Lit as Literal}
use Rattle.om_value.specs.declared.value.Region.{Region}
use Rattle.om_value.specs.declared.value.Target.{Target}
use Rattle.om_value.specs.declared.value.Target.TheVariants as target
use Rattle.om_value.specs.declared.value.Value.TheVariants.{Ptr, Gp}
use Rattle.om_prog.specs.Act as act
use Rattle.om_prog.specs.Act.{Act, Word}
use Rattle.om_prog.specs.Values.{Values}
use Rattle.om_prog.specs.View.{ProgramView}
use Rattle.om_prog.specs.Valid.{IsProgram}
use Rattle.om_graph.specs.declared.op.OpKind.{OpKind}
use Rattle.om_graph.specs.declared.op.OpKind.TheVariants as op
use Rattle.om_graph.specs.View.{Node, Block, GraphView, Has, ops_of, replaced}
use Rattle.om_graph.specs.Run.{block_words, op_act, graph_script, rev_onto}
use Rattle.om_graph.specs.Form.{Ordered, is_address}
use Rattle.om_graph.specs.Uses.{IsTextsLast, NoneWrites, Unwritten, IsLocalUse, IsBaseUse, IsByteUse, with_literal}
use Rattle.om_graph.proofs.OfProgram.{words_in_place}
use Rattle.om_graph.proofs.ValuesAt.{behind}
use Rattle.om_passes.specs.AtPlaces.{NoHalf}
use Rattle.om_passes.specs.Step.{Step}
use Rattle.om_passes.proofs.Standings.{NeedsNoBase, baseless, based, plain_baseless}
use Rattle.om_passes.proofs.Standing.{use_stands}
use Rattle.om_passes.specs.OneEdit.{MayGoOn, IsOp, word_of, HasNoByteUse, LoadsPointer}
use Rattle.om_passes.proofs.OneEdit as edit
use Rattle.om_addr.specs.Reduces.{Holding, Reduced, near, number, idle, by_gp, by_literal}
use Rattle.om_addr.proofs.NoHalf.{no_halves}
use Rattle.om_addr.proofs.OpStep.{op_step}
use Rattle.om_addr.proofs.KnownUses.{holding_use, base_use, passes_load}
use Rattle.om_addr.proofs.Never.{passed}

-- an LDA of a load into another register than r31 needs no base; one into r31 ends its text
lda_baseless : (g : GraphView) (w : Word) (ra rb : ℕ) (t : Target) → (ra ≡ 31 → IsTextsLast g w.at) → NeedsNoBase g (record { at = w.at; act = act.AddrLda ra rb t })
lda_baseless g w ra rb t ends = (λ i gp u e. no_use i gp u e, ends)
  where
    no_use : (i : Instr) (gp : ℕ) (u : Target) → act.AddrLda ra rb t ≡ act.UseGp i gp u → ⊥
    no_use i gp u e = cc

module _ (p : ProgramView) (prog : IsProgram p) (g : GraphView) (m : MayGoOn p g) (id : ℕ) (b : Block) (x : Node) (o : IsOp g id b x) where
  abbrev word : Word
  word = word_of b x

  hb : Has g.blocks b
  hb = edit.there p prog g m.graph m.kept m.reach id b x o.block o.node

  in_block : Ordered (block_words b)
  in_block = (words_in_place p prog g m.graph).ordered b hb

  there : Has (block_words b) word
  there = edit.word_there p prog g m.graph m.kept m.reach id b x o.block o.node

  one_text : (w : Word) → Has (block_words b) w → w.at.obj ≡ word.at.obj
  one_text w h = ((words_in_place p prog g m.graph).words b w hb h).object ∙ sym ((words_in_place p prog g m.graph).words b word hb there).object

  no_old : (k : OpKind) → (x.op).kind ≡ k → NoHalf k → NoHalf (x.op).kind
  no_old k e h = subst (λ (y : OpKind). NoHalf y) (sym e) h

  loads_still : (ra rb : ℕ) (t : Target) (a : Act) → (x.op).kind ≡ op.Lit ra rb t → is_address a ≡ true → is_address word.act ≡ true
  loads_still ra rb t a e h = ap (λ (k : OpKind). is_address (op_act (ops_of b) k)) e

  -- ---- loads

  pub near_step :
      (ra rb n : ℕ) (region : Region) → (x.op).kind ≡ op.Lit ra rb (target.Ptr region n) → HasNoByteUse b word → (ra ≡ 31 → IsTextsLast g (x.op).place) → Step p g (replaced g id (op.AddrLda ra rb (target.Ptr region n)))
  near_step ra rb n region e none ends =
      op_step p prog g m id b x o (op.AddrLda ra rb (target.Ptr region n)) (no_old _ e tt) tt (loads_still ra rb (target.Ptr region n) (act.AddrLda ra rb (target.Ptr region n)) e) (edit.near_of p prog g m.graph m.kept m.reach id b x o.block o.node ra rb n region e none)
      (baseless (lda_baseless g word ra rb (target.Ptr region n) ends))
      (λ bf ws s ok. by_31 bf (ra == 31) refl)
    where
      by_31 : (bf : List Word) (b' : Bool) → (ra == 31) ≡ b' → Reduced (graph_script p g) (behind (graph_script p g) bf) no_halves (λ r. true) word (record { at = word.at; act = act.AddrLda ra rb (target.Ptr region n) })
      by_31 bf true i =
          let r = eqb-true ra 31 i in
          idle rb rb (target.Ptr region n) (target.Ptr region n) (ap (op_act (ops_of b)) e ∙ ap (λ (y : ℕ). act.Lit y rb (target.Ptr region n)) r)
          (ap (λ (y : ℕ). record { at = word.at; act = act.AddrLda y rb (target.Ptr region n) }) r)
      by_31 bf false i = near ra rb (target.Ptr region n) (λ z. true≢false (sym (eq-eqb ra 31 z) ∙ i)) (ap (op_act (ops_of b)) e) refl refl

  pub number_step : (ra rb n : ℕ) → (x.op).kind ≡ op.Lit ra rb (target.Num n) → (ra ≡ 31 → IsTextsLast g (x.op).place) → Step p g (replaced g id (op.AddrLda ra 31 (target.Num n)))
  number_step ra rb n e ends =
      op_step p prog g m id b x o (op.AddrLda ra 31 (target.Num n)) (no_old _ e tt) tt (loads_still ra rb (target.Num n) (act.AddrLda ra 31 (target.Num n)) e) (edit.number_of p prog g m.graph m.kept m.reach id b x o.block o.node ra rb n e)
      (baseless (lda_baseless g word ra 31 (target.Num n) ends))
      (λ bf ws s ok. by_31 bf (ra == 31) refl)
    where
      by_31 : (bf : List Word) (b' : Bool) → (ra == 31) ≡ b' → Reduced (graph_script p g) (behind (graph_script p g) bf) no_halves (λ r. true) word (record { at = word.at; act = act.AddrLda ra 31 (target.Num n) })
      by_31 bf true i =
          let r = eqb-true ra 31 i in
          idle rb 31 (target.Num n) (target.Num n) (ap (op_act (ops_of b)) e ∙ ap (λ (y : ℕ). act.Lit y rb (target.Num n)) r)
          (ap (λ (y : ℕ). record { at = word.at; act = act.AddrLda y 31 (target.Num n) }) r)
      by_31 bf false i = number ra rb n (λ z. true≢false (sym (eq-eqb ra 31 z) ∙ i)) (ap (op_act (ops_of b)) e) refl refl

  -- ---- uses

  module _ (load : Word) (i : Instr) (r rb n : ℕ) (region : Region) (e : (x.op).kind ≡ op.Plain i) (local : IsLocalUse (block_words b) load word r) (loads : LoadsPointer load r rb region n) where
    pub byte_step : IsByteUse r i → Step p g (replaced g id (op.Plain (with_literal (n % 8) i)))
    byte_step u =
        op_step p prog g m id b x o (op.Plain (with_literal (n % 8) i)) (no_old _ e tt) tt (λ h. absurd (true≢false (sym h))) (edit.byte_of p prog g m.graph m.kept m.reach id b x o.block o.node load i r rb n region e local loads u)
        (baseless (plain_baseless g (record { at = word.at; act = act.Plain (with_literal (n % 8) i) }) (with_literal (n % 8) i) refl))
        (λ bf ws s ok. by_instr i (ap (op_act (ops_of b)) e) u (holding_use (graph_script p g) (block_words b) bf ws load word r rb n region in_block s local loads))
      where
        by_instr :
            {known : Values} (j : Instr) → word.act ≡ act.Plain j → IsByteUse r j → Holding known r (Ptr region n) →
            Reduced (graph_script p g) known no_halves (λ r. true) word (record { at = word.at; act = act.Plain (with_literal (n % 8) j) })
        by_instr {known} (Alu f ra (R rc) rd) a u k =
            by_literal f ra rc rd n region a u.0 (subst (λ (y : ℕ). Holding known y (Ptr region n)) (sym u.1) k) refl (λ y h. refl)
        by_instr (Alu f ra (Literal l) rd) a u k = absurd u
        by_instr (Mem f ra rc d) a u k = absurd u
        by_instr (Jump f ra rc h) a u k = absurd u
        by_instr (Branch f ra d) a u k = absurd u
        by_instr (Cmov f ra rc rd) a u k = absurd u
        by_instr (Misc f ra rc) a u k = absurd u
        by_instr Fnop a u k = absurd u
        by_instr Halt a u k = absurd u
        by_instr Callsys a u k = absurd u

    pub gp_step : (z : ℤ) → IsBaseUse r i z → (r ≡ rb → ⊥) → Unwritten rb local.mid → Step p g (replaced g id (op.UseGp i rb (target.Ptr region n)))
    gp_step z u other stays =
        op_step p prog g m id b x o (op.UseGp i rb (target.Ptr region n)) (no_old _ e tt) tt (λ h. absurd (true≢false (sym h))) (edit.gp_of p prog g m.graph m.kept m.reach id b x o.block o.node load i r rb n region z e local loads u)
        (based (record {
          block = b;
          among = hb;
          inside = there;
          instr = i;
          base = rb;
          target = target.Ptr region n;
          becomes = refl;
          stands = λ s hs label. use_stands p prog g m.graph b s load word r rb n region i hb hs label local loads (ap (op_act (ops_of b)) e) stays;
        }))
        (λ bf ws s ok.
        by_instr i (ap (op_act (ops_of b)) e) u (holding_use (graph_script p g) (block_words b) bf ws load word r rb n region in_block s local loads)
        (base_use (graph_script p g) (block_words b) bf ws load word r rb n region in_block s local loads other (written_none bf ws s ok stays) one_text))
      where
        -- where a run that goes on comes, the base is not r31
        written_none : (bf ws : List Word) → rev_onto bf (word ∷ ws) ≡ block_words b → passed bf ≡ false → Unwritten rb local.mid → NoneWrites rb local.mid
        written_none bf ws s ok (inr n) = n
        written_none bf ws s ok (inl e) = absurd (true≢false (sym (passes_load (graph_script p g) (block_words b) bf ws load word r rb n region in_block s local loads e) ∙ ok))

        by_instr :
            {known : Values} (j : Instr) → word.act ≡ act.Plain j → IsBaseUse r j z → Holding known r (Ptr region n) → known rb ≡ Some (Gp ((graph_script p g).table word.at.obj)) →
            Reduced (graph_script p g) known no_halves (λ r. true) word (record { at = word.at; act = act.UseGp j rb (target.Ptr region n) })
        by_instr {known} (Mem f ra rc d) a u k l = by_gp f ra rc rb d (target.Ptr region n) a (subst (λ (y : ℕ). Holding known y (Ptr region n)) (sym u.0) k) l refl u.2 refl (λ y h. refl)
        by_instr (Alu f ra rc rd) a u k l = absurd u
        by_instr (Jump f ra rc h) a u k l = absurd u
        by_instr (Branch f ra d) a u k l = absurd u
        by_instr (Cmov f ra rc rd) a u k l = absurd u
        by_instr (Misc f ra rc) a u k l = absurd u
        by_instr Fnop a u k l = absurd u
        by_instr Halt a u k l = absurd u
        by_instr Callsys a u k l = absurd u

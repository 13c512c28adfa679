-- A word of a LITERAL load that is kept as an LDQ is a Lit op, and the other way round; and of a near target there is none.
use Rattle.om_passes.proofs.Sources.{lit_source, split_at}
use Rattle.std.proofs.Common.{◌≡◌, inl, ℕ, Bool, true, List, [], Some, refl, sym, ap, ◌∙◌, subst}
use Rattle.std.specs.Prelude.{ℤ}
use Rattle.om_isa.specs.declared.instr.MemOp.TheVariants.{Lda, Ldq}
use Rattle.om_isa.specs.declared.instr.Instr.{Instr}
use Rattle.om_isa.specs.declared.instr.Instr.TheVariants.{Mem}
use Rattle.om_isa.specs.Words.{Encodes}
use Rattle.om_value.specs.declared.value.Place.{Place}
use Rattle.om_value.specs.declared.value.Target.{Target}
use Rattle.om_value.specs.declared.value.Target.TheVariants as target
use Rattle.om_prog.specs.Act as act
use Rattle.om_prog.specs.Act.{Act, Word, act_writes}
use Rattle.om_prog.specs.Flow.{Among}
use Rattle.om_prog.specs.View.{ProgramView}
use Rattle.om_prog.specs.Valid.{IsProgram}
use Rattle.om_graph.specs.View.{Block, GraphView, Has}
use Rattle.om_graph.specs.Run.{block_words}
use Rattle.om_graph.specs.Form.{is_address}
use Rattle.om_graph.specs.OfProgram.{IsForm, as_was, near, number, far, by_gp, by_high, byte, called, direct, IsGraphOf}
use Rattle.om_image.specs.declared.image.Image.{Image}
use Rattle.om_layout.specs.Layout.{LayoutView, gp_of, address_of}
use Rattle.om_encode.specs.Text.{TextIsTrue}
use Rattle.om_encode.specs.Fields.{HasForm, FieldsAreTrue}
use Rattle.om_graph.specs.Left.{StandsIn, NoDeadWord, NoNear, IsNear}
use Rattle.om_thorough.specs.Thorough.{IsKeptLoad, image_instr, NearLoadsGone}
use Rattle.om_passes.proofs.Origins.{source_of}
use Rattle.om_thorough.proofs.Images.{kept_from, true_word, image_is, image_same, in_map_kept}

-- the word of the program of a Lit op is a load as it was
module _ (p : ProgramView) (prog : IsProgram p) (g : GraphView) (of : IsGraphOf p g) (l : LayoutView) (i : Image)
    (text : TextIsTrue p g l i) (fields : FieldsAreTrue p g l i) where
  -- what a kept word's image is not
  pub other_image :
      (b : Block) (u : Word) (hb : Has g.blocks b) (hu : Has (block_words b) u) (a : Act) (j : Instr) → u.act ≡ a → image_instr p i u.at ≡ Some j →
      ((word : ℕ) → HasForm p g l u.at a word → (k : Instr) × Encodes word k × (k ≡ j → ⊥)) → ⊥
  other_image b u hb hu a j e h f =
      let t = true_word p prog g of l i text fields b u hb hu in
      let k = f t.word (subst (λ (x : Act). HasForm p g l u.at x t.word) e t.form) in
      k.2 (image_same p prog g of l i text fields b u hb hu k.0 j k.1 h)

  module _ (b : Block) (u : Word) (hb : Has g.blocks b) (hu : Has (block_words b) u) (ws : List Word) (w : Word) (ra rb : ℕ) (t : Target) (loads : w.act ≡ act.Lit ra rb t) where
    -- a load that is kept as an LDQ stays as it was
    pub stays_lit : (rc rd : ℕ) (d : ℤ) → IsForm p ws w u.act → image_instr p i u.at ≡ Some (Mem Ldq rc rd d) → u.act ≡ act.Lit ra rb t
    stays_lit rc rd d f h = by_form u.act f refl
      where
        by_form : (a : Act) → IsForm p ws w a → u.act ≡ a → u.act ≡ act.Lit ra rb t
        by_form a (as_was e) m = m ∙ e ∙ loads
        by_form a (near rg rh x region k e) m =
            absurd (other_image b u hb hu (act.AddrLda rg rh (target.Ptr region x)) (Mem Ldq rc rd d) (m ∙ e) h (λ word z. (Mem Lda rg rh z.0, z.1, λ v. cc)))
        by_form a (number rg rh n k e) m =
            absurd (other_image b u hb hu (act.AddrLda rg 31 (target.Num n)) (Mem Ldq rc rd d) (m ∙ e) h (λ word z. (Mem Lda rg 31 z.0, z.1, λ v. cc)))
        by_form a (far rg rh x region k e) m =
            absurd (other_image b u hb hu (act.AddrHi rg rh (target.Ptr region x)) (Mem Ldq rc rd d) (m ∙ e) h (λ word z. (_, z.2, λ v. cc)))
        by_form a (by_gp load s rg x region j z v k n y e) m = cc
        by_form a (by_high load s rg x region j z v k n y e) m = cc
        by_form a (byte load s rg x region j v k n y e) m = cc
        by_form a (called rg to too k c e) m = cc
        by_form a (direct rg to too k c e) m = let j = k.jumps in cc

  -- a Lit op at a place of the program
  pub record IsLitOp (q : Place) (t : Target) : Type 0 where
    pub block : Block
    pub among : Has g.blocks block
    pub word : Word
    pub has : Has (block_words block) word
    pub place : word.at ≡ q
    pub ra : ℕ
    pub rb : ℕ
    pub act : word.act ≡ act.Lit ra rb t

  pub kept_lit : (q : Place) (t : Target) → IsKeptLoad p i q t → IsLitOp q t
  kept_lit q t k =
      let r = kept_from p prog g of l i text fields q (record { at = q; act = act.Lit k.ra k.rb t }) k.loads k.word.kept in
      record {
        block = r.block;
        among = r.among;
        word = r.word;
        has = r.has;
        place = r.place;
        ra = k.ra;
        rb = k.rb;
        act =
            stays_lit r.block r.word r.among r.has _ r.source.word k.ra k.rb t (ap (λ (x : Word). x.act) r.same) k.rc k.rd k.disp r.source.form
            (subst (λ (x : Place). image_instr p i x ≡ Some (Mem Ldq k.rc k.rd k.disp)) (sym r.place) k.word.instr);
      }

  -- the other way round
  pub lit_kept : (b : Block) (u : Word) (ra rb : ℕ) (t : Target) → Has g.blocks b → Has (block_words b) u → u.act ≡ act.Lit ra rb t → IsKeptLoad p i u.at t
  lit_kept b u ra rb t hb hu e =
      let s = source_of p prog g of b u hb hu in
      let w = true_word p prog g of l i text fields b u hb hu in
      let f = subst (λ (a : Act). HasForm p g l u.at a w.word) e w.form in
      let sl = lit_source p _ s.word u.act ra rb t s.form e in
      record {
        ra = ra;
        rb = rb;
        loads = s.fetched ∙ ap (λ (x : Word). Some x) (same_fields s.word u.at (act.Lit ra rb t) (sym s.place) sl);
        rc = ra;
        rd = rb;
        disp = f.0;
        word = record {
          kept = in_map_kept p prog g of l i text fields b u hb hu;
          instr = image_is p prog g of l i text fields b u hb hu (Mem Ldq ra rb f.0) f.2;
        };
      }
    where
      same_fields : (w : Word) (q : Place) (a : Act) → w.at ≡ q → w.act ≡ a → w ≡ record { at = q; act = a }
      same_fields w q a e f = ap (λ (x : Place). record { at = x; act = w.act }) e ∙ ap (λ (x : Act). record { at = q; act = x }) f

  pub near_loads_gone : (outs : Place → ℕ → Bool) → NoNear p (gp_of l) (address_of l) outs g → NoDeadWord outs g → NearLoadsGone p l i
  near_loads_gone outs left dead = record { gone = never }
    where
      never : (q : Place) (t : Target) → IsKeptLoad p i q t → IsNear p (gp_of l) (address_of l) q.obj t → ⊥
      never q t k n =
          let r = kept_lit q t k in
          let s = split_at [] (block_words r.block) r.word r.has in
          let x : StandsIn g r.block s.0 r.word s.1 = record { among = r.among; split = s.2 } in
          let m = subst (λ (y : Place). IsNear p (gp_of l) (address_of l) y.obj t) (sym r.place) n in
          let a = left.loads r.block s.0 r.word s.1 r.ra r.rb t x r.act m in
          let e : is_address r.word.act ≡ true = ap is_address r.act in
          let v = subst (λ (y : Act). Among (act_writes y) r.ra) (sym r.act) (inl refl) in
          a.1 (dead.words r.block s.0 r.word s.1 r.ra x e v a.0)

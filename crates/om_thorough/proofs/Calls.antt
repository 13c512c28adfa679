-- A kept known call whose place is in reach is a BSR.
use Rattle.std.proofs.Common.{◌≡◌, inl, ℕ, true, List, Some, refl, sym, ◌∙◌, subst}
use Rattle.std.specs.Prelude.{ℤ}
use Rattle.om_isa.specs.declared.instr.BrOp.TheVariants.{Bsr}
use Rattle.om_isa.specs.declared.instr.JumpOp.TheVariants.{Jsr}
use Rattle.om_isa.specs.declared.instr.Instr.{Instr}
use Rattle.om_isa.specs.declared.instr.Instr.TheVariants.{Jump, Branch}
use Rattle.om_value.specs.declared.value.Place.{Place}
use Rattle.om_value.specs.declared.value.Target.TheVariants as target
use Rattle.om_prog.specs.Act as act
use Rattle.om_prog.specs.Act.{Act, Word, act_reads}
use Rattle.om_prog.specs.Flow.{Among}
use Rattle.om_prog.specs.View.{ProgramView}
use Rattle.om_prog.specs.Valid.{IsProgram}
use Rattle.om_graph.specs.View.{Shape, GraphView, Has}
use Rattle.om_graph.specs.Run.{shape_words}
use Rattle.om_graph.specs.Index.{InReach}
use Rattle.om_graph.specs.Lifted.{lifted_shapes}
use Rattle.om_graph.specs.OfProgram.{IsForm, as_was, near, number, far, by_gp, by_high, byte, called, direct, IsGraphOf, CameFromLoad}
use Rattle.om_graph.specs.Uses.{IsKnownCall, IsBaseUse, IsByteUse}
use Rattle.om_image.specs.declared.image.Image.{Image}
use Rattle.om_layout.specs.Layout.{LayoutView}
use Rattle.om_encode.specs.Text.{TextIsTrue}
use Rattle.om_encode.specs.Fields.{HasForm, FieldsAreTrue}
use Rattle.om_graph.specs.Left.{NoDirect}
use Rattle.om_thorough.specs.Thorough.{KnownCallsDirect, Becomes, kept_in_map, image_instr, counts_of}
use Rattle.om_passes.proofs.Origins.{KeptAs, kept_at, source_fetch}
use Rattle.om_thorough.proofs.Images.{kept_is, true_word, image_is}
use Rattle.om_passes.proofs.Betweens.{last_in}
use Rattle.om_passes.proofs.Locals.{kept_local}

-- a load of a place in code stays as it was, if it is kept
pub code_load : (p : ProgramView) (ws : List Word) (w : Word) (a : Act) (r rb : ℕ) (q : Place) → IsForm p ws w a → w.act ≡ act.Lit r rb (target.Code q) → a ≡ act.Lit r rb (target.Code q)
code_load p ws w a r rb q (as_was e) l = e ∙ l
code_load p ws w a r rb q (near ra rc x region h e) l = cc
code_load p ws w a r rb q (number ra rc n h e) l = cc
code_load p ws w a r rb q (far ra rc x region h e) l = cc
code_load p ws w a r rb q (by_gp load s rc x region i z u h b k e) l = cc
code_load p ws w a r rb q (by_high load s rc x region i z u h b k e) l = cc
code_load p ws w a r rb q (byte load s rc x region i u h b k e) l = cc
code_load p ws w a r rb q (called ra to too h c e) l = cc
code_load p ws w a r rb q (direct ra to too k c e) l = let j = k.jumps in cc

module _ (p : ProgramView) (prog : IsProgram p) (g : GraphView) (of : IsGraphOf p g) (l : LayoutView) (i : Image)
    (text : TextIsTrue p g l i) (fields : FieldsAreTrue p g l i) (left : NoDirect g) where
  module _ (s : Shape) (call : Word) (ra : ℕ) (q : Place) (hs : Has (lifted_shapes p) s) (k : IsKnownCall (shape_words s) call ra q)
      (kept : kept_in_map p i call.at ≡ true) (reach : InReach (counts_of p) call.at q) where
    there : Has (shape_words s) call
    there = last_in (shape_words s) k.load k.local.mid call k.local.stands

    became : KeptAs p g s call
    became = kept_at p prog g of s call hs there (sym (kept_is p prog g of l i text fields call.at call (source_fetch p prog g of s call hs there)) ∙ kept)

    no_jump : (r : ℕ) (j : Instr) (z : ℤ) → j ≡ Jump Jsr ra k.rb k.hint → IsBaseUse r j z → ⊥
    no_jump r j z e h = subst (λ (x : Instr). IsBaseUse r x z) e h

    no_byte_jump : (r : ℕ) (j : Instr) → j ≡ Jump Jsr ra k.rb k.hint → IsByteUse r j → ⊥
    no_byte_jump r j e h = subst (λ (x : Instr). IsByteUse r x) e h

    stays : became.word.act ≡ act.Plain (Jump Jsr ra k.rb k.hint) → ⊥
    stays e =
        let u = became.word in
        let reads : Among (act_reads u.act) k.rb = subst (λ (a : Act). Among (act_reads a) k.rb) (sym e) (inl refl) in
        let c : CameFromLoad k.load.act = subst (λ (a : Act). CameFromLoad a) (sym k.loads) tt in
        let m = kept_local p prog g of s k.load call u k.rb (Jump Jsr ra k.rb k.hint) became.block hs k.local c became.among became.of became.has became.place e reads in
        left.calls became.block u ra q became.among became.has
        (record { load = m.load'; rb = k.rb; base = k.base; hint = k.hint; local = m.local; loads = code_load p (shape_words s) k.load m.load'.act k.rb k.base q m.form k.loads; jumps = e })
        (subst (λ (x : Place). InReach g.counts x q) (sym became.place) (subst (λ (n : List ℕ). InReach n call.at q) (sym of.counts) reach))

    goes : (rc : ℕ) (to : Place) → rc ≡ ra → became.word.act ≡ act.To Bsr rc to → (d : ℤ) × Becomes p i call.at (Branch Bsr ra d)
    goes rc to same e =
        let t = true_word p prog g of l i text fields became.block became.word became.among became.has in
        let f = subst (λ (a : Act). HasForm p g l became.word.at a t.word) e t.form in
        let h = image_is p prog g of l i text fields became.block became.word became.among became.has (Branch Bsr rc f.0) f.1 in (
          f.0,
          record {
            kept = kept;
            instr = subst (λ (x : Place). image_of x (Branch Bsr ra f.0)) became.place (subst (λ (n : ℕ). image_of became.word.at (Branch Bsr n f.0)) same h);
          },
        )
      where
        image_of : Place → Instr → Type 0
        image_of x j = image_instr p i x ≡ Some j

    by_form : (a : Act) → IsForm p (shape_words s) call a → became.word.act ≡ a → (d : ℤ) × Becomes p i call.at (Branch Bsr ra d)
    by_form a (as_was e) h = absurd (stays (h ∙ e ∙ k.jumps))
    by_form a (near rc rd x region m e) h = let j = k.jumps in cc
    by_form a (number rc rd n m e) h = let j = k.jumps in cc
    by_form a (far rc rd x region m e) h = let j = k.jumps in cc
    by_form a (by_gp load r rd x region j z u m b n e) h = let y = k.jumps in let v : j ≡ Jump Jsr ra k.rb k.hint = cc in absurd (no_jump r j z v n)
    by_form a (by_high load r rd x region j z u m b n e) h = let y = k.jumps in let v : j ≡ Jump Jsr ra k.rb k.hint = cc in absurd (no_jump r j z v n)
    by_form a (byte load r rd x region j u m b n e) h = let y = k.jumps in let v : j ≡ Jump Jsr ra k.rb k.hint = cc in absurd (no_byte_jump r j v n)
    by_form a (called rc to too m c e) h = let j = k.jumps in cc
    by_form a (direct rc to too m c e) h = let x = k.jumps in let y = m.jumps in let v : rc ≡ ra = cc in goes rc too v (h ∙ e)

    pub is_direct : (d : ℤ) × Becomes p i call.at (Branch Bsr ra d)
    is_direct = by_form became.word.act became.form refl

  pub known_calls_direct : KnownCallsDirect p i
  known_calls_direct = record { direct = is_direct }

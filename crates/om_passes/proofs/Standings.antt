-- What an edit keeps beside meaning, by what it makes of each word: bases that stand, and pairs that are whole.
use Rattle.std.proofs.Common.{◌≡◌, ◌⊎◌, inl, inr, ℕ, Bool, true, false, List, Option, Some, None, refl, sym, ap, ◌∙◌, subst}
use Rattle.om_isa.specs.declared.instr.BrOp.{BrOp}
use Rattle.om_isa.specs.declared.instr.Instr.{Instr}
use Rattle.om_value.specs.declared.value.Place.{Place}
use Rattle.om_value.specs.declared.value.Target.{Target}
use Rattle.om_prog.specs.Act as act
use Rattle.om_prog.specs.Act.{Act, Word}
use Rattle.om_prog.specs.View.{ProgramView}
use Rattle.om_prog.specs.Valid.{IsProgram}
use Rattle.om_graph.specs.View.{Block, Shape, GraphView, Has}
use Rattle.om_graph.specs.Run.{words, block_words}
use Rattle.om_graph.specs.Form.{Ordered}
use Rattle.om_graph.specs.LeftIn.{is_kept, Keeps}
use Rattle.om_graph.specs.Lifted.{lifted_shapes}
use Rattle.om_graph.specs.OfProgram.{IsGraphOf}
use Rattle.om_graph.specs.Rewritten.{each_word}
use Rattle.om_graph.specs.Stands.{HasStandingBase, IsIdle, BasesStand, PairsWhole}
use Rattle.om_graph.specs.Uses.{IsTextsLast}
use Rattle.om_graph.proofs.Labels.{in_all}
use Rattle.om_graph.proofs.Compose.{has_kept, kept_word}
use Rattle.om_graph.proofs.Ends.{each_from, each_has}
use Rattle.om_graph.proofs.Ends as ends
use Rattle.om_graph.proofs.Itself.{unique, all_ordered}
use Rattle.om_graph.proofs.Places.{placed}
use Rattle.om_graph.proofs.OfProgram.{words_in_place}
use Rattle.om_passes.specs.Keeping.{GainsStand, IsLess}
use Rattle.om_passes.proofs.Closed.{one_block}
use Rattle.om_passes.proofs.Keeping.{old_word, bases_kept}

-- a word that needs no base: it uses no global pointer, and a load into r31 that became LDA ends its text
abbrev pub NeedsNoBase : GraphView → Word → Type 0
NeedsNoBase g v =
    ((i : Instr) (gp : ℕ) (t : Target) → v.act ≡ act.UseGp i gp t → ⊥) × (IsIdle v.act → IsTextsLast g v.at)

-- one that uses a global pointer in place of a word of a block, where its base stands
pub record TakesBase (p : ProgramView) (g : GraphView) (w v : Word) : Type 0 where
  pub block : Block
  pub among : Has g.blocks block
  pub inside : Has (block_words block) w
  pub instr : Instr
  pub base : ℕ
  pub target : Target
  pub becomes : v ≡ record { at = w.at; act = act.UseGp instr base target }
  pub stands :
      (s : Shape) → Has (lifted_shapes p) s → block.label ≡ s.label → HasStandingBase s block w.at base

-- what becomes of a word
pub data Becomes (p : ProgramView) (g : GraphView) (w v : Word) : Type 0 where
  stays : w ≡ v → Becomes p g w v
  baseless : NeedsNoBase g v → Becomes p g w v
  based : TakesBase p g w v → Becomes p g w v

-- a branch and a word as it stands need none
pub branch_baseless : (g : GraphView) (v : Word) (k : BrOp) (ra : ℕ) (q : Place) → v.act ≡ act.To k ra q → NeedsNoBase g v
branch_baseless g v k ra q e = (λ i gp t a. no_use i gp t (sym e ∙ a), λ h. absurd (subst (λ (x : Act). IsIdle x) e h))
  where
    no_use : (i : Instr) (gp : ℕ) (t : Target) → act.To k ra q ≡ act.UseGp i gp t → ⊥
    no_use i gp t a = cc

pub plain_baseless : (g : GraphView) (v : Word) (j : Instr) → v.act ≡ act.Plain j → NeedsNoBase g v
plain_baseless g v j e = (λ i gp t a. no_use i gp t (sym e ∙ a), λ h. absurd (subst (λ (x : Act). IsIdle x) e h))
  where
    no_use : (i : Instr) (gp : ℕ) (t : Target) → act.Plain j ≡ act.UseGp i gp t → ⊥
    no_use i gp t a = cc

module _ (p : ProgramView) (prog : IsProgram p) (old new : GraphView) (of : IsGraphOf p old) (f : Word → Option Word) (all : words new ≡ each_word f (words old)) where
  from : (v : Word) → Has (words new) v → (w : Word) × Has (words old) w × (f w ≡ Some v)
  from v h = each_from f (words old) v (subst (λ (l : List Word). Has l v) all h)

  still_has : (w v : Word) → Has (words old) w → f w ≡ Some v → Has (words new) v
  still_has w v h e = subst (λ (l : List Word). Has l v) (sym all) (each_has f (words old) w v h e)

  ordered : Ordered (words old)
  ordered = all_ordered old.blocks (placed old of.graph of.form (words_in_place p prog old of))

  -- ---- bases

  module _ (keeps : Keeps p old new) (then : IsGraphOf p new) (becomes : (w v : Word) → Has (words old) w → f w ≡ Some v → Becomes p old w v) where
    gains : BasesStand p old → GainsStand p old new
    gains stand = record { fewer = keeps.fewer; uses = uses; idle = idle }
      where
        some_gp : {i j : Instr} {x y : ℕ} {t u : Target} → act.UseGp i x t ≡ act.UseGp j y u → x ≡ y
        some_gp e = cc

        -- the block of the old graph in which the word stood
        the_block :
            (n : Block) (v w : Word) (t : TakesBase p old w v) (b : Block) (s : Shape) → Has new.blocks n → Has (block_words n) v → Has old.blocks b → Has (lifted_shapes p) s →
            b.label ≡ s.label → n.label ≡ s.label → t.block ≡ b
        the_block n v w t b s hn hv hb hs eb en =
            let c = old_word p prog old new of then keeps.fewer s n v hs hn en hv in
            let at : v.at ≡ w.at = ap (λ (x : Word). x.at) t.becomes in
            let same : c.word ≡ w = unique (words old) w c.word ordered (in_all old.blocks t.block w t.among t.inside) (in_all old.blocks c.block c.word c.among c.has) (c.place ∙ at) in
            let one = ends.one_block old.blocks t.block c.block w ordered t.among c.among t.inside (subst (λ (x : Word). Has (block_words c.block) x) same c.has) in
            one ∙ one_block old.blocks c.block b of.graph.blocks c.among hb (c.of_shape.label ∙ sym eb)

        uses :
            (n : Block) (v : Word) (i : Instr) (gp : ℕ) (t : Target) → Has new.blocks n → Has (block_words n) v → v.act ≡ act.UseGp i gp t →
            Has (words old) v
            ⊎ ((b : Block) (s : Shape) → Has old.blocks b → Has (lifted_shapes p) s → b.label ≡ s.label → n.label ≡ s.label → HasStandingBase s b v.at gp)
        uses n v i gp t hn hv a = by_word (becomes r.0 v r.1 r.2)
          where
            r : (w : Word) × Has (words old) w × (f w ≡ Some v)
            r = from v (in_all new.blocks n v hn hv)

            by_word :
                Becomes p old r.0 v →
                Has (words old) v
                ⊎ ((b : Block) (s : Shape) → Has old.blocks b → Has (lifted_shapes p) s → b.label ≡ s.label → n.label ≡ s.label → HasStandingBase s b v.at gp)
            by_word (stays e) = inl (subst (λ (x : Word). Has (words old) x) e r.1)
            by_word (baseless q) = absurd (q.0 i gp t a)
            by_word (based k) = inr (λ b s hb hs eb en.
                let same = the_block n v r.0 k b s hn hv hb hs eb en in
                let reg : k.base ≡ gp = some_gp (sym (ap (λ (x : Word). x.act) k.becomes) ∙ a) in
                let d = k.stands s hs (ap (λ (x : Block). x.label) same ∙ eb) in
                subst (λ (x : ℕ). HasStandingBase s b v.at x) reg (subst (λ (q : Place). HasStandingBase s b q k.base) (sym (ap (λ (x : Word). x.at) k.becomes)) (subst (λ (x : Block). HasStandingBase s x r.0.at k.base) same d)))

        idle : (n : Block) (v : Word) → Has new.blocks n → Has (block_words n) v → IsIdle v.act → Has (words old) v ⊎ IsTextsLast old v.at
        idle n v hn hv a = by_word (becomes r.0 v r.1 r.2)
          where
            r : (w : Word) × Has (words old) w × (f w ≡ Some v)
            r = from v (in_all new.blocks n v hn hv)

            by_word : Becomes p old r.0 v → Has (words old) v ⊎ IsTextsLast old v.at
            by_word (stays e) = inl (subst (λ (x : Word). Has (words old) x) e r.1)
            by_word (baseless q) = inr (q.1 a)
            by_word (based k) = absurd (subst (λ (x : Act). IsIdle x) (ap (λ (x : Word). x.act) k.becomes) a)

    pub bases_stay : BasesStand p old → BasesStand p new
    bases_stay stand = bases_kept p prog old new of then (gains stand) stand

  -- ---- what is kept

  same_bools : (a b : Bool) → (a ≡ true → b ≡ true) → (b ≡ true → a ≡ true) → a ≡ b
  same_bools true b f g = sym (f refl)
  same_bools false true f g = g refl
  same_bools false false f g = refl

  module _ (places : (w v : Word) → Has (words old) w → f w ≡ Some v → v.at ≡ w.at) where
    was_kept : (q : Place) → is_kept new q ≡ true → (w v : Word) × Has (words old) w × (f w ≡ Some v) × (w.at ≡ q)
    was_kept q h =
        let k = kept_word (words new) q h in
        let r = from k.word k.among in
        (r.0, k.word, r.1, r.2, sym (places r.0 k.word r.1 r.2) ∙ k.place)

    now_kept : (q : Place) (w v : Word) → Has (words old) w → f w ≡ Some v → w.at ≡ q → is_kept new q ≡ true
    now_kept q w v h e a =
        subst (λ (x : Place). is_kept new x ≡ true) (places w v h e ∙ a) (has_kept (words new) v (still_has w v h e))

    -- where no word goes
    pub same_kept : ((w : Word) → Has (words old) w → f w ≡ None → ⊥) → (q : Place) → is_kept new q ≡ is_kept old q
    same_kept none q = same_bools (is_kept new q) (is_kept old q) back forth
      where
        back : is_kept new q ≡ true → is_kept old q ≡ true
        back h = let k = was_kept q h in subst (λ (x : Place). is_kept old x ≡ true) k.4 (has_kept (words old) k.0 k.2)

        by_word : (w : Word) (o : Option Word) → Has (words old) w → w.at ≡ q → f w ≡ o → is_kept new q ≡ true
        by_word w None h a e = absurd (none w h e)
        by_word w (Some v) h a e = now_kept q w v h e a

        forth : is_kept old q ≡ true → is_kept new q ≡ true
        forth h = let k = kept_word (words old) q h in by_word k.word (f k.word) k.among k.place refl

    pub pairs_same : ((w : Word) → Has (words old) w → f w ≡ None → ⊥) → PairsWhole p old → PairsWhole p new
    pairs_same none whole = record {
      low = λ s hi lo hs c k. same_kept none hi ∙ whole.low s hi lo hs c (sym (same_kept none lo) ∙ k);
      high = λ s hi lo hs c k. same_kept none lo ∙ whole.high s hi lo hs c (sym (same_kept none hi) ∙ k);
    }

    -- where some go
    pub less_by :
        (Gone : Place → Type 0) → ((w v : Word) → Has (words old) w → f w ≡ Some v → Gone w.at → ⊥) →
        ((w : Word) → Has (words old) w → f w ≡ None → Gone w.at) → IsLess old new Gone
    less_by Gone left gone = (back, forth)
      where
        back : (q : Place) → is_kept new q ≡ true → (is_kept old q ≡ true) × (Gone q → ⊥)
        back q h =
            let k = was_kept q h in
            (subst (λ (x : Place). is_kept old x ≡ true) k.4 (has_kept (words old) k.0 k.2), λ n. left k.0 k.1 k.2 k.3 (subst (λ (x : Place). Gone x) (sym k.4) n))

        by_word : (q : Place) (w : Word) (o : Option Word) → Has (words old) w → w.at ≡ q → f w ≡ o → (is_kept new q ≡ true) ⊎ Gone q
        by_word q w None h a e = inr (subst (λ (x : Place). Gone x) a (gone w h e))
        by_word q w (Some v) h a e = inl (now_kept q w v h e a)

        forth : (q : Place) → is_kept old q ≡ true → (is_kept new q ≡ true) ⊎ Gone q
        forth q h = let k = kept_word (words old) q h in by_word q k.word (f k.word) k.among k.place refl

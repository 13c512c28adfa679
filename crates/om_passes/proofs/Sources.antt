-- The words of the program of kept words: what stands at a place of it, and what a kept word was.
use Rattle.std.proofs.Common.{◌≡◌, ℕ, true, List, Option, Some, None, refl, sym, ap, ◌∙◌, subst, inl, inr, ◌+◌, ◌*◌, ◌/◌, ◌%◌, ◌==◌, Bool, false, cond, [], ◌∷◌, length, arith, ◌&&◌}
use Rattle.std.specs.Prelude.{slice_get, option_map, option_and_then, slice_index_or, is_some, count_by}
use Rattle.om_isa.specs.declared.instr.Instr.{Instr}
use Rattle.om_value.specs.declared.value.Place.{Place}
use Rattle.om_prog.specs.declared.item.Item.{Item}
use Rattle.om_prog.specs.Act.{Word, Act, act_writes}
use Rattle.om_prog.specs.View.{ProgramView, item_at, is_word}
use Rattle.om_prog.specs.Script.{program_fetch}
use Rattle.om_prog.specs.Valid.{IsProgram, fits, is_low_of}
use Rattle.om_graph.specs.View.{Block, GraphView, Has, Shape}
use Rattle.om_graph.specs.Run.{block_words, rev_onto, shape_words}
use Rattle.om_graph.specs.OfProgram.{IsGraphOf, IsForm, as_was, near, number, far, by_gp, by_high, byte, called, direct, IsFollowed, IsBlockOf}
use Rattle.om_graph.proofs.Labels.{equal_places}
use Rattle.om_graph.proofs.LiftedWords.{item_word}
use Rattle.om_passes.proofs.Origins.{source_of, label_apart, shape_object}
use Rattle.std.proofs.lemmas.Bool.{true≢false, eqb-true}
use Rattle.om_prog.specs.Step.{next_place}
use Rattle.om_prog.specs.Flow.{Among}
use Rattle.om_graph.specs.Form.{text_size}
use Rattle.om_graph.specs.Uses.{IsTextsLast, Between, NoneWrites, with_literal}
use Rattle.om_graph.proofs.OfProgram.{index_below, count_is}
use Rattle.om_isa.specs.declared.instr.MemOp.TheVariants.{Lda, Ldq, Ldah, Ldbu, LdqU, Ldwu, Stw, Stb, StqU, Ldl, Stl, Stq}
use Rattle.om_isa.specs.declared.instr.Instr.TheVariants.{Mem, Jump, Branch, Alu, Cmov, Misc, Fnop, Halt, Callsys}
use Rattle.om_value.specs.declared.value.Target.{Target}
use Rattle.om_prog.specs.Act as act
use Rattle.om_isa.specs.declared.instr.Opnd.TheVariants.{R, Lit as Literal}
use Rattle.om_isa.specs.Registers.{regs_written}
use Rattle.om_graph.specs.Lifted.{lifted_shapes}
use Rattle.om_passes.proofs.Betweens.{mid_in, first_before, before_last, in_mid}
use Rattle.om_passes.proofs.Locals.{source_ordered, block_ordered, block_object}
use Rattle.om_prog.specs.declared.item.Role.TheVariants as role

pub some_item : (p : ProgramView) (q : Place) (w : Word) → program_fetch p q ≡ Some w → (item : Item) × (item_at p q ≡ Some item) × (item_word q item ≡ w)
some_item p q w e = by_item (item_at p q) refl e
  where
    by_item : (o : Option Item) → item_at p q ≡ o → option_map (λ i. item_word q i) o ≡ Some w → (item : Item) × (item_at p q ≡ Some item) × (item_word q item ≡ w)
    by_item None h e = cc
    by_item (Some item) h e = (item, h, cc)

pub fetched_at : (p : ProgramView) (q : Place) (w : Word) → program_fetch p q ≡ Some w → w.at ≡ q
fetched_at p q w e = sym (ap (λ (x : Word). x.at) (some_item p q w e).2)

-- a word of a list with those before it and behind it
pub split_at : (acc ws : List Word) (w : Word) → Has ws w → (bf rest : List Word) × (rev_onto bf (w ∷ rest) ≡ rev_onto acc ws)
split_at acc [] w h = absurd h
split_at acc (x ∷ ws) w (inl e) = (acc, ws, ap (λ (y : Word). rev_onto acc (y ∷ ws)) (sym e))
split_at acc (x ∷ ws) w (inr h) = split_at (x ∷ acc) ws w h

-- ---- the last word of a text

-- a place of a word is in a text
pub in_text : (p : ProgramView) (q : Place) (item : Item) → item_at p q ≡ Some item → (text : List Item) × (slice_get p.texts q.obj ≡ Some text) × (slice_get text (q.off / 4) ≡ Some item) × (q.off % 4 ≡ 0)
in_text p q item h = by_off (q.off % 4 == 0) refl h
  where
    by_text : (o : Option (List Item)) → slice_get p.texts q.obj ≡ o → option_and_then (λ text. slice_get text (q.off / 4)) o ≡ Some item → (text : List Item) × (slice_get p.texts q.obj ≡ Some text) × (slice_get text (q.off / 4) ≡ Some item)
    by_text None e h = cc
    by_text (Some text) e h = (text, e, h)

    by_off : (b : Bool) → (q.off % 4 == 0) ≡ b → cond b (option_and_then (λ text. slice_get text (q.off / 4)) (slice_get p.texts q.obj)) None ≡ Some item → (text : List Item) × (slice_get p.texts q.obj ≡ Some text) × (slice_get text (q.off / 4) ≡ Some item) × (q.off % 4 ≡ 0)
    by_off true a h = let t = by_text (slice_get p.texts q.obj) refl h in (t.0, t.1, t.2, eqb-true (q.off % 4) 0 a)
    by_off false a h = cc

some_of : {A : Type 0} (o : Option A) → is_some o ≡ true → (x : A) × (o ≡ Some x)
some_of None e = absurd (true≢false (sym e))
some_of (Some x) e = (x, refl)

pub not_both : (p : ProgramView) (g : GraphView) (of : IsGraphOf p g) (q : Place) → IsTextsLast g q → IsFollowed p q → ⊥
not_both p g of q last followed =
    let s = some_of (item_at p (next_place q)) followed in
    let t = in_text p (next_place q) s.0 s.1 in
    let below = index_below t.0 ((q.off + 4) / 4) s.0 t.2 in
    let even : (q.off + 4) % 4 ≡ 0 = t.3 in
    let size : text_size g q.obj ≡ 4 * length t.0 = ap (λ (c : List ℕ). 4 * slice_index_or c q.obj 0) of.counts ∙ ap (λ (n : ℕ). 4 * n) (count_is p.texts q.obj t.0 t.1) in
    let l : q.off + 4 ≡ 4 * length t.0 = last ∙ size in
    omega (arith, below, even, l)

pub lit_source : (p : ProgramView) (ws : List Word) (w : Word) (a : Act) (ra rb : ℕ) (t : Target) → IsForm p ws w a → a ≡ act.Lit ra rb t → w.act ≡ act.Lit ra rb t
lit_source p ws w a ra rb t (as_was e) l = sym e ∙ l
lit_source p ws w a ra rb t (near rc rd x region h e) l = cc
lit_source p ws w a ra rb t (number rc rd n h e) l = cc
lit_source p ws w a ra rb t (far rc rd x region h e) l = cc
lit_source p ws w a ra rb t (by_gp load s rc x region i z u h b k e) l = cc
lit_source p ws w a ra rb t (by_high load s rc x region i z u h b k e) l = cc
lit_source p ws w a ra rb t (byte load s rc x region i u h b k e) l = cc
lit_source p ws w a ra rb t (called rc to too h c e) l = cc
lit_source p ws w a ra rb t (direct rc to too k c e) l = cc

literal_writes : (n : ℕ) (i : Instr) → regs_written (with_literal n i) ≡ regs_written i
literal_writes n (Mem o ra rb d) = refl
literal_writes n (Jump k ra rb h) = refl
literal_writes n (Branch o ra d) = refl
literal_writes n (Alu o ra (R rb) rc) = refl
literal_writes n (Alu o ra (Literal m) rc) = refl
literal_writes n (Cmov c ra rb rc) = refl
literal_writes n (Misc o ra rb) = refl
literal_writes n Fnop = refl
literal_writes n Halt = refl
literal_writes n Callsys = refl

-- a word writes what its word of the program wrote
pub form_writes : (p : ProgramView) (ws : List Word) (w : Word) (a : Act) → IsForm p ws w a → act_writes a ≡ act_writes w.act
form_writes p ws w a (as_was e) = ap act_writes e
form_writes p ws w a (near ra rb x r l e) = ap act_writes e ∙ sym (ap act_writes l)
form_writes p ws w a (number ra rb n l e) = ap act_writes e ∙ sym (ap act_writes l)
form_writes p ws w a (far ra rb x r l e) = ap act_writes e ∙ sym (ap act_writes l)
form_writes p ws w a (by_gp load r rb x region i z u l s b e) = ap act_writes e ∙ sym (ap act_writes s)
form_writes p ws w a (by_high load r rb x region i z u l s b e) = ap act_writes e ∙ sym (ap act_writes s)
form_writes p ws w a (byte load r rb x region i u l s b e) = ap act_writes e ∙ literal_writes _ i ∙ sym (ap act_writes s)
form_writes p ws w a (called ra q to s c e) = ap act_writes e ∙ sym (ap act_writes s)
form_writes p ws w a (direct ra q to k c e) = ap act_writes e ∙ sym (ap act_writes k.jumps)

pub same_fields : (w : Word) (q : Place) (a : Act) → w.at ≡ q → w.act ≡ a → w ≡ record { at = q; act = a }
same_fields w q a e f = ap (λ (x : Place). record { at = x; act = w.act }) e ∙ ap (λ (x : Act). record { at = q; act = x }) f

module _ (p : ProgramView) (prog : IsProgram p) (g : GraphView) (of : IsGraphOf p g) where
  pub source_object : (s : Shape) → Has (lifted_shapes p) s → (x y : Word) → Has (shape_words s) x → Has (shape_words s) y → x.at.obj ≡ y.at.obj
  source_object s hs x y hx hy = shape_object p prog g of s x hs hx ∙ sym (shape_object p prog g of s y hs hy)

  -- the word of the program of a kept word of a block
  pub record SourceIn (s : Shape) (v : Word) : Type 0 where
    pub word : Word
    pub has : Has (shape_words s) word
    pub place : v.at ≡ word.at
    pub form : IsForm p (shape_words s) word v.act

  pub source_in : (s : Shape) (b : Block) (v : Word) → Has (lifted_shapes p) s → IsBlockOf p s b → Has g.blocks b → Has (block_words b) v → SourceIn s v
  source_in s b v hs k hb hv =
      let r = source_of p prog g of b v hb hv in
      let same = label_apart p prog g of r.shape s r.among hs (sym r.of_shape.label ∙ k.label) in
      subst (λ (x : Shape). SourceIn x v) same (record { word = r.word; has = r.has; place = r.place; form = r.form })

  -- what no word of the program writes between two words, no kept word does
  pub kept_unwritten :
      (s : Shape) (b : Block) (x y u v : Word) (mid kept : List Word) (r : ℕ) → Has (lifted_shapes p) s → IsBlockOf p s b → Has g.blocks b →
      Between (shape_words s) x mid y → Between (block_words b) u kept v → u.at ≡ x.at → v.at ≡ y.at → NoneWrites r mid → NoneWrites r kept
  kept_unwritten s b x y u v mid kept r hs k hb m n e f none w hw writes =
      let a = first_before (block_words b) u kept v n (block_ordered p prog g of b hb) (block_object p prog g of b hb) w hw in
      let c = before_last (block_words b) u kept v n (block_ordered p prog g of b hb) (block_object p prog g of b hb) w hw in
      let q = source_in s b w hs k hb (mid_in (block_words b) u kept v n w hw) in
      let qf = ap (λ (z : Place). z.off) q.place in
      let ef = ap (λ (z : Place). z.off) e in
      let ff = ap (λ (z : Place). z.off) f in
      none q.word
      (in_mid (shape_words s) x mid y m (source_ordered p prog g of s hs) (source_object s hs) q.word q.has (omega (arith, a, qf, ef)) (omega (arith, c, qf, ff)))
      (subst (λ (l : List ℕ). Among l r) (form_writes p (shape_words s) q.word w.act q.form) writes)

module _ (p : ProgramView) (prog : IsProgram p) where
  -- the role of a word may stand there
  pub role_fits : (q : Place) (item : Item) → item_at p q ≡ Some item → (text : List Item) × (slice_get p.texts q.obj ≡ Some text) × (fits p text q item.role item.instr ≡ true)
  role_fits q item e =
      let t = in_text p q item e in
      let k = ((prog.texts.each q.obj t.0 t.1).items.each (q.off / 4) item t.2).role in
      let even = t.3 in
      (t.0, t.1, subst (λ (x : Place). fits p t.0 x item.role item.instr ≡ true) (equal_places (record { obj = q.obj; off = 4 * (q.off / 4) }) q refl (omega (arith, even))) k)

  pub high_fits : (text : List Item) (q base : Place) (i : Instr) → fits p text q (role.GpHi base) i ≡ true → (is_word p base && (count_by (is_low_of q) text == 1)) ≡ true
  high_fits text q base (Mem Ldah ra rb d) h = h
  high_fits text q base (Mem Lda ra rb d) h = cc
  high_fits text q base (Mem Ldbu ra rb d) h = cc
  high_fits text q base (Mem LdqU ra rb d) h = cc
  high_fits text q base (Mem Ldwu ra rb d) h = cc
  high_fits text q base (Mem Stw ra rb d) h = cc
  high_fits text q base (Mem Stb ra rb d) h = cc
  high_fits text q base (Mem StqU ra rb d) h = cc
  high_fits text q base (Mem Ldl ra rb d) h = cc
  high_fits text q base (Mem Ldq ra rb d) h = cc
  high_fits text q base (Mem Stl ra rb d) h = cc
  high_fits text q base (Mem Stq ra rb d) h = cc
  high_fits text q base (Jump k ra rb d) h = cc
  high_fits text q base (Branch o ra d) h = cc
  high_fits text q base (Alu o ra rb rc) h = cc
  high_fits text q base (Cmov k ra rb rc) h = cc
  high_fits text q base (Misc o ra rb) h = cc
  high_fits text q base Fnop h = cc
  high_fits text q base Halt h = cc
  high_fits text q base Callsys h = cc

  pub both : (a b : Bool) → (a && b) ≡ true → (a ≡ true) × (b ≡ true)
  both true b h = (refl, h)
  both false b h = absurd (true≢false (sym h))

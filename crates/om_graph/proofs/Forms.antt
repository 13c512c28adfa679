-- What the forms of words give: no target that came from a load is a place in code, and no half of a pair ends a block.
use Rattle.std.proofs.Common.{◌≡◌, ◌⊎◌, inl, inr, ◌+◌, ◌&&◌, ◌||◌, ◌==◌, Bool, true, false, List, Option, Some, refl, sym, ap, ◌∙◌, subst}
use Rattle.std.proofs.lemmas.Bool.{true≢false, eqb-true}
use Rattle.om_isa.specs.declared.instr.Instr.{Instr}
use Rattle.om_isa.specs.declared.instr.Instr.TheVariants.{Mem, Jump, Branch, Alu, Cmov, Misc, Fnop, Halt, Callsys}
use Rattle.om_value.specs.declared.value.Place.{Place}
use Rattle.om_prog.specs.declared.item.Item.{Item}
use Rattle.om_prog.specs.declared.item.Role.{Role}
use Rattle.om_prog.specs.declared.item.Role.TheVariants as role
use Rattle.om_prog.specs.Act as act
use Rattle.om_prog.specs.Act.{Act, Word}
use Rattle.om_prog.specs.View.{ProgramView, item_at}
use Rattle.om_prog.specs.Script.{act_of}
use Rattle.om_prog.specs.Step.{next_place}
use Rattle.om_prog.specs.Valid.{fits, IsProgram}
use Rattle.om_graph.specs.declared.op.Op.{Op}
use Rattle.om_graph.specs.declared.op.OpKind.{OpKind}
use Rattle.om_graph.specs.declared.op.OpKind.TheVariants as op
use Rattle.om_graph.specs.declared.op.Last.{Last}
use Rattle.om_graph.specs.declared.op.Last.TheVariants.{Fall, Off, Br, Cond, Call, CallBy, JumpBy}
use Rattle.om_graph.specs.View.{Block, Shape, GraphView, Has, ops_of}
use Rattle.om_graph.specs.Run.{op_word, op_act, last_words, cond_act}
use Rattle.om_graph.specs.Form.{HasNoCode, HasNoCodes}
use Rattle.om_graph.specs.Kept.{KeptInBlocks}
use Rattle.om_graph.specs.Landing.{is_opening_pair, are_halves, of_role, is_high_half, is_low_half}
use Rattle.om_graph.specs.LeftIn.{in_pair}
use Rattle.om_graph.specs.Pairs.{last_place, PairsApart}
use Rattle.om_graph.specs.Whole.{IsWhole}
use Rattle.om_graph.specs.OfProgram.{IsForm, as_was, near, number, far, by_gp, by_high, byte, called, direct, IsGraphOf}
use Rattle.om_graph.proofs.Labels.{append_left, append_right, equal_places}
use Rattle.om_graph.proofs.Places.{no_codes}
use Rattle.om_graph.proofs.LiftedCases.{each_act}
use Rattle.om_graph.proofs.OfProgram.{shape_at, block_shape, word_from, shape_word, to_map, words_in_place}

-- ---- acts that a program has

act_none : (r : Role) (i : Instr) → no_codes (act_of r i)
act_none r i = each_act no_codes (λ i. tt) (λ ra rb t. tt) (λ ra rb base. tt) (λ ra rb hi. tt) (λ o ra q. tt) tt r i

form_none : (p : ProgramView) (ws : List Word) (w : Word) (a : Act) → IsForm p ws w a → no_codes w.act → no_codes a
form_none p ws w a (as_was e) n = subst (λ (x : Act). no_codes x) (sym e) n
form_none p ws w a (near ra rb x r s e) n = subst (λ (x : Act). no_codes x) (sym e) tt
form_none p ws w a (number ra rb m s e) n = subst (λ (x : Act). no_codes x) (sym e) tt
form_none p ws w a (far ra rb x r s e) n = subst (λ (x : Act). no_codes x) (sym e) tt
form_none p ws w a (by_gp load r rb x region i z u l s b e) n = subst (λ (x : Act). no_codes x) (sym e) tt
form_none p ws w a (by_high load r rb x region i z u l s b e) n = subst (λ (x : Act). no_codes x) (sym e) tt
form_none p ws w a (byte load r rb x region i u l s b e) n = subst (λ (x : Act). no_codes x) (sym e) tt
form_none p ws w a (called ra q to s c e) n = subst (λ (x : Act). no_codes x) (sym e) tt
form_none p ws w a (direct ra q to k c e) n = subst (λ (x : Act). no_codes x) (sym e) tt

kind_none : (ops : List Op) (k : OpKind) → no_codes (op_act ops k) → HasNoCode k
kind_none ops (op.Plain i) n = tt
kind_none ops (op.Lit ra rb t) n = tt
kind_none ops (op.AddrLda ra rb t) n = n
kind_none ops (op.AddrHi ra rb t least) n = n
kind_none ops (op.UseLo i hi) n = tt
kind_none ops (op.UseGp i gp t) n = n
kind_none ops (op.GpHi ra rb base) n = tt
kind_none ops (op.GpLo ra rb hi) n = tt

-- ---- halves

IsHalfRole : Role → Type 0
IsHalfRole (role.GpHi base) = Unit {0}
IsHalfRole (role.GpLo hi) = Unit {0}
IsHalfRole _ = ⊥

abbrev IsHalf : Act → Type 0
IsHalf (act.GpHi ra rb base) = Unit {0}
IsHalf (act.GpLo ra rb hi) = Unit {0}
IsHalf _ = ⊥

abbrev EndsBlock : Act → Type 0
EndsBlock (act.Plain i) = Unit {0}
EndsBlock (act.To op ra to) = Unit {0}
EndsBlock act.Wrong = Unit {0}
EndsBlock _ = ⊥

half_act : (p : ProgramView) (text : List Item) (at : Place) (r : Role) (i : Instr) → IsHalfRole r → fits p text at r i ≡ true → IsHalf (act_of r i)
unfolding IsHalfRole
half_act p text at (role.GpHi base) (Mem o ra rb d) h f = tt
half_act p text at (role.GpLo hi) (Mem o ra rb d) h f = tt
half_act p text at (role.GpHi base) (Jump k ra rb x) h f = absurd (true≢false (sym f))
half_act p text at (role.GpHi base) (Branch o ra d) h f = absurd (true≢false (sym f))
half_act p text at (role.GpHi base) (Alu o ra rb rc) h f = absurd (true≢false (sym f))
half_act p text at (role.GpHi base) (Cmov k ra rb rc) h f = absurd (true≢false (sym f))
half_act p text at (role.GpHi base) (Misc o ra rb) h f = absurd (true≢false (sym f))
half_act p text at (role.GpHi base) Fnop h f = absurd (true≢false (sym f))
half_act p text at (role.GpHi base) Halt h f = absurd (true≢false (sym f))
half_act p text at (role.GpHi base) Callsys h f = absurd (true≢false (sym f))
half_act p text at (role.GpLo hi) (Jump k ra rb x) h f = absurd (true≢false (sym f))
half_act p text at (role.GpLo hi) (Branch o ra d) h f = absurd (true≢false (sym f))
half_act p text at (role.GpLo hi) (Alu o ra rb rc) h f = absurd (true≢false (sym f))
half_act p text at (role.GpLo hi) (Cmov k ra rb rc) h f = absurd (true≢false (sym f))
half_act p text at (role.GpLo hi) (Misc o ra rb) h f = absurd (true≢false (sym f))
half_act p text at (role.GpLo hi) Fnop h f = absurd (true≢false (sym f))
half_act p text at (role.GpLo hi) Halt h f = absurd (true≢false (sym f))
half_act p text at (role.GpLo hi) Callsys h f = absurd (true≢false (sym f))
half_act p text at role.Plain i h f = absurd h
half_act p text at (role.Lit t) i h f = absurd h
half_act p text at (role.To q) i h f = absurd h

not_both : (a : Act) → IsHalf a → EndsBlock a → ⊥
not_both (act.GpHi ra rb base) h e = e
not_both (act.GpLo ra rb hi) h e = e
not_both (act.Plain i) h e = h
not_both (act.To o ra to) h e = h
not_both act.Wrong h e = h
not_both (act.Lit ra rb t) h e = h
not_both (act.AddrLda ra rb t) h e = h
not_both (act.AddrHi ra rb t) h e = h
not_both (act.UseLo i hi t) h e = h
not_both (act.UseGp i gp t) h e = h

form_half : (p : ProgramView) (ws : List Word) (w : Word) (a : Act) → IsForm p ws w a → IsHalf w.act → EndsBlock a → ⊥
form_half p ws w a (as_was e) h n = not_both w.act h (subst (λ (x : Act). EndsBlock x) e n)
form_half p ws w a (near ra rb x r s e) h n = subst (λ (x : Act). IsHalf x) s h
form_half p ws w a (number ra rb m s e) h n = subst (λ (x : Act). IsHalf x) s h
form_half p ws w a (far ra rb x r s e) h n = subst (λ (x : Act). IsHalf x) s h
form_half p ws w a (by_gp load r rb x region i z u l s b e) h n = subst (λ (x : Act). IsHalf x) s h
form_half p ws w a (by_high load r rb x region i z u l s b e) h n = subst (λ (x : Act). IsHalf x) s h
form_half p ws w a (byte load r rb x region i u l s b e) h n = subst (λ (x : Act). IsHalf x) s h
form_half p ws w a (called ra q to s c e) h n = subst (λ (x : Act). IsHalf x) s h
form_half p ws w a (direct ra q to k c e) h n = subst (λ (x : Act). IsHalf x) k.jumps h

-- the word that ends a block
record LastWord (last : Last) (q : Place) : Type 0 where
  word : Word
  among : Has (last_words last) word
  place : word.at ≡ q
  ends : EndsBlock word.act

cond_ends : (i : Instr) (to : Place) → EndsBlock (cond_act i to)
cond_ends (Branch o ra d) to = tt
cond_ends (Jump k ra rb h) to = tt
cond_ends (Mem o ra rb d) to = tt
cond_ends (Alu o ra rb rc) to = tt
cond_ends (Cmov k ra rb rc) to = tt
cond_ends (Misc o ra rb) to = tt
cond_ends Fnop to = tt
cond_ends Halt to = tt
cond_ends Callsys to = tt

last_word : (last : Last) (q : Place) → last_place last ≡ Some q → LastWord last q
last_word Fall q e = cc
last_word Off q e = cc
last_word (Br at o ra to) q e = record { word = record { at = at; act = act.To o ra to }; among = inl refl; place = cc; ends = tt }
last_word (Cond at i to) q e = record { word = record { at = at; act = cond_act i to }; among = inl refl; place = cc; ends = cond_ends i to }
last_word (Call at o ra to) q e = record { word = record { at = at; act = act.To o ra to }; among = inl refl; place = cc; ends = tt }
last_word (CallBy at i) q e = record { word = record { at = at; act = act.Plain i }; among = inl refl; place = cc; ends = tt }
last_word (JumpBy at i) q e = record { word = record { at = at; act = act.Plain i }; among = inl refl; place = cc; ends = tt }

both : (a b : Bool) → (a && b) ≡ true → (a ≡ true) × (b ≡ true)
both true b h = (refl, h)
both false b h = absurd (true≢false (sym h))

either : (a b : Bool) → (a || b) ≡ true → (a ≡ true) ⊎ (b ≡ true)
either true b h = inl refl
either false b h = inr h

high_role : (r : Role) → is_high_half r ≡ true → IsHalfRole r
unfolding IsHalfRole
high_role (role.GpHi base) h = tt
high_role role.Plain h = absurd (true≢false (sym h))
high_role (role.Lit t) h = absurd (true≢false (sym h))
high_role (role.GpLo hi) h = tt
high_role (role.To q) h = absurd (true≢false (sym h))

low_role : (hi : Place) (r : Role) → is_low_half hi r ≡ true → IsHalfRole r
unfolding IsHalfRole
low_role hi (role.GpLo q) h = tt
low_role hi role.Plain h = absurd (true≢false (sym h))
low_role hi (role.Lit t) h = absurd (true≢false (sym h))
low_role hi (role.GpHi base) h = tt
low_role hi (role.To q) h = absurd (true≢false (sym h))

-- an item at one of the two places is a half
half_of : (p : ProgramView) (hi lo q : Place) (i : Item) → are_halves p hi lo ≡ true → (q ≡ hi) ⊎ (q ≡ lo) → item_at p q ≡ Some i → IsHalfRole i.role
half_of p hi lo q i h (inl e) f =
    high_role i.role (sym (ap (λ (o : Option Item). of_role is_high_half o) (ap (λ (x : Place). item_at p x) (sym e) ∙ f)) ∙ (both _ _ h).0)
half_of p hi lo q i h (inr e) f =
    low_role hi i.role (sym (ap (λ (o : Option Item). of_role (is_low_half hi) o) (ap (λ (x : Place). item_at p x) (sym e) ∙ f)) ∙ (both _ _ h).1)

module _ (p : ProgramView) (prog : IsProgram p) (g : GraphView) (of : IsGraphOf p g) where
  pub none_coded : HasNoCodes g
  none_coded = record { none = at_op }
    where
      at_op : (b : Block) (o : Op) → Has g.blocks b → Has (ops_of b) o → HasNoCode o.kind
      at_op b o hb ho =
          let m = append_left _ (last_words b.last) _ (to_map (op_word (ops_of b)) (ops_of b) o ho) in
          let r = word_from p prog g of b hb (op_word (ops_of b) o) m in
          let w = shape_word p prog (shape_at p prog g of b hb) (block_shape p prog g of b hb) r.word r.among in
          kind_none (ops_of b) o.kind
          (form_none p _ r.word (op_act (ops_of b) o.kind) r.form (subst (λ (x : Word). no_codes x.act) w.word (act_none w.item.role w.item.instr)))

  is_false : (b : Bool) → (b ≡ true → ⊥) → b ≡ false
  is_false true f = absurd (f refl)
  is_false false f = refl

  -- one of the two places of a pair
  of_pair : (l q : Place) → in_pair l q ≡ true → (q ≡ l) ⊎ (q ≡ next_place l)
  of_pair l q h = by_off (either _ _ (both _ _ h).1)
    where
      same : q.obj ≡ l.obj
      same = eqb-true _ _ (both _ _ h).0

      by_off : ((q.off == l.off) ≡ true) ⊎ ((q.off == l.off + 4) ≡ true) → (q ≡ l) ⊎ (q ≡ next_place l)
      by_off (inl e) = inl (equal_places q l same (eqb-true _ _ e))
      by_off (inr e) = inr (equal_places q (next_place l) same (eqb-true _ _ e))

  swapped : {A B : Type 0} → A ⊎ B → B ⊎ A
  swapped (inl a) = inr a
  swapped (inr b) = inl b

  half_there : (l q : Place) (i : Item) → is_opening_pair p l ≡ true → in_pair l q ≡ true → item_at p q ≡ Some i → IsHalfRole i.role
  half_there l q i o h f = by_order (either _ _ (both _ _ (both _ _ o).0).0)
    where
      by_order : (are_halves p l (next_place l) ≡ true) ⊎ (are_halves p (next_place l) l ≡ true) → IsHalfRole i.role
      by_order (inl a) = half_of p l (next_place l) q i a (of_pair l q h) f
      by_order (inr a) = half_of p (next_place l) l q i a (swapped (of_pair l q h)) f

  pub opening_is : (b : Block) (h : Has g.blocks b) → b.opening ≡ true → is_opening_pair p b.label ≡ true
  opening_is b h e =
      let s = shape_at p prog g of b h in
      let i = block_shape p prog g of b h in
      let k = (of.blocks b h).2 in
      let l = k.label ∙ sym (ap (λ (y : Shape). y.label) i.shape) in
      ap (λ (x : Place). is_opening_pair p x) l ∙ ap (λ (y : Shape). y.opening) i.shape ∙ sym k.opening ∙ e

  pub pairs_apart : PairsApart g
  pairs_apart = record { apart = λ b n q hb hn o e. is_false _ (λ h. never b n q hb hn o e h) }
    where
      never : (b n : Block) (q : Place) → Has g.blocks b → Has g.blocks n → b.opening ≡ true → last_place n.last ≡ Some q → in_pair b.label q ≡ true → ⊥
      never b n q hb hn o e h =
          let u = last_word n.last q e in
          let m = append_right _ (last_words n.last) u.word u.among in
          let r = word_from p prog g of n hn u.word m in
          let w = shape_word p prog (shape_at p prog g of n hn) (block_shape p prog g of n hn) r.word r.among in
          let there = subst (λ (x : Place). item_at p x ≡ Some w.item) (sym r.place ∙ u.place) w.there in
          let half = half_there b.label q w.item (opening_is b hb o) h there in
          form_half p _ r.word u.word.act r.form
          (subst (λ (x : Word). IsHalf x.act) w.word (half_act p w.stands.0 r.word.at w.item.role w.item.instr half w.stands.1))
          u.ends

  -- a graph of a program whose kept set lies within its kept blocks is whole
  pub whole_of : KeptInBlocks g → IsWhole p g
  whole_of kept = record {
    graph = of.graph;
    roots = of.roots;
    form = of.form;
    codes = none_coded;
    places = words_in_place p prog g of;
    kept = kept;
  }

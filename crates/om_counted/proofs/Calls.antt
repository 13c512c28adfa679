-- Where a word that a graph keeps as a BSR went in the run of the lifted graph.
use Rattle.std.proofs.Common.{◌≡◌, ◌⊎◌, inl, inr, ℕ, zero, suc, ◌≤◌, ◌<◌, Bool, true, false, cond, ◌==◌, List, [], ◌∷◌, ◌++◌, Some, None, refl, sym, ap, ◌∙◌, subst, arith}
use Rattle.std.proofs.lemmas.Bool.{true≢false, eqb-true, eq-eqb}
use Rattle.om_isa.specs.declared.instr.BrOp.TheVariants.{Bsr}
use Rattle.om_isa.specs.declared.instr.JumpOp.TheVariants.{Jsr}
use Rattle.om_isa.specs.declared.instr.Instr.{Instr}
use Rattle.om_isa.specs.declared.instr.Instr.TheVariants.{Jump as Jumps}
use Rattle.om_value.specs.declared.value.Place.{Place}
use Rattle.om_value.specs.declared.value.Value.{Value}
use Rattle.om_value.specs.declared.value.Value.TheVariants.{Code, Gp}
use Rattle.om_value.specs.declared.value.Target.{Target}
use Rattle.om_value.specs.declared.value.Target.TheVariants as target
use Rattle.om_prog.specs.Act.{Act, Plain, Lit, GpHi, GpLo, To, AddrLda, AddrHi, UseLo, UseGp, Wrong, Word, Script, act_writes}
use Rattle.om_prog.specs.View.{ProgramView}
use Rattle.om_prog.specs.Script.{program_fetch}
use Rattle.om_prog.specs.Valid.{IsProgram}
use Rattle.om_prog.specs.Facts.{has}
use Rattle.om_prog.specs.Flow.{Among}
use Rattle.om_prog.specs.Values.{Values, no_values, loaded, HoldsValues, ValueFlows}
use Rattle.om_prog.specs.Step.{SymState, read_reg, after, act_effect, jump_effect}
use Rattle.om_prog.specs.Runs.{sym_run, sym_start, step_word}
use Rattle.om_prog.proofs.Values.{values_step}
use Rattle.om_graph.specs.View.{Block, Shape, GraphView, Has, InPlaceOrder, shape_of}
use Rattle.om_graph.specs.Held.{label_list}
use Rattle.om_graph.specs.Run.{block_words, shape_words, graph_script, rev_onto}
use Rattle.om_graph.specs.Form.{InPlace, Ordered}
use Rattle.om_graph.specs.Kept.{IsInKeptSet, IsKeptLanding}
use Rattle.om_graph.specs.Lifted.{IsLifted, lifted_shapes}
use Rattle.om_graph.specs.OfProgram.{IsForm, as_was, near, number, far, by_gp, by_high, byte, called, direct, CallsTo, IsGraphOf}
use Rattle.om_graph.specs.Uses.{IsKnownCall, NoneWrites}
use Rattle.om_graph.specs.Whole.{IsWhole}
use Rattle.om_graph.proofs.Labels.{append_left, append_right, has_label, least_after, true_is, lt_off}
use Rattle.om_graph.proofs.Blocks.{InBlocks, Laws, FoundAt, found_at}
use Rattle.om_graph.proofs.Places.{jumps_last}
use Rattle.om_graph.proofs.ValuesAt.{behind, known_at, values_in, values_flows}
use Rattle.om_graph.proofs.Whole.{blocks_placed, stays_here, in_kept, entry_label, lands, run_lands}
use Rattle.om_graph.proofs.LiftedKept.{lifted_whole}
use Rattle.om_graph.proofs.LiftedCases.{each_act}
use Rattle.om_graph.proofs.OfProgram.{of_map, is_shape, shape_word, word_from, shape_at, Origin}
use Rattle.om_counted.proofs.Lists.{words_before_it, onto_parts}
use Rattle.om_counted.proofs.Runs.{d, S, Step, step_at}

-- ---- what is known behind a load and words that do not write its register

-- a register has a target, or what can be no code
pub data Known (k : Values) (r : ℕ) (q : Place) : Type 0 where
  code : k r ≡ Some (Code q) → Known k r q
  table : (t : ℕ) → k r ≡ Some (Gp t) → Known k r q

has_not : (rs : List ℕ) (r : ℕ) → (Among rs r → ⊥) → has rs r ≡ false
has_not [] r n = refl
has_not (x ∷ rs) r n = by_test (x == r) refl (has_not rs r (λ m. n (inr m)))
  where
    by_test : (b : Bool) → (x == r) ≡ b → has rs r ≡ false → has (x ∷ rs) r ≡ false
    by_test true e i = absurd (n (inl (eqb-true x r e)))
    by_test false e i = rw (e, i) refl

-- acts that a program has
abbrev IsOfProgram : Act → Type 0
IsOfProgram (AddrLda ra rb t) = ⊥
IsOfProgram (AddrHi ra rb t) = ⊥
IsOfProgram (UseLo i hi t) = ⊥
IsOfProgram (UseGp i gp t) = ⊥
IsOfProgram _ = Unit {0}

module _ (c : Script) (r : ℕ) (q : Place) where
  kept_value : (at : Place) (a : Act) (k : Values) → has (act_writes a) r ≡ false → Known k r q → loaded c at a k r ≡ cond (has (act_writes a) r) None (k r) → Known (loaded c at a k) r q
  kept_value at a k n (code e) h = code (h ∙ rw n e)
  kept_value at a k n (table t e) h = table t (h ∙ rw n e)

  past_load : (at : Place) (ra rb : ℕ) (t : Target) (k : Values) → (ra ≡ r → ⊥) → Known k r q → Known (loaded c at (Lit ra rb t) k) r q
  past_load at ra rb t k n h = by_zero (ra == 31) refl
    where
      not_own : (ra == r) ≡ false
      not_own = by_test (ra == r) refl
        where
          by_test : (b : Bool) → (ra == r) ≡ b → (ra == r) ≡ false
          by_test true e = absurd (n (eqb-true ra r e))
          by_test false e = e

      by_base : (x y : Bool) → (ra == 31) ≡ x → (rb == r) ≡ y → Known k r q → Known (loaded c at (Lit ra rb t) k) r q
      by_base true y e f (code i) = code (rw e i)
      by_base true y e f (table u i) = table u (rw e i)
      by_base false true e f i = table (c.table at.obj) (rw (e, not_own, f) refl)
      by_base false false e f (code i) = code (rw (e, not_own, f) i)
      by_base false false e f (table u i) = table u (rw (e, not_own, f) i)

      by_zero : (x : Bool) → (ra == 31) ≡ x → Known (loaded c at (Lit ra rb t) k) r q
      by_zero x e = by_base x (rb == r) e refl h

  past_act : (at : Place) (a : Act) (k : Values) → IsOfProgram a → (Among (act_writes a) r → ⊥) → Known k r q → Known (loaded c at a k) r q
  past_act at (Lit ra rb t) k o n h = past_load at ra rb t k (λ e. n (inl e)) h
  past_act at (Plain i) k o n h = kept_value at (Plain i) k (has_not (act_writes (Plain i)) r n) h refl
  past_act at (GpHi ra rb base) k o n h = kept_value at (GpHi ra rb base) k (has_not (act_writes (GpHi ra rb base)) r n) h refl
  past_act at (GpLo ra rb hi) k o n h = kept_value at (GpLo ra rb hi) k (has_not (act_writes (GpLo ra rb hi)) r n) h refl
  past_act at (To op ra to) k o n h = kept_value at (To op ra to) k (has_not (act_writes (To op ra to)) r n) h refl
  past_act at Wrong k o n h = kept_value at Wrong k (has_not (act_writes Wrong) r n) h refl
  past_act at (AddrLda ra rb t) k o n h = absurd o
  past_act at (AddrHi ra rb t) k o n h = absurd o
  past_act at (UseLo i hi t) k o n h = absurd o
  past_act at (UseGp i gp t) k o n h = absurd o

  past_words : (mid acc : List Word) → ((w : Word) → Has mid w → IsOfProgram w.act) → NoneWrites r mid → Known (behind c acc) r q → Known (behind c (rev_onto mid acc)) r q
  past_words [] acc o n h = h
  past_words (w ∷ mid) acc o n h = past_words mid (w ∷ acc) (λ x m. o x (inr m)) (λ x m. n x (inr m)) (past_act w.at w.act (behind c acc) (o w (inl refl)) (n w (inl refl)) h)

  behind_load : (load : Word) (base : ℕ) (acc : List Word) → load.act ≡ Lit r base (target.Code q) → (r ≡ 31 → ⊥) → Known (behind c (load ∷ acc)) r q
  behind_load load base acc e n = code (ap (λ a. loaded c load.at a (behind c acc) r) e ∙ own)
    where
      not_zero : (r == 31) ≡ false
      not_zero = by_test (r == 31) refl
        where
          by_test : (b : Bool) → (r == 31) ≡ b → (r == 31) ≡ false
          by_test true h = absurd (n (eqb-true r 31 h))
          by_test false h = h

      own : loaded c load.at (Lit r base (target.Code q)) (behind c acc) r ≡ Some (Code q)
      own = let i = eq-eqb r r refl in rw (not_zero, i) refl

-- ---- one block for each word

same_label : (bs : List Block) (b n : Block) → InPlaceOrder (label_list bs) → Has bs b → Has bs n → b.label ≡ n.label → b ≡ n
same_label [] b n o h m e = absurd h
same_label (x ∷ bs) b n o (inl h) (inl m) e = sym h ∙ m
same_label (x ∷ bs) b n o (inl h) (inr m) e =
    let l = o.0 n.label (has_label bs n m) in
    let s : x.label ≡ n.label = ap (λ (y : Block). y.label) h ∙ e in
    let i = lt_off x.label n.label l (ap (λ (y : Place). y.obj) (sym s)) in
    let f = ap (λ (y : Place). y.off) s in
    absurd (omega (arith, i, f))
same_label (x ∷ bs) b n o (inr h) (inl m) e =
    let l = o.0 b.label (has_label bs b h) in
    let s : x.label ≡ b.label = ap (λ (y : Block). y.label) m ∙ sym e in
    let i = lt_off x.label b.label l (ap (λ (y : Place). y.obj) (sym s)) in
    let f = ap (λ (y : Place). y.off) s in
    absurd (omega (arith, i, f))
same_label (x ∷ bs) b n o (inr h) (inr m) e = same_label bs b n o.1 h m e

module _ (g : GraphView) (labels : InPlaceOrder g.labels) (order : InPlaceOrder (label_list g.blocks)) (among : (q : Place) → Has (label_list g.blocks) q → Has g.labels q) (places : InPlace g) where
  -- no label stands between a block's and one of its words
  pub not_between : (b : Block) (w : Word) (q : Place) → Has g.blocks b → Has (block_words b) w → Has g.labels q → q.obj ≡ w.at.obj → b.label.off < q.off → q.off ≤ w.at.off → ⊥
  not_between b w q hb hw hq o l k =
      let x = places.words b w hb hw in
      let a = least_after g.labels b.label q labels hq (true_is b.label q (o ∙ x.object) l) in
      let y = x.before a.at a.found in
      let z = a.least in
      omega (arith, y, z, k)

  pub one_block : (b n : Block) (w : Word) → Has g.blocks b → Has g.blocks n → Has (block_words b) w → Has (block_words n) w → b ≡ n
  one_block b n w hb hn mb mn = by_order (b.label.off == n.label.off) refl
    where
      x : b.label.obj ≡ n.label.obj
      x = sym (places.words b w hb mb).object ∙ (places.words n w hn mn).object

      lb : b.label.off ≤ w.at.off
      lb = (places.words b w hb mb).after

      ln : n.label.off ≤ w.at.off
      ln = (places.words n w hn mn).after

      less : b.label.off < n.label.off → ⊥
      less l = not_between b w n.label hb mb (among n.label (has_label g.blocks n hn)) (sym (places.words n w hn mn).object) l ln

      more : n.label.off < b.label.off → ⊥
      more l = not_between n w b.label hn mn (among b.label (has_label g.blocks b hb)) (sym (places.words b w hb mb).object) l lb

      by_order : (t : Bool) → (b.label.off == n.label.off) ≡ t → b ≡ n
      by_order true e = same_label g.blocks b n order hb hn (Rattle.om_graph.proofs.Labels.equal_places b.label n.label x (eqb-true _ _ e))
      by_order false e = absurd (by_less (Rattle.std.proofs.lemmas.Bool.cases_lt b.label.off n.label.off))
        where
          by_less : (b.label.off < n.label.off) ⊎ (n.label.off ≤ b.label.off) → ⊥
          by_less (inl l) = less l
          by_less (inr l) = more (by_eq (Rattle.std.proofs.lemmas.Bool.cases_lt n.label.off b.label.off))
            where
              by_eq : (n.label.off < b.label.off) ⊎ (b.label.off ≤ n.label.off) → n.label.off < b.label.off
              by_eq (inl k) = k
              by_eq (inr k) = let s : b.label.off ≡ n.label.off = omega (arith, l, k) in absurd (true≢false (sym (eq-eqb b.label.off n.label.off s) ∙ e))

module _ (p : ProgramView) (prog : IsProgram p) (lifted : GraphView) (origin : IsLifted p lifted) (input : List ℕ) where
  whole : IsWhole p lifted
  whole = lifted_whole p prog lifted origin

  abbrev c : Script
  c = graph_script p lifted

  flows : ValueFlows c (IsKeptLanding lifted) (InBlocks (λ l. IsInKeptSet lifted l) lifted.blocks) (known_at c lifted.blocks)
  flows =
      values_flows c (IsKeptLanding lifted) (λ l. IsInKeptSet lifted l) lifted.blocks (blocks_placed p lifted whole)
      (jumps_last (IsKeptLanding lifted) lifted whole.form) (lands p lifted whole) (λ q. refl) (entry_label p lifted whole)

  -- what is known at a place holds of the run
  pub values_hold : (n : ℕ) → (S p prog lifted origin input (suc n)).ended ≡ None → HoldsValues (known_at c lifted.blocks (S p prog lifted origin input n).place) (S p prog lifted origin input n)
  unfolding sym_run sym_start
  values_hold zero on r v e = absurd (none_some (sym (flows.entry r) ∙ e))
    where
      none_some : None ≡ Some v → ⊥
      none_some x = cc
  values_hold (suc n) on r v e =
      let going = Rattle.om_counted.proofs.Runs.run_before p prog lifted origin input (suc n) on in
      let k = step_at p prog lifted origin input n going in
      let s = S p prog lifted origin input n in
      subst (λ (t : SymState). HoldsValues (known_at c lifted.blocks t.place) t) (sym k.next)
      (values_step c (IsKeptLanding lifted) (InBlocks (λ l. IsInKeptSet lifted l) lifted.blocks) (known_at c lifted.blocks) flows s k.word
      (run_lands p lifted whole input n) (in_kept p lifted whole s (stays_here p lifted whole input n)) k.found (λ x y h. values_hold n going x y h)) r v e

  -- ---- where calls went

  -- laws that say nothing: of values at places it is only used where they stand
  abbrev any_enter : Block → Values
  any_enter b = no_values

  abbrev any_flow : Word → Values → Values → Type 0
  any_flow w x y = Unit {0}

  abbrev any_le : Values → Values → Type 0
  any_le x y = Unit {0}

  any_laws : Laws Values (values_in c) no_values any_enter any_flow any_le
  any_laws = record { inner = λ b bf w x ws. tt; le_done = λ x. tt; flow_done = λ w x. tt; le_trans = λ x y z a b. tt; flow_le = λ w x y z a b. tt }

  record InLifted (s : Shape) : Type 0 where
    pub block : Block
    pub among : Has lifted.blocks block
    pub shape : shape_of block ≡ s

  in_lifted : (s : Shape) → Has (lifted_shapes p) s → InLifted s
  in_lifted s h =
      let r = of_map shape_of lifted.blocks s (subst (λ (l : List Shape). Has l s) (sym origin.blocks) h) in
      record { block = r.0; among = r.1; shape = r.2 }

  module _ (n : ℕ) (k : Step p prog lifted origin input n) (on : (S p prog lifted origin input (suc n)).ended ≡ None) where
    abbrev s : SymState
    s = S p prog lifted origin input n

    abbrev w : Word
    w = k.word

    on_now : (step_word c s (Some w)).ended ≡ None
    on_now = ap (λ (t : SymState). t.ended) (sym k.next) ∙ on

    bsr_goes : (a : Act) (ra : ℕ) (q : Place) → a ≡ To Bsr ra q → (after s w.at (act_effect c s w.at a)).place ≡ q
    bsr_goes a ra q e = ap (λ x. (after s w.at (act_effect c s w.at x)).place) e

    -- the value in the register of a jump
    jumped : (ra : ℕ) (v : Value) (q : Place) → v ≡ Code q → (after s w.at (jump_effect c s ra v)).ended ≡ None → (after s w.at (jump_effect c s ra v)).place ≡ q
    jumped ra v q e on = subst (λ (x : Value). (after s w.at (jump_effect c s ra x)).place ≡ q) (sym e) (by_lands (c.lands q) (subst (λ (x : Value). (after s w.at (jump_effect c s ra x)).ended ≡ None) e on))
      where
        by_lands : (b : Bool) → (after s w.at (cond b (Rattle.om_isa.specs.Effect.Jump (Some ra) q) Rattle.om_isa.specs.Effect.StepObserves)).ended ≡ None → (after s w.at (cond b (Rattle.om_isa.specs.Effect.Jump (Some ra) q) Rattle.om_isa.specs.Effect.StepObserves)).place ≡ q
        by_lands true h = refl
        by_lands false h = cc

    not_table : (ra : ℕ) (v : Value) (t : ℕ) → v ≡ Gp t → (after s w.at (jump_effect c s ra v)).ended ≡ None → ⊥
    not_table ra v t e on = shows (subst (λ (x : Value). (after s w.at (jump_effect c s ra x)).ended ≡ None) e on)
      where
        shows : (after s w.at (jump_effect c s ra (Gp t))).ended ≡ None → ⊥
        shows h = cc

    -- a known call went to the place that its load has the address of
    known_goes : (t : Shape) (v : Word) (ra : ℕ) (q : Place) → Has (lifted_shapes p) t → v ≡ w → IsKnownCall (shape_words t) v ra q → (step_word c s (Some w)).place ≡ q
    known_goes t v ra q ht ev call = by_known known
      where
        l : InLifted t
        l = in_lifted t ht

        f : FoundAt Values (values_in c) no_values any_enter any_flow any_le any_laws lifted.blocks s.place w
        f = found_at Values (values_in c) no_values any_enter any_flow any_le any_laws lifted.blocks s.place w (blocks_placed p lifted whole) k.found

        parts : (xs : List Word) × (ys : List Word) × (shape_words t ≡ xs ++ call.load ∷ call.local.mid ++ v ∷ ys)
        parts = call.local.stands

        words_are : block_words l.block ≡ (parts.0 ++ call.load ∷ call.local.mid) ++ w ∷ parts.1
        words_are =
            let a : block_words l.block ≡ parts.0 ++ call.load ∷ call.local.mid ++ v ∷ parts.1 = ap (λ (x : Shape). shape_words x) l.shape ∙ parts.2 in
            let b : (parts.0 ++ call.load ∷ call.local.mid) ++ v ∷ parts.1 ≡ parts.0 ++ call.load ∷ call.local.mid ++ v ∷ parts.1 =
            Rattle.om_counted.proofs.Lists.three_parts parts.0 call.load call.local.mid (v ∷ parts.1) in
            let e : (parts.0 ++ call.load ∷ call.local.mid) ++ v ∷ parts.1 ≡ (parts.0 ++ call.load ∷ call.local.mid) ++ w ∷ parts.1 =
            ap (λ (x : Word). (parts.0 ++ call.load ∷ call.local.mid) ++ x ∷ parts.1) ev in
            a ∙ sym b ∙ e

        here : Has (block_words l.block) w
        here = subst (λ (x : List Word). Has x w) (sym words_are) (Rattle.om_counted.proofs.Lists.mid_has (parts.0 ++ call.load ∷ call.local.mid) parts.1 w)

        there : Has (block_words f.block) w
        there = subst (λ (x : List Word). Has x w) f.splits (split_has f.before w f.rest)
          where
            split_has : (bf : List Word) (w : Word) (ws : List Word) → Has (rev_onto bf (w ∷ ws)) w
            split_has bf w ws = onto bf (w ∷ ws) (inl refl)
              where
                onto : (bf l : List Word) → Has l w → Has (rev_onto bf l) w
                onto [] l h = h
                onto (x ∷ bf) l h = onto bf (x ∷ l) (inr h)

        one : f.block ≡ l.block
        one = one_block lifted whole.graph.labels whole.graph.blocks whole.graph.among whole.places f.block l.block w f.among l.among there here

        before_is : f.before ≡ rev_onto (parts.0 ++ call.load ∷ call.local.mid) []
        before_is =
            words_before_it f.before f.rest (parts.0 ++ call.load ∷ call.local.mid) parts.1 w
            (f.splits ∙ ap (λ (b : Block). block_words b) one ∙ words_are)
            (subst (λ (x : List Word). Ordered x) words_are (whole.places.ordered l.block l.among))

        of_program : (x : Word) → Has call.local.mid x → IsOfProgram x.act
        of_program x m =
            let mid : Has ((parts.0 ++ call.load ∷ call.local.mid) ++ v ∷ parts.1) x =
            append_left (parts.0 ++ call.load ∷ call.local.mid) (v ∷ parts.1) x (append_right parts.0 (call.load ∷ call.local.mid) x (inr m)) in
            let i = shape_word p prog t (is_shape p t ht) x (subst (λ (ws : List Word). Has ws x) (sym parts.2) mid) in
            subst (λ (y : Word). IsOfProgram y.act) i.word
            (each_act IsOfProgram (λ i. tt) (λ ra rb t. tt) (λ ra rb base. tt) (λ ra rb hi. tt) (λ o ra q. tt) tt i.item.role i.item.instr)

        known : Known (known_at c lifted.blocks s.place) call.rb q
        known =
            subst (λ (x : Values). Known x call.rb q) (sym f.here)
            (subst (λ (x : List Word). Known (behind c x) call.rb q) (sym (before_is ∙ onto_parts parts.0 (call.load ∷ call.local.mid) []))
            (past_words c call.rb q call.local.mid (call.load ∷ rev_onto parts.0 []) of_program call.local.unwritten
            (behind_load c call.rb q call.load call.base (rev_onto parts.0 []) call.loads call.local.register)))

        act_is : w.act ≡ Plain (Jumps Jsr ra call.rb call.hint)
        act_is = ap (λ (x : Word). x.act) (sym ev) ∙ call.jumps

        on_jump : (after s w.at (jump_effect c s ra (read_reg s.regs call.rb))).ended ≡ None
        on_jump = subst (λ (a : Act). (after s w.at (act_effect c s w.at a)).ended ≡ None) act_is on_now

        by_known : Known (known_at c lifted.blocks s.place) call.rb q → (step_word c s (Some w)).place ≡ q
        by_known (code e) =
            let v = values_hold n on call.rb (Code q) e in
            subst (λ (a : Act). (after s w.at (act_effect c s w.at a)).place ≡ q) (sym act_is) (jumped ra (read_reg s.regs call.rb) q v on_jump)
        by_known (table u e) = let v = values_hold n on call.rb (Gp u) e in absurd (not_table ra (read_reg s.regs call.rb) u v on_jump)

    -- where the graph has a BSR the run went to its place, or 8 bytes before it past a pair that may be passed
    pub goes_to : (g : GraphView) (of : IsGraphOf p g) (b : Block) (u : Word) (ra : ℕ) (to : Place) → Has g.blocks b → Has (block_words b) u → u.at ≡ w.at → u.act ≡ To Bsr ra to → CallsTo p (S p prog lifted origin input (suc n)).place to
    goes_to g of b u ra to hb hu at is = subst (λ (x : SymState). CallsTo p x.place to) (sym k.next) (by_form r.form)
      where
        t : Shape
        t = shape_at p prog g of b hb

        ht : Has (lifted_shapes p) t
        ht = (of.blocks b hb).1

        r : Origin p (shape_words t) (shape_words t) u
        r = word_from p prog g of b hb u hu

        same_word : r.word ≡ w
        same_word =
            let i = shape_word p prog t (is_shape p t ht) r.word r.among in
            let e : program_fetch p r.word.at ≡ Some r.word =
            ap (λ o. Rattle.std.specs.Prelude.option_map (λ i. record { at = r.word.at; act = Rattle.om_prog.specs.Script.act_of i.role i.instr }) o) i.there ∙ ap (λ (x : Word). Some x) i.word in
            same_some (sym e ∙ ap (λ (x : Place). program_fetch p x) (sym r.place ∙ at) ∙ k.there)
          where
            same_some : {x y : Word} → Some x ≡ Some y → x ≡ y
            same_some e = cc

        -- the same place, where that is where the run went
        went : (q : Place) → (step_word c s (Some w)).place ≡ q → CallsTo p q to → CallsTo p (step_word c s (Some w)).place to
        went q e h = subst (λ (x : Place). CallsTo p x to) (sym e) h

        by_form : IsForm p (shape_words t) r.word u.act → CallsTo p (step_word c s (Some w)).place to
        by_form (as_was e) = went to (bsr_goes w.act ra to (ap (λ (x : Word). x.act) (sym same_word) ∙ sym e ∙ is)) (inl refl)
        by_form (near ra' rb x z e f) = absurd (not_lda (sym is ∙ f))
          where
            not_lda : {x : Target} {m o : ℕ} → To Bsr ra to ≡ AddrLda m o x → ⊥
            not_lda e = cc
        by_form (number ra' rb m e f) = absurd (not_lda (sym is ∙ f))
          where
            not_lda : {x : Target} {m o : ℕ} → To Bsr ra to ≡ AddrLda m o x → ⊥
            not_lda e = cc
        by_form (far ra' rb x z e f) = absurd (not_hi (sym is ∙ f))
          where
            not_hi : {x : Target} {m o : ℕ} → To Bsr ra to ≡ AddrHi m o x → ⊥
            not_hi e = cc
        by_form (by_gp load r' rb x region i z l e f b' a) = absurd (not_gp (sym is ∙ a))
          where
            not_gp : {i : Instr} {m : ℕ} {x : Target} → To Bsr ra to ≡ UseGp i m x → ⊥
            not_gp e = cc
        by_form (by_high load r' rb x region i z l e f b' a) = absurd (not_lo (sym is ∙ a))
          where
            not_lo : {i : Instr} {q : Place} {x : Target} → To Bsr ra to ≡ UseLo i q x → ⊥
            not_lo e = cc
        by_form (byte load r' rb x region i l e f b' a) = absurd (not_plain (sym is ∙ a))
          where
            not_plain : {i : Instr} → To Bsr ra to ≡ Plain i → ⊥
            not_plain e = cc
        by_form (called ra' q to' e h a) =
            let same : to' ≡ to = cc in
            went q (bsr_goes w.act ra' q (ap (λ (x : Word). x.act) (sym same_word) ∙ e)) (subst (λ (x : Place). CallsTo p q x) same h)
        by_form (direct ra' q to' call h a) =
            let same : to' ≡ to = cc in
            went q (known_goes t r.word ra' q ht same_word call) (subst (λ (x : Place). CallsTo p q x) same h)

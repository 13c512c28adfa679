-- Known calls made direct are a pass.
use Rattle.std.proofs.Common.{◌≡◌, ◌⊎◌, inl, inr, ◌<◌, ℕ, Bool, true, false, cond, List, [], ◌∷◌, Option, Some, None, refl, sym, ap, ◌∙◌, subst}
use Rattle.std.proofs.lemmas.Bool.{true≢false}
use Rattle.om_isa.specs.declared.instr.JumpOp.TheVariants.{Jsr}
use Rattle.om_isa.specs.declared.instr.BrOp.TheVariants.{Bsr}
use Rattle.om_isa.specs.declared.instr.Instr.TheVariants.{Jump as Jumps}
use Rattle.om_isa.specs.Effect.{Jump, StepObserves}
use Rattle.om_value.specs.declared.value.Place.{Place}
use Rattle.om_value.specs.declared.value.Value.{Value}
use Rattle.om_value.specs.declared.value.Value.TheVariants.{Code, Gp}
use Rattle.om_prog.specs.Act.{Plain, To, Word, Script, act_reads}
use Rattle.om_prog.specs.Step.{SymState, SymEffect, read_reg, jump_effect, act_effect, after}
use Rattle.om_prog.specs.Runs.{step_word, sym_start, has_observed}
use Rattle.om_prog.specs.Flow.{Agree, moved, effect_place}
use Rattle.om_prog.specs.Values.{Values, ValueFlows, HoldsValues}
use Rattle.om_prog.specs.View.{ProgramView}
use Rattle.om_prog.proofs.Agree.{act_same}
use Rattle.om_prog.proofs.Values.{values_step}
use Rattle.om_graph.specs.View.{GraphView, Has}
use Rattle.om_graph.specs.Run.{words, next_word, graph_script}
use Rattle.om_graph.specs.Form.{Ordered}
use Rattle.om_graph.specs.LeftIn.{is_kept, passes, is_left}
use Rattle.om_graph.specs.Pass.{Agreeing, Like, same, Pass}
use Rattle.om_graph.specs.Rewritten.{each_word}
use Rattle.om_graph.specs.Whole.{IsWhole}
use Rattle.om_graph.specs.Kept.{IsInKeptSet, IsKeptLanding}
use Rattle.om_graph.proofs.Places.{jumps_last}
use Rattle.om_graph.proofs.Fetching.{found_has}
use Rattle.om_graph.proofs.Blocks.{InBlocks}
use Rattle.om_graph.proofs.ValuesAt.{known_at, values_flows}
use Rattle.om_graph.proofs.Whole.{Here, here_keeps, blocks_placed, lands, known_there, first_lands, entry_label}
use Rattle.om_passes.proofs.KeptWords.{Past, unpassed, kept_word_is, found_there, call_past}

-- the word stays, or a jump by a register that is known to hold a place in code became a BSR to it; where a load took its
-- global pointer from that register meanwhile, no run that goes on comes to the jump
pub data Directed (known : Values) (w u : Word) : Type 0 where
  as_it_was : u ≡ w → Directed known w u
  made_direct :
      (ra rb hint : ℕ) (to : Place) → w.act ≡ Plain (Jumps Jsr ra rb hint) → (known rb ≡ Some (Code to)) ⊎ ((t : ℕ) × (known rb ≡ Some (Gp t))) → u ≡ record { at = w.at; act = To Bsr ra to } → Directed known w u

module _ (p : ProgramView) (g new : GraphView) (whole : IsWhole p g) (ordered : Ordered (words g)) (f : Word → Option Word) (in_place : (w u : Word) → f w ≡ Some u → u.at ≡ w.at)
    (changed : words new ≡ each_word f (words g))
    (word : (q : Place) (w : Word) → next_word (words g) q ≡ Some w → (u : Word) × (f w ≡ Some u) × Directed (known_at (graph_script p g) g.blocks q) w u) where
  abbrev pub c : Script
  c = graph_script p g

  abbrev pub K : Place → Type 0
  K = IsKeptLanding g

  abbrev pub fetch : Place → Option Word
  fetch = next_word (words new)

  abbrev pub known : Place → Values
  known = known_at c g.blocks

  abbrev pub Live : List Place → Place → ℕ → Bool
  Live ps q r = true

  abbrev pub Meets : List Place → Place → Place → Type 0
  Meets ps q s = (q ≡ s) × Past new ps s

  abbrev pub Knows : List Place → Place → (ℕ → Value) → Type 0
  Knows ps q rs = Unit {0}

  abbrev pub Old : SymState → Type 0
  Old s = HoldsValues (known s.place) s × Here p g whole s

  -- ---- words

  has_word : (q : Place) (w : Word) → c.fetch q ≡ Some w → Has (words g) w
  has_word q w e = found_has (words g) q w e

  there : (q : Place) (w : Word) (e : c.fetch q ≡ Some w) → fetch q ≡ Some (word q w e).0
  there q w e = found_there g new ordered f in_place changed q w (word q w e).0 e (word q w e).1

  kept : (q : Place) (w : Word) → c.fetch q ≡ Some w → is_kept new w.at ≡ true
  kept q w e = kept_word_is g new ordered f in_place changed w (word q w e).0 (has_word q w e) (word q w e).1

  never_out : (ps : List Place) (q : Place) (w : Word) → c.fetch q ≡ Some w → Past new ps q → is_left new ps w.at ≡ false → ⊥
  never_out ps q w e b l = let k = kept q w e in let n = unpassed g new ps q w b e in true≢false (sym (rw (k, n) refl) ∙ l)

  -- ---- effects

  -- a jump to a code goes there, or observes it
  code_jump : (s : SymState) (at : Place) (ra : ℕ) (to : Place) (b : Bool) → c.lands to ≡ b → has_observed (after s at (cond b (Jump (Some ra) to) StepObserves)).ended ≡ false → Jump (Some ra) to ≡ jump_effect c s ra (Code to)
  code_jump s at ra to true e h = rw e refl
  code_jump s at ra to false e h = absurd (true≢false h)

  effect_same :
      (s : SymState) (rs : ℕ → Value) (q : Place) (w u : Word) → HoldsValues (known s.place) s → Directed (known s.place) w u → ((r : ℕ) → read_reg rs r ≡ read_reg s.regs r) →
      has_observed (step_word c s (Some w)).ended ≡ false → act_effect c (moved s rs q) w.at u.act ≡ act_effect c s w.at w.act
  effect_same s rs q w u holds (as_it_was e) agree clean = ap (λ (x : Word). act_effect c (moved s rs q) w.at x.act) e ∙ act_same c s rs q w.at w.act (agrees (act_reads w.act))
    where
      agrees : (list : List ℕ) → Agree rs s.regs list
      agrees [] = tt
      agrees (r ∷ list) = (agree r, agrees list)
  effect_same s rs q w u holds (made_direct ra rb hint to a (inl k) e) agree clean =
      let h : read_reg s.regs rb ≡ Code to = holds rb (Code to) k in
      let old_is : act_effect c s w.at w.act ≡ jump_effect c s ra (Code to) = ap (act_effect c s w.at) a ∙ ap (jump_effect c s ra) h in
      let shown : has_observed (after s w.at (jump_effect c s ra (Code to))).ended ≡ false = ap (λ (x : SymEffect). has_observed (after s w.at x).ended) (sym old_is) ∙ clean in
      ap (λ (x : Word). act_effect c (moved s rs q) w.at x.act) e ∙ code_jump s w.at ra to (c.lands to) refl shown ∙ sym old_is
  effect_same s rs q w u holds (made_direct ra rb hint to a (inr k) e) agree clean =
      let h : read_reg s.regs rb ≡ Gp k.0 = holds rb (Gp k.0) k.1 in
      let old_is : act_effect c s w.at w.act ≡ StepObserves = ap (act_effect c s w.at) a ∙ ap (jump_effect c s ra) h in
      absurd (true≢false (ap (λ (x : SymEffect). has_observed (after s w.at x).ended) (sym old_is) ∙ clean))

  -- what a call goes past is before where it goes
  past_step :
      (s : SymState) (rs : ℕ → Value) (q : Place) (w u : Word) → c.fetch s.place ≡ Some w → f w ≡ Some u → (x : Place) → passes new w.at x ≡ true →
      x.off < (effect_place w.at (act_effect c (moved s rs q) w.at u.act)).off
  past_step s rs q w u e g' x h =
      let k = call_past g new ordered f in_place changed w u x (has_word s.place w e) g' h in
      subst (λ (v : Word). x.off < (effect_place w.at (act_effect c (moved s rs q) w.at v.act)).off) (sym k.is) k.before

  flows : ValueFlows c K (InBlocks (λ l. IsInKeptSet g l) g.blocks) known
  flows = values_flows c K (λ l. IsInKeptSet g l) g.blocks (blocks_placed p g whole) (jumps_last K g whole.form) (lands p g whole) (λ q. refl) (entry_label p g whole)

  pub directing : Pass c fetch K new Live Meets Old Knows
  unfolding sym_start
  directing = record {
    fine = λ s w o e. (known_there p g whole s w o.1 e).0;
    first = first_lands p g whole;
    starts = λ input. (λ r v e. absurd (none_some v (sym (flows.entry r) ∙ e)), (here_keeps p g whole).starts input);
    steps = λ s w fs o e. (values_step c K (InBlocks (λ l. IsInKeptSet g l) g.blocks) known flows s w fs (known_there p g whole s w o.1 e).1 e o.0, (here_keeps p g whole).steps s w fs o.1 e);
    keeps = λ s ps w r o e l a. refl;
    goes = λ ps s w q r o e l to h. inr refl;
    goes_out = λ ps s q w r o e l m h. inr refl;
    meet_first = (refl, tt);
    kept = λ ps s q w o e l m. ((word s.place w e).0, ap fetch m.0 ∙ there s.place w e, in_place w (word s.place w e).0 (word s.place w e).1);
    like = λ ps s rs q w u fs o e l m fu k agree clean. alike ps s rs q w u o e m fu agree clean;
    gone = λ ps s q w o e l m. absurd (never_out ps s.place w e m.1 l);
    address = λ ps s q w o e l m. absurd (never_out ps s.place w e m.1 l);
    settled = λ ps s rs q w r o e l m a h k clean. absurd (never_out ps s.place w e m.1 l);
    l_first = λ input. tt;
    l_kept = λ ps s rs q w u o e l m fu k agree clean h to. tt;
    l_gone = λ ps s t w o e l m agree x. tt;
  }
    where
      none_some : (v : Value) → None ≡ Some v → ⊥
      none_some v e = cc

      some_same : {a b : Word} → Some a ≡ Some b → a ≡ b
      some_same e = cc

      alike :
          (ps : List Place) (s : SymState) (rs : ℕ → Value) (q : Place) (w u : Word) → Old s → c.fetch s.place ≡ Some w → Meets ps q s.place → fetch q ≡ Some u →
          Agreeing (Live ps) s (record s { regs = rs; place = q }) → has_observed (step_word c s (Some w)).ended ≡ false →
          Like c fetch K new Live Meets Old Knows ps w (act_effect c (record s { regs = rs; place = q }) w.at u.act) (act_effect c s w.at w.act)
      alike ps s rs q w u o e m fu agree clean =
          let v = word s.place w e in
          let is_u : v.0 ≡ u = some_same (sym (there s.place w e) ∙ ap fetch (sym m.0) ∙ fu) in
          let eq = effect_same s rs q w u o.0 (subst (λ (x : Word). Directed (known s.place) w x) is_u v.2) (λ r. agree r refl) clean in
          same eq
          (λ h. (refl, λ x y d. subst (λ (z : SymEffect). x.off < (effect_place w.at z).off) eq (past_step s rs q w u e (v.1 ∙ ap (λ (x : Word). Some x) is_u) x y)))

-- Values that are known hold along a run.
use Rattle.std.proofs.Common.{◌≡◌, ℕ, Bool, true, false, cond, ◌&&◌, ◌||◌, ◌==◌, Some, None, refl, sym, ap, ◌∙◌, subst}
use Rattle.std.specs.Prelude.{not}
use Rattle.std.proofs.lemmas.Bool.{true≢false, eqb-true, eq-eqb}
use Rattle.om_value.specs.declared.value.Place.{Place}
use Rattle.om_value.specs.declared.value.Value.{Value}
use Rattle.om_value.specs.declared.value.Value.TheVariants.{Num, Ptr, Code, Gp, Half, GpOff}
use Rattle.om_value.specs.declared.value.Region.{Region}
use Rattle.om_value.specs.declared.value.Target.{Target}
use Rattle.om_value.specs.declared.value.Target.TheVariants as target
use Rattle.om_value.specs.Same.{value_eq}
use Rattle.om_value.specs.Lift.{value_of}
use Rattle.om_isa.specs.Effect.{Nothing, Set, StepObserves}
use Rattle.om_prog.specs.Act.{Act, Plain, Lit, GpHi, GpLo, To, AddrLda, AddrHi, UseLo, UseGp, Wrong, Word, Script, act_writes}
use Rattle.om_prog.specs.Step.{SymState, SymEffect, read_reg, write_reg, act_effect, after}
use Rattle.om_prog.specs.Runs.{step_word}
use Rattle.om_prog.specs.Flow.{effect_ends, effect_place}
use Rattle.om_prog.specs.Within.{StateWithin}
use Rattle.om_prog.specs.Facts.{has}
use Rattle.om_prog.specs.Values.{Values, loaded, ValueFlows, HoldsValues}
use Rattle.om_prog.proofs.Goes.{after_went, after_stays, act_leads}
use Rattle.om_prog.proofs.Writes.{act_only, after_other, end_silent, unwritten}
use Rattle.om_prog.proofs.Facts.{among_has}

is_gp : (v : Value) (t : ℕ) → value_eq v (Gp t) ≡ true → v ≡ Gp t
is_gp (Gp o) t e = ap Gp (eqb-true o t e)
is_gp (Num n) t e = absurd (true≢false (sym e))
is_gp (Ptr r x) t e = absurd (true≢false (sym e))
is_gp (Code q) t e = absurd (true≢false (sym e))
is_gp (Half q) t e = absurd (true≢false (sym e))
is_gp (GpOff o u) t e = absurd (true≢false (sym e))

module _ (c : Script) (s : SymState) (at : Place) (k : Values) (holds : HoldsValues k s) where
  -- what a load leaves holds behind it
  load_sets :
      (ra rb : ℕ) (u : Value) (b : Bool) (r : ℕ) (v : Value) → (ra ≡ 31 → ⊥) → value_eq (read_reg s.regs rb) (Gp (c.table at.obj)) ≡ b → effect_ends (cond b (Set ra u) StepObserves) ≡ false →
      (x y : Bool) → (ra == r) ≡ x → (rb == r) ≡ y → cond x (Some u) (cond y (Some (Gp (c.table at.obj))) (k r)) ≡ Some v → read_reg (after s at (cond b (Set ra u) StepObserves)).regs r ≡ v
  load_sets ra rb u false r v n e h x y ex ey is = absurd (true≢false h)
  load_sets ra rb u true r v n e h true y ex ey is =
      let i : u ≡ v = cc in
      let j : ra ≡ r = eqb-true ra r ex in
      subst (λ (z : ℕ). read_reg (write_reg s.regs ra u) z ≡ v) j (own_write ∙ i)
    where
      own_write : read_reg (write_reg s.regs ra u) ra ≡ u
      own_write = by_case (ra == 31) refl (eq-eqb ra ra refl)
        where
          by_case : (b : Bool) → (ra == 31) ≡ b → (ra == ra) ≡ true → cond b (Num 0) (cond ((ra == ra) && not b) u (s.regs ra)) ≡ u
          by_case true e x = absurd (n (eqb-true ra 31 e))
          by_case false e x = rw x refl
  load_sets ra rb u true r v n e h false true ex ey is =
      let g : read_reg s.regs rb ≡ Gp (c.table at.obj) = is_gp (read_reg s.regs rb) (c.table at.obj) e in
      let j : rb ≡ r = eqb-true rb r ey in
      let i : Gp (c.table at.obj) ≡ v = cc in
      unwritten s.regs ra u r (λ z. true≢false (sym (eq-eqb ra r z) ∙ ex)) ∙ ap (read_reg s.regs) (sym j) ∙ g ∙ i
  load_sets ra rb u true r v n e h false false ex ey is = unwritten s.regs ra u r (λ z. true≢false (sym (eq-eqb ra r z) ∙ ex)) ∙ holds r v is

  load_holds :
      (ra rb : ℕ) (t : Target) (r : ℕ) (v : Value) (b : Bool) → (ra == 31) ≡ b → effect_ends (cond b Nothing (cond (value_eq (read_reg s.regs rb) (Gp (c.table at.obj))) (Set ra (value_of t)) StepObserves)) ≡ false →
      cond b (k r) (cond (ra == r) (Some (value_of t)) (cond (rb == r) (Some (Gp (c.table at.obj))) (k r))) ≡ Some v →
      read_reg (after s at (cond b Nothing (cond (value_eq (read_reg s.regs rb) (Gp (c.table at.obj))) (Set ra (value_of t)) StepObserves))).regs r ≡ v
  load_holds ra rb t r v true e h is = holds r v is
  load_holds ra rb t r v false e h is =
      load_sets ra rb (value_of t) _ r v (λ z. true≢false (sym (eq-eqb ra 31 z) ∙ e)) refl h _ _ refl refl is

  lda_holds :
      (ra rb : ℕ) (g : Region) (x r : ℕ) (v : Value) (b : Bool) → (ra == 31) ≡ b →
      effect_ends (cond (b || (false && (rb == 31))) (Set ra (Ptr g x)) (cond (value_eq (read_reg s.regs rb) (Gp (c.table at.obj))) (Set ra (Ptr g x)) StepObserves)) ≡ false →
      cond b (k r) (cond (ra == r) (Some (Ptr g x)) (cond (rb == r) (Some (Gp (c.table at.obj))) (k r))) ≡ Some v →
      read_reg (after s at (cond (b || (false && (rb == 31))) (Set ra (Ptr g x)) (cond (value_eq (read_reg s.regs rb) (Gp (c.table at.obj))) (Set ra (Ptr g x)) StepObserves))).regs r ≡ v
  lda_holds ra rb g x r v true e h is = by_own (ra == r) refl
    where
      by_own : (b : Bool) → (ra == r) ≡ b → read_reg (write_reg s.regs ra (Ptr g x)) r ≡ v
      by_own false n = unwritten s.regs ra (Ptr g x) r (λ z. true≢false (sym (eq-eqb ra r z) ∙ n)) ∙ holds r v is
      by_own true n =
          let i : r ≡ 31 = sym (eqb-true ra r n) ∙ eqb-true ra 31 e in
          subst (λ (y : ℕ). read_reg (write_reg s.regs ra (Ptr g x)) y ≡ v) (sym i) (subst (λ (y : ℕ). read_reg s.regs y ≡ v) i (holds r v is))
  lda_holds ra rb g x r v false e h is = load_sets ra rb (Ptr g x) _ r v (λ z. true≢false (sym (eq-eqb ra 31 z) ∙ e)) refl h _ _ refl refl is

  other_holds : (a : Act) (r : ℕ) (v : Value) → cond (has (act_writes a) r) None (k r) ≡ Some v → read_reg (after s at (act_effect c s at a)).regs r ≡ v
  other_holds a r v is = by_case (has (act_writes a) r) refl is
    where
      by_case : (b : Bool) → has (act_writes a) r ≡ b → cond b None (k r) ≡ Some v → read_reg (after s at (act_effect c s at a)).regs r ≡ v
      by_case true e is = cc
      by_case false e is = after_other s at r (act_effect c s at a) (λ m. among_has (act_writes a) r e ((act_only c s at a).is r m)) ∙ holds r v is

  pub loaded_holds : (a : Act) (r : ℕ) (v : Value) → effect_ends (act_effect c s at a) ≡ false → loaded c at a k r ≡ Some v → read_reg (after s at (act_effect c s at a)).regs r ≡ v
  loaded_holds (Lit ra rb t) r v h is = load_holds ra rb t r v _ refl h is
  loaded_holds (Plain i) r v h is = other_holds (Plain i) r v is
  loaded_holds (GpHi ra rb base) r v h is = other_holds (GpHi ra rb base) r v is
  loaded_holds (GpLo ra rb hi) r v h is = other_holds (GpLo ra rb hi) r v is
  loaded_holds (To op ra q) r v h is = other_holds (To op ra q) r v is
  loaded_holds (AddrLda ra rb (target.Ptr g x)) r v h is = lda_holds ra rb g x r v _ refl h is
  loaded_holds (AddrLda ra rb (target.Num n)) r v h is = other_holds (AddrLda ra rb (target.Num n)) r v is
  loaded_holds (AddrLda ra rb (target.Code q)) r v h is = other_holds (AddrLda ra rb (target.Code q)) r v is
  loaded_holds (AddrHi ra rb t) r v h is = other_holds (AddrHi ra rb t) r v is
  loaded_holds (UseLo i hi t) r v h is = other_holds (UseLo i hi t) r v is
  loaded_holds (UseGp i gp t) r v h is = other_holds (UseGp i gp t) r v is
  loaded_holds Wrong r v h is = other_holds Wrong r v is

-- a step keeps what is known
pub values_step :
    (c : Script) (K At : Place → Type 0) (known : Place → Values) → ValueFlows c K At known → (s : SymState) (w : Word) → StateWithin K s → At s.place → c.fetch s.place ≡ Some w →
    HoldsValues (known s.place) s → HoldsValues (known (step_word c s (Some w)).place) (step_word c s (Some w))
values_step c K At known flows s w fine at found holds r v is = by_end (effect_ends e) refl
  where
    e : SymEffect
    e = act_effect c s w.at w.act

    by_end : (b : Bool) → effect_ends (act_effect c s w.at w.act) ≡ b → read_reg (after s w.at (act_effect c s w.at w.act)).regs r ≡ v
    by_end true h =
        let x = act_effect c s w.at w.act in
        after_other s w.at r x (end_silent x r h) ∙ holds r v (sym (ap (λ (q : Place). known q r) (after_stays s w.at x h)) ∙ is)
    by_end false h =
        let x = act_effect c s w.at w.act in
        let to = act_leads w.at c s K fine w.act h in
        loaded_holds c s w.at (known s.place) holds w.act r v h
        (flows.goes s.place w (effect_place w.at x) r v at found to (sym (ap (λ (q : Place). known q r) (after_went s w.at x h).place) ∙ is))

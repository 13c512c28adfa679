-- The runs go together.
use Rattle.std.proofs.Common.{◌≡◌, inr, ℕ, zero, suc, ◌+◌, ◌*◌, ◌/◌, Bool, true, false, cond, not, nat_lt, List, Option, Some, None, refl, ap, sym as back, subst, ◌∙◌, arith}
use Rattle.std.specs.Prelude.{IsTrue, option_and_then}
use Rattle.om_alpha.specs.declared.op.TrapKind.TheVariants as trap
use Rattle.om_isa.specs.declared.instr.BrOp.TheVariants.{Br, Bsr, If}
use Rattle.om_isa.specs.declared.instr.Instr.{Instr}
use Rattle.om_isa.specs.declared.instr.Instr.TheVariants.{Jump as Jumps}
use Rattle.om_isa.specs.Effect.{Jump, Stop, StepObserves}
use Rattle.om_isa.specs.Words.{instr_of}
use Rattle.om_value.specs.declared.value.Place.{Place}
use Rattle.om_value.specs.declared.value.Region.TheVariants.{Stack}
use Rattle.om_value.specs.declared.value.Value.{Value}
use Rattle.om_value.specs.declared.value.Value.TheVariants.{Num, Ptr, Code, Gp, Half, GpOff}
use Rattle.om_prog.specs.Act.{Act, Plain, To, Word, Script}
use Rattle.om_prog.specs.Step as sym
use Rattle.om_prog.specs.Step.{SymState, SymEnd, SymEffect, ExitedWith, TrappedAt, ObservedAt, read_reg, write_reg, sized, next_place}
use Rattle.om_prog.specs.Runs as runs
use Rattle.om_prog.specs.Runs.{sym_run, sym_start, sym_step, has_observed, is_clean, start_regs}
use Rattle.om_image.specs.declared.image.Image.{Image}
use Rattle.om_image.specs.NumState.{stack_base, NumState, NumEnd, Exited, Trapped, with_register}
use Rattle.om_image.specs.NumStep as num
use Rattle.om_image.specs.NumStep.{NumEffect, num_step, num_start, start_registers, data_size, is_text, start_memory, word_at}
use Rattle.om_image.specs.NumRun.{num_run, num_steps}
use Rattle.om_lockstep.specs.Addresses.{Addresses, IsValue, number_of_value, ptr_number}
use Rattle.om_lockstep.specs.Goes.{IsLowered, GoesWith, Goes, NeedsNext}
use Rattle.om_lockstep.specs.Forms.{IsEncoded, Stands, HasNext, plain_has_next}
use Rattle.om_lockstep.specs.Lockstep.{EndAlike, Alike, StartsAlike, KeepsCodes, AreBytes, InLockstep}
use Rattle.om_lockstep.proofs.Agree.{act_agrees}
use Rattle.om_lockstep.proofs.After.{after_goes, reg_written, value_written}

not_both : false ≡ true → ⊥
not_both e = cc

-- ---- where the next place matters, the word has one

module _ (c : Script) (s : SymState) where
  jump_next : (ra : ℕ) (v : Value) → NeedsNext (sym.jump_effect c s ra v) → ra ≡ 31 → ⊥
  jump_next ra (Code q) n = by_test (c.lands q) n
    where
      by_test : (b : Bool) → NeedsNext (cond b (Jump (Some ra) q) StepObserves) → ra ≡ 31 → ⊥
      by_test true n = n
      by_test false n = absurd n
  jump_next ra (Num m) n = by_test (nat_lt (m / 4 * 4) 0x10000) n
    where
      by_test : (b : Bool) → NeedsNext (cond b (Stop trap.Access) StepObserves) → ra ≡ 31 → ⊥
      by_test true n = absurd n
      by_test false n = absurd n
  jump_next ra (Ptr r x) n = absurd n
  jump_next ra (Gp p) n = absurd n
  jump_next ra (Half p) n = absurd n
  jump_next ra (GpOff p g) n = absurd n

  plain_next : (instr : Instr) → NeedsNext (sym.plain_effect c s instr) → plain_has_next instr
  plain_next (Jumps kind ra rb hint) n = jump_next ra (read_reg s.regs rb) n
  plain_next _ n = tt

  act_next : (at : Place) (a : Act) → NeedsNext (sym.act_effect c s at a) → HasNext a
  act_next at (Plain instr) n = plain_next instr n
  act_next at (To Br ra q) n = n
  act_next at (To Bsr ra q) n = n
  act_next at (To (If k) ra q) n = tt
  act_next at _ n = tt

module _ (c : Script) (l : Addresses) (i : Image) (K G : Place → Type 0) (enc : IsEncoded c l i K G) where
  abbrev Together : SymState → NumState → Type 0
  Together s t = Goes c l (start_memory i) s t

  abbrev Codes : SymState → Type 0
  Codes s = (r : ℕ) (q : Place) → read_reg s.regs r ≡ Code q → K q

  word_goes : (s : SymState) (t : NumState) → s.ended ≡ None → IsLowered c l (start_memory i) s t → Codes s → (w : Word) → Stands c l i s.place w → Together (sym.after s w.at (sym.act_effect c s w.at w.act)) (num.executed i t (option_and_then instr_of (word_at i.text t.pc)))
  word_goes s t going low codes w st =
      let pc : t.pc ≡ l.code w.at = low.place ∙ st.here in
      let a = act_agrees c l i K G enc s t low w.at w.act st.word st.form pc codes in
      let found : option_and_then instr_of (word_at i.text t.pc) ≡ Some a.0 = ap (λ a. option_and_then instr_of (word_at i.text a)) pc ∙ ap (option_and_then instr_of) st.found ∙ a.1 in
      subst (λ o. Together (sym.after s w.at (sym.act_effect c s w.at w.act)) (num.executed i t o)) (back found)
      (after_goes c l i K G enc s t going low w.at pc (sym.act_effect c s w.at w.act) _ a.2 (λ n. st.next (act_next c s w.at w.act n)))

  running_goes : (s : SymState) (t : NumState) → s.ended ≡ None → IsLowered c l (start_memory i) s t → Codes s → G s.place → (o : Option Word) → c.fetch s.place ≡ o → Together (runs.step_word c s o) (num.step_if i t t.end)
  running_goes s t going low codes good None e = tt
  running_goes s t going low codes good (Some w) e =
      subst (λ o. Together (runs.step_word c s (Some w)) (num.step_if i t o)) (back low.running)
      (word_goes s t going low codes w (enc.stands s.place w good e))

  step_goes : (s : SymState) (t : NumState) → Together s t → Codes s → (s.ended ≡ None → G s.place) → Together (sym_step c s) (num_step i t)
  unfolding sym_step num_step
  step_goes s t h codes good = by_end s.ended refl h
    where
      -- a state that has ended stays
      stays : (e : SymEnd) → s.ended ≡ Some e → (f : NumEnd) → t.end ≡ Some f → Together s t → Together (runs.step_if s.ended c s) (num.step_if i t t.end)
      stays e g f k h =
          subst (λ o. Together (runs.step_if o c s) (num.step_if i t t.end)) (back g)
          (subst (λ o. Together s (num.step_if i t o)) (back k) h)

      by_end : (o : Option SymEnd) → s.ended ≡ o → GoesWith c l (start_memory i) o s t → Together (runs.step_if s.ended c s) (num.step_if i t t.end)
      by_end None e g =
          subst (λ o. Together (runs.step_if o c s) (num.step_if i t t.end)) (back e)
          (running_goes s t e g codes (good e) (c.fetch s.place) refl)
      by_end (Some (ExitedWith m)) e g = stays (ExitedWith m) e (Exited m) g.1 h
      by_end (Some (TrappedAt k p)) e g = stays (TrappedAt k p) e (Trapped k (l.code p)) g.1 h
      by_end (Some (ObservedAt p)) e g =
          subst (λ o. Together (runs.step_if o c s) (num.step_if i t t.end)) (back e)
          (subst (λ o. GoesWith c l (start_memory i) o s (num.step_if i t t.end)) (back e) tt)

  -- ---- the start

  start_goes : StartsAlike c l i → (input : List ℕ) → AreBytes input → IsLowered c l (start_memory i) (sym_start c input) (num_start i input)
  unfolding sym_start num_start
  start_goes st input bytes = record {
    running = refl;
    regs = regs;
    values = values;
    cells = st.cells;
    place = st.entry;
    memory = st.memory;
    fixed = λ a h. refl;
    heap = refl;
    heap_small = omega arith;
    input = refl;
    out = refl;
    err = refl;
    taken = bytes;
  }
    where
      top : stack_base + 1048512 ≡ ptr_number l Stack 1048512
      top = let e = st.stack in omega arith

      zero_regs : ℕ → Value
      zero_regs r = Num 0

      regs : (x : ℕ) → start_registers i x ≡ number_of_value l (start_regs c x)
      regs =
          reg_written c l i K G enc (write_reg (write_reg (λ r. Num 0) 27 (Code c.entry)) 29 (Gp (c.table c.entry.obj))) (with_register (with_register (λ r. 0) 27 i.entry) 29 i.gp) 30 (Ptr Stack 1048512) (stack_base + 1048512)
          (reg_written c l i K G enc (write_reg (λ r. Num 0) 27 (Code c.entry)) (with_register (λ r. 0) 27 i.entry) 29 (Gp (c.table c.entry.obj)) i.gp
          (reg_written c l i K G enc (λ r. Num 0) (λ r. 0) 27 (Code c.entry) i.entry (λ x. refl) (inr st.entry)) (inr st.gp))
          (inr top)

      values : (x : ℕ) → IsValue (start_regs c x)
      values =
          value_written c l i K G enc (write_reg (write_reg (λ r. Num 0) 27 (Code c.entry)) 29 (Gp (c.table c.entry.obj))) 30 (Ptr Stack 1048512)
          (value_written c l i K G enc (write_reg (λ r. Num 0) 27 (Code c.entry)) 29 (Gp (c.table c.entry.obj))
          (value_written c l i K G enc (λ r. Num 0) 27 (Code c.entry) (λ x. omega arith) tt) tt)
          (omega arith)

  start_together : StartsAlike c l i → (input : List ℕ) → AreBytes input → Together (sym_start c input) (num_start i input)
  unfolding sym_start
  start_together st input bytes = start_goes st input bytes

  -- ---- the runs

  pub runs_go : StartsAlike c l i → (input : List ℕ) → AreBytes input → KeepsCodes c K G input → (n : ℕ) → Together (sym_run c input n) (num_run i input n)
  unfolding sym_run num_steps
  runs_go st input bytes codes zero = start_together st input bytes
  runs_go st input bytes codes (suc n) =
      step_goes (sym_run c input n) (num_run i input n) (runs_go st input bytes codes n) (codes.holds n) (codes.places n)

  alike : (s : SymState) (t : NumState) → Together s t → IsTrue (not (has_observed s.ended)) → Alike l s t
  alike s t h clean = by_end s.ended refl h clean
    where
      by_end : (o : Option SymEnd) → s.ended ≡ o → GoesWith c l (start_memory i) o s t → IsTrue (not (has_observed o)) → Alike l s t
      by_end None e g clean = record {
        input = g.input;
        out = g.out;
        err = g.err;
        ended = subst (λ o. EndAlike l o t.end) (back e) (subst (λ o. EndAlike l None o) (back g.running) tt);
      }
      by_end (Some (ExitedWith m)) e g clean = record {
        input = g.0.input;
        out = g.0.out;
        err = g.0.err;
        ended = subst (λ o. EndAlike l o t.end) (back e) (subst (λ o. EndAlike l (Some (ExitedWith m)) o) (back g.1) refl);
      }
      by_end (Some (TrappedAt k p)) e g clean = record {
        input = g.0.input;
        out = g.0.out;
        err = g.0.err;
        ended = subst (λ o. EndAlike l o t.end) (back e) (subst (λ o. EndAlike l (Some (TrappedAt k p)) o) (back g.1) (refl, refl));
      }
      by_end (Some (ObservedAt p)) e g clean = absurd (not_both clean)

  -- THE ENCODING THEOREM: clean runs are in lockstep
  pub in_lockstep : StartsAlike c l i → (input : List ℕ) → AreBytes input → KeepsCodes c K G input → InLockstep c l i input
  in_lockstep st input bytes codes n clean =
      alike (sym_run c input n) (num_run i input n) (runs_go st input bytes codes n) clean

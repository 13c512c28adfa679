-- Runs of the machine are runs of the definition.
use Rattle.std.proofs.Common.{◌≡◌, ◌≤◌, ◌<◌, ◌≢◌, ℕ, zero, suc, ◌+◌, ◌-◌, Option, Some, None, refl, ap, sym, subst, ◌∙◌, arith, add-one, List}
use Rattle.om_prog.specs.Act.{Script}
use Rattle.om_prog.specs.Runs.{sym_step, step_if, sym_run, sym_start}
use Rattle.om_prog.specs.Step.{SymState, SymEnd}
use Rattle.om_symrun.specs.View.{View}
use Rattle.om_symrun.specs.Streams.{Told}
use Rattle.om_symrun.specs.Calls.{IsState, IsAnswer}
use Rattle.om_symrun.specs.Steps.{sym_steps, IsAnswerOf, Arrives, RunsTo, FailsAtRead, FailsAtWrite}
use Rattle.om_symrun.specs.declared.machine.SymStep.{SymStep}
use Rattle.om_symrun.specs.declared.machine.SymStep.TheVariants as step
use Rattle.om_symrun.proofs.Stepping.{arrives}

-- a state that has ended stays as it is
stays_at : (c : Script) (s : SymState) (e : SymEnd) (o : Option SymEnd) → o ≡ Some e → step_if o c s ≡ s
stays_at c s e None h = absurd cc
stays_at c s e (Some f) h = refl

stays : (c : Script) (s : SymState) (e : SymEnd) → s.ended ≡ Some e → sym_step c s ≡ s
unfolding sym_step
stays c s e h = stays_at c s e s.ended h

-- one more step
pub next_of : (c : Script) (s : SymState) (k : ℕ) → sym_step c (sym_steps c s k) ≡ sym_steps c s (k + 1)
unfolding sym_steps
next_of c s k = rw (add-one k) refl

-- and so it stays for all steps that follow
all_stay : (c : Script) (s : SymState) (e : SymEnd) (k d : ℕ) → (sym_steps c s k).ended ≡ Some e → sym_steps c s (k + d) ≡ sym_steps c s k
unfolding sym_steps
all_stay c s e k zero h = let z : k + zero ≡ k = omega arith in rw z refl
all_stay c s e k (suc d) h =
    let z : k + suc d ≡ suc (k + d) = omega arith in
    let rest = all_stay c s e k d h in
    rw z (ap (λ x. sym_step c x) rest ∙ stays c (sym_steps c s k) e h)

ended_at : (c : Script) (s : SymState) (e : SymEnd) (k n : ℕ) → k ≤ n → (sym_steps c s k).ended ≡ Some e → sym_steps c s k ≡ sym_steps c s n
ended_at c s e k n few h =
    let d : k + (n - k) ≡ n = omega arith in
    sym (all_stay c s e k (n - k) h) ∙ ap (λ m. sym_steps c s m) d

module _ (c : Script) (s : SymState) (k n : ℕ) (w : View) (left : Option (List ℕ)) (out err : Told) (before : k < n) where
  -- the run ended in the step after k steps
  pub runs_out : (r : SymStep) (e : SymEnd) → (IsAnswerOf r (sym_step c (sym_steps c s k)).ended → (sym_step c (sym_steps c s k)).ended ≡ Some e) → Arrives r (sym_step c (sym_steps c s k)) w left out err → Arrives r (sym_steps c s n) w left out err
  runs_out r e ends a =
      let next = next_of c s k in
      let h = ap (λ (x : SymState). x.ended) (sym next) ∙ ends a.answer_is in
      let all = next ∙ ended_at c s e (k + 1) n (omega arith) h in
      subst (λ (x : SymState). Arrives r x w left out err) all a

  pub read_failed : FailsAtRead c (sym_steps c s k) w left out err → RunsTo c n step.ReadFault s w left out err
  read_failed f = record { taken = k; before = before; fails = f }

  pub write_failed : FailsAtWrite c (sym_steps c s k) w left out err → RunsTo c n step.WriteFault s w left out err
  write_failed f = record { taken = k; before = before; fails = f }

  pub wants_memory : Arrives step.NoMemory (sym_steps c s k) w left out err → RunsTo c n step.NoMemory s w left out err
  wants_memory a = record { taken = k; before = before; arrives = a }

-- all steps were taken
pub runs_through : (c : Script) (s : SymState) (n : ℕ) (r : SymStep) (w : View) (left : Option (List ℕ)) (out err : Told) → r ≢ step.ReadFault → r ≢ step.WriteFault → r ≢ step.NoMemory → IsAnswer r w.end → IsState w left out err (sym_steps c s n) → RunsTo c n r s w left out err
runs_through c s n step.ReadFault w left out err a b d answer h = absurd (a refl)
runs_through c s n step.WriteFault w left out err a b d answer h = absurd (b refl)
runs_through c s n step.NoMemory w left out err a b d answer h = absurd (d refl)
runs_through c s n step.Went w left out err a b d answer h = arrives step.Went (sym_steps c s n) w left out err answer h
runs_through c s n (step.Exit status) w left out err a b d answer h = arrives (step.Exit status) (sym_steps c s n) w left out err answer h
runs_through c s n (step.Trap kind at) w left out err a b d answer h = arrives (step.Trap kind at) (sym_steps c s n) w left out err answer h
runs_through c s n (step.Observes at) w left out err a b d answer h = arrives (step.Observes at) (sym_steps c s n) w left out err answer h

-- a run from the start is the steps that follow it
pub steps_of_run : (c : Script) (input : List ℕ) (n : ℕ) → sym_run c input n ≡ sym_steps c (sym_start c input) n
unfolding sym_run sym_steps
steps_of_run c input zero = refl
steps_of_run c input (suc n) = ap (λ x. sym_step c x) (steps_of_run c input n)

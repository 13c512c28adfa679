-- Runs of the machine are runs of the definition.
use Rattle.std.proofs.Common.{◌≡◌, ◌≤◌, ◌<◌, ◌≢◌, ℕ, zero, suc, ◌+◌, ◌-◌, Option, Some, None, refl, ap, sym, subst, ◌∙◌, arith, add-one, List}
use Rattle.om_image.specs.declared.image.Image.{Image}
use Rattle.om_image.specs.NumState.{NumState, NumEnd}
use Rattle.om_image.specs.NumStep.{num_step, step_if}
use Rattle.om_image.specs.NumRun.{num_steps}
use Rattle.om_machine.specs.View.{View}
use Rattle.om_machine.specs.Streams.{Told}
use Rattle.om_machine.specs.Calls.{IsState, IsAnswer}
use Rattle.om_machine.specs.Steps.{IsAnswerOf, Arrives, RunsTo, FailsAtRead, FailsAtWrite}
use Rattle.om_machine.specs.declared.machine.Step.{Step}
use Rattle.om_machine.specs.declared.machine.Step.TheVariants as step
use Rattle.om_machine.proofs.Stepping.{arrives}

-- a state that has ended stays as it is
stays_at : (i : Image) (s : NumState) (e : NumEnd) (o : Option NumEnd) → o ≡ Some e → step_if i s o ≡ s
stays_at i s e None h = absurd cc
stays_at i s e (Some f) h = refl

stays : (i : Image) (s : NumState) (e : NumEnd) → s.end ≡ Some e → num_step i s ≡ s
unfolding num_step
stays i s e h = stays_at i s e s.end h

-- one more step
pub next_of : (i : Image) (s : NumState) (k : ℕ) → num_step i (num_steps i s k) ≡ num_steps i s (k + 1)
unfolding num_steps
next_of i s k = rw (add-one k) refl

-- and so it stays for all steps that follow
all_stay : (i : Image) (s : NumState) (e : NumEnd) (k d : ℕ) → (num_steps i s k).end ≡ Some e → num_steps i s (k + d) ≡ num_steps i s k
unfolding num_steps
all_stay i s e k zero h = let z : k + zero ≡ k = omega arith in rw z refl
all_stay i s e k (suc d) h =
    let z : k + suc d ≡ suc (k + d) = omega arith in
    let rest = all_stay i s e k d h in
    rw z (ap (λ x. num_step i x) rest ∙ stays i (num_steps i s k) e h)

ended_at : (i : Image) (s : NumState) (e : NumEnd) (k n : ℕ) → k ≤ n → (num_steps i s k).end ≡ Some e → num_steps i s k ≡ num_steps i s n
ended_at i s e k n few h =
    let d : k + (n - k) ≡ n = omega arith in
    sym (all_stay i s e k (n - k) h) ∙ ap (λ m. num_steps i s m) d

module _ (i : Image) (s : NumState) (k n : ℕ) (w : View) (left : Option (List ℕ)) (out err : Told) (before : k < n) where
  -- the run ended in the step after k steps
  pub runs_out : (r : Step) (e : NumEnd) → (IsAnswerOf r (num_step i (num_steps i s k)).end → (num_step i (num_steps i s k)).end ≡ Some e) → Arrives r (num_step i (num_steps i s k)) w left out err → Arrives r (num_steps i s n) w left out err
  runs_out r e ends a =
      let next = next_of i s k in
      let h = ap (λ (x : NumState). x.end) (sym next) ∙ ends a.answer_is in
      let all = next ∙ ended_at i s e (k + 1) n (omega arith) h in
      subst (λ (x : NumState). Arrives r x w left out err) all a

  pub read_failed : FailsAtRead i (num_steps i s k) w left out err → RunsTo i n step.ReadFault s w left out err
  read_failed f = record { taken = k; before = before; fails = f }

  pub write_failed : FailsAtWrite i (num_steps i s k) w left out err → RunsTo i n step.WriteFault s w left out err
  write_failed f = record { taken = k; before = before; fails = f }

-- all steps were taken
pub runs_through : (i : Image) (s : NumState) (n : ℕ) (r : Step) (w : View) (left : Option (List ℕ)) (out err : Told) → r ≢ step.ReadFault → r ≢ step.WriteFault → IsAnswer r w.end → IsState w left out err (num_steps i s n) → RunsTo i n r s w left out err
runs_through i s n step.ReadFault w left out err a b answer h = absurd (a refl)
runs_through i s n step.WriteFault w left out err a b answer h = absurd (b refl)
runs_through i s n step.Went w left out err a b answer h = arrives step.Went (num_steps i s n) w left out err answer h
runs_through i s n (step.Exit status) w left out err a b answer h = arrives (step.Exit status) (num_steps i s n) w left out err answer h
runs_through i s n (step.Trap kind at) w left out err a b answer h = arrives (step.Trap kind at) (num_steps i s n) w left out err answer h

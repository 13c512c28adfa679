-- Steps of the machine are steps of the definition.
use Rattle.std.proofs.Common.{◌≡◌, ◌≢◌, ℕ, List, Option, Some, None, refl, ap, sym, subst, ◌∙◌}
use Rattle.std.specs.Prelude.{option_map}
use Rattle.om_prog.specs.declared.item.Item.{Item}
use Rattle.om_prog.specs.Act.{Act, Word}
use Rattle.om_prog.specs.Runs.{sym_step, step_if, step_word}
use Rattle.om_prog.specs.Script.{act_of}
use Rattle.om_prog.specs.Step.{SymState, SymEnd, act_effect, after, calls}
use Rattle.om_prog.specs.View.{item_at}
use Rattle.om_symrun.specs.View.{View, state_of, end_of, view_script, view_effect, view_call, view_register, view_executed, view_step}
use Rattle.om_symrun.specs.Streams.{Told}
use Rattle.om_symrun.specs.Calls.{IsState, CallsTo, IsAnswer}
use Rattle.om_symrun.specs.Steps.{IsAtCall, IsCallNext, IsAnswerOf, Arrives, StepsTo, word_effect}
use Rattle.om_symrun.specs.declared.machine.Ending.{Ending}
use Rattle.om_symrun.specs.declared.machine.SymStep.{SymStep}
use Rattle.om_symrun.specs.declared.machine.SymStep.TheVariants as step

-- ---- one step

module _ (v : View) (input out err : List ℕ) where
  -- what a word does is no matter of the streams
  effect_is : (a : Act) → act_effect (view_script v) (state_of v input out err) v.place a ≡ view_effect v a
  effect_is a = refl

  executed_is : (o : Option Item) → step_word (view_script v) (state_of v input out err) (option_map (λ (i : Item). record { at = v.place; act = act_of i.role i.instr }) o) ≡ view_executed v (state_of v input out err) o
  executed_is None = refl
  executed_is (Some i) =
      ap (λ e. after (state_of v input out err) v.place e) (effect_is (act_of i.role i.instr))

  step_is : (end : Option SymEnd) → step_if end (view_script v) (state_of v input out err) ≡ view_step v (state_of v input out err) end
  step_is (Some e) = refl
  step_is None = executed_is (item_at v.program v.place)

  pub stepped : sym_step (view_script v) (state_of v input out err) ≡ view_step v (state_of v input out err) (option_map end_of v.end)
  unfolding sym_step
  stepped = step_is (option_map end_of v.end)

  word_is : Act → Word
  word_is a = record { at = v.place; act = a }

  called : IsCallNext v → calls (state_of v input out err) v.place (view_call v) (view_register v 17) ≡ sym_step (view_script v) (state_of v input out err)
  unfolding sym_step
  called next =
      sym
      (ap (λ (o : Option Ending). step_if (option_map end_of o) (view_script v) (state_of v input out err)) next.running
      ∙ ap (λ (w : Option Word). step_word (view_script v) (state_of v input out err) w) next.callsys)

  pub at_call : IsCallNext v → IsAtCall (view_script v) (state_of v input out err) (view_call v) (view_register v 17)
  at_call next =
      record {
        running = ap (λ (o : Option Ending). option_map end_of o) next.running;
        effect = ap (λ (w : Option Word). option_map (word_effect (view_script v) (state_of v input out err)) w) next.callsys;
      }

-- ---- the answer

answer_of : (r : SymStep) (end : Option Ending) (o : Option SymEnd) → option_map end_of end ≡ o → IsAnswer r end → IsAnswerOf r o
answer_of step.Went end o e a = sym e ∙ ap (λ (x : Option Ending). option_map end_of x) a
answer_of (step.Exit status) end o e a = sym e ∙ ap (λ (x : Option Ending). option_map end_of x) a
answer_of (step.Trap kind at) end o e a = sym e ∙ ap (λ (x : Option Ending). option_map end_of x) a
answer_of (step.Observes at) end o e a = sym e ∙ ap (λ (x : Option Ending). option_map end_of x) a
answer_of step.ReadFault end o e a = sym e ∙ ap (λ (x : Option Ending). option_map end_of x) a
answer_of step.WriteFault end o e a = sym e ∙ ap (λ (x : Option Ending). option_map end_of x) a
answer_of step.NoMemory end o e a = sym e ∙ ap (λ (x : Option Ending). option_map end_of x) a

pub arrives : (r : SymStep) (t : SymState) (w : View) (left : Option (List ℕ)) (out err : Told) → IsAnswer r w.end → IsState w left out err t → Arrives r t w left out err
arrives r t w left out err a h =
    record { answer_is = answer_of r w.end t.ended (ap (λ (x : SymState). x.ended) h.machine) a; state = h }

-- ---- steps other than calls, and calls

module _ (v w : View) (s : SymState) where
  plain_state : (left : Option (List ℕ)) (out err : Told) → ((input out err : List ℕ) → state_of w input out err ≡ view_step v (state_of v input out err) (option_map end_of v.end)) → IsState v left out err s → IsState w left out err (sym_step (view_script v) s)
  plain_state left out err next_is h =
      let t = state_of w s.input s.out s.err in
      let next : t ≡ sym_step (view_script v) s =
      next_is s.input s.out s.err ∙ sym (stepped v s.input s.out s.err) ∙ ap (λ (x : SymState). sym_step (view_script v) x) h.machine in
      let here : IsState w left out err t = record { machine = refl; input = h.input; out = h.out; err = h.err } in
      subst (λ (x : SymState). IsState w left out err x) next here

  pub plain_steps :
      (r : SymStep) (left : Option (List ℕ)) (out err : Told) → ((input out err : List ℕ) → state_of w input out err ≡ view_step v (state_of v input out err) (option_map end_of v.end)) →
      IsAnswer r w.end → r ≢ step.ReadFault → r ≢ step.WriteFault → r ≢ step.NoMemory → IsState v left out err s → StepsTo (view_script v) r s w left out err
  plain_steps step.ReadFault left out err next_is a n m k h = absurd (n refl)
  plain_steps step.WriteFault left out err next_is a n m k h = absurd (m refl)
  plain_steps step.NoMemory left out err next_is a n m k h = absurd (k refl)
  plain_steps step.Went left out err next_is a n m k h =
      arrives step.Went (sym_step (view_script v) s) w left out err a (plain_state left out err next_is h)
  plain_steps (step.Exit status) left out err next_is a n m k h =
      arrives (step.Exit status) (sym_step (view_script v) s) w left out err a (plain_state left out err next_is h)
  plain_steps (step.Trap kind at) left out err next_is a n m k h =
      arrives (step.Trap kind at) (sym_step (view_script v) s) w left out err a (plain_state left out err next_is h)
  plain_steps (step.Observes at) left out err next_is a n m k h =
      arrives (step.Observes at) (sym_step (view_script v) s) w left out err a (plain_state left out err next_is h)

  pub want_steps :
      (left : Option (List ℕ)) (out err : Told) → ((input out err : List ℕ) → state_of w input out err ≡ state_of v input out err) →
      IsAnswer step.NoMemory w.end → IsState v left out err s → StepsTo (view_script v) step.NoMemory s w left out err
  want_steps left out err same a h =
      arrives step.NoMemory s w left out err a (record { machine = same s.input s.out s.err ∙ h.machine; input = h.input; out = h.out; err = h.err })

  called_at : (left : Option (List ℕ)) (out err : Told) → IsCallNext v → IsState v left out err s → calls s s.place (view_call v) (view_register v 17) ≡ sym_step (view_script v) s
  called_at left out err next h =
      subst (λ (x : SymState). calls x x.place (view_call v) (view_register v 17) ≡ sym_step (view_script v) x) h.machine (called v s.input s.out s.err next)

  at_state : (left : Option (List ℕ)) (out err : Told) → IsCallNext v → IsState v left out err s → IsAtCall (view_script v) s (view_call v) (view_register v 17)
  at_state left out err next h =
      subst (λ (x : SymState). IsAtCall (view_script v) x (view_call v) (view_register v 17)) h.machine (at_call v s.input s.out s.err next)

  pub call_steps :
      (r : SymStep) (left left' : Option (List ℕ)) (out err out' err' : Told) → IsCallNext v → IsAnswer r w.end → IsState v left out err s →
      CallsTo v r s w left' out' err' → StepsTo (view_script v) r s w left' out' err'
  call_steps step.ReadFault left left' out err out' err' next a h k =
      record { call = view_call v; a1 = view_register v 17; at = at_state left out err next h; fails = k }
  call_steps step.WriteFault left left' out err out' err' next a h k =
      record { call = view_call v; a1 = view_register v 17; at = at_state left out err next h; fails = k }
  call_steps step.NoMemory left left' out err out' err' next a h k = arrives step.NoMemory s w left' out' err' a k
  call_steps step.Went left left' out err out' err' next a h k =
      arrives step.Went (sym_step (view_script v) s) w left' out' err' a (subst (λ (x : SymState). IsState w left' out' err' x) (called_at left out err next h) k)
  call_steps (step.Exit status) left left' out err out' err' next a h k =
      arrives (step.Exit status) (sym_step (view_script v) s) w left' out' err' a (subst (λ (x : SymState). IsState w left' out' err' x) (called_at left out err next h) k)
  call_steps (step.Observes at) left left' out err out' err' next a h k =
      arrives (step.Observes at) (sym_step (view_script v) s) w left' out' err' a (subst (λ (x : SymState). IsState w left' out' err' x) (called_at left out err next h) k)
  call_steps (step.Trap kind where_) left left' out err out' err' next a h k = absurd k

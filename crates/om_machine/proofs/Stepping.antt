-- Steps of the machine are steps of the definition.
use Rattle.std.proofs.Common.{◌≡◌, ℕ, zero, suc, ◌-◌, ◌/◌, ◌%◌, ◌==◌, ◌&&◌, List, [], ◌∷◌, length, map, Bool, true, false, Option, Some, None, refl, ap, sym, subst, ◌∙◌, slice_get, slice_index}
use Rattle.std.specs.Prelude.{option_map, option_and_then, if◌then◌else◌}
use Rattle.std.proofs.lemmas.List.{length-map}
use Rattle.om_isa.specs.declared.instr.Instr.{Instr}
use Rattle.om_isa.specs.declared.instr.Instr.TheVariants as instr
use Rattle.om_isa.specs.Words.{instr_of}
use Rattle.om_image.specs.declared.image.Image.{Image}
use Rattle.om_image.specs.Layout.{text_base}
use Rattle.om_image.specs.NumState.{NumState, NumEnd}
use Rattle.om_image.specs.NumStep.{num_step, step_if, executed, fetched, effect_at, effect_of, word_at, is_text, after, calls, data_size}
use Rattle.om_machine.specs.Memory.{memory_of}
use Rattle.om_machine.specs.View.{View, HasImage, state_of, end_of, instr_at, view_effect, view_call, view_register, view_executed, view_step}
use Rattle.om_machine.specs.Streams.{Told}
use Rattle.om_machine.specs.Calls.{IsState, CallsTo, IsAnswer}
use Rattle.om_machine.specs.Steps.{IsAtCall, IsAnswerOf, Arrives, StepsTo}
use Rattle.om_machine.specs.declared.machine.Ending.{Ending}
use Rattle.om_machine.specs.declared.machine.Step.{Step}
use Rattle.om_machine.specs.declared.machine.Step.TheVariants as step

-- ---- the instruction of a word is the one at its place

got : (text : List ℕ) (code : List Instr) (k : ℕ) → map Some code ≡ map instr_of text → option_and_then instr_of (slice_get text k) ≡ slice_get code k
got [] [] k e = refl
got [] (c ∷ code) k e = absurd cc
got (w ∷ text) [] k e = absurd cc
got (w ∷ text) (c ∷ code) zero e = let h : Some c ≡ instr_of w = cc in sym h
got (w ∷ text) (c ∷ code) (suc k) e = let t : map Some code ≡ map instr_of text = cc in got text code k t

chosen : (b : Bool) (text : List ℕ) (code : List Instr) (k : ℕ) → map Some code ≡ map instr_of text → option_and_then instr_of (if b then slice_get text k else None) ≡ (if b then slice_get code k else None)
chosen true text code k e = got text code k e
chosen false text code k e = refl

lengths : (text : List ℕ) (code : List Instr) → map Some code ≡ map instr_of text → length code ≡ length text
lengths text code e = sym (length-map code Some) ∙ ap length e ∙ length-map text instr_of

fetch_is : (text : List ℕ) (code : List Instr) (a : ℕ) → map Some code ≡ map instr_of text → option_and_then instr_of (word_at text a) ≡ instr_at code a
fetch_is text code a e =
    chosen (is_text (length text) a && (a % 4 == 0)) text code ((a - text_base) / 4) e
    ∙ ap (λ n. if is_text n a && (a % 4 == 0) then slice_get code ((a - text_base) / 4) else None) (sym (lengths text code e))

-- ---- one step

module _ (i : Image) (v : View) (image : HasImage i v) (input out err : List ℕ) where
  effect_is : (instr : Instr) → effect_at i (state_of v input out err) instr ≡ view_effect v instr
  effect_is instr =
      ap (λ n. effect_of n (data_size i) v.memory.heap_size (slice_index v.registers) (memory_of v.memory) v.pc instr) (sym (lengths i.text v.code image.code))
      ∙ ap (λ n. effect_of (length v.code) n v.memory.heap_size (slice_index v.registers) (memory_of v.memory) v.pc instr) (sym image.size)

  executed_is : (o : Option Instr) → executed i (state_of v input out err) o ≡ view_executed v (state_of v input out err) o
  executed_is None = refl
  executed_is (Some instr) = ap (λ e. after (state_of v input out err) e) (effect_is instr)

  step_is : (end : Option NumEnd) → step_if i (state_of v input out err) end ≡ view_step v (state_of v input out err) end
  step_is (Some e) = refl
  step_is None =
      executed_is (fetched i (state_of v input out err))
      ∙ ap (λ o. view_executed v (state_of v input out err) o) (fetch_is i.text v.code v.pc image.code)

  pub stepped : num_step i (state_of v input out err) ≡ view_step v (state_of v input out err) (option_map end_of v.end)
  unfolding num_step
  stepped = step_is (option_map end_of v.end)

  called : v.end ≡ None → instr_at v.code v.pc ≡ Some instr.Callsys → num_step i (state_of v input out err) ≡ calls (state_of v input out err) (view_call v) (view_register v 17)
  called running at =
      stepped
      ∙ ap (λ (o : Option Ending). view_step v (state_of v input out err) (option_map end_of o)) running
      ∙ ap (λ o. view_executed v (state_of v input out err) o) at

  pub at_call : v.end ≡ None → instr_at v.code v.pc ≡ Some instr.Callsys → IsAtCall i (state_of v input out err) (view_call v) (view_register v 17)
  at_call running at =
      record {
        running = ap (λ (o : Option Ending). option_map end_of o) running;
        effect =
            ap (λ o. option_map (effect_at i (state_of v input out err)) o) (fetch_is i.text v.code v.pc image.code ∙ at)
            ∙ ap Some (effect_is instr.Callsys);
      }

-- ---- the answer

answer_of : (r : Step) (end : Option Ending) (o : Option NumEnd) → option_map end_of end ≡ o → IsAnswer r end → IsAnswerOf r o
answer_of step.Went end o e a = sym e ∙ ap (λ (x : Option Ending). option_map end_of x) a
answer_of (step.Exit status) end o e a = sym e ∙ ap (λ (x : Option Ending). option_map end_of x) a
answer_of (step.Trap kind at) end o e a = sym e ∙ ap (λ (x : Option Ending). option_map end_of x) a
answer_of step.ReadFault end o e a = sym e ∙ ap (λ (x : Option Ending). option_map end_of x) a
answer_of step.WriteFault end o e a = sym e ∙ ap (λ (x : Option Ending). option_map end_of x) a

pub arrives : (r : Step) (t : NumState) (w : View) (left : Option (List ℕ)) (out err : Told) → IsAnswer r w.end → IsState w left out err t → Arrives r t w left out err
arrives r t w left out err a h =
    record { answer_is = answer_of r w.end t.end (ap (λ (x : NumState). x.end) h.machine) a; state = h }

-- ---- steps other than calls, and calls

module _ (i : Image) (v w : View) (image : HasImage i v) (s : NumState) where
  plain_state : (left : Option (List ℕ)) (out err : Told) → ((input out err : List ℕ) → state_of w input out err ≡ view_step v (state_of v input out err) (option_map end_of v.end)) → IsState v left out err s → IsState w left out err (num_step i s)
  plain_state left out err next_is h =
      let t = state_of w s.input s.out s.err in
      let next : t ≡ num_step i s =
      next_is s.input s.out s.err ∙ sym (stepped i v image s.input s.out s.err) ∙ ap (λ (x : NumState). num_step i x) h.machine in
      let here : IsState w left out err t = record { machine = refl; input = h.input; out = h.out; err = h.err } in
      subst (λ (x : NumState). IsState w left out err x) next here

  pub plain_steps : (r : Step) (left : Option (List ℕ)) (out err : Told) → ((input out err : List ℕ) → state_of w input out err ≡ view_step v (state_of v input out err) (option_map end_of v.end)) → IsAnswer r w.end → (r ≡ step.ReadFault → ⊥) → (r ≡ step.WriteFault → ⊥) → IsState v left out err s → StepsTo i r s w left out err
  plain_steps step.ReadFault left out err next_is a n m h = absurd (n refl)
  plain_steps step.WriteFault left out err next_is a n m h = absurd (m refl)
  plain_steps step.Went left out err next_is a n m h =
      arrives step.Went (num_step i s) w left out err a (plain_state left out err next_is h)
  plain_steps (step.Exit status) left out err next_is a n m h =
      arrives (step.Exit status) (num_step i s) w left out err a (plain_state left out err next_is h)
  plain_steps (step.Trap kind at) left out err next_is a n m h =
      arrives (step.Trap kind at) (num_step i s) w left out err a (plain_state left out err next_is h)

  called_at : (left : Option (List ℕ)) (out err : Told) → v.end ≡ None → instr_at v.code v.pc ≡ Some instr.Callsys → IsState v left out err s → calls s (view_call v) (view_register v 17) ≡ num_step i s
  called_at left out err running at h =
      subst (λ (x : NumState). calls x (view_call v) (view_register v 17) ≡ num_step i x) h.machine (sym (called i v image s.input s.out s.err running at))

  at_state : (left : Option (List ℕ)) (out err : Told) → v.end ≡ None → instr_at v.code v.pc ≡ Some instr.Callsys → IsState v left out err s → IsAtCall i s (view_call v) (view_register v 17)
  at_state left out err running at h =
      subst (λ (x : NumState). IsAtCall i x (view_call v) (view_register v 17)) h.machine (at_call i v image s.input s.out s.err running at)

  pub call_steps : (r : Step) (left left' : Option (List ℕ)) (out err out' err' : Told) → v.end ≡ None → instr_at v.code v.pc ≡ Some instr.Callsys → IsAnswer r w.end → IsState v left out err s → CallsTo v r s w left' out' err' → StepsTo i r s w left' out' err'
  call_steps step.ReadFault left left' out err out' err' running at a h k =
      record { call = view_call v; a1 = view_register v 17; at = at_state left out err running at h; fails = k }
  call_steps step.WriteFault left left' out err out' err' running at a h k =
      record { call = view_call v; a1 = view_register v 17; at = at_state left out err running at h; fails = k }
  call_steps step.Went left left' out err out' err' running at a h k =
      arrives step.Went (num_step i s) w left' out' err' a (subst (λ (x : NumState). IsState w left' out' err' x) (called_at left out err running at h) k)
  call_steps (step.Exit status) left left' out err out' err' running at a h k =
      arrives (step.Exit status) (num_step i s) w left' out' err' a (subst (λ (x : NumState). IsState w left' out' err' x) (called_at left out err running at h) k)
  call_steps (step.Trap kind where_) left left' out err out' err' running at a h k = absurd k

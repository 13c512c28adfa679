-- From the runs of the machine to what a command promises of them.
use Rattle.std.proofs.Common.{◌≡◌, ◌≢◌, ◌⊎◌, ◌++◌, ◌∙◌, ℕ, suc, Bool, true, false, cond, eqb, List, [], Option, Some, None, refl, sym, ap, subst, append_assoc, append-nil, arith}
use Rattle.std.specs.Prelude.{option_map}
use Rattle.std.proofs.lemmas.Option.{same_Some, none-some}
use Rattle.om_io.specs.Causes.{Rose}
use Rattle.om_io.specs.Outside.{IsFrontOf}
use Rattle.om_isa.specs.SystemCall.{Call, Puts}
use Rattle.om_image.specs.NumState.{NumState}
use Rattle.om_isa.specs.Effect.{Calls}
use Rattle.om_isa.specs.declared.instr.Instr.{Instr}
use Rattle.om_image.specs.NumStep.{num_start, num_step, step_if, executed, effect_at, after, calls, fetched}
use Rattle.om_image.specs.NumRun.{num_steps, num_run}
use Rattle.om_image.specs.declared.image.Image.{Image}
use Rattle.om_machine.specs.View.{View, state_of}
use Rattle.om_machine.specs.Streams.{Tells}
use Rattle.om_machine.specs.Calls.{IsState}
use Rattle.om_machine.specs.Steps.{IsAtCall, IsAnswerOf, Arrives, FailsReading, FailsWriting}
use Rattle.om_machine.specs.declared.machine.Step.{Step}
use Rattle.om_machine.specs.declared.machine.Step.TheVariants as step
use Rattle.om_alpha.specs.declared.op.TrapKind.{TrapKind}
use Rattle.om_machine.proofs.Growing.{later_only}
use Rattle.om_command.specs.Faults.{StopsReading, StopsWriting}
use Rattle.om_command.specs.RunAnswers.{IsNextCall, StandsAt, input_after, out_after, err_after}
use Rattle.om_command.specs.World.{Streams, Faultless, FaultOfInput, FaultOfSink, on_out, on_err}

-- ---- fronts

front_again : (a b c : List ℕ) → IsFrontOf a b → IsFrontOf b c → IsFrontOf a c
front_again a b c p q = (p.0 ++ q.0, sym (append_assoc a p.0 q.0) ∙ ap (λ l. l ++ q.0) p.1 ∙ q.1)

front_behind : (t a b : List ℕ) → IsFrontOf a b → IsFrontOf (t ++ a) (t ++ b)
front_behind t a b p = (p.0, append_assoc t a p.0 ∙ ap (λ l. t ++ l) p.1)

-- of what a put adds where it is on a descriptor, or is not
pub put_on : (b : Bool) (t front bytes later : List ℕ) → IsFrontOf front bytes → IsFrontOf (cond b (t ++ bytes) t) later →
    IsFrontOf (cond b (t ++ front) t) later
put_on true t front bytes later is whole = front_again (t ++ front) (t ++ bytes) later (front_behind t front bytes is) whole
put_on false t front bytes later is whole = whole

pub put_off : (b : Bool) (t front bytes later : List ℕ) → IsFrontOf front bytes → IsFrontOf (cond b t (t ++ bytes)) later →
    IsFrontOf (cond b t (t ++ front)) later
put_off true t front bytes later is whole = whole
put_off false t front bytes later is whole = front_again (t ++ front) (t ++ bytes) later (front_behind t front bytes is) whole

-- what was told behind what was told before
pub ends_told : (old new : Option (List ℕ)) (more : List ℕ) → Tells (old, new) more → (before : List ℕ) → old ≡ Some before →
    new ≡ Some (before ++ more)
ends_told None new more told before is = absurd (none-some before is)
ends_told (Some text) new more told before is = told ∙ ap (λ l. Some (l ++ more)) (same_Some text before is)

pub starts_told : (told : Option (List ℕ)) → Tells (told, told) []
starts_told None = tt
starts_told (Some text) = ap (λ (l : List ℕ). Some l) (sym (append-nil text))

-- ---- the step of a call

by_fetch : (i : Image) (t : NumState) (call : Call) (a1 : ℕ) (o : Option Instr) → option_map (effect_at i t) o ≡ Some (Calls call a1) →
    executed i t o ≡ calls t call a1
by_fetch i t call a1 None e = absurd (none-some _ e)
by_fetch i t call a1 (Some instr) e = ap (after t) (same_Some (effect_at i t instr) (Calls call a1) e)

step_at : (i : Image) (t : NumState) (call : Call) (a1 : ℕ) → IsAtCall i t call a1 → num_step i t ≡ calls t call a1
unfolding num_step
step_at i t call a1 at = ap (step_if i t) at.running ∙ by_fetch i t call a1 (fetched i t) at.effect

one_more_step : (i : Image) (xs : List ℕ) (n : ℕ) → num_run i xs (suc n) ≡ num_step i (num_run i xs n)
unfolding num_steps
one_more_step i xs n = refl

-- the machine at the start
pub first_is : (i : Image) (v : View) → ((input : List ℕ) → state_of v input [] [] ≡ num_start i input) → (xs : List ℕ)
    (left out err : Option (List ℕ)) → left ≡ Some xs → IsState v left (out, out) (err, err) (num_start i xs)
unfolding num_start
first_is i v start xs left out err told = record {
  machine = start xs;
  input = told;
  out = starts_told out;
  err = starts_told err;
}

module _ (i : Image) (steps : ℕ) (old : Streams) (xs : List ℕ) where
  module _ (w : View) (new : Streams) where
    -- the run came to a state
    pub arrived : (answer : Step) →
        Arrives answer (num_run i xs steps) w new.input.told (old.out.told, new.out.told) (old.err.told, new.err.told) →
        StandsAt (num_run i xs steps) old new × IsAnswerOf answer (num_run i xs steps).end
    arrived answer a = (
      record {
        input = a.state.input;
        out = ends_told old.out.told new.out.told (num_run i xs steps).out a.state.out;
        err = ends_told old.err.told new.err.told (num_run i xs steps).err a.state.err;
      },
      a.answer_is,
    )

    -- a read failed
    pub read_failed : FailsReading i steps (num_start i xs) w new.input.told (old.out.told, new.out.told) (old.err.told, new.err.told) →
        StopsReading (IsNextCall i xs) (input_after i xs) (out_after i xs) (err_after i xs) steps old new
    read_failed f =
        let t = num_run i xs f.taken in
        let fails = f.fails.fails in
        let grown = later_only i (num_start i xs) f.taken steps (omega (arith, f.before)) in record {
          done = f.taken;
          within = f.before;
          count = fails.count;
          asked = (f.fails.a1, subst (λ c. IsAtCall i t c f.fails.a1) fails.asked f.fails.at);
          taken = fails.bytes;
          left = fails.rest;
          few = fails.few;
          split = fails.split;
          streams = record {
            input = fails.state.input;
            out = ends_told old.out.told new.out.told t.out fails.state.out;
            err = ends_told old.err.told new.err.told t.err fails.state.err;
          };
          fronts = record {
            out = λ before b. (t.out, grown.out, ends_told old.out.told new.out.told t.out fails.state.out before b);
            err = λ before b. (t.err, grown.err, ends_told old.err.told new.err.told t.err fails.state.err before b);
          };
        }

    -- a put failed: what was written before it, and a front of what it puts
    pub put_failed : FailsWriting i steps (num_start i xs) w new.input.told (old.out.told, new.out.told) (old.err.told, new.err.told) →
        StopsWriting (IsNextCall i xs) (input_after i xs) (out_after i xs) (err_after i xs) steps old new
    put_failed f =
        let t = num_run i xs f.taken in
        let put = f.fails.fails in
        let at_call : IsAtCall i t (Puts put.descriptor put.bytes) f.fails.a1 = subst (λ c. IsAtCall i t c f.fails.a1) put.asked f.fails.at in
        let after : num_run i xs (suc f.taken) ≡ calls t (Puts put.descriptor put.bytes) f.fails.a1 =
        one_more_step i xs f.taken ∙ step_at i t _ f.fails.a1 at_call in
        let grown = later_only i (num_start i xs) (suc f.taken) steps (omega (arith, f.before)) in record {
          done = f.taken;
          within = f.before;
          descriptor = put.descriptor;
          bytes = put.bytes;
          asked = (f.fails.a1, at_call);
          front = put.front;
          is_front = put.is_front;
          streams = record {
            input = put.state.input;
            out = ends_told old.out.told new.out.told (on_out put.descriptor t.out put.front) put.state.out;
            err = ends_told old.err.told new.err.told (on_err put.descriptor t.err put.front) put.state.err;
          };
          fronts = record {
            out = λ before b. (
              on_out put.descriptor t.out put.front,
              put_on (eqb put.descriptor 1) t.out put.front put.bytes (num_run i xs steps).out put.is_front
                  (subst (λ (l : List ℕ). IsFrontOf l (num_run i xs steps).out) (ap (λ (x : NumState). x.out) after) grown.out),
              ends_told old.out.told new.out.told _ put.state.out before b,
            );
            err = λ before b. (
              on_err put.descriptor t.err put.front,
              put_off (eqb put.descriptor 1) t.err put.front put.bytes (num_run i xs steps).err put.is_front
                  (subst (λ (l : List ℕ). IsFrontOf l (num_run i xs steps).err) (ap (λ (x : NumState). x.err) after) grown.err),
              ends_told old.err.told new.err.told _ put.state.err before b,
            );
          };
        }

-- a run that came to an end is no fault
pub went_is_no_fault : (step.Went ≢ step.ReadFault) × (step.Went ≢ step.WriteFault)
went_is_no_fault = (λ e. let never : ⊥ = cc in never, λ e. let never : ⊥ = cc in never)

pub exit_is_no_fault : (status : ℕ) → (step.Exit status ≢ step.ReadFault) × (step.Exit status ≢ step.WriteFault)
exit_is_no_fault status = (λ e. let never : ⊥ = cc in never, λ e. let never : ⊥ = cc in never)

pub trap_is_no_fault : (kind : TrapKind) (at : ℕ) → (step.Trap kind at ≢ step.ReadFault) × (step.Trap kind at ≢ step.WriteFault)
trap_is_no_fault kind at = (λ e. let never : ⊥ = cc in never, λ e. let never : ⊥ = cc in never)

pub read_is_no_write : step.ReadFault ≢ step.WriteFault
read_is_no_write = λ e. let never : ⊥ = cc in never

pub write_is_no_read : step.WriteFault ≢ step.ReadFault
write_is_no_read = λ e. let never : ⊥ = cc in never

-- no stream failed
pub faultless : (old new : Streams) → new.input.faults ≡ old.input.faults → (new.out.faults ≡ old.out.faults) × (new.err.faults ≡ old.err.faults) →
    Faultless old new
faultless old new input sinks = record { input = input; out = sinks.0; err = sinks.1 }

-- only the input failed, or only a sink
pub input_fault : (old new : Streams) → Rose old.input.faults new.input.faults → (new.out.faults ≡ old.out.faults) × (new.err.faults ≡ old.err.faults) →
    FaultOfInput old new
input_fault old new input sinks = record { input = input; out = sinks.0; err = sinks.1 }

pub sink_fault : (old new : Streams) → new.input.faults ≡ old.input.faults →
    Rose old.out.faults new.out.faults ⊎ Rose old.err.faults new.err.faults → FaultOfSink old new
sink_fault old new input sinks = record { input = input; sinks = sinks }

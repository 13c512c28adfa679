-- From the runs of the machine without addresses to what a command promises of them.
use Rattle.std.proofs.Common.{◌≡◌, ◌≢◌, ◌≤◌, ◌++◌, ◌∙◌, ℕ, zero, suc, eqb, List, [], Option, Some, None, refl, sym, ap, subst, append-nil, arith}
use Rattle.std.specs.Prelude.{option_map}
use Rattle.std.proofs.lemmas.Option.{same_Some, none-some}
use Rattle.om_alpha.specs.declared.op.TrapKind.{TrapKind}
use Rattle.om_io.specs.Outside.{IsFrontOf}
use Rattle.om_isa.specs.Effect.{Calls}
use Rattle.om_isa.specs.SystemCall.{Call, Puts}
use Rattle.om_prog.specs.Act.{Script, Word}
use Rattle.om_prog.specs.Runs.{sym_start, sym_step, sym_run, step_if, step_word}
use Rattle.om_prog.specs.Script.{program_script, program_run}
use Rattle.om_prog.specs.Step.{SymState, after, calls}
use Rattle.om_prog.specs.View.{ProgramView}
use Rattle.om_value.specs.declared.value.Place.{Place}
use Rattle.om_value.specs.declared.value.Value.{Value}
use Rattle.om_symrun.specs.View.{View, state_of}
use Rattle.om_symrun.specs.Streams.{Tells}
use Rattle.om_symrun.specs.Calls.{IsState}
use Rattle.om_symrun.specs.Steps.{sym_steps, word_effect, IsAtCall, IsAnswerOf, Arrives, FailsReading, FailsWriting, WantsMemory}
use Rattle.om_symrun.specs.Writing.{OnlyWrites}
use Rattle.om_symrun.specs.declared.machine.SymStep.{SymStep}
use Rattle.om_symrun.specs.declared.machine.SymStep.TheVariants as step
use Rattle.om_symrun.proofs.Growing.{later_only}
use Rattle.om_command.specs.Faults.{StopsReading, StopsWriting}
use Rattle.om_command.specs.SimAnswers.{IsNextCall, SimStandsAt, StopsForMemory, input_after, out_after, err_after}
use Rattle.om_command.specs.World.{Streams, Faultless, on_out, on_err}
use Rattle.om_command.proofs.Ran.{put_on, put_off, ends_told, starts_told}

-- ---- runs by steps from the start

runs_are : (c : Script) (xs : List ℕ) (n : ℕ) → sym_steps c (sym_start c xs) n ≡ sym_run c xs n
unfolding sym_steps sym_run
runs_are c xs zero = refl
runs_are c xs (suc n) = ap (sym_step c) (runs_are c xs n)

grown : (c : Script) (xs : List ℕ) (k n : ℕ) → k ≤ n → OnlyWrites (sym_run c xs k) (sym_run c xs n)
grown c xs k n few =
    subst (λ s. OnlyWrites s (sym_run c xs n)) (runs_are c xs k)
    (subst (λ s. OnlyWrites (sym_steps c (sym_start c xs) k) s) (runs_are c xs n) (later_only c (sym_start c xs) k n few))

-- ---- the step of a call

by_fetch : (c : Script) (t : SymState) (call : Call) (a1 : Value) (o : Option Word) → option_map (word_effect c t) o ≡ Some (Calls call a1) →
    (at : _) × (step_word c t o ≡ calls t at call a1)
by_fetch c t call a1 None e = absurd (none-some _ e)
by_fetch c t call a1 (Some w) e = (w.at, ap (after t w.at) (same_Some (word_effect c t w) (Calls call a1) e))

step_at : (c : Script) (t : SymState) (call : Call) (a1 : Value) → IsAtCall c t call a1 → (at : _) × (sym_step c t ≡ calls t at call a1)
unfolding sym_step
step_at c t call a1 at =
    let f = by_fetch c t call a1 (c.fetch t.place) at.effect in
    (f.0, ap (λ e. step_if e c t) at.running ∙ f.1)

one_more_step : (c : Script) (xs : List ℕ) (n : ℕ) → sym_run c xs (suc n) ≡ sym_step c (sym_run c xs n)
unfolding sym_run
one_more_step c xs n = refl

-- the machine at the start
pub sim_first_is : (c : Script) (v : View) → ((input : List ℕ) → state_of v input [] [] ≡ sym_start c input) → (xs : List ℕ)
    (left out err : Option (List ℕ)) → left ≡ Some xs → IsState v left (out, out) (err, err) (sym_start c xs)
unfolding sym_start
sim_first_is c v start xs left out err told = record {
  machine = start xs;
  input = told;
  out = starts_told out;
  err = starts_told err;
}

module _ (p : ProgramView) (steps : ℕ) (old : Streams) (xs : List ℕ) where
  abbrev script : Script
  script = program_script p

  module _ (w : View) (new : Streams) where
    -- the run came to a state
    pub sim_arrived : (answer : SymStep) (q : ProgramView) → q ≡ p →
        Arrives answer (sym_steps (program_script q) (sym_start (program_script p) xs) steps) w new.input.told (old.out.told, new.out.told) (old.err.told, new.err.told) →
        SimStandsAt (program_run p xs steps) old new × IsAnswerOf answer (program_run p xs steps).ended
    sim_arrived answer q is from =
        let came = subst (λ (x : ProgramView). Arrives answer (sym_steps (program_script x) (sym_start (program_script p) xs) steps) w new.input.told (old.out.told, new.out.told) (old.err.told, new.err.told)) is from in
        let a = subst (λ s. Arrives answer s w new.input.told (old.out.told, new.out.told) (old.err.told, new.err.told)) (runs_are script xs steps) came in (
          record {
            input = a.state.input;
            out = ends_told old.out.told new.out.told (program_run p xs steps).out a.state.out;
            err = ends_told old.err.told new.err.told (program_run p xs steps).err a.state.err;
          },
          a.answer_is,
        )

    -- memory ran out at a step
    pub sim_wanted : (q : ProgramView) → q ≡ p → WantsMemory (program_script q) steps (sym_start (program_script p) xs) w new.input.told (old.out.told, new.out.told) (old.err.told, new.err.told) →
        StopsForMemory p xs steps old new
    sim_wanted q is from =
        let f = subst (λ (x : ProgramView). WantsMemory (program_script x) steps (sym_start (program_script p) xs) w new.input.told (old.out.told, new.out.told) (old.err.told, new.err.told)) is from in
        let t = sym_run script xs f.taken in
        let a = subst (λ s. Arrives step.NoMemory s w new.input.told (old.out.told, new.out.told) (old.err.told, new.err.told)) (runs_are script xs f.taken) f.arrives in
        let g = grown script xs f.taken steps (omega (arith, f.before)) in record {
          done = f.taken;
          within = omega (arith, f.before);
          streams = record {
            input = a.state.input;
            out = ends_told old.out.told new.out.told t.out a.state.out;
            err = ends_told old.err.told new.err.told t.err a.state.err;
          };
          fronts = record {
            out = λ before b. (t.out, g.out, ends_told old.out.told new.out.told t.out a.state.out before b);
            err = λ before b. (t.err, g.err, ends_told old.err.told new.err.told t.err a.state.err before b);
          };
        }

    -- a read failed
    pub sim_read_failed : (q : ProgramView) → q ≡ p → FailsReading (program_script q) steps (sym_start (program_script p) xs) w new.input.told (old.out.told, new.out.told) (old.err.told, new.err.told) →
        StopsReading (IsNextCall p xs) (input_after p xs) (out_after p xs) (err_after p xs) steps old new
    sim_read_failed q is from =
        let f = subst (λ (x : ProgramView). FailsReading (program_script x) steps (sym_start (program_script p) xs) w new.input.told (old.out.told, new.out.told) (old.err.told, new.err.told)) is from in
        let t = sym_run script xs f.taken in
        let fails = f.fails.fails in
        let here : sym_steps script (sym_start script xs) f.taken ≡ t = runs_are script xs f.taken in
        let at = subst (λ s. IsAtCall script s f.fails.call f.fails.a1) here f.fails.at in
        let told_out = subst (λ (s : SymState). Tells (old.out.told, new.out.told) s.out) here fails.state.out in
        let told_err = subst (λ (s : SymState). Tells (old.err.told, new.err.told) s.err) here fails.state.err in
        let g = grown script xs f.taken steps (omega (arith, f.before)) in record {
          done = f.taken;
          within = f.before;
          count = fails.count;
          asked = (f.fails.a1, subst (λ c. IsAtCall script t c f.fails.a1) fails.asked at);
          taken = fails.bytes;
          left = fails.rest;
          few = fails.few;
          split = subst (λ (s : SymState). s.input ≡ fails.bytes ++ fails.rest) here fails.split;
          streams = record {
            input = fails.state.input;
            out = ends_told old.out.told new.out.told t.out told_out;
            err = ends_told old.err.told new.err.told t.err told_err;
          };
          fronts = record {
            out = λ before b. (t.out, g.out, ends_told old.out.told new.out.told t.out told_out before b);
            err = λ before b. (t.err, g.err, ends_told old.err.told new.err.told t.err told_err before b);
          };
        }

    -- a put failed: what was written before it, and a front of what it puts
    pub sim_put_failed : (q : ProgramView) → q ≡ p → FailsWriting (program_script q) steps (sym_start (program_script p) xs) w new.input.told (old.out.told, new.out.told) (old.err.told, new.err.told) →
        StopsWriting (IsNextCall p xs) (input_after p xs) (out_after p xs) (err_after p xs) steps old new
    sim_put_failed q is from =
        let f = subst (λ (x : ProgramView). FailsWriting (program_script x) steps (sym_start (program_script p) xs) w new.input.told (old.out.told, new.out.told) (old.err.told, new.err.told)) is from in
        let t = sym_run script xs f.taken in
        let put = f.fails.fails in
        let here : sym_steps script (sym_start script xs) f.taken ≡ t = runs_are script xs f.taken in
        let at_call : IsAtCall script t (Puts put.descriptor put.bytes) f.fails.a1 =
        subst (λ c. IsAtCall script t c f.fails.a1) put.asked (subst (λ s. IsAtCall script s f.fails.call f.fails.a1) here f.fails.at) in
        let told_input = subst (λ (s : SymState). new.input.told ≡ Some s.input) here put.state.input in
        let told_out =
        subst (λ (s : SymState). Tells (old.out.told, new.out.told) (on_out put.descriptor s.out put.front)) here put.state.out in
        let told_err =
        subst (λ (s : SymState). Tells (old.err.told, new.err.told) (on_err put.descriptor s.err put.front)) here put.state.err in
        let stepped = step_at script t (Puts put.descriptor put.bytes) f.fails.a1 at_call in
        let after : sym_run script xs (suc f.taken) ≡ calls t stepped.0 (Puts put.descriptor put.bytes) f.fails.a1 =
        one_more_step script xs f.taken ∙ stepped.1 in
        let g = grown script xs (suc f.taken) steps (omega (arith, f.before)) in record {
          done = f.taken;
          within = f.before;
          descriptor = put.descriptor;
          bytes = put.bytes;
          asked = (f.fails.a1, at_call);
          front = put.front;
          is_front = put.is_front;
          streams = record {
            input = told_input;
            out = ends_told old.out.told new.out.told (on_out put.descriptor t.out put.front) told_out;
            err = ends_told old.err.told new.err.told (on_err put.descriptor t.err put.front) told_err;
          };
          fronts = record {
            out = λ before b. (
              on_out put.descriptor t.out put.front,
              put_on (eqb put.descriptor 1) t.out put.front put.bytes (program_run p xs steps).out put.is_front
                  (subst (λ (l : List ℕ). IsFrontOf l (program_run p xs steps).out) (ap (λ (x : SymState). x.out) after) g.out),
              ends_told old.out.told new.out.told _ told_out before b,
            );
            err = λ before b. (
              on_err put.descriptor t.err put.front,
              put_off (eqb put.descriptor 1) t.err put.front put.bytes (program_run p xs steps).err put.is_front
                  (subst (λ (l : List ℕ). IsFrontOf l (program_run p xs steps).err) (ap (λ (x : SymState). x.err) after) g.err),
              ends_told old.err.told new.err.told _ told_err before b,
            );
          };
        }

-- a run that came to an end, or whose memory ran out, is no fault
pub went_is_no_fault : (step.Went ≢ step.ReadFault) × (step.Went ≢ step.WriteFault)
went_is_no_fault = (λ e. let never : ⊥ = cc in never, λ e. let never : ⊥ = cc in never)

pub exit_is_no_fault : (status : ℕ) → (step.Exit status ≢ step.ReadFault) × (step.Exit status ≢ step.WriteFault)
exit_is_no_fault status = (λ e. let never : ⊥ = cc in never, λ e. let never : ⊥ = cc in never)

pub trap_is_no_fault : (kind : TrapKind) (at : Place) → (step.Trap kind at ≢ step.ReadFault) × (step.Trap kind at ≢ step.WriteFault)
trap_is_no_fault kind at = (λ e. let never : ⊥ = cc in never, λ e. let never : ⊥ = cc in never)

pub observes_is_no_fault : (at : Place) → (step.Observes at ≢ step.ReadFault) × (step.Observes at ≢ step.WriteFault)
observes_is_no_fault at = (λ e. let never : ⊥ = cc in never, λ e. let never : ⊥ = cc in never)

pub want_is_no_fault : (step.NoMemory ≢ step.ReadFault) × (step.NoMemory ≢ step.WriteFault)
want_is_no_fault = (λ e. let never : ⊥ = cc in never, λ e. let never : ⊥ = cc in never)

pub read_is_no_write : step.ReadFault ≢ step.WriteFault
read_is_no_write = λ e. let never : ⊥ = cc in never

pub write_is_no_read : step.WriteFault ≢ step.ReadFault
write_is_no_read = λ e. let never : ⊥ = cc in never

-- no stream failed
pub no_faults : (old : Streams) → Faultless old old
no_faults old = record { input = refl; out = refl; err = refl }

-- nothing was written
nothing_more : (told : Option (List ℕ)) (before : List ℕ) → told ≡ Some before → told ≡ Some (before ++ [])
nothing_more told before b = b ∙ ap (λ (l : List ℕ). Some l) (sym (append-nil before))

pub none_taken : (p : ProgramView) (steps : ℕ) (old : Streams) (xs : List ℕ) → old.input.told ≡ Some xs → StopsForMemory p xs steps old old
unfolding sym_run sym_start
none_taken p steps old xs told = record {
  done = 0;
  within = omega arith;
  streams = record { input = told; out = nothing_more old.out.told; err = nothing_more old.err.told };
  fronts = record {
    out = λ before b. ([], ((program_run p xs steps).out, refl), nothing_more old.out.told before b);
    err = λ before b. ([], ((program_run p xs steps).err, refl), nothing_more old.err.told before b);
  };
}

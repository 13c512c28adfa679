-- What is told of a run without addresses.
use Rattle.std.proofs.Common.{◌≡◌, ◌≢◌, ◌⊎◌, ◌∙◌, Bool, cond, ℕ, zero, suc, List, Option, Some, None, refl, sym, ap, subst, inl, inr, arith}
use Rattle.std.specs.Prelude.{IsTrue}
use Rattle.std.proofs.lemmas.Bool.{ne_eqb}
use Rattle.om_io.specs.Causes.{Rose}
use Rattle.om_object.specs.declared.parts.Parts.{Parts}
use Rattle.om_prog.specs.Script.{program_run}
use Rattle.om_prog.specs.Step.{SymEnd, ExitedWith, TrappedAt, ObservedAt}
use Rattle.om_prog.specs.View.{ProgramView}
use Rattle.om_resolve.specs.Program.{program_of}
use Rattle.om_command.specs.NoPrograms.{no_program_status, no_program_line}
use Rattle.om_command.specs.Programs.{FilesHaveCause, FilesHoldProgram, HoldsProgram, AreNoProgram}
use Rattle.om_command.specs.SimAnswers.{SimEnds, IsSimCause, SimAnswers, end_status}
use Rattle.om_command.specs.SimStops.{SimTold, sim_status, sim_line}
use Rattle.om_command.specs.Telling.{IsSaid, IsSaidOrWanting}
use Rattle.om_command.specs.World.{Stream, Streams, World, streams_of, NothingFails}
use Rattle.om_command.specs.declared.no_program.NoProgram.{NoProgram as NoProgramCause}
use Rattle.om_command.specs.declared.sim_stop.SimStop.{SimStop}
use Rattle.om_command.specs.declared.sim_stop.SimStop.TheVariants.{NoProgram, ReadFault, WriteFault, NoMemory, Exit, Trap, Observes, Steps}
use Rattle.om_command.proofs.Causing.{cause_told, no_program_there, same_program}
use Rattle.om_command.proofs.Telling.{same_or_wanting, said_whole, rose_later, told_want}

-- ---- a cause is told

said_cause : (names : List (List ℕ)) (told : NoProgramCause) (status : ℕ) (old new : Stream) → SimTold (NoProgram told) names status old new →
    IsSaid (no_program_status told) (no_program_line names told) status old new
said_cause names told status old new (inl silent) = let never : NoProgram told ≡ Exit 0 = silent.0 in absurd cc
said_cause names told status old new (inr said) = said.1

module _ (steps : ℕ) (names : List (List ℕ)) (old new : World) (status : ℕ) (before : Stream) where
  before_is : streams_of (record new { err = before }) ≡ streams_of old → before ≡ old.err
  before_is same = ap (λ (s : Streams). s.err) same

  cause_is_told : (stop : SimStop) → IsSimCause stop names steps old (record new { err = before }) → SimTold stop names status before new.err →
      (cause : NoProgramCause) → IsTrue old.files.tells → FilesHaveCause names cause old.files →
      IsSaidOrWanting (no_program_status cause) (no_program_line names cause) status old.err new.err
  cause_is_told (NoProgram t) is told cause tells have =
      same_or_wanting names cause t status old.err new.err (cause_told names cause t old.files new.files tells have is.0)
      (subst (λ (s : Stream). IsSaid (no_program_status t) (no_program_line names t) status s new.err) (before_is is.1) (said_cause names t status before new.err told))
  cause_is_told ReadFault is told cause tells have = absurd (no_program_there names cause old.files new.files is.0 tells have is.1)
  cause_is_told WriteFault is told cause tells have = absurd (no_program_there names cause old.files new.files is.0 tells have is.1)
  cause_is_told NoMemory is told cause tells have = absurd (no_program_there names cause old.files new.files is.0 tells have is.1)
  cause_is_told (Exit n) is told cause tells have = absurd (no_program_there names cause old.files new.files is.0 tells have is.1)
  cause_is_told (Trap kind at) is told cause tells have = absurd (no_program_there names cause old.files new.files is.0 tells have is.1)
  cause_is_told (Observes at) is told cause tells have = absurd (no_program_there names cause old.files new.files is.0 tells have is.1)
  cause_is_told (Steps n) is told cause tells have = absurd (no_program_there names cause old.files new.files is.0 tells have is.1)

-- ---- a program runs

said_of : (stop : SimStop) (names : List (List ℕ)) (status : ℕ) (old new : Stream) → stop ≢ Exit 0 → SimTold stop names status old new →
    IsSaid (sim_status stop) (sim_line names stop) status old new
said_of stop names status old new other (inl silent) = absurd (other silent.0)
said_of stop names status old new other (inr said) = said.1

not_zero : (n : ℕ) → end_status (Some (ExitedWith (suc n))) ≡ 1
not_zero n = ap (λ (b : Bool). cond b 0 1) (ne_eqb (suc n) 0 (λ e. absurd (omega (arith, e))))

exit_status : (n : ℕ) (names : List (List ℕ)) (status faults : ℕ) (before new : Stream) → before.faults ≡ faults → (Rose faults new.faults → ⊥) →
    SimTold (Exit n) names status before new → status ≡ end_status (Some (ExitedWith n))
exit_status zero names status faults before new same none (inl silent) = silent.1
exit_status zero names status faults before new same none (inr said) = absurd (said.0 refl)
exit_status (suc n) names status faults before new same none (inl silent) = absurd cc
exit_status (suc n) names status faults before new same none (inr said) = said_whole 1 _ status faults before new same none said.1 ∙ sym (not_zero n)

module _ (steps : ℕ) (names : List (List ℕ)) (old new : World) (status : ℕ) (before : Stream) (objects : List Parts) (input : List ℕ)
    (tells : IsTrue old.files.tells) (have : FilesHoldProgram names objects old.files) (told_input : old.input.told ≡ Some input) (nothing : NothingFails old new) where
  abbrev Complete : Type 0
  Complete = (status ≡ end_status (program_run (program_of objects) input steps).ended) ⊎ (status ≡ 8)

  -- the run of the program that the files hold came to an end
  came_to : (p : ProgramView) (end : Option SymEnd) → HoldsProgram names old.files new.files p →
      SimEnds p steps end (streams_of old) (streams_of (record new { err = before })) → status ≡ end_status end → Complete
  came_to p end holds ran is =
      let ended : (program_run p input steps).ended ≡ end = (ran.1 input told_input).1 in
      let same = same_program names objects old.files new.files p tells have holds in
      inl (is ∙ ap end_status (sym ended) ∙ ap (λ (q : ProgramView). end_status (program_run q input steps).ended) same)

  before_same : streams_of (record new { err = before }) ≡ streams_of old → before ≡ old.err
  before_same same = ap (λ (s : Streams). s.err) same

  no_cause : (t : NoProgramCause) → AreNoProgram names t old.files new.files → before ≡ old.err →
      IsSaid (no_program_status t) (no_program_line names t) status before new.err → Complete
  no_cause t is same said =
      inr (told_want names objects t old.files new.files status old.err new.err tells have is nothing.loads nothing.err
      (subst (λ (s : Stream). IsSaid (no_program_status t) (no_program_line names t) status s new.err) same said))

  program_runs : (stop : SimStop) → IsSimCause stop names steps old (record new { err = before }) → SimTold stop names status before new.err → Complete
  program_runs (NoProgram t) is told =
      no_cause t is.0 (before_same is.1) (said_cause names t status before new.err told)
  program_runs ReadFault is told = absurd (nothing.input is.2.0.input)
  program_runs WriteFault is told =
      elim is.2.0.sinks [
        | inl out ↦ absurd (nothing.out out)
        | inr err ↦ absurd (nothing.err (rose_later old.err.faults _ _ status before new.err err (said_of WriteFault names status before new.err (λ e. let never : ⊥ = cc in never) told)))
      ]
  program_runs NoMemory is told = inr (said_whole 8 _ status old.err.faults before new.err is.2.0.err nothing.err (said_of NoMemory names status before new.err (λ e. let never : ⊥ = cc in never) told))
  program_runs (Exit n) is told =
      came_to is.0 (Some (ExitedWith n)) is.1 is.2 (exit_status n names status old.err.faults before new.err is.2.0.err nothing.err told)
  program_runs (Trap kind at) is told =
      came_to is.0 (Some (TrappedAt kind at)) is.1 is.2
      (said_whole 4 _ status old.err.faults before new.err is.2.0.err nothing.err (said_of (Trap kind at) names status before new.err (λ e. let never : ⊥ = cc in never) told))
  program_runs (Observes at) is told =
      came_to is.0 (Some (ObservedAt at)) is.1 is.2
      (said_whole 10 _ status old.err.faults before new.err is.2.0.err nothing.err (said_of (Observes at) names status before new.err (λ e. let never : ⊥ = cc in never) told))
  program_runs (Steps n) is told =
      came_to is.0 None is.1 is.2.1
      (said_whole 5 _ status old.err.faults before new.err is.2.1.0.err nothing.err (said_of (Steps n) names status before new.err (λ e. let never : ⊥ = cc in never) told))

-- all that is promised
pub sim_answers : (steps : ℕ) (names : List (List ℕ)) (old new : World) (status : ℕ) (stop : SimStop) (before : Stream) →
    IsSimCause stop names steps old (record new { err = before }) → SimTold stop names status before new.err → SimAnswers steps names old new status
sim_answers steps names old new status stop before cause told = record {
  stop = stop;
  before_line = before;
  cause = cause;
  told = told;
  refused = cause_is_told steps names old new status before stop cause told;
  complete = λ objects input tells have told_input nothing.
      program_runs steps names old new status before objects input tells have told_input nothing stop cause told;
}

-- What is told of a link and the run of its image.
use Rattle.std.proofs.Common.{◌≡◌, ◌⊎◌, ◌∙◌, cond, eqb, ℕ, List, Option, Some, None, ◌++◌, refl, sym, ap, subst, inl, inr}
use Rattle.std.specs.Prelude.{IsTrue}
use Rattle.om_alpha.specs.declared.op.Level.{Level}
use Rattle.om_alpha.specs.declared.op.Level.TheVariants as level
use Rattle.om_image.specs.NumState.{NumState, NumEnd, Exited, Trapped}
use Rattle.om_image.specs.NumRun.{num_run}
use Rattle.om_link.specs.Laws.{RunsInStep, StepsAt}
use Rattle.om_lockstep.specs.Addresses.{Addresses}
use Rattle.om_lockstep.specs.Lockstep.{Alike, AreBytes, EndAlike}
use Rattle.om_object.specs.declared.parts.Parts.{Parts}
use Rattle.om_prog.specs.Runs.{IsClean}
use Rattle.om_prog.specs.Script.{program_script, program_run}
use Rattle.om_prog.specs.Step.{SymState, SymEnd, ExitedWith, TrappedAt, ObservedAt}
use Rattle.om_resolve.specs.Program.{program_of}
use Rattle.om_command.specs.ExecAnswers.{IsExecCause, ExecTold, EndsAsImage, EndsAsProgram, RunsAsClean, ExecAnswers}
use Rattle.om_command.specs.Links.{IsImageOf}
use Rattle.om_command.specs.NoPrograms.{no_program_status, no_program_line}
use Rattle.om_command.specs.Programs.{FilesHaveCause, FilesHoldProgram}
use Rattle.om_command.specs.RunStops.{num_end_status}
use Rattle.om_command.specs.SimAnswers.{end_status}
use Rattle.om_command.specs.Telling.{IsSaid, IsSaidOrWanting}
use Rattle.om_command.specs.World.{Stream, Streams, World, streams_of, NothingFails}
use Rattle.om_command.specs.declared.exec_stop.ExecStop.{ExecStop}
use Rattle.om_command.specs.declared.exec_stop.ExecStop.TheVariants.{NoProgram, Run}
use Rattle.om_command.specs.declared.no_program.NoProgram.{NoProgram as NoProgramCause}
use Rattle.om_command.proofs.Causing.{cause_told, no_program_there, same_objects}
use Rattle.om_command.proofs.Linked.{held_program}
use Rattle.om_command.proofs.RunTelling.{run_came}
use Rattle.om_command.proofs.Telling.{same_or_wanting, told_want}

-- ---- an image that ends as its program does

same_status : (l : Addresses) (s : Option SymEnd) (t : Option NumEnd) → EndAlike l s t → num_end_status t ≡ end_status s
same_status l None None is = refl
same_status l (Some (ExitedWith a)) (Some (Exited b)) is = ap (λ (n : ℕ). cond (eqb n 0) 0 1) (sym is)
same_status l (Some (TrappedAt k p)) (Some (Trapped m a)) is = refl
same_status l None (Some (Exited b)) is = absurd is
same_status l None (Some (Trapped m a)) is = absurd is
same_status l (Some (ExitedWith a)) None is = absurd is
same_status l (Some (TrappedAt k p)) None is = absurd is
same_status l (Some (ObservedAt p)) None is = absurd is
same_status l (Some (ExitedWith a)) (Some (Trapped m b)) is = absurd is
same_status l (Some (TrappedAt k p)) (Some (Exited b)) is = absurd is
same_status l (Some (ObservedAt p)) (Some (Exited b)) is = absurd is
same_status l (Some (ObservedAt p)) (Some (Trapped m a)) is = absurd is

same_ended : {l : Addresses} {s : SymState} {t : NumState} → Alike l s t → num_end_status t.end ≡ end_status s.ended
same_ended {l = l} {s = s} {t = t} a = same_status l s.ended t.end a.ended

module _ (at : Level) (objects : List Parts) (input : List ℕ) (steps : ℕ) (old new : Streams) (status : ℕ) where
  from_alike :
      (e : EndsAsImage at objects input steps old new status) (l : Addresses) →
      Alike l (program_run (program_of objects) input steps) (num_run e.image input steps) → EndsAsProgram (program_of objects) input steps old new status
  from_alike e l a = record {
    stands = record {
      input = e.ends.stands.input ∙ ap (λ (l : List ℕ). Some l) a.input;
      out = λ before b. e.ends.stands.out before b ∙ ap (λ (l : List ℕ). Some (before ++ l)) a.out;
      err = λ before b. e.ends.stands.err before b ∙ ap (λ (l : List ℕ). Some (before ++ l)) a.err;
    };
    status_is = e.ends.status_is ∙ same_ended a;
  }

  runs_clean :
      EndsAsImage at objects input steps old new status → AreBytes input → IsClean (program_script (program_of objects)) input steps →
      RunsAsClean at (program_of objects) input steps old new status
  runs_clean e bytes clean =
      let runs = e.is.runs input bytes in
      let headline = runs.counted.headline in
      let g = e.is.link.image.graph in
      let l = e.is.link.image.layout in
      let in_step : at ≡ level.Plain → RunsInStep (program_of objects) g l e.image input =
      λ same. subst (λ (m : Level). StepsAt m (program_of objects) g l e.image input) same runs.steps in record {
        ended = λ ended. from_alike e _ (headline.ends steps clean ended);
        writes = record {
          out = λ before b. let more = headline.out steps clean in (more.0, e.ends.stands.out before b ∙ ap (λ (l : List ℕ). Some (before ++ l)) more.1);
          err = λ before b. let more = headline.err steps clean in (more.0, e.ends.stands.err before b ∙ ap (λ (l : List ℕ). Some (before ++ l)) more.1);
        };
        plain = λ same. from_alike e _ ((in_step same).lockstep steps clean);
      }

-- ---- what is told

module _ (at : Level) (steps : ℕ) (names : List (List ℕ)) (old new : World) (status : ℕ) (before : Stream) where
  from_old : (t : NoProgramCause) → streams_of (record new { err = before }) ≡ streams_of old → IsSaid (no_program_status t) (no_program_line names t) status before new.err →
      IsSaid (no_program_status t) (no_program_line names t) status old.err new.err
  from_old t same said = subst (λ (s : Stream). IsSaid (no_program_status t) (no_program_line names t) status s new.err) (ap (λ (s : Streams). s.err) same) said

  cause_is_told : (stop : ExecStop) → IsExecCause at stop names steps old (record new { err = before }) → ExecTold stop names status before new.err →
      (cause : NoProgramCause) → IsTrue old.files.tells → FilesHaveCause names cause old.files →
      IsSaidOrWanting (no_program_status cause) (no_program_line names cause) status old.err new.err
  cause_is_told (NoProgram t) is told cause tells have =
      same_or_wanting names cause t status old.err new.err (cause_told names cause t old.files new.files tells have is.0) (from_old t is.1 told)
  cause_is_told (Run stop) is told cause tells have =
      absurd (no_program_there names cause old.files new.files (program_of is.1.objects) tells have (held_program at names old.files new.files is.0 is.1))

  program_ends : (stop : ExecStop) → IsExecCause at stop names steps old (record new { err = before }) → ExecTold stop names status before new.err →
      (objects : List Parts) (input : List ℕ) → IsTrue old.files.tells → FilesHoldProgram names objects old.files → old.input.told ≡ Some input →
      NothingFails old new → EndsAsImage at objects input steps (streams_of old) (streams_of (record new { err = before })) status ⊎ (status ≡ 8)
  program_ends (NoProgram t) is told objects input tells have told_input nothing =
      inr (told_want names objects t old.files new.files status old.err new.err tells have is.0 nothing.loads nothing.err (from_old t is.1 told))
  program_ends (Run stop) is told objects input tells have told_input nothing =
      let same = same_objects names objects is.1.objects old.files tells have.loaded is.1.loaded.loaded in
      elim (run_came is.0.image steps (streams_of old) (streams_of new) status before input told_input nothing.input nothing.out nothing.err stop is.2 told) [
        | inl ends ↦ inl (record {
          image = is.0.image;
          is = subst (λ (ps : List Parts). IsImageOf at ps is.0.image) same is.1.image;
          ends = ends;
        })
        | inr want ↦ inr want
      ]

-- all that is promised
pub exec_answers : (at : Level) (steps : ℕ) (names : List (List ℕ)) (old new : World) (status : ℕ) (stop : ExecStop) (before : Stream) →
    IsExecCause at stop names steps old (record new { err = before }) → ExecTold stop names status before new.err → ExecAnswers at steps names old new status
exec_answers at steps names old new status stop before cause told = record {
  stop = stop;
  before_line = before;
  cause = cause;
  told = told;
  refused = cause_is_told at steps names old new status before stop cause told;
  complete = program_ends at steps names old new status before stop cause told;
  clean = λ objects input tells have told_input nothing bytes clean.
      elim (program_ends at steps names old new status before stop cause told objects input tells have told_input nothing) [
        | inl ends ↦ inl (runs_clean at objects input steps (streams_of old) (streams_of (record new { err = before })) status ends bytes clean)
        | inr want ↦ inr want
      ];
}

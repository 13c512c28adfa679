-- What `exec [-n N] FILE ..` promises at a level.
use Rattle.std.specs.Prelude.{◌≡◌, ◌⊎◌, ◌++◌, ℕ, List, Some, None, IsTrue}
use Rattle.om_alpha.specs.declared.op.Level.{Level}
use Rattle.om_alpha.specs.declared.op.Level.TheVariants as level
use Rattle.om_image.specs.declared.image.Image.{Image}
use Rattle.om_link.specs.declared.linking.Linked.{Linked}
use Rattle.om_lockstep.specs.Lockstep.{AreBytes}
use Rattle.om_object.specs.declared.parts.Parts.{Parts}
use Rattle.om_prog.specs.Runs.{IsClean}
use Rattle.om_prog.specs.Script.{program_script, program_run}
use Rattle.om_prog.specs.View.{ProgramView}
use Rattle.om_resolve.specs.Program.{program_of}
use Rattle.om_command.specs.Links.{HoldsLink, IsImageOf}
use Rattle.om_command.specs.NoPrograms.{no_program_status, no_program_line}
use Rattle.om_command.specs.Programs.{AreNoProgram, FilesHaveCause, FilesHoldProgram}
use Rattle.om_command.specs.RunAnswers.{IsRun, EndsRun}
use Rattle.om_command.specs.RunStops.{RunTold}
use Rattle.om_command.specs.SimAnswers.{SimStandsAt, end_status}
use Rattle.om_command.specs.Telling.{IsSaid, IsSaidOrWanting}
use Rattle.om_command.specs.World.{Stream, Streams, World, streams_of, NothingFails}
use Rattle.om_command.specs.declared.exec_stop.ExecStop.{ExecStop}
use Rattle.om_command.specs.declared.exec_stop.ExecStop.TheVariants.{NoProgram, Run}
use Rattle.om_command.specs.declared.no_program.NoProgram.{NoProgram as NoProgramCause}

-- why a run stops, or why there is none: the files are no program, and no stream was used; or an image of their objects ran
abbrev pub IsExecCause : Level → ExecStop → List (List ℕ) → ℕ → World → World → Type 0
IsExecCause at (NoProgram cause) names steps old new =
    AreNoProgram names cause old.files new.files × (streams_of new ≡ streams_of old)
IsExecCause at (Run stop) names steps old new =
    (l : Linked) × HoldsLink at names old.files new.files l × IsRun stop l.image steps (streams_of old) (streams_of new)

-- what is told of it
abbrev pub ExecTold : ExecStop → List (List ℕ) → ℕ → Stream → Stream → Type 0
ExecTold (NoProgram cause) names status old new = IsSaid (no_program_status cause) (no_program_line names cause) status old new
ExecTold (Run stop) names status old new = RunTold stop status old new

-- the status and the streams are those of the run of an image of the objects after so many steps
pub record EndsAsImage (at : Level) (objects : List Parts) (input : List ℕ) (steps : ℕ) (old new : Streams) (status : ℕ) : Type 0 where
  pub image : Image
  pub is : IsImageOf at objects image
  pub ends : EndsRun image input steps old new status

-- the status and the streams are those of a program's run without addresses
pub record EndsAsProgram (p : ProgramView) (input : List ℕ) (steps : ℕ) (old new : Streams) (status : ℕ) : Type 0 where
  pub stands : SimStandsAt (program_run p input steps) old new
  pub status_is : status ≡ end_status (program_run p input steps).ended

-- at least the bytes of a program's run without addresses were written
pub record WritesAsProgram (p : ProgramView) (input : List ℕ) (steps : ℕ) (old new : Streams) : Type 0 where
  pub out :
      (before : List ℕ) → old.out.told ≡ Some before →
      (rest : List ℕ) × (new.out.told ≡ Some (before ++ ((program_run p input steps).out ++ rest)))
  pub err :
      (before : List ℕ) → old.err.told ≡ Some before →
      (rest : List ℕ) × (new.err.told ≡ Some (before ++ ((program_run p input steps).err ++ rest)))

-- what is promised against a program's run without addresses: if it has ended within the steps, its status, its bytes and the rest
-- of its input, and in any case its bytes; at the plain level its status and its rest of the input too where it has not ended
pub record RunsAsClean (at : Level) (p : ProgramView) (input : List ℕ) (steps : ℕ) (old new : Streams) (status : ℕ) : Type 0 where
  pub ended : ((program_run p input steps).ended ≡ None → ⊥) → EndsAsProgram p input steps old new status
  pub writes : WritesAsProgram p input steps old new
  pub plain : at ≡ level.Plain → EndsAsProgram p input steps old new status

pub record ExecAnswers (at : Level) (steps : ℕ) (names : List (List ℕ)) (old new : World) (status : ℕ) : Type 0 where
  -- why it stops, and the error stream before the line of that
  pub stop : ExecStop
  pub before_line : Stream
  pub cause : IsExecCause at stop names steps old (record new { err = before_line })
  pub told : ExecTold stop names status before_line new.err
  -- over a store that tells, the first cause why the files are no program is the one that is told
  pub refused : (cause : NoProgramCause) → IsTrue old.files.tells → FilesHaveCause names cause old.files →
      IsSaidOrWanting (no_program_status cause) (no_program_line names cause) status old.err new.err
  -- over a store and an input that tell, a program to which nothing fails has the status of its image's run, unless memory
  -- runs out
  pub complete : (objects : List Parts) (input : List ℕ) → IsTrue old.files.tells → FilesHoldProgram names objects old.files →
      old.input.told ≡ Some input → NothingFails old new →
      EndsAsImage at objects input steps (streams_of old) (streams_of (record new { err = before_line })) status ⊎ (status ≡ 8)
  -- and where the program shows no address within the steps, so it does against the program's run without addresses
  pub clean : (objects : List Parts) (input : List ℕ) → IsTrue old.files.tells → FilesHoldProgram names objects old.files →
      old.input.told ≡ Some input → NothingFails old new → AreBytes input →
      IsClean (program_script (program_of objects)) input steps →
      RunsAsClean at (program_of objects) input steps (streams_of old) (streams_of (record new { err = before_line })) status
      ⊎ (status ≡ 8)

-- What `sim [-n N] FILE ..` promises.
use Rattle.std.specs.Prelude.{◌≡◌, ◌≤◌, ◌⊎◌, ◌==◌, if◌then◌else◌, ℕ, List, Option, Some, None, IsTrue}
use Rattle.om_isa.specs.SystemCall.{Call}
use Rattle.om_prog.specs.Script.{program_script, program_run}
use Rattle.om_prog.specs.Step.{SymState, SymEnd, ExitedWith, TrappedAt, ObservedAt}
use Rattle.om_prog.specs.View.{ProgramView}
use Rattle.om_symrun.specs.Steps.{IsAtCall}
use Rattle.om_value.specs.declared.value.Value.{Value}
use Rattle.om_object.specs.declared.parts.Parts.{Parts}
use Rattle.om_resolve.specs.Program.{program_of}
use Rattle.om_command.specs.NoPrograms.{no_program_status, no_program_line}
use Rattle.om_command.specs.Programs.{HoldsProgram, AreNoProgram, FilesHaveCause, FilesHoldProgram}
use Rattle.om_command.specs.Faults.{TookFronts, StopsReading, StopsWriting}
use Rattle.om_command.specs.SimStops.{SimTold}
use Rattle.om_command.specs.Telling.{IsSaidOrWanting}
use Rattle.om_command.specs.World.{Stream, Streams, World, streams_of, Stand, Faultless, FaultOfInput, FaultOfSink, NothingFails}
use Rattle.om_command.specs.declared.no_program.NoProgram.{NoProgram as NoProgramCause}
use Rattle.om_command.specs.declared.sim_stop.SimStop.{SimStop}
use Rattle.om_command.specs.declared.sim_stop.SimStop.TheVariants.{NoProgram, ReadFault, WriteFault, NoMemory, Exit, Trap, Observes, Steps}

-- after so many steps the next is this system call
abbrev pub IsNextCall : ProgramView → List ℕ → ℕ → Call → Type 0
IsNextCall p input n call = (a1 : Value) × IsAtCall (program_script p) (program_run p input n) call a1

-- the streams stand where a state of a run has them, that began where they stood before
abbrev pub SimStandsAt : SymState → Streams → Streams → Type 0
SimStandsAt s old new = Stand s.input s.out s.err old new

-- the run came to its last step: its input being told, the streams and the end are those of the state after the steps
abbrev pub SimEnds : ProgramView → ℕ → Option SymEnd → Streams → Streams → Type 0
SimEnds p steps end old new =
    Faultless old new
    × ((input : List ℕ) → old.input.told ≡ Some input →
    SimStandsAt (program_run p input steps) old new × ((program_run p input steps).ended ≡ end))

-- what is left and what was written after so many steps
abbrev pub input_after : ProgramView → List ℕ → ℕ → List ℕ
input_after p input n = (program_run p input n).input

abbrev pub out_after : ProgramView → List ℕ → ℕ → List ℕ
out_after p input n = (program_run p input n).out

abbrev pub err_after : ProgramView → List ℕ → ℕ → List ℕ
err_after p input n = (program_run p input n).err

-- memory ran out after some of the steps, or before the first: on the descriptors stands what they wrote, which is a front of what
-- the run writes
pub record StopsForMemory (p : ProgramView) (input : List ℕ) (steps : ℕ) (old new : Streams) : Type 0 where
  pub done : ℕ
  pub within : done ≤ steps
  pub streams : SimStandsAt (program_run p input done) old new
  pub fronts : TookFronts (out_after p input steps) (err_after p input steps) old new

-- a run of a program stopped; a fault is one of the outside, in a step that takes or puts bytes
abbrev pub IsSim : SimStop → ProgramView → ℕ → Streams → Streams → Type 0
IsSim (Exit status) p steps old new = SimEnds p steps (Some (ExitedWith status)) old new
IsSim (Trap kind at) p steps old new = SimEnds p steps (Some (TrappedAt kind at)) old new
IsSim (Observes at) p steps old new = SimEnds p steps (Some (ObservedAt at)) old new
IsSim (Steps n) p steps old new = (n ≡ steps) × SimEnds p steps None old new
IsSim ReadFault p steps old new =
    FaultOfInput old new
    × ((input : List ℕ) → old.input.told ≡ Some input →
    StopsReading (IsNextCall p input) (input_after p input) (out_after p input) (err_after p input) steps old new)
IsSim WriteFault p steps old new =
    FaultOfSink old new
    × ((input : List ℕ) → old.input.told ≡ Some input →
    StopsWriting (IsNextCall p input) (input_after p input) (out_after p input) (err_after p input) steps old new)
IsSim NoMemory p steps old new =
    Faultless old new × ((input : List ℕ) → old.input.told ≡ Some input → StopsForMemory p input steps old new)
IsSim (NoProgram cause) p steps old new = ⊥

-- why a run stops, or why there is none: the files are no program, and no stream was used; or their program ran
abbrev pub IsSimCause : SimStop → List (List ℕ) → ℕ → World → World → Type 0
IsSimCause (NoProgram cause) names steps old new =
    AreNoProgram names cause old.files new.files × (streams_of new ≡ streams_of old)
IsSimCause stop names steps old new =
    (p : ProgramView) × HoldsProgram names old.files new.files p × IsSim stop p steps (streams_of old) (streams_of new)

-- the status of a run that came to its last step, by how it has ended
abbrev pub end_status : Option SymEnd → ℕ
end_status None = 5
end_status (Some (ExitedWith status)) = if status == 0 then 0 else 1
end_status (Some (TrappedAt kind at)) = 4
end_status (Some (ObservedAt at)) = 10

pub record SimAnswers (steps : ℕ) (names : List (List ℕ)) (old new : World) (status : ℕ) : Type 0 where
  -- why it stops, and the error stream before the line of that
  pub stop : SimStop
  pub before_line : Stream
  pub cause : IsSimCause stop names steps old (record new { err = before_line })
  pub told : SimTold stop names status before_line new.err
  -- over a store that tells, the first cause why the files are no program is the one that is told
  pub refused : (cause : NoProgramCause) → IsTrue old.files.tells → FilesHaveCause names cause old.files →
      IsSaidOrWanting (no_program_status cause) (no_program_line names cause) status old.err new.err
  -- over a store and an input that tell, a program to which nothing fails has the status of its run, unless memory runs out
  pub complete : (objects : List Parts) (input : List ℕ) → IsTrue old.files.tells → FilesHoldProgram names objects old.files →
      old.input.told ≡ Some input → NothingFails old new →
      (status ≡ end_status (program_run (program_of objects) input steps).ended) ⊎ (status ≡ 8)

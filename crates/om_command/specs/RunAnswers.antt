-- What `run [-n N] IMAGE` promises.
use Rattle.std.specs.Prelude.{◌≡◌, ◌⊎◌, ℕ, List, Option, Some, None, IsTrue}
use Rattle.om_image.specs.NumState.{NumState, NumEnd, Exited, Trapped}
use Rattle.om_isa.specs.SystemCall.{Call}
use Rattle.om_machine.specs.Steps.{IsAtCall}
use Rattle.om_image.specs.NumRun.{num_run}
use Rattle.om_image.specs.declared.image.Image.{Image}
use Rattle.om_command.specs.Faults.{StopsReading, StopsWriting}
use Rattle.om_command.specs.ImageStops.{HoldsImage, FileHoldsImage, IsNotRead}
use Rattle.om_command.specs.RunStops.{RunTold, num_end_status}
use Rattle.om_command.specs.StoreCalls.{LoadsOne, NoLoadFailed}
use Rattle.om_command.specs.World.{Stream, Streams, World, streams_of, Stand, Faultless, FaultOfInput, FaultOfSink, NothingFails}
use Rattle.om_command.specs.declared.run_stop.RunStop.{RunStop}
use Rattle.om_command.specs.declared.run_stop.RunStop.TheVariants.{ReadFault, WriteFault, NoMemory, Exit, Trap, Steps}

-- after so many steps the next is this system call
abbrev pub IsNextCall : Image → List ℕ → ℕ → Call → Type 0
IsNextCall i input n call = (a1 : ℕ) × IsAtCall i (num_run i input n) call a1

-- the streams stand where a state of a run has them, that began where they stood before
abbrev pub StandsAt : NumState → Streams → Streams → Type 0
StandsAt s old new = Stand s.input s.out s.err old new

-- the run came to its last step: its input being told, the streams and the end are those of the state after the steps
abbrev pub RunEnds : Image → ℕ → Option NumEnd → Streams → Streams → Type 0
RunEnds i steps end old new =
    Faultless old new
    × ((input : List ℕ) → old.input.told ≡ Some input →
    StandsAt (num_run i input steps) old new × ((num_run i input steps).end ≡ end))

-- what is left and what was written after so many steps
abbrev pub input_after : Image → List ℕ → ℕ → List ℕ
input_after i input n = (num_run i input n).input

abbrev pub out_after : Image → List ℕ → ℕ → List ℕ
out_after i input n = (num_run i input n).out

abbrev pub err_after : Image → List ℕ → ℕ → List ℕ
err_after i input n = (num_run i input n).err

-- a run of an image stopped; a fault is one of the outside, in a step that takes or puts bytes; and where memory ran out no step
-- was taken
abbrev pub IsRun : RunStop → Image → ℕ → Streams → Streams → Type 0
IsRun (Exit status) i steps old new = RunEnds i steps (Some (Exited status)) old new
IsRun (Trap kind at) i steps old new = RunEnds i steps (Some (Trapped kind at)) old new
IsRun (Steps n) i steps old new = (n ≡ steps) × RunEnds i steps None old new
IsRun ReadFault i steps old new =
    FaultOfInput old new
    × ((input : List ℕ) → old.input.told ≡ Some input →
    StopsReading (IsNextCall i input) (input_after i input) (out_after i input) (err_after i input) steps old new)
IsRun WriteFault i steps old new =
    FaultOfSink old new
    × ((input : List ℕ) → old.input.told ≡ Some input →
    StopsWriting (IsNextCall i input) (input_after i input) (out_after i input) (err_after i input) steps old new)
IsRun NoMemory i steps old new = new ≡ old

-- a run of an image, and what is told of it
pub record RunsImage (i : Image) (steps : ℕ) (old new : Streams) (status : ℕ) : Type 0 where
  -- why it stops, and the error stream before the line of that
  pub stop : RunStop
  pub before_line : Stream
  pub run : IsRun stop i steps old (record new { err = before_line })
  pub told : RunTold stop status before_line new.err

-- a run came to its last step, with the status of its end
pub record EndsRun (i : Image) (input : List ℕ) (steps : ℕ) (old new : Streams) (status : ℕ) : Type 0 where
  pub stands : StandsAt (num_run i input steps) old new
  pub status_is : status ≡ num_end_status (num_run i input steps).end

-- the file holds an image, which ran, or for which memory ran out
pub record HasRun (steps : ℕ) (name : List ℕ) (old new : World) (status : ℕ) : Type 0 where
  pub image : Image
  pub held : HoldsImage name old.files image
  pub unfailed : NoLoadFailed old.files new.files
  pub runs : RunsImage image steps (streams_of old) (streams_of new) status

pub record RunAnswers (steps : ℕ) (name : List ℕ) (old new : World) (status : ℕ) : Type 0 where
  -- one load of the image is asked for and no save, and no file is changed
  pub files : LoadsOne old.files new.files
  pub answer : IsNotRead name old new status ⊎ HasRun steps name old new status
  -- over a store and an input that tell, an image to which nothing fails has the status of its run, unless memory runs out
  pub complete : (i : Image) (input : List ℕ) → IsTrue old.files.tells → FileHoldsImage name old.files i → old.input.told ≡ Some input →
      NothingFails old new → (status ≡ num_end_status (num_run i input steps).end) ⊎ (status ≡ 8)

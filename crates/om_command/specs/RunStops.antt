-- Why a run of an image stops: the statuses and the lines.
use Rattle.std.specs.Prelude.{◌≡◌, ◌≢◌, ◌++◌, ◌⊎◌, ◌==◌, if◌then◌else◌, ℕ, List, Option, Some, None, codes, decimal}
use Rattle.om_alpha.specs.declared.op.TrapKind.{TrapKind}
use Rattle.om_alpha.specs.declared.op.TrapKind.TheVariants.{Halt, Unaligned, Access, Overflow}
use Rattle.om_image.specs.NumState.{NumEnd, Exited, Trapped}
use Rattle.om_io.specs.Digits.{hex}
use Rattle.om_command.specs.Telling.{IsSaid}
use Rattle.om_command.specs.World.{Stream}
use Rattle.om_command.specs.declared.run_stop.RunStop.{RunStop}
use Rattle.om_command.specs.declared.run_stop.RunStop.TheVariants.{ReadFault, WriteFault, NoMemory, Exit, Trap, Steps}

abbrev pub kind_name : TrapKind → List ℕ
kind_name Halt = codes "halt"
kind_name Unaligned = codes "unaligned"
kind_name Access = codes "access"
kind_name Overflow = codes "overflow"

-- the status of a stop; an exit with 0 has none of these
abbrev pub run_status : RunStop → ℕ
run_status (Exit status) = 1
run_status (Trap kind at) = 4
run_status (Steps n) = 5
run_status ReadFault = 6
run_status WriteFault = 7
run_status NoMemory = 8

-- the status of a run that came to its last step, by how it has ended
abbrev pub num_end_status : Option NumEnd → ℕ
num_end_status None = 5
num_end_status (Some (Exited status)) = if status == 0 then 0 else 1
num_end_status (Some (Trapped kind at)) = 4

abbrev pub trap_line : TrapKind → ℕ → List ℕ
trap_line kind at = codes "trap " ++ kind_name kind ++ codes " " ++ hex 16 at ++ codes "\n"

abbrev pub run_line : RunStop → List ℕ
run_line ReadFault = codes "read fault\n"
run_line WriteFault = codes "write fault\n"
run_line NoMemory = codes "no memory\n"
run_line (Exit status) = codes "exit " ++ decimal status ++ codes "\n"
run_line (Trap kind at) = trap_line kind at
run_line (Steps n) = codes "steps " ++ decimal n ++ codes "\n"

-- a run that exits with 0 says nothing, and its status is 0; any other stop has its status and its line
abbrev pub RunTold : RunStop → ℕ → Stream → Stream → Type 0
RunTold stop status old new =
    ((stop ≡ Exit 0) × (status ≡ 0) × (new ≡ old)) ⊎ ((stop ≢ Exit 0) × IsSaid (run_status stop) (run_line stop) status old new)

-- Why a run of a program without addresses stops: the statuses and the lines.
use Rattle.std.specs.Prelude.{◌≡◌, ◌≢◌, ◌++◌, ◌⊎◌, ℕ, List, codes, decimal}
use Rattle.om_alpha.specs.declared.op.TrapKind.{TrapKind}
use Rattle.om_io.specs.Digits.{hex}
use Rattle.om_value.specs.declared.value.Place.{Place}
use Rattle.om_command.specs.NoPrograms.{no_program_status, no_program_line}
use Rattle.om_command.specs.RunStops.{kind_name}
use Rattle.om_command.specs.Telling.{IsSaid}
use Rattle.om_command.specs.World.{Stream}
use Rattle.om_command.specs.declared.sim_stop.SimStop.{SimStop}
use Rattle.om_command.specs.declared.sim_stop.SimStop.TheVariants.{NoProgram, ReadFault, WriteFault, NoMemory, Exit, Trap, Observes, Steps}

-- the status of a stop; an exit with 0 has none of these
abbrev pub sim_status : SimStop → ℕ
sim_status (NoProgram cause) = no_program_status cause
sim_status (Exit status) = 1
sim_status (Trap kind at) = 4
sim_status (Steps n) = 5
sim_status ReadFault = 6
sim_status WriteFault = 7
sim_status NoMemory = 8
sim_status (Observes at) = 10

-- a place is an object's number and the offset in its text
abbrev pub place_line : List ℕ → Place → List ℕ
place_line what at = what ++ decimal at.obj ++ codes " " ++ hex 8 at.off ++ codes "\n"

abbrev pub sim_trap_line : TrapKind → Place → List ℕ
sim_trap_line kind at = codes "trap " ++ kind_name kind ++ codes " " ++ decimal at.obj ++ codes " " ++ hex 8 at.off ++ codes "\n"

abbrev pub sim_line : List (List ℕ) → SimStop → List ℕ
sim_line names (NoProgram cause) = no_program_line names cause
sim_line names ReadFault = codes "read fault\n"
sim_line names WriteFault = codes "write fault\n"
sim_line names NoMemory = codes "no memory\n"
sim_line names (Exit status) = codes "exit " ++ decimal status ++ codes "\n"
sim_line names (Trap kind at) = sim_trap_line kind at
sim_line names (Observes at) = place_line (codes "observes ") at
sim_line names (Steps n) = codes "steps " ++ decimal n ++ codes "\n"

-- a run that exits with 0 says nothing, and its status is 0; any other stop has its status and its line
abbrev pub SimTold : SimStop → List (List ℕ) → ℕ → Stream → Stream → Type 0
SimTold stop names status old new =
    ((stop ≡ Exit 0) × (status ≡ 0) × (new ≡ old)) ⊎ ((stop ≢ Exit 0) × IsSaid (sim_status stop) (sim_line names stop) status old new)

-- Why a link stops: the statuses and the lines.
use Rattle.std.specs.Prelude.{ℕ, List, codes}
use Rattle.om_command.specs.NoPrograms.{no_program_status, no_program_line}
use Rattle.om_command.specs.declared.link_stop.LinkStop.{LinkStop}
use Rattle.om_command.specs.declared.link_stop.LinkStop.TheVariants.{NoProgram, WriteFault}

abbrev pub link_status : LinkStop → ℕ
link_status (NoProgram cause) = no_program_status cause
link_status WriteFault = 7

abbrev pub link_line : List (List ℕ) → LinkStop → List ℕ
link_line names (NoProgram cause) = no_program_line names cause
link_line names WriteFault = codes "write fault\n"

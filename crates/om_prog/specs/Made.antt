-- Programs that are made of parts.
use Rattle.std.specs.Prelude.{◌≡◌, Result, Ok, Err}
use Rattle.om_prog.specs.declared.errors.ProgErr.{ProgErr}
use Rattle.om_prog.specs.declared.errors.ProgErr.TheVariants.{Bad, NoMemory}
use Rattle.om_prog.specs.View.{ProgramView}
use Rattle.om_prog.specs.Valid.{IsProgram}

-- the program is that of the parts, which are one; or they are none, or memory ran out
abbrev pub MakesProgram : ProgramView → Result ProgramView ProgErr → Type 0
MakesProgram v (Ok p) = (p ≡ v) × IsProgram v
MakesProgram v (Err Bad) = IsProgram v → ⊥
MakesProgram v (Err NoMemory) = Unit {0}

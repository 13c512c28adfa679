-- When objects have a program.
use Rattle.std.specs.Prelude.{◌≡◌, ℕ, ◌<◌, ◌^◌, List, length, None}
use Rattle.om_object.specs.declared.parts.Parts.{Parts}
use Rattle.om_object.specs.Rules.{IsObject}
use Rattle.om_prog.specs.Valid.{IsProgram}
use Rattle.om_resolve.specs.Names.{object_at}
use Rattle.om_resolve.specs.Causes.{first_cause}
use Rattle.om_resolve.specs.Program.{program_of}

-- each of them breaks no rule of object files
pub record AreObjects (objects : List Parts) : Type 0 where
  pub each : (i : ℕ) → i < length objects → IsObject (object_at objects i)

-- objects against which there is no cause have a program
abbrev pub ObjectsMakePrograms : Type 0
ObjectsMakePrograms =
    (objects : List Parts) → length objects < 2 ^ 32 → AreObjects objects → first_cause objects ≡ None → IsProgram (program_of objects)

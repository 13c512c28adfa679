-- Runs of the numeric machine.
use Rattle.std.specs.Prelude.{ℕ, zero, suc, List}
use Rattle.om_image.specs.NumState.{NumState}
use Rattle.om_image.specs.NumStep.{num_step, num_start}
use Rattle.om_image.specs.declared.image.Image.{Image}

-- the state n steps after a state
unfoldable pub num_steps : Image → NumState → ℕ → NumState
num_steps i s zero = s
num_steps i s (suc n) = num_step i (num_steps i s n)

-- the state of an image after n steps from the start
abbrev pub num_run : Image → List ℕ → ℕ → NumState
num_run i input n = num_steps i (num_start i input) n

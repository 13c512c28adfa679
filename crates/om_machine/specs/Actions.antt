-- What actions mean.
use Rattle.std.specs.Prelude.{◌<◌, IsTrue, length, Some, None}
use Rattle.byteorder.specs.Endian.{little_bytes}
use Rattle.om_isa.specs.Effect.{Nothing, Set, Store, Jump, Stop}
use Rattle.om_image.specs.NumAccess.{size_bytes, is_mapped}
use Rattle.om_image.specs.NumStep.{NumEffect}
use Rattle.om_machine.specs.Mapped.{Mapped}
use Rattle.om_machine.specs.declared.actions.Action.{Action}
use Rattle.om_machine.specs.declared.actions.Action.TheVariants as action

-- the effect that an action has
abbrev pub effect_in : Action → NumEffect
effect_in action.Nothing = Nothing
effect_in (action.Set r n) = Set r n
effect_in (action.Store a size n) = Store (a, little_bytes (size_bytes size) n)
effect_in (action.Jump link to) = Jump link to
effect_in (action.Stop kind) = Stop kind

-- registers are below 32, and a store goes to mapped memory
abbrev pub IsDoable : Mapped → Action → Type 0
IsDoable m action.Nothing = Unit {0}
IsDoable m (action.Set r n) = r < 32
IsDoable m (action.Store a size n) = IsTrue (is_mapped (length m.bytes) m.heap_size a (size_bytes size))
IsDoable m (action.Jump None to) = Unit {0}
IsDoable m (action.Jump (Some r) to) = r < 32
IsDoable m (action.Stop kind) = Unit {0}

-- What actions mean.
use Rattle.std.specs.Prelude.{◌≡◌, ◌≤◌, ◌<◌, ℕ, ◌+◌, ◌%◌, Bool, true, false, Some}
use Rattle.om_alpha.specs.declared.op.Size.{Size}
use Rattle.om_alpha.specs.declared.op.Size.TheVariants as size
use Rattle.om_isa.specs.Effect.{Nothing, Set, Store, Jump, Stop, StepObserves}
use Rattle.om_value.specs.declared.value.Region.{Region}
use Rattle.om_value.specs.declared.value.Value.{Value}
use Rattle.om_value.specs.declared.value.Value.TheVariants.{Num}
use Rattle.om_prog.specs.Cells.{cells_of}
use Rattle.om_prog.specs.Step as step
use Rattle.om_symrun.specs.CellsIn.{size_bytes}
use Rattle.om_symrun.specs.Memory.{memory_size}
use Rattle.om_symrun.specs.RegionCells.{Regions}
use Rattle.om_symrun.specs.declared.actions.Action.{Action}
use Rattle.om_symrun.specs.declared.actions.Action.TheVariants as action
use Rattle.om_symrun.specs.declared.actions.Spot.{Spot}
use Rattle.om_symrun.specs.declared.actions.Spot.TheVariants as spot

-- the effect that an action has
abbrev pub effect_in : Action → step.SymEffect
effect_in action.Nothing = Nothing
effect_in (action.Set r v) = Set r v
effect_in (action.Store r x size v) = Store (r, x, cells_of (size_bytes size) v)
effect_in (action.Jump link to) = Jump link to
effect_in (action.Stop kind) = Stop kind
effect_in action.Observe = StepObserves

-- the definition's spot
abbrev pub spot_in : Spot → step.Spot
spot_in (spot.Inside r x) = step.Inside r x
spot_in (spot.Refused kind) = step.Refused kind
spot_in spot.Hidden = step.Hidden

-- so many bytes at an offset lie in a region, at a multiple of their number
pub record IsInside (m : Regions) (r : Region) (x n : ℕ) : Type 0 where
  pub fits : x + n ≤ memory_size m r
  pub aligned : x % n ≡ 0

abbrev pub IsSpot : Regions → ℕ → Spot → Type 0
IsSpot m n (spot.Inside r x) = IsInside m r x n
IsSpot m n _ = Unit {0}

-- a spot of an access of n bytes at an offset of a region that has so many
pub record IsNear (r q : Region) (x y n bytes : ℕ) : Type 0 where
  pub region : r ≡ q
  pub place : x ≡ y
  pub fits : x + n ≤ bytes
  pub aligned : x % n ≡ 0

abbrev pub IsSpotNear : Region → ℕ → ℕ → ℕ → Spot → Type 0
IsSpotNear q y n bytes (spot.Inside r x) = IsNear r q x y n bytes
IsSpotNear q y n bytes _ = Unit {0}

-- a value may stand in memory of this size
abbrev pub holds : Size → Value → Bool
holds size.Quad v = true
holds _ (Num n) = true
holds _ v = false

-- registers are below 32, and a store goes into a region, of what may stand there
abbrev pub IsDoable : Regions → Action → Type 0
IsDoable m (action.Set r v) = r < 32
IsDoable m (action.Store r x size v) = IsInside m r x (size_bytes size) × (holds size v ≡ true)
IsDoable m (action.Jump (Some r) to) = r < 32
IsDoable m _ = Unit {0}

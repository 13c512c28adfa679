-- What faults of the outside leave of a run. A run is seen here by the number of its steps: the system call that comes next, what
-- is left of the input, and what was written on `out` and `err`.
use Rattle.std.specs.Prelude.{◌≡◌, ◌<◌, ◌++◌, ℕ, List, length, Some}
use Rattle.om_io.specs.Outside.{IsFrontOf}
use Rattle.om_isa.specs.SystemCall.{Call, Puts, Takes}
use Rattle.om_command.specs.World.{Stream, Streams, Stand, on_out, on_err}

-- a front of what a run writes was written
abbrev pub TookFront : List ℕ → Stream → Stream → Type 0
TookFront written old new =
    (before : List ℕ) → old.told ≡ Some before → (front : List ℕ) × IsFrontOf front written × (new.told ≡ Some (before ++ front))

pub record TookFronts (on_1 on_2 : List ℕ) (old new : Streams) : Type 0 where
  pub out : TookFront on_1 old.out new.out
  pub err : TookFront on_2 old.err new.err

-- a read failed in a step within those that are allowed: fewer bytes were taken than its call asks for, and on the descriptors
-- stands what was written before it, which is a front of what the run writes
pub record StopsReading (asks : ℕ → Call → Type 0) (input out err : ℕ → List ℕ) (steps : ℕ) (old new : Streams) : Type 0 where
  pub done : ℕ
  pub within : done < steps
  pub count : ℕ
  pub asked : asks done (Takes count)
  pub taken : List ℕ
  pub left : List ℕ
  pub few : length taken < count
  pub split : input done ≡ taken ++ left
  pub streams : Stand left (out done) (err done) old new
  pub fronts : TookFronts (out steps) (err steps) old new

-- a put failed in such a step: of the bytes of its call a front was written behind what was written before it
pub record StopsWriting (asks : ℕ → Call → Type 0) (input out err : ℕ → List ℕ) (steps : ℕ) (old new : Streams) : Type 0 where
  pub done : ℕ
  pub within : done < steps
  pub descriptor : ℕ
  pub bytes : List ℕ
  pub asked : asks done (Puts descriptor bytes)
  pub front : List ℕ
  pub is_front : IsFrontOf front bytes
  pub streams : Stand (input done) (on_out descriptor (out done) front) (on_err descriptor (err done) front) old new
  pub fronts : TookFronts (out steps) (err steps) old new

-- A run only ever adds to what was written.
use Rattle.std.specs.Prelude.{◌≤◌, ℕ}
use Rattle.om_io.specs.Outside.{IsFrontOf}
use Rattle.om_image.specs.declared.image.Image.{Image}
use Rattle.om_image.specs.NumState.{NumState}
use Rattle.om_image.specs.NumRun.{num_steps}

-- what was written at a state is a front of what is written at a later one
pub record OnlyWrites (s t : NumState) : Type 0 where
  pub out : IsFrontOf s.out t.out
  pub err : IsFrontOf s.err t.err

-- from every state of every image
pub record RunsOnlyWrite : Type 0 where
  pub later : (i : Image) (s : NumState) (k n : ℕ) → k ≤ n → OnlyWrites (num_steps i s k) (num_steps i s n)

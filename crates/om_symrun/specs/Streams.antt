-- What is moved from a source to memory, and what is known of a sink.
use Rattle.std.specs.Prelude.{◌≡◌, ◌≤◌, ◌<◌, ◌++◌, ◌⊎◌, ℕ, List, [], length, take, drop, Bool, true, false, Option, Some, None, Result, Ok, Err}
use Rattle.om_io.specs.Outside.{IsFrontOf}
use Rattle.om_value.specs.declared.value.Region.{Region}
use Rattle.om_symrun.specs.CellsIn.{byte_cells}
use Rattle.om_symrun.specs.Memory.{WritesRegion}
use Rattle.om_symrun.specs.RegionCells.{Regions}

-- what a sink that tells had told before the run, and what it told last; the first is none where nothing is said of it
abbrev pub Told : Type 0
Told = Option (List ℕ) × Option (List ℕ)

-- a sink has told this text behind what it had told before
abbrev pub TellsText : Option (List ℕ) → Option (List ℕ) → List ℕ → Type 0
TellsText (Some before) told text = told ≡ Some (before ++ text)
TellsText None told text = Unit {0}

abbrev pub Tells : Told → List ℕ → Type 0
Tells sink text = TellsText sink.0 sink.1 text

-- the first so many bytes of what was left went to a place of a region, and what follows them is left
pub record TakesFront (old new : Regions) (region : Region) (at count : ℕ) (bytes : List ℕ) (left : Option (List ℕ)) : Type 0 where
  pub enough : count ≤ length bytes
  pub rest : left ≡ Some (drop count bytes)
  pub writes : WritesRegion old new region at (byte_cells (take count bytes))

-- a read of at most so many bytes took them all, or all that were left; or it failed, with fewer
abbrev pub Takes : {E : Type 0} → Regions → Regions → Region → ℕ → ℕ → List ℕ → Option (List ℕ) → Result ℕ E → Type 0
Takes old new region at count bytes left (Ok taken) =
    TakesFront old new region at taken bytes left × ((taken ≡ count) ⊎ ((taken ≤ count) × (taken ≡ length bytes)))
Takes old new region at count bytes left (Err e) =
    (taken : ℕ) × (taken < count) × TakesFront old new region at taken bytes left

-- bytes were put, or a front of them where a put failed
abbrev pub Puts : List ℕ → Option (List ℕ) → List ℕ → Bool → Type 0
Puts old now bytes true = now ≡ Some (old ++ bytes)
Puts old now bytes false = (front : List ℕ) × IsFrontOf front bytes × (now ≡ Some (old ++ front))

-- one piece: it is empty only where nothing was left
abbrev pub TakesPiece : {E : Type 0} → Regions → Regions → Region → ℕ → List ℕ → Option (List ℕ) → Result ℕ E → Type 0
TakesPiece old new region at bytes left (Ok taken) =
    TakesFront old new region at taken bytes left × (taken ≡ 0 → bytes ≡ [])
TakesPiece old new region at bytes left (Err e) = (new ≡ old) × (left ≡ Some bytes)

-- What calls of a store leave of its files and counts.
use Rattle.std.specs.Prelude.{◌≡◌, ◌≢◌, ℕ, List, Some, IsTrue}
use Rattle.om_io.specs.Causes.{Rose, raised}
use Rattle.om_command.specs.World.{Files}

-- the most bytes of the files of one call
abbrev pub most_bytes : ℕ
most_bytes = 268435456

-- one load was asked for and no save, and each file is as before
pub record LoadsOne (old new : Files) : Type 0 where
  pub tells : new.tells ≡ old.tells
  pub same : (name : List ℕ) → new.file name ≡ old.file name
  pub loads : new.loads_asked ≡ raised old.loads_asked
  pub saves : new.saves_asked ≡ old.saves_asked
  pub no_save : new.failed_saves ≡ old.failed_saves

-- no load failed
abbrev pub NoLoadFailed : Files → Files → Type 0
NoLoadFailed old new = (new.failed_loads ≡ old.failed_loads) × (new.last_failed ≡ old.last_failed)

-- the load of this file failed
abbrev pub LoadFailed : List ℕ → Files → Files → Type 0
LoadFailed name old new = Rose old.failed_loads new.failed_loads × (new.last_failed ≡ Some name)

-- one save was asked for, of the file of this name, and no load; each other file is as before
pub record AsksSave (name : List ℕ) (old new : Files) : Type 0 where
  pub tells : new.tells ≡ old.tells
  pub others : (other : List ℕ) → other ≢ name → new.file other ≡ old.file other
  pub saves : new.saves_asked ≡ raised old.saves_asked
  pub loads : new.loads_asked ≡ old.loads_asked
  pub no_load : new.failed_loads ≡ old.failed_loads
  pub last : new.last_failed ≡ old.last_failed

-- the file holds what was saved
pub record Saves (name bytes : List ℕ) (old new : Files) : Type 0 where
  pub asks : AsksSave name old new
  pub unfailed : new.failed_saves ≡ old.failed_saves
  pub there : IsTrue old.tells → new.file name ≡ Some bytes

-- the save failed
pub record FailsSave (name : List ℕ) (old new : Files) : Type 0 where
  pub asks : AsksSave name old new
  pub failed : Rose old.failed_saves new.failed_saves

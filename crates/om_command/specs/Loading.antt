-- Loading the object files of a command, in the order of its words.
use Rattle.std.specs.Prelude.{◌≡◌, ◌≤◌, ◌<◌, ◌-◌, ℕ, zero, suc, List, [], length, map, get_or, sum_by, Some, None, IsTrue}
use Rattle.om_fields.specs.Rules.{IsFirstFault}
use Rattle.om_io.specs.Causes.{raised}
use Rattle.om_io.specs.declared.store.LoadErr.{LoadErr}
use Rattle.om_io.specs.declared.store.LoadErr.TheVariants as io
use Rattle.om_object.specs.File.{IsAccepted, object_rules, parts_of}
use Rattle.om_object.specs.declared.errors.ObjErr.{ObjErr}
use Rattle.om_object.specs.declared.errors.ObjErr.TheVariants as object
use Rattle.om_object.specs.declared.parts.Parts.{Parts}
use Rattle.om_command.specs.StoreCalls.{most_bytes}
use Rattle.om_command.specs.StoreCalls.{NoLoadFailed, LoadFailed}
use Rattle.om_command.specs.World.{Files}
use Rattle.om_command.specs.declared.loading.Loaded.{Loaded}
use Rattle.om_command.specs.declared.loading.FileStop.{FileStop}
use Rattle.om_command.specs.declared.loading.FileStop.TheVariants.{Missing, TooLong, Rule, ReadFault, NoMemory}

abbrev pub item_at : List (List ℕ) → ℕ → List ℕ
item_at items k = get_or items k []

-- the bytes of files in all
abbrev pub size_of : List (List ℕ) → ℕ
size_of contents = sum_by (λ bytes. length bytes) contents

-- a count that rose so often
abbrev pub raised_by : ℕ → ℕ → ℕ
raised_by zero count = count
raised_by (suc n) count = raised (raised_by n count)

-- so many loads were asked for and no save, and each file is as before
pub record Loads (n : ℕ) (old new : Files) : Type 0 where
  pub tells : new.tells ≡ old.tells
  pub same : (name : List ℕ) → new.file name ≡ old.file name
  pub loads : new.loads_asked ≡ raised_by n old.loads_asked
  pub saves : new.saves_asked ≡ old.saves_asked
  pub no_save : new.failed_saves ≡ old.failed_saves

-- these are the contents of the first files of these names: object files that break no rule, within the bytes of one call
pub record AreRead (files : Files) (names contents : List (List ℕ)) : Type 0 where
  pub there : (k : ℕ) → k < length contents → IsTrue files.tells → files.file (item_at names k) ≡ Some (item_at contents k)
  pub accepted : (k : ℕ) → k < length contents → IsAccepted (item_at contents k)
  pub short : size_of contents ≤ most_bytes

-- the object in a file of at most so many bytes
pub record IsObjectIn (name : List ℕ) (left : ℕ) (files : Files) (loaded : Loaded) : Type 0 where
  pub bytes : List ℕ
  pub there : IsTrue files.tells → files.file name ≡ Some bytes
  pub short : length bytes ≤ left
  pub size : loaded.size ≡ length bytes
  pub accepted : IsAccepted bytes
  pub object : loaded.object ≡ parts_of bytes

-- the objects of all files of these names, in their order
pub record AreLoaded (files : Files) (names : List (List ℕ)) (objects : List Parts) : Type 0 where
  pub contents : List (List ℕ)
  pub count : length contents ≡ length names
  pub read : AreRead files names contents
  pub objects_are : objects ≡ map parts_of contents

-- all files are loaded
pub record AllLoaded (names : List (List ℕ)) (objects : List Parts) (old new : Files) : Type 0 where
  pub loads : Loads (length names) old new
  pub unfailed : NoLoadFailed old new
  pub loaded : AreLoaded old names objects

-- why a file is no object, where so many bytes are left for it: the file, where the store tells; a load of it that failed; or
-- want of memory
abbrev pub IsNoObject : FileStop → List ℕ → ℕ → Files → Files → Type 0
IsNoObject Missing name left old new = (IsTrue old.tells → old.file name ≡ None) × NoLoadFailed old new
IsNoObject TooLong name left old new =
    (IsTrue old.tells → (bytes : List ℕ) × (old.file name ≡ Some bytes) × (left < length bytes)) × NoLoadFailed old new
IsNoObject (Rule rule at) name left old new =
    ((bytes : List ℕ) × (IsTrue old.tells → old.file name ≡ Some bytes) × (length bytes ≤ left) × IsFirstFault object_rules bytes rule at)
    × NoLoadFailed old new
IsNoObject ReadFault name left old new = LoadFailed name old new
IsNoObject NoMemory name left old new = NoLoadFailed old new

-- the file at a place, counted from 0, stops the command: those before it are read
pub record StopsAt (names : List (List ℕ)) (place : ℕ) (stop : FileStop) (old new : Files) : Type 0 where
  pub loads : Loads (suc place) old new
  pub inside : place < length names
  pub contents : List (List ℕ)
  pub count : length contents ≡ place
  pub read : AreRead old names contents
  pub cause : IsNoObject stop (item_at names place) (most_bytes - size_of contents) old new

abbrev pub load_stop : LoadErr → FileStop
load_stop io.Failed = ReadFault
load_stop io.Missing = Missing
load_stop io.TooLong = TooLong
load_stop io.NoMemory = NoMemory

abbrev pub object_stop : ObjErr → FileStop
object_stop (object.Rule rule at) = Rule rule at
object_stop object.NoMemory = NoMemory

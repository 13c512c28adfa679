-- The program of the files of a command, or why none was had: they are none, a load failed, or memory ran out.
use Rattle.std.specs.Prelude.{◌≡◌, ◌≤◌, ◌<◌, ◌-◌, ℕ, List, length, Some, None, Err}
use Rattle.om_fields.specs.Rules.{IsFirstFault}
use Rattle.om_object.specs.File.{object_rules}
use Rattle.om_object.specs.declared.parts.Parts.{Parts}
use Rattle.om_prog.specs.View.{ProgramView}
use Rattle.om_resolve.specs.Causes.{first_cause}
use Rattle.om_resolve.specs.Program.{program_of, Resolves}
use Rattle.om_resolve.specs.declared.causes.ResolveErr.{ResolveErr}
use Rattle.om_command.specs.StoreCalls.{most_bytes}
use Rattle.om_command.specs.Loading.{AllLoaded, AreLoaded, AreRead, StopsAt, item_at, size_of}
use Rattle.om_command.specs.World.{Files}
use Rattle.om_command.specs.declared.loading.FileStop.{FileStop}
use Rattle.om_command.specs.declared.loading.FileStop.TheVariants.{Missing, TooLong, Rule}
use Rattle.om_command.specs.declared.no_program.NoProgram.{NoProgram}
use Rattle.om_command.specs.declared.no_program.NoProgram.TheVariants.{File, Objects}

-- all files of these names hold objects, against which there is no cause, and this is their program
pub record HoldsProgram (names : List (List ℕ)) (old new : Files) (p : ProgramView) : Type 0 where
  pub objects : List Parts
  pub loaded : AllLoaded names objects old new
  pub uncaused : first_cause objects ≡ None
  pub program : p ≡ program_of objects

-- all files of these names hold objects, and this is the first cause why they are no program; or memory ran out
pub record ObjectsStop (names : List (List ℕ)) (old new : Files) (cause : ResolveErr) : Type 0 where
  pub objects : List Parts
  pub loaded : AllLoaded names objects old new
  pub answer : Resolves objects (Err cause)

-- why no program was had of the files: one of them gave no object, or there is a cause against the objects. A load that failed
-- and want of memory are among the reasons
abbrev pub AreNoProgram : List (List ℕ) → NoProgram → Files → Files → Type 0
AreNoProgram names (File refused) old new = StopsAt names refused.place refused.stop old new
AreNoProgram names (Objects cause) old new = ObjectsStop names old new cause

-- ---- the causes, by what the files of a store that tells hold

-- a file that is not there, has more bytes than are left for it, or breaks a rule of object files: the least at its least place
abbrev pub IsRefused : FileStop → List ℕ → ℕ → Files → Type 0
IsRefused Missing name left files = files.file name ≡ None
IsRefused TooLong name left files = (bytes : List ℕ) × (files.file name ≡ Some bytes) × (left < length bytes)
IsRefused (Rule rule at) name left files =
    (bytes : List ℕ) × (files.file name ≡ Some bytes) × (length bytes ≤ left) × IsFirstFault object_rules bytes rule at
IsRefused _ name left files = ⊥

-- the first file of these names that is refused stands at this place, counted from 0
pub record IsFirstRefused (names : List (List ℕ)) (place : ℕ) (stop : FileStop) (files : Files) : Type 0 where
  pub inside : place < length names
  pub contents : List (List ℕ)
  pub count : length contents ≡ place
  pub read : AreRead files names contents
  pub refused : IsRefused stop (item_at names place) (most_bytes - size_of contents) files

-- the first cause against the objects in the files of these names
pub record IsFirstCause (names : List (List ℕ)) (cause : ResolveErr) (files : Files) : Type 0 where
  pub objects : List Parts
  pub loaded : AreLoaded files names objects
  pub first : first_cause objects ≡ Some cause

abbrev pub FilesHaveCause : List (List ℕ) → NoProgram → Files → Type 0
FilesHaveCause names (File refused) files = IsFirstRefused names refused.place refused.stop files
FilesHaveCause names (Objects cause) files = IsFirstCause names cause files

-- the files of these names hold objects, against which there is no cause
pub record FilesHoldProgram (names : List (List ℕ)) (objects : List Parts) (files : Files) : Type 0 where
  pub loaded : AreLoaded files names objects
  pub uncaused : first_cause objects ≡ None

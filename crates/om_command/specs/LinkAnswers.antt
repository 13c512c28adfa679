-- What `link -o OUT FILE ..` promises at a level.
use Rattle.std.specs.Prelude.{◌≡◌, ◌⊎◌, ℕ, List, Some, IsTrue}
use Rattle.om_alpha.specs.declared.op.Level.{Level}
use Rattle.om_io.specs.Causes.{Rose}
use Rattle.om_image.specs.Answers.{IsRead}
use Rattle.om_image.specs.declared.image.Image.{Image}
use Rattle.om_link.specs.declared.linking.Linked.{Linked}
use Rattle.om_object.specs.declared.parts.Parts.{Parts}
use Rattle.om_command.specs.Links.{HoldsLink, IsImageOf}
use Rattle.om_command.specs.LinkStops.{link_status, link_line}
use Rattle.om_command.specs.NoPrograms.{no_program_status, no_program_line}
use Rattle.om_command.specs.Programs.{AreNoProgram, FilesHaveCause, FilesHoldProgram}
use Rattle.om_command.specs.StoreCalls.{Saves, FailsSave}
use Rattle.om_command.specs.Telling.{IsSaid, IsSaidOrWanting}
use Rattle.om_command.specs.World.{Files, World}
use Rattle.om_command.specs.declared.link_stop.LinkStop.{LinkStop}
use Rattle.om_command.specs.declared.link_stop.LinkStop.TheVariants.{NoProgram, WriteFault}
use Rattle.om_command.specs.declared.no_program.NoProgram.{NoProgram as NoProgramCause}

-- the files held objects with an image, which was saved under OUT, once all were loaded
pub record HasLinked (at : Level) (out : List ℕ) (names : List (List ℕ)) (old new : Files) : Type 0 where
  pub linked : Linked
  pub loaded : Files
  pub holds : HoldsLink at names old loaded linked
  pub saves : Saves out linked.bytes loaded new

-- the files held objects with an image, whose save failed
pub record HasNotSaved (at : Level) (out : List ℕ) (names : List (List ℕ)) (old new : Files) : Type 0 where
  pub linked : Linked
  pub loaded : Files
  pub holds : HoldsLink at names old loaded linked
  pub fails : FailsSave out loaded new

-- why nothing was linked: the files are no program, and no save was asked for; or the one save failed
abbrev pub IsLinkCause : Level → LinkStop → List ℕ → List (List ℕ) → Files → Files → Type 0
IsLinkCause at (NoProgram cause) out names old new = AreNoProgram names cause old new
IsLinkCause at WriteFault out names old new = HasNotSaved at out names old new

-- it is done, and nothing is said
pub record IsDone (at : Level) (out : List ℕ) (names : List (List ℕ)) (old new : World) (status : ℕ) : Type 0 where
  pub status_is : status ≡ 0
  pub silent : new.err ≡ old.err
  pub has : HasLinked at out names old.files new.files

-- it is not done, and the cause is said
pub record IsStopped (at : Level) (out : List ℕ) (names : List (List ℕ)) (old new : World) (status : ℕ) : Type 0 where
  pub stop : LinkStop
  pub cause : IsLinkCause at stop out names old.files new.files
  pub told : IsSaid (link_status stop) (link_line names stop) status old.err new.err

-- no load, no save and no put of a line failed
pub record LinkFailsNot (old new : World) : Type 0 where
  pub loads : Rose old.files.failed_loads new.files.failed_loads → ⊥
  pub saves : Rose old.files.failed_saves new.files.failed_saves → ⊥
  pub err : Rose old.err.faults new.err.faults → ⊥

-- the bytes under this name are those of an image of the objects that the files of these names held before
pub record IsLinkOf (at : Level) (out : List ℕ) (names : List (List ℕ)) (old new : Files) : Type 0 where
  pub objects : List Parts
  pub held : FilesHoldProgram names objects old
  pub image : Image
  pub bytes : List ℕ
  pub saved : new.file out ≡ Some bytes
  pub read : IsRead bytes image
  pub is : IsImageOf at objects image

pub record LinkAnswers (at : Level) (out : List ℕ) (names : List (List ℕ)) (old new : World) (status : ℕ) : Type 0 where
  pub answer : IsDone at out names old new status ⊎ IsStopped at out names old new status
  -- with status 0, over a store that tells, OUT holds an image that runs as the files' program
  pub linked : status ≡ 0 → IsTrue old.files.tells → IsLinkOf at out names old.files new.files
  -- over a store that tells, the first cause why the files are no program is the one that is told
  pub refused : (cause : NoProgramCause) → IsTrue old.files.tells → FilesHaveCause names cause old.files →
      IsSaidOrWanting (no_program_status cause) (no_program_line names cause) status old.err new.err
  -- over a store that tells, a program to which nothing fails is linked, unless memory runs out
  pub complete : (objects : List Parts) → IsTrue old.files.tells → FilesHoldProgram names objects old.files → LinkFailsNot old new →
      (status ≡ 0) ⊎ (status ≡ 8)
  -- nothing is read from `input` or put on `out`
  pub input : new.input ≡ old.input
  pub out_kept : new.out ≡ old.out

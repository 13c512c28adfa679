-- The image in a file, or why none was read, with the statuses and the lines.
use Rattle.std.specs.Prelude.{◌≡◌, ◌≤◌, ◌<◌, ◌++◌, ℕ, List, length, Some, None, IsTrue, codes, decimal}
use Rattle.om_fields.specs.Rules.{IsFirstFault}
use Rattle.om_image.specs.Answers.{IsRead}
use Rattle.om_image.specs.Rules.{image_rules}
use Rattle.om_image.specs.declared.errors.ImageErr.{ImageErr}
use Rattle.om_image.specs.declared.errors.ImageErr.TheVariants as image
use Rattle.om_image.specs.declared.image.Image.{Image}
use Rattle.om_io.specs.declared.store.LoadErr.{LoadErr}
use Rattle.om_io.specs.declared.store.LoadErr.TheVariants as io
use Rattle.om_command.specs.StoreCalls.{most_bytes, NoLoadFailed, LoadFailed}
use Rattle.om_command.specs.Telling.{IsSaid}
use Rattle.om_command.specs.World.{Files, World}
use Rattle.om_command.specs.declared.image_stop.ImageStop.{ImageStop}
use Rattle.om_command.specs.declared.image_stop.ImageStop.TheVariants.{Missing, TooLong, Rule, ReadFault, NoMemory}

-- ---- the file

-- an image's file: it is there, within the bytes, and its bytes are those of the image
pub record HoldsImage (name : List ℕ) (files : Files) (i : Image) : Type 0 where
  pub bytes : List ℕ
  pub there : IsTrue files.tells → files.file name ≡ Some bytes
  pub short : length bytes ≤ most_bytes
  pub read : IsRead bytes i

-- the same of a store that tells
pub record FileHoldsImage (name : List ℕ) (files : Files) (i : Image) : Type 0 where
  pub bytes : List ℕ
  pub there : files.file name ≡ Some bytes
  pub short : length bytes ≤ most_bytes
  pub read : IsRead bytes i

-- a file that breaks a rule of images: the least, at its least place
pub record BreaksImage (name : List ℕ) (files : Files) (rule at : ℕ) : Type 0 where
  pub bytes : List ℕ
  pub there : IsTrue files.tells → files.file name ≡ Some bytes
  pub short : length bytes ≤ most_bytes
  pub broken : IsFirstFault image_rules bytes rule at

-- what a load that failed, and a file that is no image, stop a command with
abbrev pub image_load_stop : LoadErr → ImageStop
image_load_stop io.Failed = ReadFault
image_load_stop io.Missing = Missing
image_load_stop io.TooLong = TooLong
image_load_stop io.NoMemory = NoMemory

abbrev pub image_stop : ImageErr → ImageStop
image_stop (image.Rule rule at) = Rule rule at
image_stop image.NoMemory = NoMemory

-- why no image was read: the file, where the store tells; a load of it that failed; or want of memory
abbrev pub IsUnread : ImageStop → List ℕ → Files → Files → Type 0
IsUnread Missing name old new = (IsTrue old.tells → old.file name ≡ None) × NoLoadFailed old new
IsUnread TooLong name old new =
    (IsTrue old.tells → (bytes : List ℕ) × (old.file name ≡ Some bytes) × (most_bytes < length bytes)) × NoLoadFailed old new
IsUnread (Rule rule at) name old new = BreaksImage name old rule at × NoLoadFailed old new
IsUnread ReadFault name old new = LoadFailed name old new
IsUnread NoMemory name old new = NoLoadFailed old new

-- ---- statuses and lines

abbrev pub image_status : ImageStop → ℕ
image_status Missing = 3
image_status ReadFault = 6
image_status NoMemory = 8
image_status TooLong = 9
image_status (Rule rule at) = 9

abbrev pub broken_line : ℕ → ℕ → List ℕ
broken_line rule at = codes "image rule " ++ decimal rule ++ codes " at " ++ decimal at ++ codes "\n"

abbrev pub image_line : ImageStop → List ℕ → List ℕ
image_line Missing image = codes "missing " ++ image ++ codes "\n"
image_line TooLong image = codes "image too long\n"
image_line (Rule rule at) image = broken_line rule at
image_line ReadFault image = codes "read fault\n"
image_line NoMemory image = codes "no memory\n"

-- no image was read, which is told, and no other stream was used
pub record IsNotRead (name : List ℕ) (old new : World) (status : ℕ) : Type 0 where
  pub stop : ImageStop
  pub unread : IsUnread stop name old.files new.files
  pub told : IsSaid (image_status stop) (image_line stop name) status old.err new.err
  pub input : new.input ≡ old.input
  pub out : new.out ≡ old.out

-- What reading a file answers.
use Rattle.std.specs.Prelude.{◌≡◌, ⊤, ℕ, List, Result, Ok, Err}
use Rattle.om_fields.specs.Rules.{IsFirstFault, IsUnbroken}
use Rattle.om_image.specs.declared.errors.ImageErr.{ImageErr}
use Rattle.om_image.specs.declared.errors.ImageErr.TheVariants.{Rule, NoMemory}
use Rattle.om_image.specs.declared.image.Image.{Image}
use Rattle.om_image.specs.Rules.{image_of, image_rules}
use Rattle.om_image.specs.Valid.{IsValidImage}

-- a file that breaks no rule holds this image, which is a valid one
pub record IsRead (file : List ℕ) (i : Image) : Type 0 where
  pub image : i ≡ image_of file
  pub unbroken : IsUnbroken image_rules file
  pub valid : IsValidImage i

-- the image of a file that breaks no rule, or the least broken rule with its least place; want of memory is answered of any
abbrev pub ReadsImage : List ℕ → Result Image ImageErr → Type 0
ReadsImage file (Ok i) = IsRead file i
ReadsImage file (Err (Rule rule at)) = IsFirstFault image_rules file rule at
ReadsImage file (Err NoMemory) = ⊤

-- What a link of objects answers at a level.
use Rattle.std.specs.Prelude.{◌≡◌, List, Some, None, Result, Ok, Err}
use Rattle.om_alpha.specs.declared.op.Level.{Level}
use Rattle.om_object.specs.declared.parts.Parts.{Parts}
use Rattle.om_resolve.specs.Causes.{first_cause}
use Rattle.om_resolve.specs.Program.{program_of}
use Rattle.om_resolve.specs.declared.causes.ResolveErr.{ResolveErr}
use Rattle.om_resolve.specs.declared.causes.ResolveErr.TheVariants as resolve
use Rattle.om_image.specs.declared.image.Image.{Image}
use Rattle.om_image.specs.Answers.{IsRead}
use Rattle.om_image.specs.Written.{file_of}
use Rattle.om_counted.specs.Levels.{IsImageAt}
use Rattle.om_link.specs.declared.linking.Linked.{Linked}
use Rattle.om_link.specs.declared.linking.LinkErr.{LinkErr}
use Rattle.om_link.specs.declared.linking.LinkErr.TheVariants.{Resolve, NoMemory}

-- there is no cause against the objects, and the image is one of their program
pub record IsLinkAt (at : Level) (objects : List Parts) (i : Image) : Type 0 where
  pub uncaused : first_cause objects ≡ None
  pub image : IsImageAt at (program_of objects) i

-- such an image with its bytes, as which it is written and from which it is read
pub record IsLinked (at : Level) (objects : List Parts) (l : Linked) : Type 0 where
  pub link : IsLinkAt at objects l.image
  pub written : l.bytes ≡ file_of l.image
  pub read : IsRead l.bytes l.image

-- the answer to objects that were no program for this cause
abbrev pub link_err : ResolveErr → LinkErr
link_err resolve.NoMemory = NoMemory
link_err cause = Resolve cause

-- the image of the objects, or the first cause why there is none; want of memory is answered of any
abbrev pub Links : Level → List Parts → Result Linked LinkErr → Type 0
Links at objects (Ok l) = IsLinked at objects l
Links at objects (Err (Resolve cause)) = first_cause objects ≡ Some cause
Links at objects (Err NoMemory) = Unit {0}

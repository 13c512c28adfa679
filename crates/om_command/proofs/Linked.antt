-- From the objects of a command's files to their image.
use Rattle.std.proofs.Common.{◌≡◌, ℕ, List, Option, Some, refl}
use Rattle.om_alpha.specs.declared.op.Level.{Level}
use Rattle.om_object.specs.declared.parts.Parts.{Parts}
use Rattle.om_link.specs.Links.{IsLinked}
use Rattle.om_link.specs.declared.linking.Linked.{Linked}
use Rattle.om_link.proofs.Images.{linked_images_run}
use Rattle.om_resolve.specs.Causes.{first_cause, Blames}
use Rattle.om_resolve.specs.Program.{program_of}
use Rattle.om_resolve.specs.declared.causes.ResolveErr.{ResolveErr}
use Rattle.om_resolve.specs.declared.causes.ResolveErr.TheVariants as resolve
use Rattle.om_command.specs.Links.{IsImageOf, HoldsLink}
use Rattle.om_command.specs.Loading.{AllLoaded}
use Rattle.om_command.specs.Programs.{ObjectsStop, HoldsProgram}
use Rattle.om_command.specs.World.{Files}

-- ---- an image

image_of : (at : Level) (objects : List Parts) (l : Linked) → IsLinked at objects l → IsImageOf at objects l.image
image_of at objects l is = record {
  link = is.link;
  runs = λ input bytes. linked_images_run at (program_of objects) l.image is.link.image input bytes;
}

pub holds_link : (at : Level) (names : List (List ℕ)) (old new : Files) (objects : List Parts) (l : Linked) → AllLoaded names objects old new → IsLinked at objects l →
    HoldsLink at names old new l
holds_link at names old new objects l loaded is = record {
  objects = objects;
  loaded = loaded;
  image = image_of at objects l is;
  written = is.written;
  read = is.read;
}

-- where there is an image there is a program
pub held_program : (at : Level) (names : List (List ℕ)) (old new : Files) (l : Linked) (h : HoldsLink at names old new l) → HoldsProgram names old new (program_of h.objects)
held_program at names old new l h = record {
  objects = h.objects;
  loaded = h.loaded;
  uncaused = h.image.link.uncaused;
  program = refl;
}

-- ---- a cause

blamed_by : (o : Option ResolveErr) (e : ResolveErr) → o ≡ Some e → Blames o e
blamed_by o resolve.NoMemory is = tt
blamed_by o (resolve.Duplicate name a b) is = is
blamed_by o (resolve.Unresolved name a) is = is
blamed_by o (resolve.Rule a rule at) is = is
blamed_by o (resolve.Limit which total) is = is
blamed_by o (resolve.TooFar from words) is = is

pub has_cause : (names : List (List ℕ)) (old new : Files) (objects : List Parts) (e : ResolveErr) → AllLoaded names objects old new →
    first_cause objects ≡ Some e → ObjectsStop names old new e
has_cause names old new objects e loaded is = record {
  objects = objects;
  loaded = loaded;
  answer = blamed_by (first_cause objects) e is;
}

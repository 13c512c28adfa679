-- What `list IMAGE` promises.
use Rattle.std.specs.Prelude.{◌≡◌, ◌⊎◌, ℕ, List, IsTrue, codes}
use Rattle.om_io.specs.Causes.{Rose}
use Rattle.om_image.specs.declared.image.Image.{Image}
use Rattle.om_listing.specs.Listing.{listing}
use Rattle.om_command.specs.ImageStops.{HoldsImage, FileHoldsImage, IsNotRead}
use Rattle.om_command.specs.StoreCalls.{LoadsOne, NoLoadFailed}
use Rattle.om_command.specs.Telling.{IsSaid, SaysLine, SaysFront}
use Rattle.om_command.specs.World.{Stream, World}

-- a text was put on `out`, and nothing was said; or its put failed after a front of it, and that was said
abbrev pub PutsOrFails : List ℕ → (out_before out_after err_before err_after : Stream) → ℕ → Type 0
PutsOrFails text out_before out_after err_before err_after status =
    ((status ≡ 0) × SaysLine text out_before out_after × (err_after ≡ err_before))
    ⊎ (SaysFront text out_before out_after × IsSaid 7 (codes "write fault\n") status err_before err_after)

-- the file holds an image, whose listing was put
pub record HasListed (name : List ℕ) (old new : World) (status : ℕ) : Type 0 where
  pub image : Image
  pub held : HoldsImage name old.files image
  pub unfailed : NoLoadFailed old.files new.files
  pub input : new.input ≡ old.input
  pub lists : PutsOrFails (listing image) old.out new.out old.err new.err status

-- no load and no put failed
pub record ListFailsNot (old new : World) : Type 0 where
  pub loads : Rose old.files.failed_loads new.files.failed_loads → ⊥
  pub out : Rose old.out.faults new.out.faults → ⊥
  pub err : Rose old.err.faults new.err.faults → ⊥

pub record ListAnswers (name : List ℕ) (old new : World) (status : ℕ) : Type 0 where
  -- one load of the image is asked for and no save, and no file is changed
  pub files : LoadsOne old.files new.files
  pub answer : IsNotRead name old new status ⊎ HasListed name old new status
  -- over a store that tells, an image to which nothing fails is listed, unless memory runs out
  pub complete : (i : Image) → IsTrue old.files.tells → FileHoldsImage name old.files i → ListFailsNot old new → (status ≡ 0) ⊎ (status ≡ 8)

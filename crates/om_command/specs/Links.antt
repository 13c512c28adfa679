-- The image of the object files of a command.
use Rattle.std.specs.Prelude.{◌≡◌, ℕ, List}
use Rattle.om_alpha.specs.declared.op.Level.{Level}
use Rattle.om_image.specs.Answers.{IsRead}
use Rattle.om_image.specs.Written.{file_of}
use Rattle.om_image.specs.declared.image.Image.{Image}
use Rattle.om_link.specs.Laws.{RunsAsProgram}
use Rattle.om_link.specs.Links.{IsLinkAt}
use Rattle.om_link.specs.declared.linking.Linked.{Linked}
use Rattle.om_lockstep.specs.Lockstep.{AreBytes}
use Rattle.om_object.specs.declared.parts.Parts.{Parts}
use Rattle.om_resolve.specs.Program.{program_of}
use Rattle.om_command.specs.Loading.{AllLoaded}
use Rattle.om_command.specs.World.{Files}

-- An image of objects at a level. Its map is true of their program, so every relocated field reaches its target; at the plain
-- level all words are kept and each object has a table of its own, and at the full one nothing is left to rewrite. And for every
-- input its run goes with that of the program: while the program shows no address, both have written the same after counted
-- steps, have taken the same of the input, and end in the same way. At the plain level each step of the program is counted, and
-- at the full one at least one of any W + 1, where the program has W words
pub record IsImageOf (at : Level) (objects : List Parts) (i : Image) : Type 0 where
  pub link : IsLinkAt at objects i
  pub runs : (input : List ℕ) → AreBytes input → RunsAsProgram at (program_of objects) link.image.graph link.image.layout i input

-- all files of these names hold objects, and this is an image of them, with the bytes as which it is written and from which
-- it is read
pub record HoldsLink (at : Level) (names : List (List ℕ)) (old new : Files) (l : Linked) : Type 0 where
  pub objects : List Parts
  pub loaded : AllLoaded names objects old new
  pub image : IsImageOf at objects l.image
  pub written : l.bytes ≡ file_of l.image
  pub read : IsRead l.bytes l.image

-- What follows for every run of a linked image.
use Rattle.std.specs.Prelude.{◌≡◌, ℕ, List}
use Rattle.om_alpha.specs.declared.op.Level.{Level}
use Rattle.om_alpha.specs.declared.op.Level.TheVariants as level
use Rattle.om_prog.specs.View.{ProgramView}
use Rattle.om_prog.specs.Script.{program_script}
use Rattle.om_graph.specs.View.{GraphView}
use Rattle.om_layout.specs.Layout.{LayoutView}
use Rattle.om_image.specs.declared.image.Image.{Image}
use Rattle.om_lockstep.specs.Lockstep.{AreBytes, InLockstep}
use Rattle.om_encode.specs.Halves.{addresses_of}
use Rattle.om_encode.specs.Headline.{Headline}
use Rattle.om_object.specs.declared.parts.Parts.{Parts}
use Rattle.om_counted.specs.Levels.{IsImageAt, RunsCounted}
use Rattle.om_link.specs.declared.linking.Linked.{Linked}
use Rattle.om_link.specs.Links.{IsLinked}

-- each step of the program is one of the image; so what is promised holds whatever the number of words that a step may stand for
pub record RunsInStep (p : ProgramView) (g : GraphView) (l : LayoutView) (i : Image) (input : List ℕ) : Type 0 where
  pub lockstep : InLockstep (program_script p) (addresses_of p g l) i input
  pub headline : (words : ℕ) → Headline (program_script p) (addresses_of p g l) i input words

-- a plain image runs in step with its program
abbrev pub StepsAt : Level → ProgramView → GraphView → LayoutView → Image → List ℕ → Type 0
StepsAt level.Plain p g l i input = RunsInStep p g l i input
StepsAt level.Full p g l i input = Unit {0}

-- a run of the image goes with that of the program: after counted steps both have written the same, taken the same of the input,
-- and ended in the same way
pub record RunsAsProgram (at : Level) (p : ProgramView) (g : GraphView) (l : LayoutView) (i : Image) (input : List ℕ) : Type 0 where
  pub counted : RunsCounted p g l i input
  pub steps : StepsAt at p g l i input

abbrev pub LinkedImagesRun : Type 0
LinkedImagesRun =
    (at : Level) (p : ProgramView) (i : Image) (h : IsImageAt at p i) (input : List ℕ) → AreBytes input →
    RunsAsProgram at p h.graph h.layout i input

-- a program has at most one plain image, so objects have at most one plain link
pub record OnePlainImage : Type 0 where
  pub image :
      (p : ProgramView) (i j : Image) → IsImageAt level.Plain p i → IsImageAt level.Plain p j → i ≡ j
  pub bytes :
      (objects : List Parts) (a b : Linked) → IsLinked level.Plain objects a → IsLinked level.Plain objects b →
      a.bytes ≡ b.bytes

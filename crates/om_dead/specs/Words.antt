-- What is left where dead words are deleted.
use Rattle.std.specs.Prelude.{◌≡◌, ◌<◌, ℕ, Bool, true, false}
use Rattle.om_value.specs.declared.value.Place.{Place}
use Rattle.om_prog.specs.View.{ProgramView}
use Rattle.om_prog.specs.Valid.{IsProgram}
use Rattle.om_graph.specs.View.{GraphView}
use Rattle.om_graph.specs.Left.{AreExactMasks, NoDeadWord}
use Rattle.om_graph.specs.Stands.{BasesStand}
use Rattle.om_graph.specs.Weight.{weight}
use Rattle.om_passes.specs.OneEdit.{MayGoOn}
use Rattle.om_passes.specs.Passed.{FitsStill, IsPassed, IsOfAProgram}
use Rattle.om_passes.specs.Step.{Rewrites, Deletions}
use Rattle.om_uses.specs.Parts.{Kept, IsNearly}

-- by exact masks no word of a LITERAL load or a GPDISP is dead but the last of its text
pub record IsWithoutDead (g : GraphView) : Type 0 where
  pub masks : Place → ℕ → Bool
  pub outs : Place → ℕ → Bool
  pub exact : AreExactMasks masks outs g
  pub none : NoDeadWord outs g

-- dead words are gone, and none is left. It is said of each program of which the old graph is one
pub record IsCleared (changed : Bool) (old new : GraphView) : Type 0 where
  -- where it says that it changed nothing, nothing is changed
  pub same : changed ≡ false → new ≡ old
  pub passed :
      (p : ProgramView) → IsProgram p → MayGoOn p old → BasesStand p old → IsPassed p changed old new
  pub near : (k : Kept) → IsNearly old k → IsNearly new k
  pub none : IsWithoutDead new

-- meaning is kept, where deletion stops before
abbrev pub IsRewritten : GraphView → GraphView → Type 0
IsRewritten old new = (p : ProgramView) → IsProgram p → MayGoOn p old → Rewrites p old new

-- ---- so far

pub record AreDeleted (changed : Bool) (old now : GraphView) : Type 0 where
  pub program : IsOfAProgram old
  pub same : changed ≡ false → now ≡ old
  pub lighter : changed ≡ true → weight now < weight old
  pub deletions : (p : ProgramView) → IsProgram p → MayGoOn p old → Deletions p old now
  pub fits : (p : ProgramView) → IsProgram p → MayGoOn p old → FitsStill p old now
  pub near : (k : Kept) → IsNearly old k → IsNearly now k

-- What a pass makes of a graph of a program, and what its answer says of that.
use Rattle.std.specs.Prelude.{◌≡◌, ◌<◌, ◌||◌, ℕ, Bool, true, false}
use Rattle.om_value.specs.declared.value.Target.{Target}
use Rattle.om_prog.specs.View.{ProgramView}
use Rattle.om_prog.specs.Valid.{IsProgram}
use Rattle.om_graph.specs.View.{GraphView}
use Rattle.om_graph.specs.Fits.{OpsFit}
use Rattle.om_graph.specs.Weight.{weight}
use Rattle.om_passes.specs.OneEdit.{MayGoOn}
use Rattle.om_passes.specs.Step.{Step, Steps}

-- address ops that fit in some numbers of a layout fit in them still
abbrev pub FitsStill : ProgramView → GraphView → GraphView → Type 0
FitsStill p old new = (gp : ℕ → ℕ) (address : Target → ℕ) → OpsFit p gp address old → OpsFit p gp address new

-- to a graph of the program the pass took steps, at least one where it says that it changed something
pub record IsPassed (p : ProgramView) (changed : Bool) (old new : GraphView) : Type 0 where
  pub steps : Steps p old new
  pub lighter : changed ≡ true → weight new < weight old
  pub fits : FitsStill p old new

-- what a pass that knows no program makes of a graph: it is said of each program of which that is a graph
pub record Passes (changed : Bool) (old new : GraphView) : Type 0 where
  -- where it says that it changed nothing, nothing is changed
  pub same : changed ≡ false → new ≡ old
  pub passed : (p : ProgramView) → IsProgram p → MayGoOn p old → IsPassed p changed old new

-- one step of a pass
pub record IsStep (old new : GraphView) : Type 0 where
  pub step : (p : ProgramView) → IsProgram p → MayGoOn p old → Step p old new
  pub fits : (p : ProgramView) → IsProgram p → MayGoOn p old → FitsStill p old new

-- a graph of some program that passes may go on with
pub record IsOfAProgram (g : GraphView) : Type 0 where
  pub program : ProgramView
  pub valid : IsProgram program
  pub may_go_on : MayGoOn program g

-- a pass that does nothing, one with a step more, and two in a row
pub record PassesGoOn : Type 0 where
  pub none : (g : GraphView) → Passes false g g
  pub more : (changed : Bool) (a b c : GraphView) → Passes changed a b → IsStep b c → Passes true a c
  pub all :
      (changed again : Bool) (a b c : GraphView) → Passes changed a b → Passes again b c →
      Passes (changed || again) a c
  -- what a pass leaves passes may go on with
  pub goes_on :
      (changed : Bool) (a b : GraphView) (p : ProgramView) → IsProgram p → MayGoOn p a →
      Passes changed a b → MayGoOn p b
  pub stays : (changed : Bool) (a b : GraphView) → IsOfAProgram a → Passes changed a b → IsOfAProgram b

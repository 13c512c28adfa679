-- What stands between turns of rewriting, and what a turn makes of a graph.
use Rattle.std.specs.Prelude.{◌≡◌, ◌⊎◌, ℕ, Bool, false, List, []}
use Rattle.om_value.specs.declared.value.Target.{Target}
use Rattle.om_prog.specs.View.{ProgramView}
use Rattle.om_prog.specs.Valid.{IsProgram}
use Rattle.om_flow.specs.declared.parts.Fact.{Fact}
use Rattle.om_graph.specs.View.{GraphView}
use Rattle.om_graph.specs.Fits.{OpsFit}
use Rattle.om_graph.specs.Left.{NoDirect, NoDrop, NoEnter, OnlyKeptSet}
use Rattle.om_graph.specs.OfProgram.{IsGraphOf}
use Rattle.om_graph.specs.Run.{graph_script}
use Rattle.om_blocks.specs.Found.{facts_in}
use Rattle.om_gpfacts.specs.Exact.{AreExact}
use Rattle.om_uses.specs.Parts.{Kept, IsUsesOf}
use Rattle.om_layout.specs.Layout.{LayoutView, gp_of, address_of}
use Rattle.om_layout.specs.Order.{IsLayoutOf}
use Rattle.om_passes.specs.OneEdit.{MayGoOn}
use Rattle.om_passes.specs.Step.{FewerTargets, Steps}
use Rattle.om_dead.specs.Words.{IsWithoutDead}
use Rattle.om_addr.specs.Idle.{IsTaken}

-- ---- addresses

-- the address ops of a graph fit in any numbers
abbrev pub FitInAny : ProgramView → GraphView → Type 0
FitInAny p g = (gp : ℕ → ℕ) (address : Target → ℕ) → OpsFit p gp address g

-- or they fit in the layout of a graph of before, which had the same tables, and in them at least the slots
pub record FitInOne (p : ProgramView) (g : GraphView) : Type 0 where
  pub before : GraphView
  pub layout : LayoutView
  pub graph : IsGraphOf p before
  pub laid : IsLayoutOf p before layout
  pub tables : g.tables ≡ before.tables
  pub targets : FewerTargets before g
  pub fits : OpsFit p (gp_of layout) (address_of layout) g

-- so far no layout was asked for, or one was
abbrev pub FitSoFar : ProgramView → GraphView → Type 0
FitSoFar p g = FitInAny p g ⊎ FitInOne p g

-- ---- what is left

-- by exact facts no call is left to make direct or to let go past a pair, and no pair to drop
pub record AreCallsDone (g : GraphView) : Type 0 where
  pub facts : List Fact
  pub exact : AreExact g facts
  pub direct : NoDirect g
  pub drop_pairs : (p : ProgramView) → NoDrop (graph_script p g) (facts_in g facts) g
  pub enter : (p : ProgramView) → NoEnter (graph_script p g) (facts_in g facts) g

-- what reducing loads over a layout makes of a graph
pub record LoadsPass (l : LayoutView) (changed : Bool) (old new : GraphView) : Type 0 where
  pub same : changed ≡ false → new ≡ old
  pub passed : (p : ProgramView) → IsProgram p → MayGoOn p old → IsTaken p l changed old new

-- ---- between turns

-- steps were taken from the first graph on, the uses are those of the graph, and it has been pruned. Where the last time
-- to prune changed nothing, all of its blocks are in the kept set
pub record IsBetween (p : ProgramView) (start now : GraphView) (u : Kept) (pruned : Bool) : Type 0 where
  pub steps : Steps p start now
  pub fits : FitSoFar p now
  pub uses : IsUsesOf now u
  pub marks : now.touched ≡ []
  pub none : IsWithoutDead now
  pub kept : pruned ≡ false → OnlyKeptSet now

-- What rounds of rewriting ask of a graph, and what they make of it.
use Rattle.std.specs.Prelude.{◌≡◌, ℕ, Bool}
use Rattle.om_value.specs.declared.value.Place.{Place}
use Rattle.om_value.specs.declared.value.Target.{Target}
use Rattle.om_prog.specs.Facts.{Fact}
use Rattle.om_prog.specs.View.{ProgramView}
use Rattle.om_graph.specs.View.{GraphView}
use Rattle.om_graph.specs.Fits.{OpsFit}
use Rattle.om_graph.specs.Grouping.{grouped_tables}
use Rattle.om_graph.specs.Index.{BranchesInReach}
use Rattle.om_graph.specs.Kept.{KeptInBlocks}
use Rattle.om_graph.specs.Left.{NothingApplies}
use Rattle.om_graph.specs.LeftIn.{Keeps}
use Rattle.om_graph.specs.OfProgram.{IsGraphOf}
use Rattle.om_graph.specs.Run.{graph_script}
use Rattle.om_graph.specs.Stands.{BasesStand, PairsWhole}
use Rattle.om_layout.specs.Layout.{LayoutView, gp_of, address_of}
use Rattle.om_layout.specs.Order.{IsLayoutOf}
use Rattle.om_passes.specs.OneEdit.{MayGoOn}

-- a graph with which rounds may begin: its tables are grouped, and no op of it stands for an address by numbers of a layout
pub record MayBegin (p : ProgramView) (g : GraphView) : Type 0 where
  pub goes_on : MayGoOn p g
  pub bases : BasesStand p g
  pub pairs : PairsWhole p g
  pub tables : g.tables ≡ grouped_tables p
  pub fits : (gp : ℕ → ℕ) (address : Target → ℕ) → OpsFit p gp address g

-- meaning is kept, and no rule applies to the new graph in its layout
pub record AreRounds (p : ProgramView) (old new : GraphView) (l : LayoutView) : Type 0 where
  pub keeps : Keeps p old new
  pub of : IsGraphOf p new
  pub kept : KeptInBlocks new
  pub reach : BranchesInReach new
  pub laid : IsLayoutOf p new l
  pub fits : OpsFit p (gp_of l) (address_of l) new
  pub bases : BasesStand p new
  pub pairs : PairsWhole p new
  pub facts : Place → Fact
  pub masks : Place → ℕ → Bool
  pub outs : Place → ℕ → Bool
  pub rest : NothingApplies p (graph_script p new) (gp_of l) (address_of l) facts masks outs new

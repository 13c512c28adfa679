-- Exact facts by number are exact facts by label, as the end of all rewriting asks for them.
use Rattle.std.specs.Prelude.{List}
use Rattle.om_prog.specs.View.{ProgramView}
use Rattle.om_flow.specs.declared.parts.Fact.{Fact}
use Rattle.om_graph.specs.View.{GraphView}
use Rattle.om_graph.specs.Run.{graph_script}
use Rattle.om_graph.specs.Left.{AreExactFacts}
use Rattle.om_blocks.specs.Found.{facts_in}
use Rattle.om_gpfacts.specs.Exact.{AreExact}

pub record GiveExactFacts : Type 0 where
  pub by_label :
      (p : ProgramView) (g : GraphView) (facts : List Fact) → AreExact g facts →
      AreExactFacts (graph_script p g) (facts_in g facts) g

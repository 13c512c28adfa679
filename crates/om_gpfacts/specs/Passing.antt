-- The parts of the check.
use Rattle.std.specs.Prelude.{◌++◌, ◌∷◌, [], List}
use Rattle.om_prog.specs.View.{ProgramView}
use Rattle.om_prog.specs.Facts as prog
use Rattle.om_flow.specs.declared.parts.Fact.{Fact}
use Rattle.om_flow.specs.FactSteps.{joined}
use Rattle.om_graph.specs.View.{Block, GraphView, Has}
use Rattle.om_graph.specs.Run.{graph_script}
use Rattle.om_graph.specs.Checks.{end_fact}
use Rattle.om_blocks.specs.declared.exits.Exit.{Exit}
use Rattle.om_blocks.specs.declared.exits.Exit.TheVariants.{Nowhere, Block as ToBlock, ByRegister}
use Rattle.om_blocks.specs.Exits.{Leads, JumpsBy}
use Rattle.om_blocks.specs.Found.{seen, facts_in}

-- a fact for all jumps by a register so far, with one that a block's end leaves
abbrev pub with_exit : Exit → Fact → Fact → Fact
with_exit ByRegister out sent = joined out sent
with_exit Nowhere out sent = out
with_exit (ToBlock id) out sent = out

-- what comes from the ends of these blocks is allowed where it goes, and `out` is the least fact that what jumps by a
-- register allows
pub record Passes (g : GraphView) (facts : List Fact) (done : List Block) (out : Fact) : Type 0 where
  pub led :
      (p : ProgramView) (b n : Block) → Has done b → Has g.blocks n → Leads g b n.id →
      prog.Allows (end_fact (graph_script p g) (facts_in g facts) b) (facts_in g facts n.label)
  pub jumped :
      (p : ProgramView) (b : Block) → Has done b → JumpsBy g b →
      prog.Allows (end_fact (graph_script p g) (facts_in g facts) b) (seen out)
  pub least :
      (p : ProgramView) (x : prog.Fact) →
      ((b : Block) → Has done b → JumpsBy g b → prog.Allows (end_fact (graph_script p g) (facts_in g facts) b) x) →
      prog.Allows (seen out) x

-- where the blocks so far pass, those with one more do
pub record PassesMore (g : GraphView) (facts : List Fact) (b : Block) (out new : Fact) : Type 0 where
  pub more : (done : List Block) → Passes g facts done out → Passes g facts (done ++ b ∷ []) new

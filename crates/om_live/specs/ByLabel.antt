-- Exact masks by number are exact masks by label, as the end of all rewriting asks for them.
use Rattle.std.specs.Prelude.{ℕ, List}
use Rattle.om_graph.specs.View.{GraphView}
use Rattle.om_graph.specs.Held.{IsGraph}
use Rattle.om_graph.specs.Outs.{outs_of}
use Rattle.om_graph.specs.Left.{AreExactMasks}
use Rattle.om_blocks.specs.Found.{masks_in}
use Rattle.om_live.specs.Exact.{AreExact}

pub record GiveExactMasks : Type 0 where
  pub by_label :
      (g : GraphView) (masks : List ℕ) → IsGraph g → AreExact g masks →
      AreExactMasks (masks_in g masks) (outs_of g (masks_in g masks)) g

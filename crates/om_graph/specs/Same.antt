-- Graphs that are the same but for their marks.
use Rattle.std.specs.Prelude.{◌≡◌}
use Rattle.om_graph.specs.View.{GraphView}

-- equal but for the touched blocks
pub record SameGraph (a b : GraphView) : Type 0 where
  pub counts : b.counts ≡ a.counts
  pub roots : b.roots ≡ a.roots
  pub tables : b.tables ≡ a.tables
  pub labels : b.labels ≡ a.labels
  pub blocks : b.blocks ≡ a.blocks

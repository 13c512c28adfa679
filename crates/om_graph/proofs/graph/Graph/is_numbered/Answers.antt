use Rattle.om_graph.proofs.Numbers.{numbered_rows}
use Rattle.om_graph.proofs.graph.Graph.is_numbered.Goals as goal

pub returns : goal.returns
returns c = rw (← c.self.view_is) (λ b h. numbered_rows c.self.inside.ops.lists c.self.inside.rows.items b c.self.invariant.graph.labels h)

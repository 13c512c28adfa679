use Rattle.std.proofs.Common.{◌≡◌, ℕ, true, is_some, arith}
use Rattle.std.specs.Prelude.{find}
use Rattle.om_graph.specs.View.{is_block}
use Rattle.om_graph.specs.Laid.{blocks_from}
use Rattle.om_graph.proofs.GraphReads.{live_block}
use Rattle.om_graph.proofs.graph.Graph.rows.Goals as goal

pub returns : goal.returns
returns c = λ id live.
    let at : is_some (find (is_block id) (blocks_from c.self.inside.ops.lists 0 c.self.inside.rows.items)) ≡ true = rw (← c.self.view_is) at live in
    let l = live_block c.self.inside.ops.lists c.self.inside.rows.items id at in
    let w = l.within in
    omega (arith, w)

use Rattle.om_addr.proofs.AllDone.{near_done}
use Rattle.om_addr.proofs.reduction.reduce_near.Goals as goal

pub returns-clause-nothing : goal.returns-clause-nothing
returns-clause-nothing c = λ f. near_done c.args.lay.now c.reduce_blocks-changed.new.g c.is_graph.ensures (c.reduce_blocks-changed.ensures.nothing f)

use Rattle.om_addr.proofs.IdleDone.{idle_done}
use Rattle.om_addr.proofs.idle.take_idle.Goals as goal

pub returns-clause-nothing : goal.returns-clause-nothing
returns-clause-nothing c = λ f. idle_done c.args.lay.now c.take_blocks-changed.new.g c.is_graph.ensures (c.take_blocks-changed.ensures.nothing f)

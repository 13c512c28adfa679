use Rattle.om_live.proofs.Exactness.{are_exact}
use Rattle.om_live.proofs.masks.solve_numbers.Goals as goal

pub returns : goal.returns
returns c = are_exact c.args.g.now c.in_ok-flow.flow c.requires.graph c.in_ok-flow.ensures c.in_ok-masks.masks.items c.in_ok-masks.ensures

use Rattle.om_gpfacts.proofs.Exactness.{are_exact}
use Rattle.om_gpfacts.proofs.facts.solve_numbers.Goals as goal

pub returns : goal.returns
returns c = are_exact c.args.g.now c.in_ok-flow.flow c.requires.graph c.in_ok-flow.ensures c.in_ok-facts.facts.items (rw c.table_at_entry.ensures at c.in_ok-facts.ensures)

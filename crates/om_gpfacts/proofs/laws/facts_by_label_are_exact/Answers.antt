use Rattle.om_gpfacts.proofs.Exactness.{exact_by_label}
use Rattle.om_gpfacts.proofs.laws.facts_by_label_are_exact.Goals as goal

pub returns : goal.returns
returns c = record { by_label = exact_by_label }

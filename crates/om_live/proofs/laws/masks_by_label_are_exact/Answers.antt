use Rattle.om_live.proofs.Exactness.{exact_by_label}
use Rattle.om_live.proofs.laws.masks_by_label_are_exact.Goals as goal

pub returns : goal.returns
returns c = record { by_label = exact_by_label }

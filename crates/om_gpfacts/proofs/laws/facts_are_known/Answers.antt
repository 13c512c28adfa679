use Rattle.om_gpfacts.proofs.KnownFacts.{none_unknown}
use Rattle.om_gpfacts.proofs.laws.facts_are_known.Goals as goal

pub returns : goal.returns
returns c = record { known = λ p g facts flow exact one leave b h e. none_unknown p g flow one leave facts exact b h e }

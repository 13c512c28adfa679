use Rattle.om_value_laws.proofs.Rules as rules
use Rattle.om_value_laws.proofs.laws.rules_agree.Goals as goal

pub returns : goal.returns
returns c = rules.rules_agree

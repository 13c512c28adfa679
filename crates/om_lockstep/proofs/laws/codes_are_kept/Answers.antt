use Rattle.om_lockstep.proofs.Coded.{keeps_codes}
use Rattle.om_lockstep.proofs.laws.codes_are_kept.Goals as goal

pub returns : goal.returns
returns c = λ s lands comes h input. keeps_codes s _ _ h input

use Rattle.om_checks.proofs.Needs as law
use Rattle.om_checks.proofs.laws.checks_may_fail.Goals as goal

pub returns : goal.returns
returns c = law.checks_may_fail

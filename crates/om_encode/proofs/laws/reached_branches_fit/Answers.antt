use Rattle.om_encode.proofs.Reached as law
use Rattle.om_encode.proofs.laws.reached_branches_fit.Goals as goal

pub returns : goal.returns
returns c = law.reached_branches_fit

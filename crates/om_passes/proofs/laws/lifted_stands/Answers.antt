use Rattle.om_passes.proofs.Starts as law
use Rattle.om_passes.proofs.laws.lifted_stands.Goals as goal

pub returns : goal.returns
returns c = law.lifted_stands

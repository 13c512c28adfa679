use Rattle.om_encode.proofs.Whole as law
use Rattle.om_encode.proofs.laws.true_maps_run.Goals as goal

pub returns : goal.returns
returns c = law.true_maps_run

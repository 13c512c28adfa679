use Rattle.om_passes.proofs.Keeping as law
use Rattle.om_passes.proofs.laws.steps_keep.Goals as goal

pub returns : goal.returns
returns c = law.steps_keep

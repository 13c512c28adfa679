use Rattle.om_passes.proofs.WorkedSteps as law
use Rattle.om_passes.proofs.laws.worked_steps.Goals as goal

pub returns : goal.returns
returns c = law.worked_steps

use Rattle.om_strength_images.proofs.OneRun.{runs_are_one}
use Rattle.om_strength_images.proofs.laws.runs_are_one.Goals as goal

pub returns : goal.returns
returns c = runs_are_one

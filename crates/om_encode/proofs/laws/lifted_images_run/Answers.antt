use Rattle.om_encode.proofs.Whole as law
use Rattle.om_encode.proofs.laws.lifted_images_run.Goals as goal

pub returns : goal.returns
returns c = law.lifted_images_run

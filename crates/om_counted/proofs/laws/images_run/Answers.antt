use Rattle.om_counted.proofs.Images as law
use Rattle.om_counted.proofs.laws.images_run.Goals as goal

pub returns : goal.returns
returns c = law.images_run

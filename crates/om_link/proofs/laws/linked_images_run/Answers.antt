use Rattle.om_link.proofs.Images as law
use Rattle.om_link.proofs.laws.linked_images_run.Goals as goal

pub returns : goal.returns
returns c = law.linked_images_run

use Rattle.om_encode.proofs.Linked as law
use Rattle.om_encode.proofs.laws.linked_images_run.Goals as goal

pub returns : goal.returns
returns c = law.linked_images_run

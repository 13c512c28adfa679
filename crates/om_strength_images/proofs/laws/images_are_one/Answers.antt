use Rattle.om_strength_images.proofs.OneAnswer.{reads_one_image}
use Rattle.om_strength_images.proofs.laws.images_are_one.Goals as goal

pub returns : goal.returns
returns c = reads_one_image

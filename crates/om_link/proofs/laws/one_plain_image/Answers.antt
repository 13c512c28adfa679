use Rattle.om_link.proofs.OneImage as law
use Rattle.om_link.proofs.laws.one_plain_image.Goals as goal

pub returns : goal.returns
returns c = law.one_plain_image

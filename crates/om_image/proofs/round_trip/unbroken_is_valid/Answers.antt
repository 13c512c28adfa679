use Rattle.om_image.proofs.FileBack.{all_valid}
use Rattle.om_image.proofs.round_trip.unbroken_is_valid.Goals as goal

pub returns : goal.returns
returns c = all_valid

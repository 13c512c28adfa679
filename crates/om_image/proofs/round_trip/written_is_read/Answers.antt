use Rattle.om_image.proofs.FileBack.{all_read}
use Rattle.om_image.proofs.round_trip.written_is_read.Goals as goal

pub returns : goal.returns
returns c = all_read

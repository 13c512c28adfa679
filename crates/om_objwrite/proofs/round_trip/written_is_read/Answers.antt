use Rattle.om_objwrite.proofs.Accepted.{all_read}
use Rattle.om_objwrite.proofs.round_trip.written_is_read.Goals as goal

pub returns : goal.returns
returns c = all_read

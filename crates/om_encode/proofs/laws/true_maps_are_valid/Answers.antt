use Rattle.om_encode.proofs.Valid.{true_maps_are_valid}
use Rattle.om_encode.proofs.laws.true_maps_are_valid.Goals as goal

pub returns : goal.returns
returns c = true_maps_are_valid

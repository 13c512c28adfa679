use Rattle.om_counted.proofs.Images as law
use Rattle.om_counted.proofs.laws.counted_is_left_in.Goals as goal

pub returns : goal.returns
returns c = law.counted_is_left_in

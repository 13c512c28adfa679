use Rattle.om_encode.proofs.Mapped.{low_distance}
use Rattle.om_encode.proofs.filling.gp_distance.Goals as goal

pub returns : goal.returns
returns c = low_distance c.args.address c.args.gp c.ranges.address.fits c.ranges.gp.fits c.requires

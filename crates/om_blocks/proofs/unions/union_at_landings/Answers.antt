use Rattle.om_blocks.proofs.Holding.{at_landings}
use Rattle.om_blocks.proofs.unions.union_at_landings.Goals as goal

pub returns : goal.returns
returns g c = at_landings c.args.g.now (g.M.BlockMask.lacks c.args.masks.now) c.at_all.result c.at_all.ensures

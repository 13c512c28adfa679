use Rattle.std.proofs.Common.{sym}
use Rattle.om_blocks.proofs.Holding.{none_united, found_united}
use Rattle.om_blocks.proofs.unions.at_place.Goals as goal

pub returns-in-Some : goal.returns-in-Some
returns-in-Some g c = found_united c.args.g.now (g.M.BlockMask.lacks c.args.masks.now) c.requires c.args.label c.in-Some.b c.mask.result (sym c.in-Some.ensures.block) c.mask.ensures

pub returns-in-None : goal.returns-in-None
returns-in-None g c = none_united c.args.g.now (g.M.BlockMask.lacks c.args.masks.now) c.requires c.args.label (sym c.in-None.ensures.block)

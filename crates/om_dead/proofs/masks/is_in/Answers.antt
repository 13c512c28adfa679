use Rattle.om_dead.proofs.OnLowering.{set_bit, no_bit}
use Rattle.om_dead.proofs.masks.is_in.Goals as goal

pub returns-clause-has : goal.returns-clause-has
returns-clause-has c = λ e. set_bit c.args.mask c.args.r c.bit.result c.bit.ensures e

pub returns-clause-lacks : goal.returns-clause-lacks
returns-clause-lacks c = λ e. no_bit c.args.mask c.args.r c.bit.result c.bit.ensures e

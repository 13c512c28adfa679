use Rattle.om_addr.proofs.InARow as row
use Rattle.om_addr.proofs.splitting.split_op.Goals as goal

pub returns-in-None-clause-passed : goal.returns-in-None-clause-passed
returns-in-None-clause-passed c = row.none c.args.lay.now c.args.live.now c.args.g.now

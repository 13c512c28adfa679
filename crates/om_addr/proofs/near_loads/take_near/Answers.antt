use Rattle.om_addr.proofs.InARow as row
use Rattle.om_addr.proofs.near_loads.take_near.Goals as goal

pub returns-then-num-eq31-clause-passed : goal.returns-then-num-eq31-clause-passed
returns-then-num-eq31-clause-passed c = λ l said masks. row.none l masks c.args.g.now

pub returns-then-not-is_near-clause-passed : goal.returns-then-not-is_near-clause-passed
returns-then-not-is_near-clause-passed c = λ l said masks. row.none l masks c.args.g.now

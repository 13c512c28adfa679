use Rattle.om_calls.proofs.pairs.closed_by.Goals as goal

pub may_go-requires-clause-high : goal.may_go-requires-clause-high
may_go-requires-clause-high c = c.requires.high c.in-Some-high.high c.in-Some-high.is

use Rattle.om_live.proofs.outs.landed.Goals as goal

pub returns : goal.returns
returns c = record { lacks = λ r l. c.union_at_landings.ensures r }

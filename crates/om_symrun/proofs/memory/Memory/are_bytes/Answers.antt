use Rattle.om_symrun.proofs.Ranges.{range_bytes, no_range_bytes}
use Rattle.om_symrun.proofs.memory.Memory.are_bytes.Goals as goal

pub returns-in-Some-clause-all : goal.returns-in-Some-clause-all
returns-in-Some-clause-all c = λ t.
    range_bytes c.args.self.now c.args.region c.in-Some.cells.now c.args.at c.args.count c.in-Some.ensures c.requires (c.are_bytes.ensures.all t)

pub returns-in-Some-clause-one : goal.returns-in-Some-clause-one
returns-in-Some-clause-one c = λ f.
    no_range_bytes c.args.self.now c.args.region c.in-Some.cells.now c.args.at c.args.count c.in-Some.ensures (c.are_bytes.ensures.one f)

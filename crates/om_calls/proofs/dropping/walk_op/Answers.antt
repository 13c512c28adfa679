use Rattle.std.proofs.Common.{refl}
use Rattle.om_calls.proofs.WalkGoesOn.{op_in_text, high_in_text, drops, stays_on, stays_fewer, all_drops}
use Rattle.om_calls.proofs.dropping.walk_op.Goals as goal

pub closed_by-requires-clause-high : goal.closed_by-requires-clause-high
closed_by-requires-clause-high c = λ h e. high_in_text c.args.g.now c.requires.program.may_go_on.graph.graph c.args.f.now c.args.w.now c.args.o c.requires c.op-op.result c.op-op.ensures h e

pub closed_by-requires-clause-low : goal.closed_by-requires-clause-low
closed_by-requires-clause-low c = op_in_text c.args.g.now c.requires.program.may_go_on.graph.graph c.args.f.now c.args.w.now c.args.o c.requires c.op-op.result c.op-op.ensures

pub drop_pair-requires-clause-pair : goal.drop_pair-requires-clause-pair
drop_pair-requires-clause-pair c =
    drops c.args.g.now c.requires.program.may_go_on.graph.graph c.args.f.now c.args.w.now c.args.o c.requires c.op-op.result c.op-op.ensures c.in-Some.high (c.in-Some.ensures.some c.in-Some.high refl)

pub returns-in-Some-clause-on : goal.returns-in-Some-clause-on
returns-in-Some-clause-on c =
    (all_drops c.args.g.now c.requires.program.may_go_on.graph.graph c.args.f.now c.args.w.now c.args.o c.requires c.op-op.result c.op-op.ensures c.in-Some.high (c.in-Some.ensures.some c.in-Some.high refl)
    _ refl refl refl refl refl refl c.drop_pair.new.g c.drop_pair.ensures.is c.drop_pair.ensures.facts c.drop_pair.ensures.step).0

pub returns-in-Some-clause-fewer : goal.returns-in-Some-clause-fewer
returns-in-Some-clause-fewer c =
    (all_drops c.args.g.now c.requires.program.may_go_on.graph.graph c.args.f.now c.args.w.now c.args.o c.requires c.op-op.result c.op-op.ensures c.in-Some.high (c.in-Some.ensures.some c.in-Some.high refl)
    (record {
      block = c.args.w.now.block;
      start = c.args.w.now.start;
      table = c.args.w.now.table;
      fact = c.in-Some.high.before;
      high = Rattle.std.proofs.Common.None;
      changed = Rattle.std.proofs.Common.true;
    }) refl refl refl refl refl refl c.drop_pair.new.g c.drop_pair.ensures.is c.drop_pair.ensures.facts c.drop_pair.ensures.step).1

pub returns-in-None-clause-on : goal.returns-in-None-clause-on
returns-in-None-clause-on c =
    stays_on c.args.g.now c.requires.program.may_go_on.graph.graph c.args.f.now c.args.w.now c.args.o c.requires c.op-op.result c.op-op.ensures c.behind.result c.behind.ensures (c.in-None.ensures.none refl)

pub returns-in-None-clause-fewer : goal.returns-in-None-clause-fewer
returns-in-None-clause-fewer c =
    stays_fewer c.args.g.now c.requires.program.may_go_on.graph.graph c.args.f.now c.args.w.now c.args.o c.requires c.op-op.result c.op-op.ensures c.behind.result c.behind.ensures

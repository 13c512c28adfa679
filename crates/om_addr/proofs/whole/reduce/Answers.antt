use Rattle.om_addr.proofs.Loops.{flow_of}
use Rattle.om_addr.proofs.InARow as row
use Rattle.om_addr.proofs.WholePass.{whole, done, when_err, stopped_none, stopped_near}
use Rattle.om_addr.proofs.whole.reduce.Goals as goal

pub solve-requires : goal.solve-requires
solve-requires c = flow_of c.args.g.now c.requires.program

pub returns-in_err-live-clause-stopped : goal.returns-in_err-live-clause-stopped
returns-in_err-live-clause-stopped c = when_err c.from_residual.result (stopped_none c.args.g.now)

pub outs_of-requires : goal.outs_of-requires
outs_of-requires c =
    flow_of c.reduce_near-near.new.g
    (row.stays c.args.lay.now c.in_ok-live.live c.reduce_near-near.result c.args.g.now c.reduce_near-near.new.g c.requires.program (c.reduce_near-near.ensures.passed c.in_ok-live.live))

pub returns-in_err-outs-clause-stopped : goal.returns-in_err-outs-clause-stopped
returns-in_err-outs-clause-stopped c =
    when_err c.from_residual-in_err-outs.result
    (stopped_near c.args.lay.now c.in_ok-live.live c.reduce_near-near.result c.args.g.now c.reduce_near-near.new.g c.in_ok-live.ensures.exact (c.reduce_near-near.ensures.passed c.in_ok-live.live))

pub split_all-far-requires-clause-program : goal.split_all-far-requires-clause-program
split_all-far-requires-clause-program c =
    row.stays c.args.lay.now c.in_ok-live.live c.reduce_near-near.result c.args.g.now c.reduce_near-near.new.g c.requires.program (c.reduce_near-near.ensures.passed c.in_ok-live.live)

pub take_idle-idle-requires : goal.take_idle-idle-requires
take_idle-idle-requires c = record {
  program =
      row.stays c.args.lay.now c.in_ok-live.live c.split_all-far.result c.reduce_near-near.new.g c.split_all-far.new.g
      (row.stays c.args.lay.now c.in_ok-live.live c.reduce_near-near.result c.args.g.now c.reduce_near-near.new.g c.requires.program (c.reduce_near-near.ensures.passed c.in_ok-live.live)) c.split_all-far.ensures.passed;
}

pub returns-clause-passed : goal.returns-clause-passed
returns-clause-passed c =
    whole c.args.lay.now c.in_ok-live.live c.reduce_near-near.result c.split_all-far.result c.either-split.result c.take_idle-idle.result c.either.result c.args.g.now
    c.reduce_near-near.new.g c.split_all-far.new.g c.take_idle-idle.new.g c.in_ok-live.ensures.exact (c.reduce_near-near.ensures.passed c.in_ok-live.live) c.split_all-far.ensures.passed
    c.take_idle-idle.ensures.passed c.either-split.ensures c.either.ensures

pub returns-clause-nothing : goal.returns-clause-nothing
returns-clause-nothing c =
    done c.args.lay.now c.in_ok-live.live c.reduce_near-near.result c.split_all-far.result c.either-split.result c.take_idle-idle.result c.either.result c.args.g.now
    c.reduce_near-near.new.g c.split_all-far.new.g c.take_idle-idle.new.g c.in_ok-live.ensures.exact (c.reduce_near-near.ensures.passed c.in_ok-live.live) c.split_all-far.ensures.passed
    c.take_idle-idle.ensures.passed c.either-split.ensures c.either.ensures c.requires.program.may_go_on.graph.graph
    c.reduce_near-near.ensures.nothing c.split_all-far.ensures.nothing c.take_idle-idle.ensures.nothing

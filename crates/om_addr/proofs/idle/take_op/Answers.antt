use Rattle.std.proofs.Common.{◌≡◌, Some, sym, ap, ◌∙◌, subst}
use Rattle.om_graph.specs.View.{GraphView, op_of}
use Rattle.om_addr.specs.declared.loads.Load.{Load}
use Rattle.om_addr.specs.Idle.{IsIdle}
use Rattle.om_addr.proofs.IdleLoads.{none, load_there, op_idle}
use Rattle.om_addr.proofs.idle.take_op.Goals as goal

pub take_load-requires-clause-load : goal.take_load-requires-clause-load
take_load-requires-clause-load c = load_there c.args.g.now c.args.o c.op-op.result c.in-Some.load c.op-op.ensures (sym c.in-Some.ensures)

pub returns-in-Some-clause-nothing : goal.returns-in-Some-clause-nothing
returns-in-Some-clause-nothing c = λ f.
    op_idle c.args.lay.now c.take_load.new.g c.args.o c.op-op.result (Some c.in-Some.load) (ap (λ (g : GraphView). op_of g c.args.o) (c.take_load.ensures.passed.same f) ∙ c.op-op.ensures) c.in-Some.ensures
    (λ load e. subst (λ (y : Load). IsIdle c.args.lay.now c.take_load.new.g y c.op-op.result.place) (some_load c.in-Some.load load e) (c.take_load.ensures.nothing f))
  where
    some_load : (a b : Load) → Some a ≡ Some b → a ≡ b
    some_load a b e = cc

pub returns-in-None-clause-passed : goal.returns-in-None-clause-passed
returns-in-None-clause-passed c = none c.args.lay.now c.args.g.now

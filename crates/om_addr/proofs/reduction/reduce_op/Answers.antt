use Rattle.std.proofs.Common.{◌≡◌, [], Some, sym, ap, ◌∙◌, subst}
use Rattle.om_graph.specs.View.{GraphView, op_of}
use Rattle.om_addr.specs.declared.loads.Load.{Load}
use Rattle.om_addr.specs.Done.{IsDone}
use Rattle.om_addr.proofs.InARow as row
use Rattle.om_addr.proofs.Loaded.{op_done}
use Rattle.om_addr.proofs.reduction.reduce_op.Goals as goal

pub returns-in-Some-clause-nothing : goal.returns-in-Some-clause-nothing
returns-in-Some-clause-nothing c = λ f.
    op_done c.args.lay.now c.reduce_load.new.g c.args.o c.op-op.result (Some c.in-Some.load) (ap (λ (g : GraphView). op_of g c.args.o) ((c.reduce_load.ensures.passed []).same f) ∙ c.op-op.ensures) c.in-Some.ensures
    (λ load e. subst (λ (y : Load). IsDone c.args.lay.now c.reduce_load.new.g y) (some_load c.in-Some.load load e) (c.reduce_load.ensures.nothing f))
  where
    some_load : (a b : Load) → Some a ≡ Some b → a ≡ b
    some_load a b e = cc

pub returns-in-None-clause-passed : goal.returns-in-None-clause-passed
returns-in-None-clause-passed c = λ masks. row.none c.args.lay.now masks c.args.g.now

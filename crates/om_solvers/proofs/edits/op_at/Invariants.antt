use Rattle.std.specs.Prelude.{IsTrue}
use Rattle.om_graph.specs.View.{is_live_op}
use Rattle.om_solvers.proofs.edits.op_at.Given as goal

abbrev pub invariant-loop : goal.invariant-loop
invariant-loop l = IsTrue (is_live_op l.g l.at)

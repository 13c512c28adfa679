use Rattle.std.proofs.Common.{IsTrue, IfSome}
use Rattle.om_graph.specs.View.{is_live_op}
use Rattle.om_rows_programs.proofs.graphs.has_ops.Given as goal

abbrev pub invariant-loop-picked : goal.invariant-loop-picked
invariant-loop-picked l = IfSome l.at (λ o. IsTrue (is_live_op l.graph o))

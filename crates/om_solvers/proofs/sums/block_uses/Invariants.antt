use Rattle.std.specs.Prelude.{IsTrue, IfSome}
use Rattle.om_graph.specs.View.{is_live_op}
use Rattle.om_solvers.proofs.sums.block_uses.Given as goal

abbrev pub invariant-loop : goal.invariant-loop
invariant-loop l = IfSome l.next (λ o. IsTrue (is_live_op l.g o))

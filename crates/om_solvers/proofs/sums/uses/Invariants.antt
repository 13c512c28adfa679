use Rattle.std.specs.Prelude.{IsTrue, IfSome}
use Rattle.om_graph.specs.View.{is_live_block}
use Rattle.om_solvers.proofs.sums.uses.Given as goal

abbrev pub invariant-loop : goal.invariant-loop
invariant-loop l = IfSome l.next (λ b. IsTrue (is_live_block l.g b))

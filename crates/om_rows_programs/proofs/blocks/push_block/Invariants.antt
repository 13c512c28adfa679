use Rattle.std.specs.Prelude.{IsTrue, IfSome}
use Rattle.om_graph.specs.View.{is_live_op}
use Rattle.om_rows_programs.proofs.blocks.push_block.Given as goal

abbrev pub invariant-loop : goal.invariant-loop
invariant-loop l = IfSome l.at (λ o. IsTrue (is_live_op l.graph o))

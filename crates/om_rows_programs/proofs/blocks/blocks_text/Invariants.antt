use Rattle.std.specs.Prelude.{IsTrue, IfSome}
use Rattle.om_graph.specs.View.{is_live_block}
use Rattle.om_rows_programs.proofs.blocks.blocks_text.Given as goal

abbrev pub invariant-loop : goal.invariant-loop
invariant-loop l = IfSome l.at (λ b. IsTrue (is_live_block l.graph b))

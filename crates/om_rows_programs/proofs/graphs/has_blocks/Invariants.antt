use Rattle.std.proofs.Common.{IsTrue, IfSome}
use Rattle.om_graph.specs.View.{is_live_block}
use Rattle.om_rows_programs.proofs.graphs.has_blocks.Given as goal

abbrev pub invariant-loop-plain : goal.invariant-loop-plain
invariant-loop-plain l = IfSome l.at (λ b. IsTrue (is_live_block l.graph b))

use Rattle.std.specs.Prelude.{IsTrue}
use Rattle.om_graph.specs.View.{is_live_block}
use Rattle.om_solvers.proofs.edits.block_at.Given as goal

abbrev pub invariant-loop : goal.invariant-loop
invariant-loop l = IsTrue (is_live_block l.g l.at)

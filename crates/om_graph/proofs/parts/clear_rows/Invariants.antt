use Rattle.std.proofs.Common.{◌≡◌, ◌++◌, take, drop}
use Rattle.std.specs.Prelude.{map}
use Rattle.om_graph.specs.Laid.{cleared_row}
use Rattle.om_graph.proofs.parts.clear_rows.Given as goal

abbrev pub invariant-loop-row : goal.invariant-loop-row
invariant-loop-row l = l.rows ≡ map cleared_row (take l.row-index l.fn.rows) ++ drop l.row-index l.fn.rows

use Rattle.std.proofs.Common.{◌≡◌, drop, true}
use Rattle.std.specs.Prelude.{find}
use Rattle.om_graph.specs.Laid.{touched_of}
use Rattle.om_graph.proofs.parts.first_touched.Given as goal

abbrev pub invariant-loop-row : goal.invariant-loop-row
invariant-loop-row l = find (λ q. true) (touched_of (drop l.row-index l.rows)) ≡ find (λ q. true) (touched_of l.rows)

use Rattle.std.specs.Prelude.{◌≡◌, [], replicate}
use Rattle.om_layout.proofs.tabling.empty_tables.Given as goal

abbrev pub invariant-loop-table : goal.invariant-loop-table
invariant-loop-table l = l.tables.items ≡ replicate l._table []

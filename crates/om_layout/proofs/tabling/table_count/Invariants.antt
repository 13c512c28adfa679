use Rattle.std.specs.Prelude.{◌≡◌, take}
use Rattle.om_layout.specs.Order.{table_count}
use Rattle.om_layout.proofs.tabling.table_count.Given as goal

abbrev pub invariant-loop-table : goal.invariant-loop-table
invariant-loop-table l = l.count ≡ table_count (take l.table-index l.object_tables)

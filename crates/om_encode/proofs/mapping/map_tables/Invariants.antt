use Rattle.std.proofs.Common.{◌≡◌, map, take}
use Rattle.om_encode.specs.Data.{map_table}
use Rattle.om_encode.proofs.mapping.map_tables.Given as goal

abbrev pub invariant-loop-table : goal.invariant-loop-table
invariant-loop-table l = l.map.items ≡ map map_table (take l.table-index l.tables)

use Rattle.std.proofs.Common.{◌≡◌, drop}
use Rattle.om_encode.specs.DataBytes.{with_pieces, table_pieces}
use Rattle.om_encode.proofs.filling.push_tables.Given as goal

abbrev pub invariant-loop-table : goal.invariant-loop-table
invariant-loop-table l =
    with_pieces (table_pieces l.layout (drop l.table-index l.layout.tables)) l.out.items
    ≡ with_pieces (table_pieces l.layout l.layout.tables) l.fn.out.items

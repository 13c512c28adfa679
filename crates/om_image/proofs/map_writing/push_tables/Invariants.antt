use Rattle.std.proofs.Common.{take}
use Rattle.std.specs.Prelude.{flat_map}
use Rattle.om_fields.specs.Bytes.{Grows}
use Rattle.om_image.specs.Written.{table_bytes}
use Rattle.om_image.proofs.map_writing.push_tables.Given as goal

abbrev pub invariant-loop-t : goal.invariant-loop-t
invariant-loop-t l = Grows l.fn.out.items l.out.items (flat_map table_bytes (take l.t-index l.tables))

use Rattle.std.proofs.Common.{ℕ, List, subst}
use Rattle.om_prog.specs.declared.item.Field.{Field}
use Rattle.om_symrun.specs.CellsIn.{Writes, byte_cells}
use Rattle.om_symrun.specs.Starting.{WritesFields}
use Rattle.om_symrun.proofs.First.{made}
use Rattle.om_symrun.proofs.starting.cells_of.Goals as goal

pub returns : goal.returns
returns c =
    made c.in_ok-cells.cells c.write.new.self c.put_fields.new.cells c.args.init.now c.in_ok-cells.ensures
    (subst (λ (bytes : List ℕ). Writes c.in_ok-cells.cells c.write.new.self 0 (byte_cells bytes)) c.as_slice.ensures c.write.ensures)
    (subst (λ (fields : List Field). WritesFields c.write.new.self c.put_fields.new.cells fields) c.as_slice-2.ensures c.in_ok-put_fields.ensures)

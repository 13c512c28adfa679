use Rattle.om_symrun.proofs.Numbers.{writes_eight}
use Rattle.om_symrun.proofs.cells.Cells.put_number.Goals as goal

pub returns-in-Quad : goal.returns-in-Quad
returns-in-Quad c =
    writes_eight c.args.self.now c.write-in-Quad.new.self c.args.size c.args.at c.args.n c.to_le_bytes.result c.in-Quad.is c.to_le_bytes.ensures c.write-in-Quad.ensures

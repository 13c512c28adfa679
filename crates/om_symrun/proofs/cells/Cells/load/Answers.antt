use Rattle.std.proofs.Common.{refl}
use Rattle.om_symrun.proofs.Numbers.{loads_whole}
use Rattle.om_symrun.proofs.cells.Cells.load.Goals as goal

pub returns-else-are_bytes : goal.returns-else-are_bytes
returns-else-are_bytes c =
    loads_whole c.args.self.now c.args.size c.args.at c.length_of.result c.whole.result c.length_of.ensures (c.if-are_bytes.ensures.one refl) c.whole.ensures

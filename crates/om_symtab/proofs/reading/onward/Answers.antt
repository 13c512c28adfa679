use Rattle.std.proofs.Common.{sym, arith}
use Rattle.om_symtab.proofs.Fronts.{drop-past}
use Rattle.om_symtab.proofs.reading.onward.Goals as goal

pub returns : goal.returns
returns c = sym (drop-past c.args.bytes.now c.args.index (omega (arith, c.if-index-bytes.false)))

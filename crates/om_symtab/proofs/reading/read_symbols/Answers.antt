use Rattle.std.proofs.Common.{sym, ◌∙◌}
use Rattle.om_symtab.proofs.InOrder.{fault_is}
use Rattle.om_symtab.proofs.reading.read_symbols.Goals as goal

pub returns-in-Some : goal.returns-in-Some
returns-in-Some c = fault_is c.args.bytes.now c.args.sym_at c.in-Some.rule c.in-Some.at (sym c.first_fault.ensures.gives ∙ c.in-Some.is)

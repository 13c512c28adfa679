use Rattle.std.proofs.Common.{sym}
use Rattle.om_symtab.proofs.ZeroEnd.{unended_from}
use Rattle.om_symtab.proofs.symbol_rules.is_unended.Goals as goal

pub returns : goal.returns
returns c = rw (c.u32_at.ensures, c.symbol_place.ensures.place) (sym (unended_from c.args.bytes.now c.args.at c.args.end c.args.j c.requires.end))

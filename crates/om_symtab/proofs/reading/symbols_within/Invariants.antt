use Rattle.std.proofs.Common.{◌≡◌}
use Rattle.om_fields.specs.Places.{each}
use Rattle.om_symtab.specs.Symbols.{symbol_of}
use Rattle.om_symtab.proofs.reading.symbols_within.Given as goal

abbrev pub invariant-loop-j : goal.invariant-loop-j
invariant-loop-j l = l.symbols.items ≡ each (symbol_of l.bytes l.at) l.j

use Rattle.std.proofs.Common.{◌≡◌, ◌<◌, ℕ, false}
use Rattle.om_symtab.specs.Symbols.{is_unended}
use Rattle.om_symtab.proofs.symbol_rules.name_fault.Given as goal

abbrev pub invariant-loop-j : goal.invariant-loop-j
invariant-loop-j l = (k : ℕ) → k < l.j → is_unended l.bytes l.at k ≡ false

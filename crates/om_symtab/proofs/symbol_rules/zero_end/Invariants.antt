use Rattle.std.proofs.Common.{◌≡◌}
use Rattle.std.specs.Prelude.{drop}
use Rattle.om_symtab.specs.Zeros.{zero_end}
use Rattle.om_symtab.proofs.symbol_rules.zero_end.Given as goal

abbrev pub invariant-loop-i : goal.invariant-loop-i
invariant-loop-i l = zero_end (drop l.i l.bytes) ≡ 0

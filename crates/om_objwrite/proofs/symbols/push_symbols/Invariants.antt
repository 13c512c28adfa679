use Rattle.std.proofs.Common.{◌≡◌, ◌+◌, ◌++◌, drop, length}
use Rattle.om_objwrite.specs.Written.{symbol_table, strings}
use Rattle.om_objwrite.proofs.symbols.push_symbols.Given as goal

abbrev pub invariant-loop-y : goal.invariant-loop-y
invariant-loop-y l =
    (l.out.items ++ symbol_table l.index (drop l.y-index l.symbols) ≡ l.fn.out.items ++ symbol_table 0 l.symbols)
    × (l.index + length (strings (drop l.y-index l.symbols)) ≡ length (strings l.symbols))

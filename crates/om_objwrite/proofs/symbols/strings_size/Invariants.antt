use Rattle.std.proofs.Common.{◌≡◌, ◌+◌, drop, length}
use Rattle.om_objwrite.specs.Written.{strings}
use Rattle.om_objwrite.proofs.symbols.strings_size.Given as goal

abbrev pub invariant-loop-y : goal.invariant-loop-y
invariant-loop-y l = l.size + length (strings (drop l.y-index l.symbols)) ≡ length (strings l.symbols)

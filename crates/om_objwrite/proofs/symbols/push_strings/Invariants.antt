use Rattle.std.proofs.Common.{take}
use Rattle.om_fields.specs.Bytes.{Grows}
use Rattle.om_objwrite.specs.Written.{strings}
use Rattle.om_objwrite.proofs.symbols.push_strings.Given as goal

abbrev pub invariant-loop-y : goal.invariant-loop-y
invariant-loop-y l = Grows l.fn.out.items l.out.items (strings (take l.y-index l.symbols))

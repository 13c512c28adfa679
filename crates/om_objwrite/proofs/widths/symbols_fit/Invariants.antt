use Rattle.std.proofs.Common.{ℕ, ◌<◌, slice_index_or}
use Rattle.om_symtab.specs.declared.symbol.ExtSym.{ExtSym}
use Rattle.om_objwrite.specs.RoundTrip.{HasSymbolWidths}
use Rattle.om_objwrite.proofs.widths.symbols_fit.Given as goal

abbrev pub invariant-loop-y : goal.invariant-loop-y
invariant-loop-y l = (k : ℕ) → (d : ExtSym) → k < l.y-index → HasSymbolWidths (slice_index_or l.symbols k d)

use Rattle.std.proofs.Common.{◌≡◌, ◌<◌, ℕ, false}
use Rattle.om_object.specs.Rules.{symbol_breaks, symbol_at}
use Rattle.om_object.proofs.passes.first_symbol.Given as goal

abbrev pub invariant-loop-j : goal.invariant-loop-j
invariant-loop-j l = (k : ℕ) → k < l.j → symbol_breaks l.p l.rule (symbol_at l.p k) ≡ false

use Rattle.om_uses.specs.Parts.{IsUsesOf}
use Rattle.om_solvers.proofs.edits.turn.Given as goal

abbrev pub invariant-loop : goal.invariant-loop
invariant-loop l = IsUsesOf l.g l.u

use Rattle.std.proofs.Common.{IfSome}
use Rattle.om_arena.specs.Lists.{IsLive}
use Rattle.om_rows_programs.proofs.arenas.has_values.Given as goal

abbrev pub invariant-loop-value : goal.invariant-loop-value
invariant-loop-value l = IfSome l.at (λ id. IsLive l.arena id)

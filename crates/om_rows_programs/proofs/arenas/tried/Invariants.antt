use Rattle.om_arena.specs.Lists.{IsList}
use Rattle.om_rows_programs.proofs.arenas.tried.Given as goal

abbrev pub invariant-loop : goal.invariant-loop
invariant-loop l = IsList l.arena l.even × IsList l.arena l.odd

use Rattle.om_arena.specs.Lists.{IsLive}
use Rattle.om_rows_programs.proofs.arenas.id_at.Given as goal

abbrev pub invariant-loop : goal.invariant-loop
invariant-loop l = IsLive l.arena l.at

use Rattle.std.proofs.Common.{◌≡◌, vec_len}
use Rattle.om_rows_programs.proofs.graphs.are_alike.Given as goal

abbrev pub invariant-loop : goal.invariant-loop
invariant-loop l = vec_len l.plains ≡ 24

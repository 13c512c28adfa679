use Rattle.std.proofs.Common.{◌≡◌, ◌/◌, ◌%◌, ◌*◌, vec_len}
use Rattle.om_graph.specs.View.{IsAfter}
use Rattle.om_rows_programs.proofs.graphs.blocks.Given as goal

abbrev pub invariant-loop-n : goal.invariant-loop-n
invariant-loop-n l = record {
  after : IsAfter l.graph.labels (record { obj = l.n / 8; off = l.n % 8 * 16 });
  as_many : vec_len l.plains ≡ l.n;
}

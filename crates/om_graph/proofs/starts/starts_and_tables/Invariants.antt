use Rattle.std.proofs.Common.{◌≡◌, ◌≤◌, ◌*◌, ◌-◌, ◌^◌, sum, take}
use Rattle.om_graph.specs.View.{numbers_from}
use Rattle.om_graph.specs.Laid.{AreStarts}
use Rattle.om_graph.proofs.starts.starts_and_tables.Given as goal

abbrev pub invariant-loop-words : goal.invariant-loop-words
invariant-loop-words l = record {
  sums : AreStarts (take l.words-index l.texts) l.starts.items;
  start : l.start ≡ sum (take l.words-index l.texts);
  small : l.start ≤ l.words-index * (2 ^ 32 - 1);
  tables : l.tables.items ≡ numbers_from 0 l.words-index;
  table : l.table ≡ l.words-index;
}

use Rattle.std.specs.Prelude.{◌≡◌, ◌≤◌, ◌+◌, ◌*◌, length}
use Rattle.om_layout.specs.Layout.{data_base}
use Rattle.om_layout.specs.Placing.{tables_from, tables_stop}
use Rattle.om_layout.proofs.addresses.placed_tables.Given as goal

abbrev pub invariant-loop-s : goal.invariant-loop-s
invariant-loop-s l = record {
  tables : l.tables.items ≡ tables_from data_base l.yielded;
  stop : l.at ≡ tables_stop data_base l.yielded;
  small : l.at ≤ data_base + 65551 * length l.yielded;
}

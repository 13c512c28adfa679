use Rattle.std.specs.Prelude.{◌≡◌, [], fold, replicate, take}
use Rattle.om_layout.specs.Order.{table_count}
use Rattle.om_layout.specs.Placing.{load_noted}
use Rattle.om_layout.proofs.tabling.slots_of.Given as goal

abbrev pub invariant-loop-load : goal.invariant-loop-load
invariant-loop-load l = l.tables.items ≡ fold (load_noted l.object_tables) (replicate (table_count l.object_tables) []) (take l.load-index l.loads)

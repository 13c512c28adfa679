use Rattle.std.specs.Prelude.{◌≡◌, take}
use Rattle.om_layout.proofs.laying.tables_of.Given as goal

abbrev pub invariant-loop-obj : goal.invariant-loop-obj
invariant-loop-obj l = l.tables.items ≡ take l.obj l.graph.tables

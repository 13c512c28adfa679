use Rattle.std.proofs.Common.{◌≡◌, take}
use Rattle.std.specs.Prelude.{sum_by}
use Rattle.om_objwrite.specs.Lengths.{name_length}
use Rattle.om_rows_objects.proofs.sizes.name_items.Given as goal

abbrev pub invariant-loop-i : goal.invariant-loop-i
invariant-loop-i l = l.total ≡ sum_by name_length (take l.i l.symbols)

use Rattle.std.proofs.Common.{◌≡◌}
use Rattle.om_fields.specs.Places.{each}
use Rattle.om_encode.specs.DataBytes.{map_object}
use Rattle.om_encode.proofs.mapping.map_objects.Given as goal

abbrev pub invariant-loop-obj : goal.invariant-loop-obj
invariant-loop-obj l = l.map.items ≡ each (map_object l.program l.layout) l.obj

use Rattle.std.proofs.Common.{◌≡◌, ◌++◌, take}
use Rattle.std.specs.Prelude.{flat_map}
use Rattle.om_graph.specs.Whole.{value_places}
use Rattle.om_lift.proofs.roots.add_fields.Given as goal

abbrev pub invariant-loop-field : goal.invariant-loop-field
invariant-loop-field l = l.roots.items ≡ l.initial.roots.items ++ flat_map (λ f. value_places f.value) (take l.field-index l.fields)

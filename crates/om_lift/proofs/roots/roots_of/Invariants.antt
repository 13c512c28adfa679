use Rattle.std.proofs.Common.{◌≡◌, ◌∷◌, take}
use Rattle.std.specs.Prelude.{flat_map}
use Rattle.om_graph.specs.Whole.{value_places}
use Rattle.om_lift.proofs.roots.roots_of.Given as goal

abbrev pub invariant-loop-region : goal.invariant-loop-region
invariant-loop-region l = l.roots.items ≡ l.p.entry ∷ flat_map (λ r. flat_map (λ f. value_places f.value) r.fields) (take l.region-index l.region-items)

use Rattle.std.specs.Prelude.{◌≡◌, ◌≤◌, ◌+◌, ◌*◌, sum_by, take}
use Rattle.om_layout.specs.Placing.{regions_from, regions_stop}
use Rattle.om_layout.proofs.addresses.placed_regions.Given as goal

abbrev pub invariant-loop-e : goal.invariant-loop-e
invariant-loop-e l = record {
  regions : l.regions ≡ regions_from l.start (take l.e-index l.extents);
  stop : l.at ≡ regions_stop l.start (take l.e-index l.extents);
  small : l.at ≤ l.start + 15 * l.e-index + sum_by (λ e. e.size) (take l.e-index l.extents);
}

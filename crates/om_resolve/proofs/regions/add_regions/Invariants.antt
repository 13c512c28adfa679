use Rattle.std.proofs.Common.{◌≡◌, ◌++◌, slice_index_or}
use Rattle.om_fields.specs.Places.{joined}
use Rattle.om_resolve.specs.Causes.{region_numbers}
use Rattle.om_resolve.specs.Program.{region_at}
use Rattle.om_resolve.proofs.regions.add_regions.Given as goal

abbrev pub invariant-loop-k : goal.invariant-loop-k
invariant-loop-k l = l.regions.items ≡ l.initial.regions.items ++ joined (λ k. region_at l.l.objects.now l.obj (slice_index_or region_numbers k 0)) l.k

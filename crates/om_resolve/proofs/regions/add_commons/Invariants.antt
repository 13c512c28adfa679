use Rattle.std.proofs.Common.{◌≡◌, ◌++◌}
use Rattle.om_fields.specs.Places.{joined}
use Rattle.om_resolve.specs.Program.{common_at}
use Rattle.om_resolve.proofs.regions.add_commons.Given as goal

abbrev pub invariant-loop-k : goal.invariant-loop-k
invariant-loop-k l = l.regions.items ≡ l.initial.regions.items ++ joined (common_at l.l.objects.now) l.k

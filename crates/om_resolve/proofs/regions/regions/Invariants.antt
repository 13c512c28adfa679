use Rattle.std.proofs.Common.{◌≡◌}
use Rattle.om_fields.specs.Places.{joined}
use Rattle.om_resolve.specs.Program.{regions_of}
use Rattle.om_resolve.proofs.regions.regions.Given as goal

abbrev pub invariant-loop-obj : goal.invariant-loop-obj
invariant-loop-obj l = l.all.items ≡ joined (regions_of l.l.objects.now) l.obj

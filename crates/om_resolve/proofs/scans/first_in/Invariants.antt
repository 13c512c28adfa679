use Rattle.std.proofs.Common.{◌≡◌, fold}
use Rattle.std.specs.Prelude.{None}
use Rattle.om_fields.specs.Places.{joined}
use Rattle.om_resolve.specs.Findings.{better}
use Rattle.om_resolve.specs.Causes.{found_in_object}
use Rattle.om_resolve.proofs.scans.first_in.Given as goal

abbrev pub invariant-loop-obj : goal.invariant-loop-obj
invariant-loop-obj l = l.first ≡ fold better None (joined (found_in_object l.l.objects.now l.scan) l.obj)

use Rattle.std.proofs.Common.{◌≡◌, fold}
use Rattle.om_fields.specs.Places.{joined}
use Rattle.om_object.specs.Rules.{section_at}
use Rattle.om_resolve.specs.Names.{object_at}
use Rattle.om_resolve.specs.Findings.{better}
use Rattle.om_resolve.specs.Causes.{found_in_section}
use Rattle.om_resolve.proofs.scans.first_in_object.Given as goal

abbrev pub invariant-loop-a : goal.invariant-loop-a
invariant-loop-a l = l.first ≡ fold better l.initial.first (joined (λ a. found_in_section l.l.objects.now l.scan l.obj (section_at (object_at l.l.objects.now l.obj) a)) l.a)

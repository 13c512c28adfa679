use Rattle.std.proofs.Common.{◌≡◌, fold}
use Rattle.om_fields.specs.Places.{each}
use Rattle.om_object.specs.Rules.{reloc_at}
use Rattle.om_resolve.specs.Findings.{better}
use Rattle.om_resolve.specs.Causes.{found_at}
use Rattle.om_resolve.proofs.scans.first_in_section.Given as goal

abbrev pub invariant-loop-k : goal.invariant-loop-k
invariant-loop-k l = l.first ≡ fold better l.initial.first (each (λ k. found_at l.l.objects.now l.scan l.obj l.s (reloc_at l.s k)) l.k)

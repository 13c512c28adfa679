use Rattle.std.proofs.Common.{◌≡◌}
use Rattle.om_fields.specs.Places.{least, picked}
use Rattle.om_object.specs.Rules.{section_at, section_breaks}
use Rattle.om_object.specs.Spots.{origin_at}
use Rattle.om_object.proofs.passes.least_section.Given as goal

abbrev pub invariant-loop-a : goal.invariant-loop-a
invariant-loop-a l = l.best ≡ least (picked (λ a. section_breaks l.rule (section_at l.p a)) (λ a. (origin_at l.o a).head) l.a)

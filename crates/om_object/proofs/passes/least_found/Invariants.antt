use Rattle.std.proofs.Common.{◌≡◌}
use Rattle.om_fields.specs.Places.{least, joined}
use Rattle.om_object.proofs.Places.{places_in}
use Rattle.om_object.proofs.passes.least_found.Given as goal

abbrev pub invariant-loop-a : goal.invariant-loop-a
invariant-loop-a l = l.best ≡ least (joined (places_in l.p l.o l.pass) l.a)

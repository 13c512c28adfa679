use Rattle.std.proofs.Common.{◌≡◌}
use Rattle.std.specs.Prelude.{None}
use Rattle.om_fields.specs.Places.{least, joined}
use Rattle.om_object.proofs.Places.{places_in, no_origins}
use Rattle.om_object.proofs.passes.any_found.Given as goal

abbrev pub invariant-loop-a : goal.invariant-loop-a
invariant-loop-a l = least (joined (places_in l.p no_origins l.pass) l.a) ≡ None

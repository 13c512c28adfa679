use Rattle.std.specs.Prelude.{◌≡◌, length}
use Rattle.om_fields.specs.Places.{joined}
use Rattle.om_object.specs.Rules.{reloc_at}
use Rattle.om_resolve.specs.Program.{roles_at}
use Rattle.om_resolve.specs.Maps.{HasRoles}
use Rattle.om_resolve.proofs.roles.roles_of.Given as goal

abbrev pub invariant-loop-k : goal.invariant-loop-k
invariant-loop-k l =
    (length l.roles.items ≡ l.words) × HasRoles l.roles.items (joined (λ k. roles_at l.l.objects.now l.obj l.s (reloc_at l.s k)) l.k)

use Rattle.std.proofs.Common.{◌≡◌}
use Rattle.std.specs.Option.{option_to_list}
use Rattle.om_fields.specs.Places.{joined}
use Rattle.om_object.specs.Rules.{reloc_at}
use Rattle.om_resolve.specs.Program.{field_by}
use Rattle.om_resolve.proofs.fields.fields_of.Given as goal

abbrev pub invariant-loop-k : goal.invariant-loop-k
invariant-loop-k l = l.fields.items ≡ joined (λ k. option_to_list (field_by l.l.objects.now l.obj l.s (reloc_at l.s k) (reloc_at l.s k).kind)) l.k

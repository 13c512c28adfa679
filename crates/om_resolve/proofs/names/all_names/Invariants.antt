use Rattle.std.proofs.Common.{◌≡◌, [], ◌∷◌, fold}
use Rattle.om_fields.specs.Places.{joined}
use Rattle.om_resolve.specs.Names.{with_name, start_name, symbol_names, object_at}
use Rattle.om_resolve.specs.Linked.{names_in}
use Rattle.om_resolve.proofs.names.all_names.Given as goal

abbrev pub invariant-loop-i : goal.invariant-loop-i
invariant-loop-i l = names_in l.names ≡ fold with_name (start_name ∷ []) (joined (λ i. symbol_names (object_at l.objects i)) l.i)

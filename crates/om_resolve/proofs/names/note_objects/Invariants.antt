use Rattle.std.proofs.Common.{◌≡◌, map, fold, take}
use Rattle.om_fields.specs.Places.{joined}
use Rattle.om_resolve.specs.Names.{object_at, number_in, seen_in}
use Rattle.om_resolve.specs.Known.{noted}
use Rattle.om_resolve.specs.Linked.{names_in, lists_in}
use Rattle.om_resolve.proofs.names.note_objects.Given as goal

abbrev pub invariant-loop-i : goal.invariant-loop-i
invariant-loop-i l =
    (lists_in l.numbers.items ≡ map (λ p. map (λ y. number_in (names_in l.names) y.name) p.symbols) (take l.i l.objects))
    × (l.known.items ≡ fold (noted l.objects (names_in l.names)) l.initial.known.items (joined (λ i. seen_in i (object_at l.objects i)) l.i))

use Rattle.std.proofs.Common.{◌≡◌, map, fold, take}
use Rattle.om_resolve.specs.Names.{object_at, number_in, seen_in}
use Rattle.om_resolve.specs.Known.{noted}
use Rattle.om_resolve.specs.Linked.{names_in}
use Rattle.om_resolve.proofs.names.note_symbols.Given as goal

abbrev pub invariant-loop-j : goal.invariant-loop-j
invariant-loop-j l =
    (l.numbers.items ≡ map (λ y. number_in (names_in l.names) y.name) (take l.j (object_at l.objects l.obj).symbols))
    × (l.known.items ≡ fold (noted l.objects (names_in l.names)) l.initial.known.items (take l.j (seen_in l.obj (object_at l.objects l.obj))))

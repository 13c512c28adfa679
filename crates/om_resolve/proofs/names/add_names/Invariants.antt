use Rattle.std.proofs.Common.{◌≡◌, map, fold, drop}
use Rattle.om_resolve.specs.Names.{with_name}
use Rattle.om_resolve.specs.Linked.{names_in}
use Rattle.om_resolve.proofs.names.add_names.Given as goal

abbrev pub invariant-loop-y : goal.invariant-loop-y
invariant-loop-y l =
    fold with_name (names_in l.names) (map (λ y. y.name) (drop l.y-index l.p.symbols))
    ≡ fold with_name (names_in l.initial.names) (map (λ y. y.name) l.p.symbols)

use Rattle.std.proofs.Common.{◌≡◌, length}
use Rattle.std.specs.Vec.Iter.{into_iter_items, into_iter_len}
use Rattle.om_uses.specs.Installed.{installed, HaveRoom}
use Rattle.om_uses.proofs.uses.Uses.install_all.Given as goal

abbrev pub invariant-loop-f : goal.invariant-loop-f
invariant-loop-f l =
    (installed l.g (into_iter_items l.f-iterator) l.self ≡ installed l.g (into_iter_items l.initial.f-iterator) l.initial.self)
    × HaveRoom l.g l.self (into_iter_items l.f-iterator)
    × (into_iter_len l.f-iterator ≡ length (into_iter_items l.f-iterator))

-- Tables with fewer slots.
use Rattle.std.specs.Prelude.{◌≤◌, List, [], ◌∷◌, length}
use Rattle.om_layout.specs.Layout.{TableAt}

abbrev pub SlotsLess : List TableAt → List TableAt → Type 0
SlotsLess [] [] = Unit {0}
SlotsLess (t ∷ ts) (u ∷ us) = (length u.slots ≤ length t.slots) × SlotsLess ts us
SlotsLess _ _ = ⊥

-- The numbers of blocks: a block's is the place of its label among those of all blocks that the graph was made with.
use Rattle.std.specs.Prelude.{◌≡◌, ℕ, ◌+◌, if◌then◌else◌, List, [], ◌∷◌, Option, Some, None}
use Rattle.om_value.specs.declared.value.Place.{Place}
use Rattle.om_value.specs.Same.{place_eq}
use Rattle.om_graph.specs.View.{Block, GraphView, Has}

-- where a place stands first in a list whose places are counted from n on
abbrev pub number_from : ℕ → Place → List Place → Option ℕ
number_from n p [] = None
number_from n p (q ∷ qs) = if place_eq q p then Some n else number_from (n + 1) p qs

abbrev pub number_of : GraphView → Place → Option ℕ
number_of g p = number_from 0 p g.labels

-- the id of a kept block is its number
abbrev pub AreNumbered : GraphView → Type 0
AreNumbered g = (b : Block) → Has g.blocks b → number_of g b.label ≡ Some b.id

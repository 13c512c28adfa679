-- What holds of the kept blocks of some labels.
use Rattle.std.specs.Prelude.{◌≡◌, ◌↔◌, ℕ, List}
use Rattle.std.specs.Int.{bit_at}
use Rattle.om_value.specs.declared.value.Place.{Place}
use Rattle.om_graph.specs.View.{Block, GraphView, Has}

pub record HoldsAt (g : GraphView) (P : ℕ → Type 0) (labels : List Place) : Type 0 where
  pub each : (q : Place) (n : Block) → Has labels q → Has g.blocks n → n.label ≡ q → P n.id

-- a number has the bits that the mask of one of them has, and no others
pub record IsUnion (g : GraphView) (lacks : ℕ → ℕ → Type 0) (labels : List Place) (out : ℕ) : Type 0 where
  pub bits : (r : ℕ) → (bit_at out r ≡ 0) ↔ HoldsAt g (λ id. lacks id r) labels

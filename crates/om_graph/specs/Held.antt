-- What every graph keeps, however it was made and edited.
use Rattle.std.specs.Prelude.{◌≡◌, ℕ, ◌^◌, ◌<◌, List, [], ◌∷◌, flat_map, map, length}
use Rattle.om_value.specs.declared.value.Place.{Place}
use Rattle.om_graph.specs.View.{Node, Block, GraphView, Has, InPlaceOrder}

-- numbers of which none stands twice
abbrev pub Apart : List ℕ → Type 0
Apart [] = Unit {0}
Apart (x ∷ xs) = (Has xs x → ⊥) × Apart xs

abbrev pub label_list : List Block → List Place
label_list bs = map (λ b. b.label) bs

abbrev pub block_ids : List Block → List ℕ
block_ids bs = map (λ b. b.id) bs

abbrev pub node_ids : List Node → List ℕ
node_ids ns = map (λ n. n.id) ns

abbrev pub op_ids : List Block → List ℕ
op_ids bs = flat_map (λ b. node_ids b.ops) bs

pub record IsGraph (g : GraphView) : Type 0 where
  pub objects : length g.counts < 2 ^ 32
  pub tables : length g.tables ≡ length g.counts
  -- the first root is the entry
  pub roots : g.roots ≡ [] → ⊥
  pub labels : InPlaceOrder g.labels
  pub blocks : InPlaceOrder (label_list g.blocks)
  pub among : (q : Place) → Has (label_list g.blocks) q → Has g.labels q
  pub marks : InPlaceOrder g.touched
  pub touched : (q : Place) → Has g.touched q → Has g.labels q
  -- an id names one block, or one op
  pub block_ids : Apart (block_ids g.blocks)
  pub op_ids : Apart (op_ids g.blocks)

-- Blocks as lists of edges, one list a block and one for the hub, whose number is that of the blocks.
use Rattle.std.specs.Prelude.{◌<◌, ◌+◌, ◌^◌, ℕ, List, [], ◌∷◌, ◌++◌, map, get_or, length}
use Rattle.om_flow.specs.declared.parts.FlowBlock.{FlowBlock}
use Rattle.om_flow.specs.declared.parts.Flow.{Flow}
use Rattle.om_flow.specs.declared.parts.Transfer.{Transfer}
use Rattle.om_flow.specs.declared.parts.Transfer.TheVariants.{Keep}
use Rattle.om_flow.specs.Edges.{AllBelow, EdgesInside}
use Rattle.om_flow.specs.Hub.{GoesTo}

abbrev pub pair_of : FlowBlock → List ℕ
pair_of b = b.first ∷ b.second ∷ []

abbrev pub edges_of : List FlowBlock → List ℕ → List (List ℕ)
edges_of blocks lands = map pair_of blocks ++ lands ∷ []

abbrev pub transfers_of : List FlowBlock → List Transfer
transfers_of blocks = map (λ b. b.transfer) blocks ++ Keep ∷ []

abbrev pub reads_of : List FlowBlock → List ℕ
reads_of blocks = map (λ b. b.reads) blocks ++ 0 ∷ []

abbrev pub writes_of : List FlowBlock → List ℕ
writes_of blocks = map (λ b. b.writes) blocks ++ 0 ∷ []

-- what the solvers ask for: each edge goes to a block or to the hub, and from the hub to blocks
pub record IsFlowInside (blocks : List FlowBlock) (lands : List ℕ) (entry : ℕ) : Type 0 where
  pub small : length blocks + 1 < 2 ^ 32
  pub edges : EdgesInside (edges_of blocks lands)
  pub landing : AllBelow (length blocks) lands
  pub entered : entry < length blocks
  pub fits : (b : ℕ) → get_or (writes_of blocks) b 0 < 2 ^ 32

abbrev pub IsInside : Flow → Type 0
IsInside f = IsFlowInside f.blocks.items f.lands.items f.entry

-- control goes from the end of one block to another, the hub left out
abbrev pub FlowGoes : Flow → ℕ → ℕ → Type 0
FlowGoes f = GoesTo (edges_of f.blocks.items f.lands.items) (length f.blocks.items)

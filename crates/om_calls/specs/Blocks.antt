-- What a pass over the ends of blocks makes of one block. No public clause cites this module.
use Rattle.std.specs.Prelude.{◌≡◌, ℕ, Bool, true, false, Some}
use Rattle.om_graph.specs.declared.op.Last.{Last}
use Rattle.om_graph.specs.View.{Block, GraphView, block_of, last_set}
use Rattle.om_passes.specs.Passed.{IsStep}

-- nothing, where its rule does not apply there, or a step that gives the block another end
pub record IsBlockPassed (Left : GraphView → Block → Type 0) (id : ℕ) (changed : Bool)
    (old new : GraphView) : Type 0 where
  pub same : changed ≡ false → new ≡ old
  pub none : changed ≡ false → (b : Block) → block_of old id ≡ Some b → Left old b
  pub step : changed ≡ true → IsStep old new
  pub ends : changed ≡ true → (l : Last) × (new ≡ last_set old id l)

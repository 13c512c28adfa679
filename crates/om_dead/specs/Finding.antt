-- What a search for the kept set finds, by the numbers of blocks. No public clause cites this module.
use Rattle.std.specs.Prelude.{◌≡◌, ◌⊎◌, ◌↔◌, ◌<◌, ◌≤◌, ◌+◌, ℕ, Bool, true, false, if◌then◌else◌, List, Some, get_or, length, sum_by, flat_map}
use Rattle.om_value.specs.declared.value.Place.{Place}
use Rattle.om_graph.specs.View.{Block, GraphView, Has, block_of, is_live_block, labelled}
use Rattle.om_graph.specs.Run.{block_words}
use Rattle.om_graph.specs.Kept.{IsInKeptSet}
use Rattle.om_blocks.specs.Exits.{Leads}
use Rattle.om_blocks.specs.Filling.{word_lands}

abbrev pub IsFound : List Bool → ℕ → Type 0
IsFound fs id = get_or fs id false ≡ true

abbrev pub unfound : Bool → ℕ
unfound b = if b then 0 else 1

-- the numbers P are found too, and each that was not found before is queued
pub record Grown (P : ℕ → Type 0) (fs : List Bool) (ws : List ℕ) (gs : List Bool) (vs : List ℕ) : Type 0 where
  pub size : length gs ≡ length fs
  pub stays : (id : ℕ) → IsFound fs id → IsFound gs id
  pub reached : (id : ℕ) → P id → IsFound gs id
  pub only : (id : ℕ) → IsFound gs id → IsFound fs id ⊎ P id
  pub kept : (id : ℕ) → Has ws id → Has vs id
  pub queued : (id : ℕ) → Has vs id → Has ws id ⊎ P id
  pub fresh : (id : ℕ) → IsFound gs id → IsFound fs id ⊎ Has vs id
  pub fewer : sum_by unfound gs + length vs ≤ sum_by unfound fs + length ws

-- the number of the kept block at one of these places
abbrev pub IsAtOne : GraphView → List Place → ℕ → Type 0
IsAtOne g qs id = (q : Place) × Has qs q × (labelled g q ≡ Some id)

-- a block goes on to the kept block of a number, or names it
abbrev pub LeadsTo : GraphView → Block → ℕ → Type 0
LeadsTo g b id = Leads g b id ⊎ IsAtOne g (flat_map word_lands (block_words b)) id

-- of the kept blocks those of the kept set are found
pub record AreFound (g : GraphView) (fs : List Bool) : Type 0 where
  pub rows : (id : ℕ) → is_live_block g id ≡ true → id < length fs
  pub each : (b : Block) → Has g.blocks b → IsFound fs b.id ↔ IsInKeptSet g b.label

-- the block of an id is outside the kept set
abbrev pub IsUnkept : GraphView → ℕ → Type 0
IsUnkept g id = (b : Block) → block_of g id ≡ Some b → IsInKeptSet g b.label → ⊥

-- Masks that go down as words are deleted: of a register that blocks hand on among themselves alone. No public clause cites
-- this module.
use Rattle.std.specs.Prelude.{◌≡◌, ◌⊎◌, ◌<◌, ◌++◌, ℕ, Bool, true, false, ◌==◌, List, [], Option, Some, None, length, get_or}
use Rattle.std.specs.Int.{bit_at}
use Rattle.om_value.specs.declared.value.Place.{Place}
use Rattle.om_graph.specs.View.{Block, GraphView, Has, is_live_block, labelled}
use Rattle.om_graph.specs.Run.{block_words}
use Rattle.om_graph.specs.Checks.{MaskChecked, reads_first, written_in}
use Rattle.om_graph.specs.Outs.{outs_of}
use Rattle.om_blocks.specs.Exits.{Leads, JumpsBy}
use Rattle.om_blocks.specs.Found.{masks_in, all_registers}
use Rattle.om_passes.specs.Passed.{IsOfAProgram}
use Rattle.om_dead.specs.Words.{AreDeleted}

-- the masks of the kept blocks are copied
pub record IsCopy (g : GraphView) (masks starts : List ℕ) : Type 0 where
  pub room : (id : ℕ) → is_live_block g id ≡ true → id < length starts
  pub each : (b : Block) → Has g.blocks b → get_or starts b.id all_registers ≡ get_or masks b.id all_registers

-- the masks of blocks' starts pass the check, and what is told of blocks' ends covers what may be read from there on
pub record Holds (g : GraphView) (starts ends : List ℕ) : Type 0 where
  pub room : (id : ℕ) → is_live_block g id ≡ true → (id < length starts) × (id < length ends)
  pub checked : MaskChecked (masks_in g starts) g
  pub covered :
      (b : Block) (r : ℕ) → Has g.blocks b → r < 31 → outs_of g (masks_in g starts) b.label r ≡ true →
      bit_at (get_or ends b.id 0) r ≡ 1

-- a block does not read a register before it writes it, and hands it on to none that needs it but those of a region
pub record HandsOnIn (g : GraphView) (starts ends : List ℕ) (r : ℕ) (region : List ℕ) (x : Block) : Type 0 where
  pub unread : reads_first (block_words x) r ≡ false
  pub led :
      written_in (block_words x) r ≡ false → (id : ℕ) → Leads g x id →
      (bit_at (get_or starts id all_registers) r ≡ 0) ⊎ Has region id
  pub jumped : written_in (block_words x) r ≡ false → JumpsBy g x → bit_at (get_or ends x.id 0) r ≡ 0

-- so do all blocks of the region
abbrev pub IsClosed : GraphView → List ℕ → List ℕ → ℕ → List ℕ → Type 0
IsClosed g starts ends r region = (x : Block) → Has g.blocks x → Has region x.id → HandsOnIn g starts ends r region x

abbrev pub AreLive : GraphView → List ℕ → Type 0
AreLive g ids = (id : ℕ) → Has ids id → is_live_block g id ≡ true

-- kept blocks are put behind those of a region
pub record IsSpread (g : GraphView) (old new : List ℕ) : Type 0 where
  pub more : List ℕ
  pub is : new ≡ old ++ more
  pub live : AreLive g more

-- a register is taken out of the masks of these blocks
pub record IsLowered (r : ℕ) (done old now : List ℕ) : Type 0 where
  pub size : length now ≡ length old
  pub less :
      (id k : ℕ) → k < 31 → bit_at (get_or now id all_registers) k ≡ 1 → bit_at (get_or old id all_registers) k ≡ 1
  pub gone : (id : ℕ) → Has done id → id < length old → bit_at (get_or now id all_registers) r ≡ 0
  pub kept :
      (id k : ℕ) → k < 31 → bit_at (get_or old id all_registers) k ≡ 1 →
      (bit_at (get_or now id all_registers) k ≡ 1) ⊎ ((k ≡ r) × Has done id)

-- what is told of blocks' ends, by label
abbrev pub end_under : List ℕ → Option ℕ → ℕ → Bool
end_under ends None r = true
end_under ends (Some id) r = bit_at (get_or ends id 0) r == 1

abbrev pub ends_in : GraphView → List ℕ → Place → ℕ → Bool
ends_in g ends q r = end_under ends (labelled g q) r

-- deletion goes on by these masks
pub record IsFollowing (g : GraphView) (starts ends ops : List ℕ) : Type 0 where
  pub program : IsOfAProgram g
  pub holds : Holds g starts ends
  pub empty : ops ≡ []

-- some words are deleted, or none
abbrev pub SomeDeleted : GraphView → GraphView → Type 0
SomeDeleted old new = (d : Bool) × AreDeleted d old new

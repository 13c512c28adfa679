-- The registers that may be read from the ends of blocks on, as bits of numbers.
use Rattle.std.specs.Prelude.{◌≡◌, ◌↔◌, ◌<◌, ℕ, Bool, true, List, length, get_or, Option, Some, None}
use Rattle.std.specs.Int.{bit_at}
use Rattle.om_value.specs.declared.value.Place.{Place}
use Rattle.om_graph.specs.View.{Block, GraphView, Has, is_live_block}
use Rattle.om_graph.specs.Kept.{Named}
use Rattle.om_graph.specs.Outs.{outs_of}
use Rattle.om_blocks.specs.declared.exits.Exit.{Exit}
use Rattle.om_blocks.specs.declared.exits.Exit.TheVariants as exit
use Rattle.om_blocks.specs.Found.{all_registers}

-- the bits of a number are these registers. r31 does not count
abbrev pub HasBits : ℕ → (ℕ → Bool) → Type 0
HasBits n set = (r : ℕ) → r < 31 → (bit_at n r ≡ 1) ↔ (set r ≡ true)

-- those that may be read from the end of the block of a label on
abbrev pub IsOut : GraphView → (Place → ℕ → Bool) → Place → ℕ → Type 0
IsOut g masks label out = HasBits out (outs_of g masks label)

-- those of all blocks at which a jump by a register may land
pub record AreLanded (g : GraphView) (masks : List ℕ) (out : ℕ) : Type 0 where
  pub lacks :
      (r : ℕ) → r < 31 →
      (bit_at out r ≡ 0) ↔ ((n : Block) → Has g.blocks n → Named g n.label → bit_at (get_or masks n.id all_registers) r ≡ 0)

abbrev pub exit_mask : List ℕ → ℕ → Exit → ℕ
exit_mask masks landed exit.Nowhere = 0
exit_mask masks landed (exit.Block id) = get_or masks id all_registers
exit_mask masks landed exit.ByRegister = landed

abbrev pub fall_mask : List ℕ → Option ℕ → ℕ
fall_mask masks None = 0
fall_mask masks (Some id) = get_or masks id all_registers

-- those of the ends of these blocks, by their numbers
pub record AreOuts (g : GraphView) (masks : Place → ℕ → Bool) (done : List Block) (outs : List ℕ) : Type 0 where
  pub among : (b : Block) → Has done b → Has g.blocks b
  pub room : (id : ℕ) → is_live_block g id ≡ true → id < length outs
  pub each : (b : Block) → Has done b → IsOut g masks b.label (get_or outs b.id 0)

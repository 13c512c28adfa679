-- The parts of the check.
use Rattle.std.specs.Prelude.{◌≡◌, ◌<◌, ◌++◌, ◌∷◌, [], ℕ, true, false, List}
use Rattle.std.specs.Int.{bit_at}
use Rattle.std.specs.Int.Bits.{bit_and, bit_or}
use Rattle.om_graph.specs.View.{Block, GraphView, Has}
use Rattle.om_graph.specs.Run.{block_words}
use Rattle.om_graph.specs.Checks.{reads_first, written_in}
use Rattle.om_blocks.specs.declared.exits.Exit.{Exit}
use Rattle.om_blocks.specs.declared.exits.Exit.TheVariants.{Nowhere, Block as ToBlock, ByRegister}
use Rattle.om_blocks.specs.Exits.{Leads, JumpsBy}
use Rattle.om_blocks.specs.Found.{masks_in}

-- a mask has the registers of another that are not written. r31 does not count
abbrev pub Covers : ℕ → ℕ → ℕ → Type 0
Covers mask live writes =
    (r : ℕ) → r < 31 → bit_at live r ≡ 1 → bit_at writes r ≡ 0 → bit_at mask r ≡ 1

-- the registers that each jump by a register so far allows where it lands, with one block more
abbrev pub with_exit : Exit → ℕ → ℕ → ℕ → ℕ
with_exit ByRegister out mask writes = bit_and out (bit_or mask writes)
with_exit Nowhere out mask writes = out
with_exit (ToBlock id) out mask writes = out

-- the masks of these blocks have what the blocks read, and what may be read where control goes from their ends; and `out`
-- has just the registers that each of them that jumps by a register has in its mask or writes
pub record Passes (g : GraphView) (masks : List ℕ) (done : List Block) (out : ℕ) : Type 0 where
  pub own :
      (b : Block) (r : ℕ) → Has done b → r < 31 → reads_first (block_words b) r ≡ true →
      masks_in g masks b.label r ≡ true
  pub led :
      (b n : Block) (r : ℕ) → Has done b → Has g.blocks n → Leads g b n.id → r < 31 →
      masks_in g masks n.label r ≡ true → written_in (block_words b) r ≡ false →
      masks_in g masks b.label r ≡ true
  pub jumped :
      (b : Block) (r : ℕ) → Has done b → JumpsBy g b → r < 31 → bit_at out r ≡ 1 →
      written_in (block_words b) r ≡ false → masks_in g masks b.label r ≡ true
  pub most :
      (r : ℕ) → r < 31 →
      ((b : Block) → Has done b → JumpsBy g b → written_in (block_words b) r ≡ false →
      masks_in g masks b.label r ≡ true) → bit_at out r ≡ 1

-- where the blocks so far pass, those with one more do
pub record PassesMore (g : GraphView) (masks : List ℕ) (b : Block) (out new : ℕ) : Type 0 where
  pub more : (done : List Block) → Passes g masks done out → Passes g masks (done ++ b ∷ []) new

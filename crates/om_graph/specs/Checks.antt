-- What a check tests of facts on r29 and of masks of registers, block by block; and the fact that a pass may use at a
-- place.
use Rattle.std.specs.Prelude.{◌≡◌, ◌⊎◌, ℕ, ◌<◌, Bool, true, false, not, ◌&&◌, ◌||◌, if◌then◌else◌, List, [], ◌∷◌, Option, Some, None}
use Rattle.om_value.specs.declared.value.Place.{Place}
use Rattle.om_prog.specs.Act.{Word, Script, act_reads, act_writes}
use Rattle.om_prog.specs.Flow.{act_jumps}
use Rattle.om_prog.specs.Facts.{Fact, Table, Unknown, changed, Allows, fact_behind, has}
use Rattle.om_graph.specs.View.{Block, GraphView, Has}
use Rattle.om_graph.specs.Run.{block_words, from_place, rev_onto}
use Rattle.om_graph.specs.Kept.{FallsOn, IsKeptLanding}

-- ---- from block to block

-- one block right before another
abbrev pub Next : List Block → Block → Block → Type 0
Next [] b x = ⊥
Next (c ∷ []) b x = ⊥
Next (c ∷ n ∷ bs) b x = ((c ≡ b) × (n ≡ x)) ⊎ Next (n ∷ bs) b x

abbrev pub IsLastWord : Block → Word → Type 0
IsLastWord b w = (bf : List Word) × (rev_onto bf (w ∷ []) ≡ block_words b)

-- a walk enters a kept block from the end of another: it falls into the next one of the text, or the last word goes
-- there
pub data Enters (g : GraphView) (b n : Block) : Type 0 where
  falls_in : Next g.blocks b n → n.label.obj ≡ b.label.obj → FallsOn b.last → Enters g b n
  jumps_in :
      (w : Word) → Has g.blocks b → Has g.blocks n → IsLastWord b w → act_jumps (IsKeptLanding g) w.act n.label →
      Enters g b n

-- ---- facts on r29

-- the fact behind words
abbrev pub onward : Script → Fact → List Word → Fact
onward c f [] = f
onward c f (w ∷ ws) = onward c (changed c w f) ws

-- a walk over blocks comes to a kept block, and this is what it leaves in r29. Walks over words come to other places: where
-- the last words of a block are gone, they go on behind those that are left, and not at the next block's label
pub data ReachesBlock (c : Script) (g : GraphView) : Block → Fact → Type 0 where
  at_entry : (b : Block) → Has g.blocks b → b.label ≡ c.entry → ReachesBlock c g b (Table (c.table c.entry.obj))
  enters_next : (b n : Block) (f : Fact) → ReachesBlock c g b f → Enters g b n → ReachesBlock c g n (onward c f (block_words b))

module _ (c : Script) (facts : Place → Fact) where
  abbrev pub end_fact : Block → Fact
  end_fact b = onward c (facts b.label) (block_words b)

  pub record GpChecked (g : GraphView) : Type 0 where
    pub entry : (facts c.entry ≡ Unknown) ⊎ (facts c.entry ≡ Table (c.table c.entry.obj))
    pub enters : (b n : Block) → Enters g b n → Allows (end_fact b) (facts n.label)

  -- the fact in front of the first of some words that is at a place or after it, where bf stand before them
  abbrev pub told_in : Fact → List Word → List Word → Place → Option Fact
  told_in f bf [] p = None
  told_in f bf (w ∷ ws) p = if from_place p w then Some (fact_behind c f bf) else told_in f (w ∷ bf) ws p

  abbrev pub told_or : Option Fact → Fact → Fact
  told_or None f = f
  told_or (Some f) g = f

  -- the fact that a pass may use at a place: that in front of the next word of its text
  abbrev pub told_at : List Block → Place → Fact
  told_at [] p = Unknown
  told_at (b ∷ bs) p = told_or (told_in (facts b.label) [] (block_words b) p) (told_at bs p)

-- ---- masks: the registers that may be read from a block's start on. r31 is never read and in no mask

-- words read a register before they write it
abbrev pub reads_first : List Word → ℕ → Bool
reads_first [] r = false
reads_first (w ∷ ws) r = has (act_reads w.act) r || (not (has (act_writes w.act) r) && reads_first ws r)

abbrev pub written_in : List Word → ℕ → Bool
written_in [] r = false
written_in (w ∷ ws) r = has (act_writes w.act) r || written_in ws r

pub record MaskChecked (masks : Place → ℕ → Bool) (g : GraphView) : Type 0 where
  pub reads :
      (b : Block) (r : ℕ) → Has g.blocks b → r < 31 → reads_first (block_words b) r ≡ true → masks b.label r ≡ true
  pub enters :
      (b n : Block) (r : ℕ) → Enters g b n → r < 31 → masks n.label r ≡ true → written_in (block_words b) r ≡ false →
      masks b.label r ≡ true

-- the registers that may be read from a block's end on: those in the mask of a block that a walk enters from there
pub record AreOuts (masks outs : Place → ℕ → Bool) (g : GraphView) : Type 0 where
  pub covers : (b n : Block) (r : ℕ) → Enters g b n → r < 31 → masks n.label r ≡ true → outs b.label r ≡ true
  pub only :
      (b : Block) (r : ℕ) → Has g.blocks b → r < 31 → outs b.label r ≡ true →
      (n : Block) × Enters g b n × (masks n.label r ≡ true)

-- a walk over blocks from a kept block on reads a register before it writes it
pub data ReadsBlock (g : GraphView) (r : ℕ) : Block → Type 0 where
  reads_in : (b : Block) → Has g.blocks b → reads_first (block_words b) r ≡ true → ReadsBlock g r b
  reads_next : (b n : Block) → Enters g b n → written_in (block_words b) r ≡ false → ReadsBlock g r n → ReadsBlock g r b

-- the registers that may be read from some words on, where out may be read behind them
abbrev pub live_in : List Word → (ℕ → Bool) → ℕ → Bool
live_in [] out r = out r
live_in (w ∷ ws) out r = has (act_reads w.act) r || (not (has (act_writes w.act) r) && live_in ws out r)

-- Walks: the ways that control may go through the kept words. From word to next word, along branches, and from a jump by
-- a register to each kept landing place; a walk ends at a text's end, and where it would go to a block that is not kept.
-- What may be read from a place on, and what r29 holds at one, are said of all walks.
use Rattle.std.specs.Prelude.{◌≡◌, ◌⊎◌, ◌<◌, ℕ, List, Some}
use Rattle.om_value.specs.declared.value.Place.{Place}
use Rattle.om_prog.specs.Act.{Word, Script, act_reads, act_writes}
use Rattle.om_prog.specs.Step.{next_place}
use Rattle.om_prog.specs.Flow.{Among, act_falls, act_jumps}
use Rattle.om_prog.specs.Facts.{Fact, Any, Table, changed, unreached}
use Rattle.om_graph.specs.View.{GraphView}
use Rattle.om_graph.specs.Run.{words, next_word}
use Rattle.om_graph.specs.Kept.{IsBlock, IsEnd, IsKeptLanding}

-- a walk goes from a word to a place
abbrev pub WalksTo : GraphView → Word → Place → Type 0
WalksTo g w q = (act_falls w.act × (next_place w.at ≡ q)) ⊎ (act_jumps (IsKeptLanding g) w.act q × (IsBlock g q ⊎ IsEnd g q))

-- ---- what may be read

-- some walk from a place on reads a register before it writes it. r31 is never read
pub data MayRead (g : GraphView) (r : ℕ) : Place → Type 0 where
  reads :
      (p : Place) (w : Word) → next_word (words g) p ≡ Some w → r < 31 → Among (act_reads w.act) r → MayRead g r p
  goes :
      (p : Place) (w : Word) (q : Place) → next_word (words g) p ≡ Some w → (Among (act_writes w.act) r → ⊥) →
      WalksTo g w q → MayRead g r q → MayRead g r p

-- a register is dead behind a word
abbrev pub IsDeadAfter : GraphView → ℕ → Word → Type 0
IsDeadAfter g r w = (q : Place) → WalksTo g w q → MayRead g r q → ⊥

-- ---- the GP fact

-- a walk from the entry comes to a place, and this is what it leaves in r29: a table where the start or the low half
-- of a pair wrote it last
pub data Arrives (c : Script) (g : GraphView) : Place → Fact → Type 0 where
  starts : IsBlock g c.entry → Arrives c g c.entry (Table (c.table c.entry.obj))
  goes_on :
      (p : Place) (f : Fact) (w : Word) (q : Place) → Arrives c g p f → next_word (words g) p ≡ Some w → WalksTo g w q →
      Arrives c g q (changed c w f)

-- a walk from the entry comes to a word
abbrev pub Reaches : Script → GraphView → Word → Fact → Type 0
Reaches c g w f = (p : Place) × Arrives c g p f × (next_word (words g) p ≡ Some w)

-- a table is the GP fact in front of a word, where bf stand before it in its block, the last one first: each walk
-- that comes there leaves it in r29. Where none does each table is, unless another word than a low half wrote r29
-- last in the block
pub record IsGpFact (c : Script) (g : GraphView) (t : ℕ) (bf : List Word) (w : Word) : Type 0 where
  pub walks : (f : Fact) → Reaches c g w f → f ≡ Table t
  pub none : ((f : Fact) → Reaches c g w f → ⊥) → unreached bf ≡ Any

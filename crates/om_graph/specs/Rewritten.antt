-- A graph's words as a pass leaves them, each at its place.
use Rattle.std.specs.Prelude.{◌≡◌, Bool, true, List, [], ◌∷◌, map, filter, Option, Some, None}
use Rattle.om_value.specs.declared.value.Place.{Place}
use Rattle.om_prog.specs.Act.{Word}
use Rattle.om_graph.specs.declared.op.Last.{Last}
use Rattle.om_graph.specs.View.{Block, GraphView, Has}
use Rattle.om_graph.specs.Run.{block_words, all_words}
use Rattle.om_graph.specs.Form.{is_address}

abbrev pub onto_words : Option Word → List Word → List Word
onto_words None ws = ws
onto_words (Some w) ws = w ∷ ws

-- each word of a list as a pass leaves it
abbrev pub each_word : (Word → Option Word) → List Word → List Word
each_word f [] = []
each_word f (w ∷ ws) = onto_words (f w) (each_word f ws)

-- what no pass changes
pub record SameFrame (old new : GraphView) : Type 0 where
  pub counts : new.counts ≡ old.counts
  pub roots : new.roots ≡ old.roots
  pub tables : new.tables ≡ old.tables

-- ---- words and ends of blocks

-- the words of each block of the new graph are those of the old one as a pass leaves them, each at its place; no word
-- becomes one that came from a LITERAL load or a GPDISP
pub record EachWord (f : Word → Option Word) (old new : GraphView) : Type 0 where
  pub words : map block_words new.blocks ≡ map (λ b. each_word f (block_words b)) old.blocks
  pub places : (w u : Word) → f w ≡ Some u → u.at ≡ w.at
  pub addresses : (w u : Word) → f w ≡ Some u → is_address u.act ≡ true → is_address w.act ≡ true

-- a block without its ops
pub record BlockEnd : Type 0 where
  pub label : Place
  pub opening : Bool
  pub last : Last

abbrev pub block_end : Block → BlockEnd
block_end b = record { label = b.label; opening = b.opening; last = b.last }

-- the new graph has the blocks of the old one, with their ends
pub record SameEnds (old new : GraphView) : Type 0 where
  pub same : map block_end new.blocks ≡ map block_end old.blocks

-- ---- blocks dropped, words changed or erased, ends set

-- the end that a block has after
abbrev pub ended_by : (Block → Last) → Block → BlockEnd
ended_by last b = record { label = b.label; opening = b.opening; last = last b }

-- the blocks of the new graph are those of the old one that stay, with their words as a pass leaves them, each at its
-- place, and with their new Lasts; no word becomes one that came from a LITERAL load or a GPDISP. Where all blocks stay
-- as they end, this is the two records above
pub record Edited (f : Word → Option Word) (keep : Block → Bool) (last : Block → Last) (old new : GraphView) : Type 0 where
  pub ends : map block_end new.blocks ≡ map (ended_by last) (filter keep old.blocks)
  pub words : map block_words new.blocks ≡ map (λ b. each_word f (block_words b)) (filter keep old.blocks)
  pub places : (w u : Word) → Has (all_words old.blocks) w → f w ≡ Some u → u.at ≡ w.at
  pub addresses :
      (w u : Word) → Has (all_words old.blocks) w → f w ≡ Some u → is_address u.act ≡ true → is_address w.act ≡ true

-- What holds of graphs and of their runs, whatever the pass: the passes that rewrite a graph rest on these.
use Rattle.std.specs.Prelude.{◌≡◌, ◌<◌, ℕ, suc, ◌+◌, Bool, true, List, ◌∷◌, length, None, sum}
use Rattle.om_value.specs.declared.value.Place.{Place}
use Rattle.om_prog.specs.View.{ProgramView}
use Rattle.om_prog.specs.Act.{Word}
use Rattle.om_prog.specs.Runs.{sym_run}
use Rattle.om_prog.specs.Within.{StateWithin}
use Rattle.om_prog.specs.Facts.{Holds, Fact, Allows, changed_by, fact_behind, IsFact}
use Rattle.om_graph.specs.View.{Block, GraphView, Has}
use Rattle.om_graph.specs.Held.{IsGraph}
use Rattle.om_graph.specs.Run.{block_words, rev_onto, graph_script}
use Rattle.om_graph.specs.Form.{InForm, InPlace, Ordered}
use Rattle.om_graph.specs.Uses.{LastBy}
use Rattle.om_graph.specs.LeftIn.{left_in, Keeps}
use Rattle.om_graph.specs.Kept.{KeptInBlocks, IsKeptLabel, IsKeptLanding, Comes}
use Rattle.om_graph.specs.Checks.{GpChecked, Enters, ReachesBlock, ReadsBlock, MaskChecked, AreOuts, live_in, told_at}
use Rattle.om_graph.specs.Outs.{outs_of}
use Rattle.om_graph.specs.Walks.{WalksTo, MayRead, Reaches, IsGpFact}
use Rattle.om_graph.specs.Pairs.{PairsApart}
use Rattle.om_graph.specs.Whole.{IsWhole}
use Rattle.om_graph.specs.Lifted.{IsLifted}
use Rattle.om_graph.specs.OfProgram.{IsGraphOf, IsLastWriter}
use Rattle.om_prog.specs.Valid.{IsProgram}
use Rattle.om_prog.specs.Script.{program_run}

-- ---- keeping meaning

-- a graph in form keeps its own meaning, and passes in a row keep meaning
pub record PassesCompose : Type 0 where
  pub itself :
      (p : ProgramView) (g : GraphView) → IsGraph g → InForm g → InPlace g → PairsApart g → Keeps p g g
  pub both : (p : ProgramView) (a b c : GraphView) → Keeps p a b → Keeps p b c → Keeps p a c

-- of as many steps in a row as there are words, and one more, of a run that has not ended, at least one is left in
pub record SomeStepIsLeftIn : Type 0 where
  pub grows :
      (p : ProgramView) (old new : GraphView) → IsGraph old → InForm old → InPlace old → Keeps p old new →
      (input : List ℕ) (n : ℕ) → (sym_run (graph_script p old) input (n + suc (sum old.counts))).ended ≡ None →
      length (left_in new (graph_script p old) input n)
      < length (left_in new (graph_script p old) input (n + suc (sum old.counts)))

-- ---- the kept set

-- a run is in a block of the kept set, or at a text's end; each place in code that it holds is the label of such a block,
-- or a text's end; and each is a kept landing place
pub record RunsStayInKeptSet : Type 0 where
  pub place :
      (p : ProgramView) (g : GraphView) → IsWhole p g → (input : List ℕ) (n : ℕ) →
      Comes g (sym_run (graph_script p g) input n).place
  pub labels :
      (p : ProgramView) (g : GraphView) → IsWhole p g → (input : List ℕ) (n : ℕ) →
      StateWithin (IsKeptLabel g) (sym_run (graph_script p g) input n)
  pub landings :
      (p : ProgramView) (g : GraphView) → IsWhole p g → (input : List ℕ) (n : ℕ) →
      StateWithin (IsKeptLanding g) (sym_run (graph_script p g) input n)

-- ---- what checks say

-- a fact of a block that a check passes is the GP fact in front of the block's words, and r29 holds what it says wherever a
-- run comes. What walks over blocks leave it allows, and walks over words leave that too, so the best facts are those that
-- walks over blocks leave
pub record CheckedFactsHold : Type 0 where
  pub blocks :
      (p : ProgramView) (g : GraphView) (facts : Place → Fact) → GpChecked (graph_script p g) facts g → (b : Block) (f : Fact) →
      ReachesBlock (graph_script p g) g b f → Allows f (facts b.label)
  -- where a walk over blocks comes, a walk over words comes to each word, with what the words before it leave
  pub reached :
      (p : ProgramView) (g : GraphView) → IsGraph g → InForm g → InPlace g → (b : Block) (f : Fact) (bf : List Word) (w : Word) (ws : List Word) →
      ReachesBlock (graph_script p g) g b f → rev_onto bf (w ∷ ws) ≡ block_words b →
      Reaches (graph_script p g) g w (changed_by (graph_script p g) f bf)
  pub walks :
      (p : ProgramView) (g : GraphView) (facts : Place → Fact) → IsGraph g → InForm g → InPlace g →
      GpChecked (graph_script p g) facts g →
      (b : Block) (bf : List Word) (w : Word) (ws : List Word) (t : ℕ) → Has g.blocks b →
      rev_onto bf (w ∷ ws) ≡ block_words b → IsFact (fact_behind (graph_script p g) (facts b.label) bf) t →
      IsGpFact (graph_script p g) g t bf w
  pub runs :
      (p : ProgramView) (g : GraphView) (facts : Place → Fact) → IsWhole p g → GpChecked (graph_script p g) facts g →
      (input : List ℕ) (n : ℕ) →
      Holds
      (told_at (graph_script p g) facts g.blocks (sym_run (graph_script p g) input n).place)
      (sym_run (graph_script p g) input n)

-- masks that a check passes have each register that some walk may read from a block's start on, and tell which may be read
-- behind each of its words. What walks over blocks read, walks over words read, so the least masks have no other register
pub record CheckedMasksHold : Type 0 where
  -- what may be read from the ends of blocks on can be computed
  pub outs : (g : GraphView) (masks : Place → ℕ → Bool) → IsGraph g → AreOuts masks (outs_of g masks) g
  pub walks :
      (g : GraphView) (masks : Place → ℕ → Bool) → IsGraph g → InForm g → InPlace g → MaskChecked masks g →
      (b : Block) (r : ℕ) → Has g.blocks b → MayRead g r b.label → masks b.label r ≡ true
  pub inside :
      (g : GraphView) (masks outs : Place → ℕ → Bool) → IsGraph g → InForm g → InPlace g → MaskChecked masks g →
      AreOuts masks outs g → (b : Block) (bf : List Word) (w : Word) (ws : List Word) (q : Place) (r : ℕ) →
      Has g.blocks b → rev_onto bf (w ∷ ws) ≡ block_words b → WalksTo g w q → MayRead g r q →
      live_in ws (outs b.label) r ≡ true
  -- what walks over blocks read walks over words read, from a block's start on and behind each of its words
  pub blocks :
      (g : GraphView) → IsGraph g → InForm g → InPlace g → (b : Block) (r : ℕ) → r < 31 → ReadsBlock g r b → MayRead g r b.label
  pub behind :
      (g : GraphView) → IsGraph g → InForm g → InPlace g → (b : Block) (bf : List Word) (w : Word) (ws : List Word) (r : ℕ) (out : ℕ → Bool) →
      Has g.blocks b → r < 31 → rev_onto bf (w ∷ ws) ≡ block_words b →
      (out r ≡ true → (n : Block) × Enters g b n × ReadsBlock g r n) → live_in ws out r ≡ true →
      (q : Place) × WalksTo g w q × MayRead g r q

-- ---- programs and their graphs

-- the graph that a program is lifted to runs as the program does, state by state; it is a graph of the program, and
-- nothing that a run may come to is missing from it
pub record LiftKeepsMeaning : Type 0 where
  pub runs :
      (p : ProgramView) (g : GraphView) → IsProgram p → IsLifted p g → (input : List ℕ) (n : ℕ) →
      sym_run (graph_script p g) input n ≡ program_run p input n
  pub of : (p : ProgramView) (g : GraphView) → IsProgram p → IsLifted p g → IsGraphOf p g
  pub whole : (p : ProgramView) (g : GraphView) → IsProgram p → IsLifted p g → IsWhole p g

-- in a graph of a program words stand where their blocks are, and opening pairs apart from the ends of blocks; and where
-- its kept set lies within its kept blocks, nothing that a run may come to is missing from it
pub record GraphsOfPrograms : Type 0 where
  pub places : (p : ProgramView) (g : GraphView) → IsProgram p → IsGraphOf p g → InPlace g
  pub apart : (p : ProgramView) (g : GraphView) → IsProgram p → IsGraphOf p g → PairsApart g
  pub whole : (p : ProgramView) (g : GraphView) → IsProgram p → IsGraphOf p g → KeptInBlocks g → IsWhole p g

-- ---- words of a block

-- in words of one text, in order, the last writer before a word is told by places
pub record LastWritersByPlaces : Type 0 where
  pub by_places :
      (obj : ℕ) (ws : List Word) → Ordered ws → ((w : Word) → Has ws w → w.at.obj ≡ obj) →
      (q : Place) (r : ℕ) (w : Word) → IsLastWriter ws q r w → LastBy ws q r w
  pub of_places :
      (obj : ℕ) (ws : List Word) → Ordered ws → ((w : Word) → Has ws w → w.at.obj ≡ obj) →
      (q : Place) (r : ℕ) (w user : Word) → Has ws user → user.at ≡ q → LastBy ws q r w → IsLastWriter ws q r w

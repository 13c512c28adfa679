-- When a flow is that of a graph: the number of a block is that of its id.
use Rattle.std.specs.Prelude.{◌≡◌, ◌↔◌, ◌<◌, ℕ, ◌^◌, true, false, length}
use Rattle.std.specs.Int.{bit_at}
use Rattle.om_prog.specs.Act.{Word, Wrong}
use Rattle.om_prog.specs.View.{ProgramView}
use Rattle.om_prog.specs.Facts.{Fact, Any, Table, Unknown}
use Rattle.om_flow.specs.declared.parts.Flow.{Flow}
use Rattle.om_flow.specs.declared.parts.Transfer.{Transfer}
use Rattle.om_flow.specs.declared.parts.Transfer.TheVariants.{Keep, SetTable, SetUnknown}
use Rattle.om_flow.specs.Seen.{transfers_of, reads_of, writes_of, IsInside, FlowGoes}
use Rattle.om_flow.specs.Facts.{transfer_at}
use Rattle.om_flow.specs.Masks.{number_at}
use Rattle.om_graph.specs.View.{Block, GraphView, Has}
use Rattle.om_graph.specs.Run.{block_words, graph_script, entry_of}
use Rattle.om_graph.specs.Form.{InForm, InPlace, text_size}
use Rattle.om_graph.specs.Checks.{Enters, onward, reads_first, written_in}

-- each use of a high half has it in its block
pub record HasNoWrong (g : GraphView) : Type 0 where
  pub none : (b : Block) (w : Word) → Has g.blocks b → Has (block_words b) w → w.act ≡ Wrong → ⊥

-- a graph that has a flow: as each graph of a program is
pub record HasFlow (g : GraphView) : Type 0 where
  pub form : InForm g
  pub places : InPlace g
  pub right : HasNoWrong g
  pub small : (obj : ℕ) → text_size g obj < 2 ^ 32

-- no kept block has this number
abbrev pub NoNumber : GraphView → ℕ → Type 0
NoNumber g i = (b : Block) → Has g.blocks b → b.id ≡ i → ⊥

-- a fact behind what a block does
abbrev pub behind : Transfer → Fact → Fact
behind Keep f = f
behind (SetTable t) Any = Any
behind (SetTable t) _ = Table t
behind SetUnknown Any = Any
behind SetUnknown _ = Unknown

pub record IsFlow (g : GraphView) (f : Flow) : Type 0 where
  pub inside : IsInside f
  pub numbers : (b : Block) → Has g.blocks b → b.id < length f.blocks.items
  -- an edge is an edge of the graph
  pub goes : (b n : Block) → Has g.blocks b → Has g.blocks n → FlowGoes f b.id n.id ↔ Enters g b n
  -- from other numbers control goes to none of a block
  pub others : (i j : ℕ) → NoNumber g i → FlowGoes f i j → NoNumber g j
  pub entry : (b : Block) → Has g.blocks b → (f.entry ≡ b.id) ↔ (b.label ≡ entry_of g.roots)
  -- what a block does is what its words do
  pub transfer :
      (p : ProgramView) (b : Block) (x : Fact) → Has g.blocks b →
      onward (graph_script p g) x (block_words b) ≡ behind (transfer_at (transfers_of f.blocks.items) b.id) x
  pub reads :
      (b : Block) (r : ℕ) → Has g.blocks b → r < 31 →
      (bit_at (number_at (reads_of f.blocks.items) b.id) r ≡ 1) ↔ (reads_first (block_words b) r ≡ true)
  pub writes :
      (b : Block) (r : ℕ) → Has g.blocks b → r < 31 →
      (bit_at (number_at (writes_of f.blocks.items) b.id) r ≡ 0) ↔ (written_in (block_words b) r ≡ false)
  -- other numbers read nothing, and r31 is read by none
  pub silent : (i r : ℕ) → NoNumber g i → bit_at (number_at (reads_of f.blocks.items) i) r ≡ 0
  pub bare : (i : ℕ) → bit_at (number_at (reads_of f.blocks.items) i) 31 ≡ 0

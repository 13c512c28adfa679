-- Where all objects have one table and r29 is set by pairs alone, every fact is known.
use Rattle.std.specs.Prelude.{◌≡◌, true, false, List, ◌∷◌}
use Rattle.om_prog.specs.Act.{Act, GpLo, Word, act_writes}
use Rattle.om_prog.specs.View.{ProgramView}
use Rattle.om_prog.specs.Facts.{Unknown, has}
use Rattle.om_flow.specs.declared.parts.Fact.{Fact}
use Rattle.om_graph.specs.View.{Block, GraphView, Has}
use Rattle.om_graph.specs.Run.{block_words, rev_onto, table_of}
use Rattle.om_graph.specs.Checks.{written_in}
use Rattle.om_blocks.specs.IsFlow.{HasFlow}
use Rattle.om_blocks.specs.Found.{facts_in}
use Rattle.om_blocks.specs.Laws.{entry_table}
use Rattle.om_gpfacts.specs.Exact.{AreExact}

abbrev pub IsLowHalf : Act → Type 0
IsLowHalf (GpLo ra rb hi) = Unit {0}
IsLowHalf _ = ⊥

-- each object with a kept block has the entry's table
pub record HasOneTable (g : GraphView) : Type 0 where
  pub same : (b : Block) → Has g.blocks b → table_of g b.label.obj ≡ entry_table g

-- the last word of a block that writes r29, if one does, is the low half of a pair
pub record PairsLeave (g : GraphView) : Type 0 where
  pub low :
      (b : Block) (bf ws : List Word) (w : Word) → Has g.blocks b → rev_onto bf (w ∷ ws) ≡ block_words b →
      has (act_writes w.act) 29 ≡ true → written_in ws 29 ≡ false → IsLowHalf w.act

pub record NoneUnknown : Type 0 where
  pub known :
      (p : ProgramView) (g : GraphView) (facts : List Fact) → HasFlow g → AreExact g facts →
      HasOneTable g → PairsLeave g → (b : Block) → Has g.blocks b → facts_in g facts b.label ≡ Unknown → ⊥

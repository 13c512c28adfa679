-- What was found of r29 inside a block.
use Rattle.std.specs.Prelude.{◌≡◌, ℕ, List, ◌∷◌}
use Rattle.om_value.specs.declared.value.Place.{Place}
use Rattle.om_prog.specs.Act.{Word, Script, Wrong}
use Rattle.om_prog.specs.Facts.{fact_behind}
use Rattle.om_flow.specs.declared.parts.Fact.{Fact}
use Rattle.om_flow.specs.declared.parts.Fact.TheVariants.{Any, Table}
use Rattle.om_graph.specs.declared.op.Op.{Op}
use Rattle.om_graph.specs.declared.op.OpKind.{OpKind}
use Rattle.om_graph.specs.Run.{op_act}
use Rattle.om_blocks.specs.Found.{seen}

-- behind the low half of a pair, by the fact at the block's start
abbrev pub table_or_any : Fact → ℕ → Fact
table_or_any Any t = Any
table_or_any _ t = Table t

-- the fact behind an op of a block, where one was found at the block's start and one in front of the op: bf are the words
-- that stand before it, the last one first, and its object has the table
pub record IsBehindOp (kind : OpKind) (table : ℕ) (start before now : Fact) : Type 0 where
  pub is :
      (c : Script) (ops : List Op) (at : Place) (bf : List Word) → (op_act ops kind ≡ Wrong → ⊥) → c.table at.obj ≡ table →
      fact_behind c (seen start) bf ≡ seen before →
      fact_behind c (seen start) (record { at = at; act = op_act ops kind } ∷ bf) ≡ seen now

-- Places that the end of a block takes from a load of their address. No public clause cites this module.
use Rattle.std.specs.Prelude.{◌≡◌, ◌<◌, ℕ, true, false, List, Some}
use Rattle.om_value.specs.declared.value.Place.{Place}
use Rattle.om_value.specs.declared.value.Target.TheVariants as target
use Rattle.om_prog.specs.Act.{Word}
use Rattle.om_graph.specs.declared.op.OpKind.{OpKind}
use Rattle.om_graph.specs.declared.op.OpKind.TheVariants as op
use Rattle.om_graph.specs.View.{Block, GraphView, Has, block_of}
use Rattle.om_graph.specs.Run.{block_words}
use Rattle.om_graph.specs.Index.{InReach}
use Rattle.om_graph.specs.Uses.{IsKnownCall}
use Rattle.om_passes.specs.Passed.{IsOfAProgram}
use Rattle.om_uses.specs.Parts.{Kept, IsUsesOf}
use Rattle.om_uses.specs.Readers.{TellsReadLast}

-- the uses are those of a graph of a program that has this block as it stands
pub record AreUsesAt (u : Kept) (g : GraphView) (id : ℕ) : Type 0 where
  pub start : GraphView
  pub of : IsOfAProgram start
  pub uses : IsUsesOf start u
  pub block : Block
  pub among : Has start.blocks block
  pub here : block_of g id ≡ Some block

-- an op loads the address of a place, the end of its block reads that by the uses, and a branch reaches the place
pub record IsTaken (u : Kept) (counts : List ℕ) (at : Place) (id : ℕ) (k : OpKind)
    (q : Place) : Type 0 where
  pub register : ℕ
  pub base : ℕ
  pub loads : k ≡ op.Lit register base (target.Code q)
  pub below : register < 31
  pub read : TellsReadLast u id true
  pub reach : InReach counts at q

-- of no place that a branch reaches does an op so load the address
pub record IsUntaken (u : Kept) (counts : List ℕ) (at : Place) (id : ℕ) (k : OpKind) : Type 0 where
  pub none :
      (r rb : ℕ) (q : Place) → k ≡ op.Lit r rb (target.Code q) → (r ≡ 31 → ⊥) →
      InReach counts at q → (r < 31) × TellsReadLast u id false

-- in a block no known call whose place is in reach is left
abbrev pub NoDirectIn : GraphView → Block → Type 0
NoDirectIn g b =
    (call : Word) (ra : ℕ) (q : Place) → Has (block_words b) call →
    IsKnownCall (block_words b) call ra q → InReach g.counts call.at q → ⊥

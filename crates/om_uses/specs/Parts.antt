-- What is kept of the ops, blocks and loads of a graph.
use Rattle.std.specs.Prelude.{◌≡◌, ◌<◌, ℕ, ◌+◌, List, [], ◌∷◌, ◌++◌, length, get_or, Option, Some, None}
use Rattle.om_isa.specs.Registers.{mask_of}
use Rattle.om_value.specs.declared.value.Place.{Place}
use Rattle.om_value.specs.declared.value.Target.{Target}
use Rattle.om_graph.specs.declared.op.OpKind.{OpKind}
use Rattle.om_graph.specs.declared.op.OpKind.TheVariants.{Lit}
use Rattle.om_graph.specs.View.{Node, Block, GraphView, Has, first_id}
use Rattle.om_graph.specs.Numbers.{number_of}
use Rattle.om_blocks.specs.Effects.{kind_reads, kind_writes, last_reads, last_writes}
use Rattle.om_uses.specs.declared.tables.OpUses.{OpUses}
use Rattle.om_uses.specs.declared.tables.BlockUses.{BlockUses}
use Rattle.om_uses.specs.declared.tables.Load.{Load}

-- ---- of an op

-- the op behind another, or that one where there is none
abbrev pub next_or : ℕ → Option ℕ → ℕ
next_or id None = id
next_or id (Some next) = next

-- of an op with the one behind it, in a block of this number
abbrev pub uses_of : OpKind → ℕ → ℕ → OpUses
uses_of kind next i =
    record { reads = mask_of (kind_reads kind); writes = mask_of (kind_writes kind); next = next; block = i }

-- the target whose address an op loads from its slot, if it does
abbrev pub load_of : OpKind → List Target
load_of (Lit ra rb t) = t ∷ []
load_of _ = []

abbrev pub loads_of : List Node → List Target
loads_of [] = []
loads_of (n ∷ ns) = load_of n.op.kind ++ loads_of ns

-- ---- of a block

abbrev pub no_block : BlockUses
no_block = record { reads = 0; writes = 0; start = 0; count = 0 }

-- of a block whose loads stand from a place on
abbrev pub block_uses : Block → ℕ → BlockUses
block_uses b start = record {
  reads = mask_of (last_reads b.last);
  writes = mask_of (last_writes b.last);
  start = start;
  count = length (loads_of b.ops);
}

-- ---- of all

-- ops and blocks by their numbers
pub record Kept : Type 0 where
  pub ops : List OpUses
  pub blocks : List BlockUses
  pub loads : List Load

-- of an op that is not known
abbrev pub alone : ℕ → OpUses
alone id = record { reads = 0; writes = 0; next = id; block = 0 }

abbrev pub op_at : Kept → ℕ → OpUses
op_at u id = get_or u.ops id (alone id)

abbrev pub block_at : Kept → ℕ → BlockUses
block_at u i = get_or u.blocks i no_block

-- the ops have numbers below this
abbrev pub AreWithin : ℕ → List Node → Type 0
AreWithin m [] = Unit {0}
AreWithin m (n ∷ ns) = (n.id < m) × AreWithin m ns

-- of each of the last ops of a block its own is kept, and the op behind it
abbrev pub AreLinked : List OpUses → ℕ → List Node → Type 0
AreLinked ops i [] = Unit {0}
AreLinked ops i (n ∷ ns) =
    (get_or ops n.id (alone n.id) ≡ uses_of n.op.kind (next_or n.id (first_id ns)) i) × AreLinked ops i ns

-- from a place on these targets stand, of a block
abbrev pub AreLoads : List Load → ℕ → ℕ → List Target → Type 0
AreLoads loads at i [] = Unit {0}
AreLoads loads at i (t ∷ ts) =
    (at < length loads)
    × ((d : Load) → get_or loads at d ≡ record { target = t; block = i })
    × AreLoads loads (at + 1) i ts

-- all of a block is kept
pub record IsKeptOf (u : Kept) (b : Block) : Type 0 where
  pub within : AreWithin (length u.ops) b.ops
  pub linked : AreLinked u.ops b.id b.ops
  pub start : ℕ
  pub end : block_at u b.id ≡ block_uses b start
  pub loads : AreLoads u.loads start b.id (loads_of b.ops)

-- what is kept under a block's number is that of the graph's block, or nothing where it has no block of this number
pub record IsAt (g : GraphView) (u : Kept) (i : ℕ) : Type 0 where
  pub kept : (b : Block) → Has g.blocks b → b.id ≡ i → IsKeptOf u b
  pub gone : ((b : Block) → Has g.blocks b → b.id ≡ i → ⊥) → block_at u i ≡ no_block

-- the uses of a graph
pub record IsUsesOf (g : GraphView) (u : Kept) : Type 0 where
  pub all : (i : ℕ) → IsAt g u i

-- the uses of a graph that is like this one but for the touched blocks
pub record IsNearly (g : GraphView) (u : Kept) : Type 0 where
  pub others : (i : ℕ) → ((q : Place) → Has g.touched q → number_of g q ≡ Some i → ⊥) → IsAt g u i

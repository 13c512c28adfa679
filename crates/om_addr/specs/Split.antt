-- Far loads of a graph made LDAH in order: what stays meanwhile, and what is left.
use Rattle.std.specs.Prelude.{◌≡◌, ◌<◌, ℕ, true, List, map, get_or, Some}
use Rattle.om_value.specs.declared.value.Place.{Place}
use Rattle.om_graph.specs.declared.op.Op.{Op}
use Rattle.om_graph.specs.View.{Node, Block, GraphView, Has, block_of, op_of}
use Rattle.om_graph.specs.Held.{node_ids}
use Rattle.om_graph.specs.Outs.{outs_of}
use Rattle.om_blocks.specs.Found.{masks_in}
use Rattle.om_uses.specs.Scans.{has_bit}
use Rattle.om_live.specs.Outs.{IsOut}
use Rattle.om_layout.specs.Layout.{LayoutView}
use Rattle.om_addr.specs.declared.loads.Load.{Load}
use Rattle.om_addr.specs.Done.{load_at}
use Rattle.om_addr.specs.FarEdit.{NoFarOf}

-- ---- what stays

-- a block by its id, its label, and the ids of its ops
pub record Home : Type 0 where
  pub id : ℕ
  pub label : Place
  pub ops : List ℕ

abbrev pub home_of : Block → Home
home_of b = record { id = b.id; label = b.label; ops = node_ids b.ops }

abbrev pub homes : List Block → List Home
homes bs = map home_of bs

-- by any masks of blocks the same registers may be read from the ends of blocks on, and ops stand in the blocks in which they stood
pub record KeepsEnds (old new : GraphView) : Type 0 where
  pub outs :
      (masks : List ℕ) (label : Place) (r : ℕ) →
      outs_of new (masks_in new masks) label r ≡ outs_of old (masks_in old masks) label r
  pub blocks : homes new.blocks ≡ homes old.blocks

-- the bits of a number are the registers that may be read from the end of the block of an id on, by masks of blocks
abbrev pub IsOutAt : GraphView → List ℕ → ℕ → ℕ → Type 0
IsOutAt g masks id out =
    (b : Block) → Has g.blocks b → b.id ≡ id → IsOut g (masks_in g masks) b.label out

-- ---- what is left

-- a load could not become LDAH, where these registers may be read from the end of its block on
pub record IsUnsplit (l : LayoutView) (out : ℕ) (g : GraphView) (load : Load) : Type 0 where
  pub small : load.ra < 31
  pub none : NoFarOf l g load (has_bit out load.ra)

-- the same of one that may be any load: one from its slot, into another register than r31
abbrev pub IsLoadSplit : LayoutView → ℕ → GraphView → Load → Type 0
IsLoadSplit l out g load = load.from_slot ≡ true → (load.ra ≡ 31 → ⊥) → IsUnsplit l out g load

-- of an op, if it is a load
abbrev pub IsOpSplit : LayoutView → ℕ → GraphView → ℕ → Type 0
IsOpSplit l out g id =
    (x : Op) (load : Load) → op_of g id ≡ Some x → load_at id x ≡ Some load → IsLoadSplit l out g load

-- of each op of a block
abbrev pub IsBlockSplit : LayoutView → ℕ → GraphView → ℕ → Type 0
IsBlockSplit l out g id =
    (b : Block) (n : Node) → block_of g id ≡ Some b → Has b.ops n → IsOpSplit l out g n.id

-- of each op, where these may be read from the ends of blocks on, by their numbers
abbrev pub IsAllSplit : LayoutView → List ℕ → GraphView → Type 0
IsAllSplit l outs g = (b : Block) → Has g.blocks b → IsBlockSplit l (get_or outs b.id 0) g b.id

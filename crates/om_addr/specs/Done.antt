-- What it is that nothing is left to do for a load.
use Rattle.std.specs.Prelude.{◌≡◌, ◌⊎◌, ℕ, true, false, Option, Some, None}
use Rattle.om_graph.specs.declared.op.Op.{Op}
use Rattle.om_graph.specs.declared.op.OpKind.{OpKind}
use Rattle.om_graph.specs.declared.op.OpKind.TheVariants as op
use Rattle.om_graph.specs.View.{Node, Block, GraphView, Has, block_of, op_of}
use Rattle.om_graph.specs.Fits.{LdaFits}
use Rattle.om_prog.specs.View.{ProgramView}
use Rattle.om_layout.specs.Layout.{LayoutView, gp_of, address_of}
use Rattle.om_addr.specs.declared.loads.Load.{Load}
use Rattle.om_addr.specs.Loads.{NoByteUseOf}
use Rattle.om_addr.specs.Near.{NoBaseUseOf}
use Rattle.om_addr.specs.Passing.{HasRegionsOf}

-- what is left of a load from the slot: no byte use, and it is not near
pub record IsLeft (l : LayoutView) (g : GraphView) (load : Load) : Type 0 where
  pub bytes : NoByteUseOf g load
  pub near :
      (load.ra ≡ 31 → ⊥) → (p : ProgramView) → HasRegionsOf p l →
      LdaFits p (gp_of l) (address_of l) load.obj load.target → ⊥

-- in a layout no use of it can do without it; of one from the slot nothing else is left either
pub record IsDone (l : LayoutView) (g : GraphView) (load : Load) : Type 0 where
  pub bases : NoBaseUseOf l g load
  pub slot : load.from_slot ≡ true → IsLeft l g load

abbrev pub load_in : ℕ → ℕ → OpKind → Option Load
load_in id obj (op.Lit ra rb t) =
    Some (record { id = id; obj = obj; ra = ra; rb = rb; target = t; from_slot = true })
load_in id obj (op.AddrLda ra rb t) =
    Some (record { id = id; obj = obj; ra = ra; rb = rb; target = t; from_slot = false })
load_in id obj _ = None

-- the load that an op is
abbrev pub load_at : ℕ → Op → Option Load
load_at id o = load_in id o.place.obj o.kind

-- the same of an op, if it is a load
abbrev pub IsOpDone : LayoutView → GraphView → ℕ → Type 0
IsOpDone l g id =
    (x : Op) (load : Load) → op_of g id ≡ Some x → load_at id x ≡ Some load → IsDone l g load

-- of each op of a block
abbrev pub IsBlockDone : LayoutView → GraphView → ℕ → Type 0
IsBlockDone l g id =
    (b : Block) (n : Node) → block_of g id ≡ Some b → Has b.ops n → IsOpDone l g n.id

-- of each op
abbrev pub IsAllDone : LayoutView → GraphView → Type 0
IsAllDone l g = (b : Block) → Has g.blocks b → IsBlockDone l g b.id

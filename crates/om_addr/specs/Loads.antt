-- Loads of addresses as ops of a graph, and what is left of their uses.
use Rattle.std.specs.Prelude.{◌≡◌, ℕ, ◌%◌, Bool, false, not, ◌&&◌, ◌==◌, if◌then◌else◌, Option, Some, None}
use Rattle.om_isa.specs.declared.instr.Instr.{Instr}
use Rattle.om_isa.specs.declared.instr.Instr.TheVariants.{Alu}
use Rattle.om_isa.specs.declared.instr.Opnd.TheVariants.{R}
use Rattle.om_value.specs.declared.value.Place.{Place}
use Rattle.om_value.specs.declared.value.Region.{Region}
use Rattle.om_value.specs.declared.value.Target.{Target}
use Rattle.om_value.specs.declared.value.Target.TheVariants as target
use Rattle.om_value.specs.Lift.{is_byte_operation}
use Rattle.om_prog.specs.Act.{Plain, Word}
use Rattle.om_graph.specs.declared.op.Op.{Op}
use Rattle.om_graph.specs.declared.op.OpKind.{OpKind}
use Rattle.om_graph.specs.declared.op.OpKind.TheVariants as op
use Rattle.om_graph.specs.View.{Node, Block, GraphView, Has, ops_of, op_of}
use Rattle.om_graph.specs.Run.{op_word, block_words}
use Rattle.om_graph.specs.Uses.{IsLocalUse, IsByteUse, with_literal}
use Rattle.om_addr.specs.declared.loads.Load.{Load}

-- what a load is as an op
abbrev pub load_kind : Load → OpKind
load_kind l =
    if l.from_slot then op.Lit l.ra l.rb l.target else op.AddrLda l.ra l.rb l.target

-- the op of its id is the load
pub record IsLoadOf (g : GraphView) (l : Load) : Type 0 where
  pub place : Place
  pub object : place.obj ≡ l.obj
  pub is : op_of g l.id ≡ Some (record { place = place; kind = load_kind l })

-- its word stands in a block
pub record IsLoadIn (g : GraphView) (l : Load) (b : Block) (w : Word) : Type 0 where
  pub among : Has g.blocks b
  pub node : Node
  pub inside : Has b.ops node
  pub is_id : node.id ≡ l.id
  pub word : w ≡ op_word (ops_of b) node.op

-- the offset of a pointer
abbrev pub off_of : Target → Option ℕ
off_of (target.Ptr r x) = Some x
off_of _ = None

-- a load of a pointer
pub record HasPointer (l : Load) : Type 0 where
  pub region : Region
  pub off : ℕ
  pub is : l.target ≡ target.Ptr region off

-- ---- byte uses

abbrev pub is_byte_use : ℕ → Instr → Bool
is_byte_use r (Alu o ra (R rb) rc) =
    is_byte_operation o && (rb == r) && not (ra == r) && not (r == 31)
is_byte_use r _ = false

-- with the number of a byte as a literal, where it is a byte use
abbrev pub byte_kind : ℕ → ℕ → OpKind → Option OpKind
byte_kind r byte (op.Plain i) =
    if is_byte_use r i then Some (op.Plain (with_literal byte i)) else None
byte_kind r byte _ = None

-- no byte use of a load of a pointer is left
pub record NoByteUseOf (g : GraphView) (l : Load) : Type 0 where
  pub uses :
      (b : Block) (w user : Word) (i : Instr) (region : Region) (x : ℕ) → IsLoadIn g l b w →
      l.target ≡ target.Ptr region x → IsLocalUse (block_words b) w user l.ra →
      user.act ≡ Plain i → IsByteUse l.ra i → ⊥

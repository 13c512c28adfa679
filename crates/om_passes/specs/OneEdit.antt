-- The edits of a graph, each with what it asks for.
use Rattle.std.specs.Prelude.{◌≡◌, ◌⊎◌, ◌<◌, ℕ, Bool, true, false, List, ◌∷◌, Some, None}
use Rattle.om_isa.specs.declared.instr.Instr.{Instr}
use Rattle.om_value.specs.declared.value.Place.{Place}
use Rattle.om_value.specs.declared.value.Region.{Region}
use Rattle.om_value.specs.declared.value.Target.TheVariants as target
use Rattle.om_value.specs.Same.{place_eq}
use Rattle.om_prog.specs.Act as act
use Rattle.om_prog.specs.Act.{Word, act_writes}
use Rattle.om_prog.specs.Flow.{Among}
use Rattle.om_prog.specs.View.{ProgramView}
use Rattle.om_graph.specs.declared.op.Op.{Op}
use Rattle.om_graph.specs.declared.op.OpKind.TheVariants as op
use Rattle.om_graph.specs.View.{Node, Block, GraphView, Has, ops_of, node_in, block_with}
use Rattle.om_graph.specs.Run.{high_target, op_word, block_words, rev_onto}
use Rattle.om_graph.specs.Form.{is_address}
use Rattle.om_graph.specs.Checks.{live_in}
use Rattle.om_graph.specs.Kept.{KeptInBlocks}
use Rattle.om_graph.specs.Index.{BranchesInReach}
use Rattle.om_graph.specs.Uses.{IsLocalUse, IsByteUse}
use Rattle.om_graph.specs.OfProgram.{IsFollowed, IsGraphOf}

-- what passes keep
pub record MayGoOn (p : ProgramView) (g : GraphView) : Type 0 where
  -- it is of the program
  pub graph : IsGraphOf p g
  -- the kept set lies within its blocks
  pub kept : KeptInBlocks g
  -- each branch reaches its place
  pub reach : BranchesInReach g

-- an op stands under an id in a block
pub record IsOp (g : GraphView) (id : ℕ) (b : Block) (x : Node) : Type 0 where
  pub block : block_with g id ≡ Some b
  pub node : node_in id b ≡ Some x

abbrev pub word_of : Block → Node → Word
word_of b x = op_word (ops_of b) x.op

-- no word of the block reads what a word of it wrote
abbrev pub IsUnused : Block → Word → Type 0
IsUnused b w = (y : Word) (r : ℕ) → IsLocalUse (block_words b) w y r → ⊥

-- no use of a high half names a place where one is given
abbrev pub NamesNoHalf : Block → Node → Type 0
NamesNoHalf b x =
    (high_target (x.op).kind ≡ None)
    ⊎ ((y : Op) (i : Instr) (hi : Place) → Has (ops_of b) y → y.kind ≡ op.UseLo i hi →
    place_eq (x.op).place hi ≡ false)

-- no byte use of a load is left as it stands
abbrev pub HasNoByteUse : Block → Word → Type 0
HasNoByteUse b w =
    (y : Word) (r : ℕ) (i : Instr) → IsLocalUse (block_words b) w y r → y.act ≡ act.Plain i →
    IsByteUse r i → ⊥

-- a word loads the address of a pointer, from its slot or as a sum
abbrev pub LoadsPointer : Word → ℕ → ℕ → Region → ℕ → Type 0
LoadsPointer load r rb region n =
    (load.act ≡ act.Lit r rb (target.Ptr region n))
    ⊎ (load.act ≡ act.AddrLda r rb (target.Ptr region n))

-- an address word, not the last of its text, that writes nothing that may be read behind it: bf
-- stand before it in its block, the last one first, and ws behind it
pub record IsDead (p : ProgramView) (g : GraphView) (outs : Place → ℕ →
    Bool) (id : ℕ) (b : Block) (x : Node) (bf ws : List Word) : Type 0 where
  -- it stands under the id, and may go: another word of its text follows
  pub op : IsOp g id b x
  pub address : is_address (word_of b x).act ≡ true
  pub followed : IsFollowed p (x.op).place
  pub unnamed : NamesNoHalf b x
  pub stands : rev_onto bf (word_of b x ∷ ws) ≡ block_words b
  -- what it writes is r31, or dead behind it: outs may be read from the block's end on
  pub dead :
      (r : ℕ) → Among (act_writes (word_of b x).act) r →
      (r ≡ 31) ⊎ ((r < 31) × (live_in ws (outs b.label) r ≡ false))

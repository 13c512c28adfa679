-- Ops of one block replaced one by one, as where a load becomes LDAH with all of its uses.
use Rattle.std.specs.Prelude.{◌≡◌, ◌==◌, ℕ, if◌then◌else◌, List, [], ◌∷◌}
use Rattle.om_graph.specs.declared.op.OpKind.{OpKind}
use Rattle.om_graph.specs.View.{Node, Block, GraphView, Has, replaced}
use Rattle.om_graph.specs.Held.{IsGraph, node_ids}
use Rattle.om_graph.specs.Rewritten.{SameFrame}
use Rattle.om_passes.specs.Blocks.{OneBlock}
use Rattle.om_passes.specs.Far.{FarLoad, far_op, IsMadeFar}

-- the op of an id gets another kind
pub record OpEdit : Type 0 where
  pub id : ℕ
  pub kind : OpKind

-- each in turn
abbrev pub all_replaced : GraphView → List OpEdit → GraphView
all_replaced g [] = g
all_replaced g (e ∷ es) = all_replaced (replaced g e.id e.kind) es

-- the kind that the op of an id has behind them
abbrev pub kind_behind : ℕ → OpKind → List OpEdit → OpKind
kind_behind id kind [] = kind
kind_behind id kind (e ∷ es) = kind_behind id (if id == e.id then e.kind else kind) es

-- the ops stand in a block
abbrev pub AreOf : Block → List OpEdit → Type 0
AreOf b [] = Unit {0}
AreOf b (e ∷ es) = Has (node_ids b.ops) e.id × AreOf b es

pub record ReplacesInARow : Type 0 where
  -- a graph stays one, with its objects, roots, tables and labels
  pub graph : (g : GraphView) (es : List OpEdit) → IsGraph g → IsGraph (all_replaced g es)
  pub frame : (g : GraphView) (es : List OpEdit) → SameFrame g (all_replaced g es)
  pub labels : (g : GraphView) (es : List OpEdit) → (all_replaced g es).labels ≡ g.labels
  -- where a load gets the kind that gives its high half, each of its uses that of one, and no other op
  -- another kind, the load is made far, in one block
  pub far :
      (g : GraphView) (l : FarLoad) (b : Block) (es : List OpEdit) → IsGraph g → Has g.blocks b →
      AreOf b es → ((x : Node) → Has b.ops x → kind_behind x.id x.op.kind es ≡ (far_op l x.op).kind) →
      (n : Block) × OneBlock g.blocks (all_replaced g es).blocks b n × IsMadeFar l b n × (n.id ≡ b.id)

-- The ops behind one in its block, of which each becomes what is said of its kind: up to one that ends the walk.
use Rattle.std.specs.Prelude.{◌≡◌, ℕ, Bool, false, not, ◌&&◌, ◌||◌, is_some, if◌then◌else◌, List, [], ◌∷◌, ◌++◌, Option, Some, None}
use Rattle.om_value.specs.declared.value.Place.{Place}
use Rattle.om_value.specs.Same.{place_eq}
use Rattle.om_graph.specs.declared.op.OpKind.{OpKind}
use Rattle.om_graph.specs.View.{Node, Block, GraphView, Has}
use Rattle.om_passes.specs.Replaces.{OpEdit, all_replaced}

abbrev pub edit_if : ℕ → Option OpKind → List OpEdit → List OpEdit
edit_if id None es = es
edit_if id (Some k) es = record { id = id; kind = k } ∷ es

-- what a kind becomes, if it becomes another, and whether the walk ends behind it
module _ (f : OpKind → Option OpKind) (ends : OpKind → Bool) where
  abbrev pub edits_of : List Node → List OpEdit
  edits_of [] = []
  edits_of (n ∷ ns) = edit_if n.id (f n.op.kind) (if ends n.op.kind then [] else edits_of ns)

  -- an op at the place is one that becomes another
  abbrev pub is_set_at : List Node → Place → Bool
  is_set_at [] q = false
  is_set_at (n ∷ ns) q =
      (is_some (f n.op.kind) && place_eq n.op.place q) || (not (ends n.op.kind) && is_set_at ns q)

  -- behind the op of an id they became that, and nothing else changed
  pub record AreSetBehind (old new : GraphView) (id : ℕ) : Type 0 where
    pub block : Block
    pub among : Has old.blocks block
    pub before : List Node
    pub node : Node
    pub behind : List Node
    pub stands : block.ops ≡ before ++ node ∷ behind
    pub is_id : node.id ≡ id
    pub set : new ≡ all_replaced old (edits_of behind)

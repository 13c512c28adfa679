-- A graph as contracts see it, and its edits. A basic block is a run of words that control enters at its first word
-- and leaves behind its last.
use Rattle.std.specs.Prelude.{◌≡◌, ◌⊎◌, ℕ, zero, suc, ◌+◌, Bool, true, not, ◌==◌, nat_lt, is_some, if◌then◌else◌, List, [], ◌∷◌, ◌++◌, map, filter, find, length, Option, Some, None, option_map, option_and_then, slice_set}
use Rattle.om_value.specs.declared.value.Place.{Place}
use Rattle.om_value.specs.Same.{place_eq}
use Rattle.om_graph.specs.declared.op.Op.{Op}
use Rattle.om_graph.specs.declared.op.OpKind.{OpKind}
use Rattle.om_graph.specs.declared.op.Last.{Last}
use Rattle.om_graph.specs.declared.op.Last.TheVariants.{Off}

-- an op under the id by which edits name it
pub record Node : Type 0 where
  pub id : ℕ
  pub op : Op

-- a block under its id
pub record Block : Type 0 where
  pub id : ℕ
  -- the place of its first word when the graph was made
  pub label : Place
  -- an opening pair of the program begins here
  pub opening : Bool
  pub ops : List Node
  pub last : Last

pub record GraphView : Type 0 where
  -- the number of words of each object
  pub counts : List ℕ
  -- the entry, then the places that initial fields name
  pub roots : List Place
  -- the table of each object
  pub tables : List ℕ
  -- the labels of all blocks that the graph was made with, in order; no edit changes them
  pub labels : List Place
  -- the kept blocks, in order of object and offset
  pub blocks : List Block
  -- the labels of the touched blocks, dropped ones among them, in order
  pub touched : List Place

-- a block without ids: what a graph means is said of these
pub record Shape : Type 0 where
  pub label : Place
  pub opening : Bool
  pub ops : List Op
  pub last : Last

abbrev pub ops_of : Block → List Op
ops_of b = map (λ n. n.op) b.ops

abbrev pub shape_of : Block → Shape
shape_of b = record { label = b.label; opening = b.opening; ops = ops_of b; last = b.last }

-- membership
abbrev pub Has : {A : Type 0} → List A → A → Type 0
Has [] x = ⊥
Has (y ∷ ys) x = (y ≡ x) ⊎ Has ys x

-- ---- order

-- by object, then by offset
abbrev pub place_lt : Place → Place → Bool
place_lt p q = if p.obj == q.obj then nat_lt p.off q.off else nat_lt p.obj q.obj

abbrev pub InPlaceOrder : List Place → Type 0
InPlaceOrder [] = Unit {0}
InPlaceOrder (p ∷ ps) = ((q : Place) → Has ps q → place_lt p q ≡ true) × InPlaceOrder ps

-- one more label, in order, once
abbrev pub touch : Place → List Place → List Place
touch p [] = p ∷ []
touch p (q ∷ qs) = if place_eq p q then q ∷ qs else if place_lt p q then p ∷ q ∷ qs else q ∷ touch p qs

-- ---- what stands under an id

abbrev pub is_block : ℕ → Block → Bool
is_block id b = b.id == id

abbrev pub is_node : ℕ → Node → Bool
is_node id n = n.id == id

abbrev pub node_in : ℕ → Block → Option Node
node_in id b = find (is_node id) b.ops

abbrev pub holds_node : ℕ → Block → Bool
holds_node id b = is_some (node_in id b)

module _ (g : GraphView) where
  abbrev pub block_of : ℕ → Option Block
  block_of id = find (is_block id) g.blocks

  -- the block in which an op stands
  abbrev pub block_with : ℕ → Option Block
  block_with id = find (holds_node id) g.blocks

  abbrev pub node_of : ℕ → Option Node
  node_of id = option_and_then (node_in id) (block_with id)

  -- a kept block, or an op of one, stands under the id
  abbrev pub is_live_block : ℕ → Bool
  is_live_block id = is_some (block_of id)

  abbrev pub is_live_op : ℕ → Bool
  is_live_op id = is_some (block_with id)

-- ---- reading

abbrev pub first_id : List Node → Option ℕ
first_id [] = None
first_id (n ∷ ns) = Some n.id

-- the id right behind an id
abbrev pub id_after : ℕ → List Node → Option ℕ
id_after id [] = None
id_after id (n ∷ ns) = if n.id == id then first_id ns else id_after id ns

abbrev pub first_block_id : List Block → Option ℕ
first_block_id [] = None
first_block_id (b ∷ bs) = Some b.id

abbrev pub block_id_after : ℕ → List Block → Option ℕ
block_id_after id [] = None
block_id_after id (b ∷ bs) = if b.id == id then first_block_id bs else block_id_after id bs

abbrev pub has_label : Place → Block → Bool
has_label label b = place_eq b.label label

module _ (g : GraphView) where
  -- the kept block of a label
  abbrev pub labelled : Place → Option ℕ
  labelled label = option_map (λ b. b.id) (find (has_label label) g.blocks)

  abbrev pub label_of : ℕ → Option Place
  label_of id = option_map (λ b. b.label) (block_of g id)

  abbrev pub opening_of : ℕ → Option Bool
  opening_of id = option_map (λ b. b.opening) (block_of g id)

  abbrev pub last_of : ℕ → Option Last
  last_of id = option_map (λ b. b.last) (block_of g id)

  abbrev pub op_of : ℕ → Option Op
  op_of id = option_map (λ n. n.op) (node_of g id)

  abbrev pub first_op_of : ℕ → Option ℕ
  first_op_of id = option_and_then (λ b. first_id b.ops) (block_of g id)

  abbrev pub next_op_of : ℕ → Option ℕ
  next_op_of id = option_and_then (λ b. id_after id b.ops) (block_with g id)

-- the first touched label, and the first behind a place
abbrev pub next_touched_of : List Place → Option Place → Option Place
next_touched_of touched None = find (λ q. true) touched
next_touched_of touched (Some p) = find (place_lt p) touched

-- ---- making a graph

abbrev pub numbers_from : ℕ → ℕ → List ℕ
numbers_from k zero = []
numbers_from k (suc n) = k ∷ numbers_from (k + 1) n

-- a graph without blocks, in which object i has table i
abbrev pub made : List ℕ → List Place → GraphView
made counts roots = record {
  counts = counts;
  roots = roots;
  tables = numbers_from 0 (length counts);
  labels = [];
  blocks = [];
  touched = [];
}

abbrev pub new_block : ℕ → Place → Bool → Block
new_block id label opening = record { id = id; label = label; opening = opening; ops = []; last = Off }

-- a block behind all others; it is not touched
abbrev pub block_added : GraphView → ℕ → Place → Bool → GraphView
block_added g id label opening =
    record g { labels = g.labels ++ label ∷ []; blocks = g.blocks ++ new_block id label opening ∷ [] }

abbrev pub op_added_in : ℕ → Node → Block → Block
op_added_in id node b = if b.id == id then record b { ops = b.ops ++ node ∷ [] } else b

-- an op as its block's last; the block is not touched by it
abbrev pub op_added : GraphView → ℕ → Node → GraphView
op_added g id node = record g { blocks = map (op_added_in id node) g.blocks }

-- a label stands after all labels so far
abbrev pub IsAfter : List Place → Place → Type 0
IsAfter labels label = (q : Place) → Has labels q → place_lt q label ≡ true

-- ---- edits

abbrev pub touch_block : Option Block → List Place → List Place
touch_block None ps = ps
touch_block (Some b) ps = touch b.label ps

abbrev pub kind_set : ℕ → OpKind → Node → Node
kind_set id kind n = if n.id == id then record n { op = record (n.op) { kind = kind } } else n

abbrev pub replace_in : ℕ → OpKind → Block → Block
replace_in id kind b = record b { ops = map (kind_set id kind) b.ops }

abbrev pub delete_in : ℕ → Block → Block
delete_in id b = record b { ops = filter (λ n. not (is_node id n)) b.ops }

abbrev pub last_in : ℕ → Last → Block → Block
last_in id last b = if b.id == id then record b { last = last } else b

-- another kind in an op
abbrev pub replaced : GraphView → ℕ → OpKind → GraphView
replaced g id kind =
    record g { blocks = map (replace_in id kind) g.blocks; touched = touch_block (block_with g id) g.touched }

-- an op gone
abbrev pub deleted : GraphView → ℕ → GraphView
deleted g id = record g { blocks = map (delete_in id) g.blocks; touched = touch_block (block_with g id) g.touched }

-- another end of a block
abbrev pub last_set : GraphView → ℕ → Last → GraphView
last_set g id last =
    record g { blocks = map (last_in id last) g.blocks; touched = touch_block (block_of g id) g.touched }

-- a block gone; its label stays among the labels
abbrev pub dropped : GraphView → ℕ → GraphView
dropped g id =
    record g {
      blocks = filter (λ b. not (is_block id b)) g.blocks;
      touched = touch_block (block_of g id) g.touched;
    }

-- another table of an object
abbrev pub table_set : GraphView → ℕ → ℕ → GraphView
table_set g obj table = record g { tables = slice_set g.tables obj table }

-- no marks
abbrev pub cleared : GraphView → GraphView
cleared g = record g { touched = [] }

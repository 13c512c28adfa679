-- Ops of one block replaced one by one.
use Rattle.std.proofs.Common.{◌≡◌, inl, inr, ℕ, Bool, true, false, cond, ◌==◌, List, [], ◌∷◌, ◌++◌, Some, refl, sym, ap, ◌∙◌, subst}
use Rattle.std.specs.Prelude.{map, find, is_some}
use Rattle.std.proofs.lemmas.Bool.{eq-eqb}
use Rattle.om_value.specs.declared.value.Place.{Place}
use Rattle.om_graph.specs.declared.op.Op.{Op}
use Rattle.om_graph.specs.declared.op.OpKind.{OpKind}
use Rattle.om_graph.specs.declared.op.Last.{Last}
use Rattle.om_graph.specs.View.{Node, Block, GraphView, Has, ops_of, is_node, holds_node, kind_set, replace_in, replaced}
use Rattle.om_graph.specs.Held.{IsGraph, node_ids}
use Rattle.om_graph.specs.Rewritten.{SameFrame}
use Rattle.om_graph.proofs.HeldEdits.{replaced_held}
use Rattle.om_passes.specs.Blocks.{OneBlock}
use Rattle.om_passes.specs.Far.{FarLoad, far_op, IsMadeFar}
use Rattle.om_passes.specs.Replaces.{OpEdit, all_replaced, kind_behind, AreOf}
use Rattle.om_passes.proofs.OneBlock.{replaced_then}
use Rattle.om_passes.proofs.FarEdits.{IsFarOp, half_op, use_op, same_op, is_far_op}

-- ---- the frame

pub graph_behind : (g : GraphView) (es : List OpEdit) → IsGraph g → IsGraph (all_replaced g es)
graph_behind g [] h = h
graph_behind g (e ∷ es) h = graph_behind (replaced g e.id e.kind) es (replaced_held g e.id e.kind h)

pub frame_behind : (g : GraphView) (es : List OpEdit) → SameFrame g (all_replaced g es)
frame_behind g [] = record { counts = refl; roots = refl; tables = refl }
frame_behind g (e ∷ es) = let f = frame_behind (replaced g e.id e.kind) es in record { counts = f.counts; roots = f.roots; tables = f.tables }

pub labels_behind : (g : GraphView) (es : List OpEdit) → (all_replaced g es).labels ≡ g.labels
labels_behind g [] = refl
labels_behind g (e ∷ es) = labels_behind (replaced g e.id e.kind) es

-- ---- the block

abbrev all_in : Block → List OpEdit → Block
all_in b [] = b
all_in b (e ∷ es) = all_in (replace_in e.id e.kind b) es

holds : (id : ℕ) (ns : List Node) → Has (node_ids ns) id → is_some (find (is_node id) ns) ≡ true
holds id [] h = absurd h
holds id (n ∷ ns) (inl e) = ap (λ (t : Bool). is_some (cond t (Some n) (find (is_node id) ns))) (eq-eqb n.id id e)
holds id (n ∷ ns) (inr h) = by_test (n.id == id) (holds id ns h)
  where
    by_test : (t : Bool) → is_some (find (is_node id) ns) ≡ true → is_some (cond t (Some n) (find (is_node id) ns)) ≡ true
    by_test true i = refl
    by_test false i = i

one_behind :
    (g : GraphView) → IsGraph g → (h : GraphView) (b n : Block) (es : List OpEdit) → AreOf b es → OneBlock g.blocks h.blocks b n → OneBlock g.blocks (all_replaced h es).blocks b (all_in n es)
one_behind g graph h b n [] of o = o
one_behind g graph h b n (e ∷ es) of o =
    one_behind g graph (replaced h e.id e.kind) b (replace_in e.id e.kind n) es of.1 (replaced_then g graph h.blocks b n e.id e.kind (holds e.id b.ops of.0) o)

-- where nothing is done
same_one : (bs : List Block) (b : Block) → Has bs b → OneBlock bs bs b b
same_one [] b h = absurd h
same_one (c ∷ bs) b (inl e) = record { before = []; after = bs; was = ap (λ (x : Block). x ∷ bs) e; now = ap (λ (x : Block). x ∷ bs) e }
same_one (c ∷ bs) b (inr h) =
    let o = same_one bs b h in
    record { before = c ∷ o.before; after = o.after; was = ap (λ (l : List Block). c ∷ l) o.was; now = ap (λ (l : List Block). c ∷ l) o.now }

label_in : (b : Block) (es : List OpEdit) → (all_in b es).label ≡ b.label
label_in b [] = refl
label_in b (e ∷ es) = label_in (replace_in e.id e.kind b) es

opening_in : (b : Block) (es : List OpEdit) → (all_in b es).opening ≡ b.opening
opening_in b [] = refl
opening_in b (e ∷ es) = opening_in (replace_in e.id e.kind b) es

last_in : (b : Block) (es : List OpEdit) → (all_in b es).last ≡ b.last
last_in b [] = refl
last_in b (e ∷ es) = last_in (replace_in e.id e.kind b) es

id_in : (b : Block) (es : List OpEdit) → (all_in b es).id ≡ b.id
id_in b [] = refl
id_in b (e ∷ es) = id_in (replace_in e.id e.kind b) es

-- a node behind them
abbrev node_behind : List OpEdit → Node → Node
node_behind es n = record n { op = record (n.op) { kind = kind_behind n.id n.op.kind es } }

node_more : (e : OpEdit) (es : List OpEdit) (n : Node) → node_behind es (kind_set e.id e.kind n) ≡ node_behind (e ∷ es) n
node_more e es n = by_test (n.id == e.id)
  where
    by_test :
        (t : Bool) → node_behind es (cond t (record n { op = record (n.op) { kind = e.kind } }) n)
        ≡ record n { op = record (n.op) { kind = kind_behind n.id (cond t e.kind n.op.kind) es } }
    by_test true = refl
    by_test false = refl

nodes_more : (e : OpEdit) (es : List OpEdit) (ns : List Node) → map (node_behind es) (map (kind_set e.id e.kind) ns) ≡ map (node_behind (e ∷ es)) ns
nodes_more e es [] = refl
nodes_more e es (n ∷ ns) = ap (λ (x : Node). x ∷ map (node_behind es) (map (kind_set e.id e.kind) ns)) (node_more e es n) ∙ ap (λ (l : List Node). node_behind (e ∷ es) n ∷ l) (nodes_more e es ns)

nodes_none : (ns : List Node) → map (node_behind []) ns ≡ ns
nodes_none [] = refl
nodes_none (n ∷ ns) = ap (λ (l : List Node). n ∷ l) (nodes_none ns)

ops_in : (b : Block) (es : List OpEdit) → (all_in b es).ops ≡ map (node_behind es) b.ops
ops_in b [] = sym (nodes_none b.ops)
ops_in b (e ∷ es) = ops_in (replace_in e.id e.kind b) es ∙ nodes_more e es b.ops

far_place : (l : FarLoad) (o : Op) → (far_op l o).place ≡ o.place
far_place l o = by_case (is_far_op l o)
  where
    by_case : IsFarOp l o (far_op l o) → (far_op l o).place ≡ o.place
    by_case (half_op k f) = ap (λ (x : Op). x.place) f
    by_case (use_op k v f) = ap (λ (x : Op). x.place) f
    by_case (same_op k v f) = ap (λ (x : Op). x.place) f

far_nodes : (l : FarLoad) (es : List OpEdit) (ns : List Node) → ((n : Node) → Has ns n → kind_behind n.id n.op.kind es ≡ (far_op l n.op).kind) → map (λ n. n.op) (map (node_behind es) ns) ≡ map (far_op l) (map (λ n. n.op) ns)
far_nodes l es [] h = refl
far_nodes l es (n ∷ ns) h =
    let kind = h n (inl refl) in
    let same : (node_behind es n).op ≡ far_op l n.op = ap (λ (k : OpKind). record { place = n.op.place; kind = k }) kind ∙ ap (λ (q : Place). record { place = q; kind = (far_op l n.op).kind }) (sym (far_place l n.op)) in
    ap (λ (x : Op). x ∷ map (λ n. n.op) (map (node_behind es) ns)) same ∙ ap (λ (z : List Op). far_op l n.op ∷ z) (far_nodes l es ns (λ x m. h x (inr m)))

pub far_behind :
    (g : GraphView) (l : FarLoad) (b : Block) (es : List OpEdit) → IsGraph g → Has g.blocks b → AreOf b es → ((x : Node) → Has b.ops x → kind_behind x.id x.op.kind es ≡ (far_op l x.op).kind) →
    (n : Block) × OneBlock g.blocks (all_replaced g es).blocks b n × IsMadeFar l b n × (n.id ≡ b.id)
far_behind g l b es graph here of kinds = (
  all_in b es,
  one_behind g graph g b b es of (same_one g.blocks b here),
  record {
    label = label_in b es;
    opening = opening_in b es;
    last = last_in b es;
    ops = ap (map (λ (n : Node). n.op)) (ops_in b es) ∙ far_nodes l es b.ops kinds;
  },
  id_in b es,
)

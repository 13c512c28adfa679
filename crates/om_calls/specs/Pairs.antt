-- Closed pairs of r29 among the ops of a block, and a walk that finds those that set what r29 holds.
use Rattle.std.specs.Prelude.{◌≡◌, ◌⊎◌, ℕ, ◌+◌, ◌%◌, ◌^◌, ◌<◌, ◌≤◌, Bool, true, false, ◌||◌, ◌==◌, if◌then◌else◌, List, [], ◌∷◌, ◌++◌, length, get_or, Option, Some, None, IfSome, IsTrue}
use Rattle.om_value.specs.declared.value.Place.{Place}
use Rattle.om_prog.specs.Act.{Script}
use Rattle.om_prog.specs.View.{ProgramView}
use Rattle.om_prog.specs.Facts.{has, fact_behind, IsFact}
use Rattle.om_flow.specs.declared.parts.Fact.{Fact}
use Rattle.om_flow.specs.declared.parts.Fact.TheVariants as found
use Rattle.om_graph.specs.declared.op.Op.{Op}
use Rattle.om_graph.specs.declared.op.OpKind.{OpKind}
use Rattle.om_graph.specs.declared.op.OpKind.TheVariants as op
use Rattle.om_graph.specs.View.{Node, Block, GraphView, Has, ops_of, block_of, first_id, is_live_op}
use Rattle.om_graph.specs.Run.{rev_onto, table_of, graph_script}
use Rattle.om_graph.specs.Held.{block_ids}
use Rattle.om_graph.specs.Form.{text_size}
use Rattle.om_graph.specs.Checks.{GpChecked}
use Rattle.om_graph.specs.Uses.{NoneReads, NoneWrites, IsTextsLast}
use Rattle.om_blocks.specs.Effects.{kind_reads, kind_writes}
use Rattle.om_blocks.specs.Found.{seen, facts_in}
use Rattle.om_gpfacts.specs.Inside.{IsBehindOp}
use Rattle.om_checks.specs.Steps.{node_words}
use Rattle.om_passes.specs.Passed.{IsStep, IsOfAProgram}
use Rattle.om_uses.specs.Parts.{Kept, IsNearly}
use Rattle.om_calls.specs.declared.pairs.High.{High}
use Rattle.om_calls.specs.declared.pairs.Walk.{Walk}

-- ---- ops

abbrev pub is_high_half : OpKind → Bool
is_high_half (op.GpHi ra rb base) = ra == 29
is_high_half _ = false

-- the place of the high half, of a low half that reads and writes r29
abbrev pub low_half : OpKind → Option Place
low_half (op.GpLo ra rb hi) = if ra == 29 then (if rb == 29 then Some hi else None) else None
low_half _ = None

-- an op reads or writes r29
abbrev pub touches_gp : OpKind → Bool
touches_gp k = has (kind_reads k) 29 || has (kind_writes k) 29

-- ---- pairs

-- of some ops of a block one is the high half of a pair of r29, and no later one reads or writes r29
pub record Waits (b : Block) (done before : List Node) (high : Node) (mid : List Node) : Type 0 where
  pub split : done ≡ before ++ high ∷ mid
  pub rb : ℕ
  pub base : Place
  pub is_high : high.op.kind ≡ op.GpHi 29 rb base
  pub unread : NoneReads 29 (node_words (ops_of b) mid)
  pub unwritten : NoneWrites 29 (node_words (ops_of b) mid)

-- two of some ops of a block are a closed pair
pub record PairAt (g : GraphView) (b : Block) (done before : List Node) (high : Node) (mid : List Node) (low : Node) (rest : List Node) : Type 0 where
  pub waits : Waits b (before ++ high ∷ mid) before high mid
  pub split : done ≡ (before ++ high ∷ mid) ++ low ∷ rest
  pub is_low : low.op.kind ≡ op.GpLo 29 29 high.op.place
  pub high_stays : IsTextsLast g high.op.place → ⊥
  pub low_stays : IsTextsLast g low.op.place → ⊥

-- a script with the tables of a graph
abbrev pub HasTables : Script → GraphView → Type 0
HasTables c g = (o : ℕ) → c.table o ≡ table_of g o

-- the fact found behind ops of a block
pub record FoundBehind (g : GraphView) (b : Block) (start : Fact) (done : List Node) (now : Fact) : Type 0 where
  pub is : (c : Script) → HasTables c g → fact_behind c (seen start) (rev_onto (node_words (ops_of b) done) []) ≡ seen now

-- none of the closed pairs of some ops of a block sets what r29 holds in front of it
pub record NoneSetsSame (g : GraphView) (b : Block) (start : Fact) (done : List Node) : Type 0 where
  pub none :
      (c : Script) (before mid rest : List Node) (high low : Node) → HasTables c g → PairAt g b done before high mid low rest →
      IsFact (fact_behind c (seen start) (rev_onto (node_words (ops_of b) before) [])) (table_of g high.op.place.obj) → ⊥

-- ops that are a closed pair which sets what r29 holds in front of it
pub record DropsPair (g : GraphView) (facts : List Fact) (high low : ℕ) : Type 0 where
  pub block : Block
  pub among : Has g.blocks block
  pub before : List Node
  pub high_node : Node
  pub mid : List Node
  pub low_node : Node
  pub rest : List Node
  pub high_is : high_node.id ≡ high
  pub low_is : low_node.id ≡ low
  pub pair : PairAt g block block.ops before high_node mid low_node rest
  pub fact :
      (p : ProgramView) →
      IsFact (fact_behind (graph_script p g) (facts_in g facts block.label) (rev_onto (node_words (ops_of block) before) []))
      (table_of g high_node.op.place.obj)

-- ---- the walk

-- the high half that waits behind an op
abbrev pub high_then : Walk → ℕ → Op → Option High
high_then w o x =
    if is_high_half x.kind then Some (record { op = o; place = x.place; before = w.fact })
    else if touches_gp x.kind then None else w.high

-- a walk goes past an op
pub record WalksPast (w : Walk) (o : ℕ) (x : Op) (n : Walk) : Type 0 where
  pub block : n.block ≡ w.block
  pub start : n.start ≡ w.start
  pub table : n.table ≡ w.table
  pub changed : n.changed ≡ w.changed
  pub fact : IsBehindOp x.kind w.table w.start w.fact n.fact
  pub high : n.high ≡ high_then w o x

-- an op is the low half of the pair whose high half waits, and the pair is closed and sets what r29 holds in front of it
pub record Closes (g : GraphView) (w : Walk) (x : Op) (h : High) : Type 0 where
  pub waits : w.high ≡ Some h
  pub low : low_half x.kind ≡ Some h.place
  pub fact : IsFact (seen h.before) w.table
  pub high_stays : IsTextsLast g h.place → ⊥
  pub low_stays : IsTextsLast g x.place → ⊥

-- the place of a word of a text
pub record IsInText (g : GraphView) (q : Place) : Type 0 where
  pub object : q.obj < length g.counts
  pub small : text_size g q.obj < 2 ^ 32
  pub aligned : q.off % 4 ≡ 0
  pub inside : q.off + 4 ≤ text_size g q.obj

-- what a walk knows of an op that is a high half
pub record IsHigh (g : GraphView) (b : Block) (start : Fact) (before : List Node) (n : Node) (h : High) : Type 0 where
  pub id : n.id ≡ h.op
  pub place : n.op.place ≡ h.place
  pub fact : FoundBehind g b start before h.before

-- a walk that has come past some ops of a block
pub record IsWalked (g : GraphView) (b : Block) (done : List Node) (w : Walk) : Type 0 where
  pub table : w.table ≡ table_of g b.label.obj
  pub fact : FoundBehind g b w.start done w.fact
  pub high :
      (h : High) → w.high ≡ Some h →
      (before mid : List Node) × (n : Node) × Waits b done before n mid × IsHigh g b w.start before n h
  -- a half that waits is the one that the walk knows, as long as no pair was dropped
  pub only :
      w.changed ≡ false → (before mid : List Node) (n : Node) → Waits b done before n mid →
      (h : High) × (w.high ≡ Some h) × IsHigh g b w.start before n h

-- a walk over the ops of a block of a graph of a program has come to one, and dropped each pair before it that sets what
-- r29 holds
pub record OnPairs (g : GraphView) (facts : List Fact) (w : Walk) (next : Option ℕ) : Type 0 where
  pub program : IsOfAProgram g
  pub checked : (p : ProgramView) → GpChecked (graph_script p g) (facts_in g facts) g
  pub block : Block
  pub is : block_of g w.block ≡ Some block
  pub start : w.start ≡ get_or facts w.block found.Unknown
  pub done : List Node
  pub left : List Node
  pub all : block.ops ≡ done ++ left
  pub at : next ≡ first_id left
  pub live : IfSome next (λ o. IsTrue (is_live_op g o))
  pub walked : IsWalked g block done w
  pub none : w.changed ≡ false → NoneSetsSame g block w.start done

-- how many ops of a block are left from an id on
abbrev pub ops_from : Option ℕ → List Node → List Node
ops_from None ns = []
ops_from (Some id) [] = []
ops_from (Some id) (n ∷ ns) = if n.id == id then n ∷ ns else ops_from (Some id) ns

abbrev pub ops_in : Option Block → List Node
ops_in None = []
ops_in (Some b) = b.ops

abbrev pub ops_left : GraphView → ℕ → Option ℕ → ℕ
ops_left g id next = length (ops_from next (ops_in (block_of g id)))

-- in the block of an id none of the closed pairs sets what r29 holds in front of it
abbrev pub NoneSetsSameIn : GraphView → List Fact → ℕ → Type 0
NoneSetsSameIn g facts id = (b : Block) → block_of g id ≡ Some b → NoneSetsSame g b (get_or facts id found.Unknown) b.ops

-- ---- what becomes of a graph

-- a step that leaves the ids of all blocks, and facts that passed the check pass it still
pub record IsPairStep (old new : GraphView) : Type 0 where
  pub step : IsStep old new
  pub ids : block_ids new.blocks ≡ block_ids old.blocks
  pub near : (k : Kept) → IsNearly old k → IsNearly new k

-- the graph is as it was, or a pair was dropped
abbrev pub Moves : GraphView → GraphView → Walk → Walk → Type 0
Moves old new w n = ((new ≡ old) × (n.changed ≡ w.changed)) ⊎ (IsPairStep old new × (n.changed ≡ true))

-- What an edit of a graph is to a check: blocks that are changed one by one, or one that is gone;
-- and what is asked of it so that masks and facts that passed the check pass it again.
use Rattle.std.specs.Prelude.{◌≡◌, ◌⊎◌, ◌<◌, ℕ, Bool, true, false, List, [], ◌∷◌, ◌++◌, map}
use Rattle.om_value.specs.declared.value.Place.{Place}
use Rattle.om_isa.specs.declared.instr.BrOp.TheVariants.{Bsr}
use Rattle.om_isa.specs.declared.instr.JumpOp.{JumpOp}
use Rattle.om_isa.specs.declared.instr.Instr.TheVariants.{Jump as Jumps}
use Rattle.om_prog.specs.Act.{Act, Plain, GpHi, GpLo, To, Word, Script, act_reads, act_writes}
use Rattle.om_prog.specs.Flow.{act_jumps}
use Rattle.om_prog.specs.Facts.{Fact, has, fact_behind, IsFact}
use Rattle.om_prog.specs.View.{ProgramView}
use Rattle.om_prog.specs.Step.{next_place}
use Rattle.om_graph.specs.declared.op.Last.{Last}
use Rattle.om_isa.specs.declared.instr.Instr.{Instr}
use Rattle.om_graph.specs.declared.op.Op.{Op}
use Rattle.om_graph.specs.declared.op.OpKind.TheVariants as op
use Rattle.om_graph.specs.View.{Node, Block, GraphView, Has, ops_of}
use Rattle.om_graph.specs.Run.{block_words, last_words, op_act, op_word, target_at, rev_onto, table_of, graph_script}
use Rattle.om_graph.specs.Uses.{NoneWrites, IsClosedOpening}
use Rattle.om_graph.specs.Kept.{FallsOn, IsKeptLanding, Links, loads, Named}
use Rattle.om_graph.specs.Checks.{Enters, IsLastWord, live_in}

-- ---- edits

-- each block as an edit leaves it, under its label
pub record EachBlock (f : Block → Block) (old new : GraphView) : Type 0 where
  pub blocks : new.blocks ≡ map f old.blocks
  pub label : (b : Block) → (f b).label ≡ b.label
  pub roots : new.roots ≡ old.roots
  pub counts : new.counts ≡ old.counts
  pub tables : new.tables ≡ old.tables

-- one block less
pub record OneLess (xs : List Block) (gone : Block) (ys : List Block)
    (old new : GraphView) : Type 0 where
  pub before : old.blocks ≡ xs ++ gone ∷ ys
  pub behind : new.blocks ≡ xs ++ ys
  pub roots : new.roots ≡ old.roots
  pub counts : new.counts ≡ old.counts
  pub tables : new.tables ≡ old.tables

-- ---- edges

-- the words of edited blocks name no landing place that was not named
pub record NamesNoMore (f : Block → Block) (old : GraphView) : Type 0 where
  pub loads :
      (b : Block) (w : Word) (q : Place) → Has old.blocks b → Has (block_words (f b)) w →
      loads w.act q → Named old q
  pub links :
      (b : Block) (w : Word) → Has old.blocks b → Has (block_words (f b)) w → Links w.act →
      Named old (next_place w.at)

-- control goes from an edited block where it went before, or by a new way
pub record GoesAsBefore (f : Block → Block) (old : GraphView) (Way : Block → Block →
    Type 0) : Type 0 where
  pub falls : (b : Block) → Has old.blocks b → FallsOn (f b).last → FallsOn b.last
  pub jumps :
      (b n : Block) (w : Word) → Has old.blocks b → Has old.blocks n → IsLastWord (f b) w →
      act_jumps (IsKeptLanding old) w.act n.label → Enters old b n ⊎ Way b n

abbrev pub NoWay : Block → Block → Type 0
NoWay b n = ⊥

-- ---- masks

-- in an edited block no register is read that was not
pub record ReadsNoMore (f : Block → Block) (outs : Place → ℕ →
    Bool) (old : GraphView) : Type 0 where
  pub live :
      (b : Block) (r : ℕ) → Has old.blocks b → r < 31 →
      live_in (block_words (f b)) (outs b.label) r ≡ true →
      live_in (block_words b) (outs b.label) r ≡ true

-- before some words, the last one first, a register was read and not written since
abbrev pub WasRead : ℕ → List Word → Type 0
WasRead r [] = ⊥
WasRead r (w ∷ bf) =
    (has (act_writes w.act) r ≡ false) × ((has (act_reads w.act) r ≡ true) ⊎ WasRead r bf)

-- what a word did and does, behind the words bf: it writes what it wrote, reads what it read or
-- what was read before it and not written since, and names no place that it did not
pub record ChangesTo (bf : List Word) (a z : Act) : Type 0 where
  pub writes : (r : ℕ) → has (act_writes z) r ≡ has (act_writes a) r
  pub reads :
      (r : ℕ) → r < 31 → has (act_reads z) r ≡ true → (has (act_reads a) r ≡ true) ⊎ WasRead r bf
  pub loads : (q : Place) → loads z q → loads a q
  pub links : Links z → Links a

-- words that were changed one by one, behind the words bf
pub data Changed : List Word → List Word → List Word → Type 0 where
  no_more : (bf : List Word) → Changed bf [] []
  one :
      (bf ws us : List Word) (w u : Word) → u.at ≡ w.at → ChangesTo bf w.act u.act →
      Changed (w ∷ bf) ws us → Changed bf (w ∷ ws) (u ∷ us)

-- the ops of a block of which each node becomes another
module _ (os us : List Op) (h : Node → Node) where
  abbrev pub EachChanges : List Word → List Node → Type 0
  EachChanges bf [] = Unit {0}
  EachChanges bf (n ∷ ns) =
      ((h n).op.place ≡ n.op.place) × ChangesTo bf (op_act os n.op.kind) (op_act us (h n).op.kind)
      × EachChanges (op_word os n.op ∷ bf) ns

abbrev pub with_nodes : (Node → Node) → Block → Block
with_nodes h b = record b { ops = map h b.ops }

abbrev pub NodesChange : (Node → Node) → Block → Type 0
NodesChange h b = EachChanges (ops_of b) (ops_of (with_nodes h b)) h [] b.ops

-- what a use of a high half is a use of
abbrev pub KeepsTargets : Block → Block → Type 0
KeepsTargets b z =
    (o : Op) (i : Instr) (hi : Place) → Has (ops_of z) o → o.kind ≡ op.UseLo i hi →
    target_at (ops_of z) hi ≡ target_at (ops_of b) hi

-- what a word writes is dead behind it
abbrev pub IsDeadHere : List Word → (ℕ → Bool) → Word → Type 0
IsDeadHere after out w =
    (r : ℕ) → r < 31 → has (act_writes w.act) r ≡ true → live_in after out r ≡ false

-- of the nodes of an id each is dead, behind all other words
module _ (b : Block) (id : ℕ) (out : ℕ → Bool) where
  abbrev pub NodesDead : List Node → Type 0
  NodesDead [] = Unit {0}
  NodesDead (n ∷ ns) =
      (n.id ≡ id →
      IsDeadHere (map (op_word (ops_of b))
      (map (λ n. n.op) ns) ++ last_words b.last) out (op_word (ops_of b) n.op)) × NodesDead ns

-- ---- calls

-- the end of a block that jumped to a known place becomes a BSR to it
pub record BecomesDirect (b : Block) (end : Last) : Type 0 where
  pub at : Place
  pub kind : JumpOp
  pub ra : ℕ
  pub rb : ℕ
  pub hint : ℕ
  pub to : Place
  pub was : last_words b.last ≡ record { at = at; act = Plain (Jumps kind ra rb hint) } ∷ []
  pub is : last_words end ≡ record { at = at; act = To Bsr ra to } ∷ []
  pub stays : FallsOn end → ⊥
  pub load : Word
  pub among : Has (block_words b) load
  pub loads : loads load.act to

-- the end of a block that is a BSR to an opening pair goes past it
pub record GoesPast (g : GraphView) (b e : Block) (end : Last) : Type 0 where
  pub at : Place
  pub ra : ℕ
  pub among : Has g.blocks e
  pub was : last_words b.last ≡ record { at = at; act = To Bsr ra e.label } ∷ []
  pub is :
      last_words end ≡ record { at = at; act = To Bsr ra (next_place (next_place e.label)) } ∷ []
  pub stays : FallsOn end → ⊥
  -- the pair, which is the whole block, and from which control falls on
  pub high : Word
  pub low : Word
  pub rc : ℕ
  pub rd : ℕ
  pub base : Place
  pub first : Place
  pub words : block_words e ≡ high ∷ low ∷ []
  pub is_high : high.act ≡ GpHi 29 rc base
  pub is_low : low.act ≡ GpLo 29 rd first
  pub next : (n : Block) → Has g.blocks n → n.label ≡ next_place (next_place e.label) → Enters g e n

-- the words of nodes, among the ops of their block
abbrev pub node_words : List Op → List Node → List Word
node_words os ns = map (op_word os) (map (λ n. n.op) ns)

-- an op of a kept block, with those before and behind it
pub record OpAt (g : GraphView) (b : Block) (n : Node) : Type 0 where
  pub among : Has g.blocks b
  pub before : List Node
  pub behind : List Node
  pub ops : b.ops ≡ before ++ n ∷ behind

-- ---- pairs

-- two nodes of a block that are a pair, whose table is the fact in front of it
pub record PairOf (c : Script) (facts : Place → Fact) (b : Block) (high low : Node) : Type 0 where
  pub xs : List Node
  pub ms : List Node
  pub ys : List Node
  pub ops : b.ops ≡ (xs ++ high ∷ ms) ++ low ∷ ys
  pub ra : ℕ
  pub rb : ℕ
  pub rd : ℕ
  pub base : Place
  pub first : Place
  pub is_high : high.op.kind ≡ op.GpHi ra rb base
  pub is_low : low.op.kind ≡ op.GpLo 29 rd first
  pub unwritten : NoneWrites 29 (node_words (ops_of b) ms)
  pub fact :
      IsFact (fact_behind c (facts b.label) (rev_onto (node_words (ops_of b) xs) []))
      (c.table low.op.place.obj)

-- what an entry looks at
pub record IsEntry (p : ProgramView) (g : GraphView) (facts : Place →
    Fact) (b e : Block) (end : Last) : Type 0 where
  pub among : Has g.blocks b
  pub has : Has g.blocks e
  pub closed : IsClosedOpening g e
  -- a block begins behind the pair
  pub behind : Has g.labels (next_place (next_place e.label))
  pub bf : List Word
  pub call : Word
  pub ra : ℕ
  pub split : rev_onto bf (call ∷ []) ≡ block_words b
  pub act : call.act ≡ To Bsr ra e.label
  pub link : ra ≡ 29 → ⊥
  pub fact : IsFact (fact_behind (graph_script p g) (facts b.label) bf) (table_of g e.label.obj)
  pub is :
      last_words end ≡ record {
        at = call.at;
        act = To Bsr ra (next_place (next_place e.label));
      } ∷ []
  pub stays : FallsOn end → ⊥

-- ---- the words of one block

-- one block is another, under its label and with its end, and all else is as it was
pub record OneChanged (old new : GraphView) (b n : Block) : Type 0 where
  pub before : List Block
  pub behind : List Block
  pub was : old.blocks ≡ before ++ b ∷ behind
  pub now : new.blocks ≡ before ++ n ∷ behind
  pub label : n.label ≡ b.label
  pub last : n.last ≡ b.last
  pub roots : new.roots ≡ old.roots
  pub counts : new.counts ≡ old.counts
  pub tables : new.tables ≡ old.tables

-- What an edit may make of a block, so that its graph stays one of its program, with no more in its
-- kept set.
use Rattle.std.specs.Prelude.{◌≡◌, ◌⊎◌, ℕ, ℤ, ◌≤ℤ◌, List, ◌∷◌, ◌++◌, Option}
use Rattle.om_value.specs.declared.value.Place.{Place}
use Rattle.om_value.specs.declared.value.Target.{Target}
use Rattle.om_prog.specs.Act.{Word}
use Rattle.om_prog.specs.View.{ProgramView}
use Rattle.om_graph.specs.declared.op.Op.{Op}
use Rattle.om_graph.specs.declared.op.OpKind.TheVariants as op
use Rattle.om_graph.specs.declared.op.Last.TheVariants as last
use Rattle.om_graph.specs.View.{Block, Shape, GraphView, Has, ops_of}
use Rattle.om_graph.specs.Run.{block_words, shape_words}
use Rattle.om_graph.specs.Form.{OpForm, LastForm}
use Rattle.om_graph.specs.Rewritten.{each_word}
use Rattle.om_graph.specs.Kept.{IsInKeptSet, FallsOn, names, Links}
use Rattle.om_graph.specs.Lifted.{lifted_shapes}
use Rattle.om_graph.specs.OfProgram.{IsBlockOf, TakesHigh}
use Rattle.om_passes.specs.Edit.{WordEdit}

-- one block is another, and all else is as it was
pub record OneBlock (olds news : List Block) (b n : Block) : Type 0 where
  -- the blocks in front of it and behind it, which stay
  pub before : List Block
  pub after : List Block
  pub was : olds ≡ before ++ b ∷ after
  pub now : news ≡ before ++ n ∷ after

-- a load that became LDAH has the least displacement of its uses
abbrev pub HasLeast : Block → Type 0
HasLeast b =
    (o : Op) (ra rb : ℕ) (t : Target) (z : ℤ) → Has (ops_of b) o → o.kind ≡ op.AddrHi ra rb t z →
    TakesHigh b o.place z × ((y : ℤ) → TakesHigh b o.place y → z ≤ℤ y)

-- the block n comes of b by a change of its words
pub record BlockEdit (p : ProgramView) (b n : Block) (change : Word → Option Word) : Type 0 where
  -- it begins where it began
  pub label : n.label ≡ b.label
  pub opening : n.opening ≡ b.opening
  -- its words are changed or gone, one by one
  pub words : block_words n ≡ each_word change (block_words b)
  -- as the block of the program allows
  pub edit :
      (s : Shape) → Has (lifted_shapes p) s → IsBlockOf p s b →
      WordEdit p (shape_words s) (block_words b) change
  -- it ends as it ended, where control falls on or the text ends
  pub falls : b.last ≡ last.Fall → n.last ≡ last.Fall
  pub off : b.last ≡ last.Off → n.last ≡ last.Off
  pub ends : n.last ≡ last.Off → b.last ≡ last.Off
  pub least : HasLeast b → HasLeast n
  -- it is in form
  pub ops : (o : Op) → Has (ops_of n) o → OpForm o.kind
  pub form : LastForm n.last
  -- no load comes in
  pub lits :
      (o : Op) (ra rb : ℕ) (t : Target) → Has (ops_of n) o → o.kind ≡ op.Lit ra rb t →
      Has (ops_of b) o

-- it comes of some block
pub record ComesOf (p : ProgramView) (old : GraphView) (n : Block) : Type 0 where
  -- the block it was, and what became of each word
  pub block : Block
  pub change : Word → Option Word
  pub among : Has old.blocks block
  pub edit : BlockEdit p block n change

-- it leads to and names no more
pub record LeadsNoFurther (old : GraphView) (b n : Block) : Type 0 where
  pub label : n.label ≡ b.label
  -- control falls on from it only where it did
  pub falls : FallsOn n.last → FallsOn b.last
  -- what it names is in the kept set, where it is itself
  pub names :
      (w : Word) (q : Place) → Has (block_words n) w → names w.act q → IsInKeptSet old b.label →
      IsInKeptSet old q
  -- a word writes a link register only where one did
  pub links :
      (w : Word) → Has (block_words n) w → Links w.act →
      (v : Word) × Has (block_words b) v × Links v.act × (v.at ≡ w.at)

-- a graph whose blocks are those of another or come of them
pub record BlocksEdited (p : ProgramView) (old new : GraphView) : Type 0 where
  -- objects, roots, tables and all labels are as they were
  pub counts : new.counts ≡ old.counts
  pub roots : new.roots ≡ old.roots
  pub tables : new.tables ≡ old.tables
  pub labels : new.labels ≡ old.labels
  -- each kept block is one of the old graph, or comes of one
  pub each : (n : Block) → Has new.blocks n → Has old.blocks n ⊎ ComesOf p old n

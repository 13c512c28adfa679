-- What each step of a pass gives, and what steps in a row give.
use Rattle.std.specs.Prelude.{◌≡◌, ◌<◌, ◌≤◌, ℕ}
use Rattle.om_value.specs.declared.value.Target.{Target}
use Rattle.om_prog.specs.View.{ProgramView}
use Rattle.om_graph.specs.declared.op.Op.{Op}
use Rattle.om_graph.specs.declared.op.OpKind.TheVariants as op
use Rattle.om_graph.specs.View.{Block, GraphView, Has, ops_of}
use Rattle.om_graph.specs.Run.{table_of}
use Rattle.om_graph.specs.Kept.{KeptInBlocks}
use Rattle.om_graph.specs.Index.{BranchesInReach}
use Rattle.om_graph.specs.LeftIn.{Keeps}
use Rattle.om_graph.specs.Rewritten.{SameFrame}
use Rattle.om_graph.specs.OfProgram.{IsGraphOf}
use Rattle.om_graph.specs.Same.{SameGraph}
use Rattle.om_graph.specs.Stands.{BasesStand, PairsWhole, PairsStand}
use Rattle.om_graph.specs.Weight.{weight}

-- ---- targets

-- a kept load of the objects of a table has this target
pub record IsLoaded (g : GraphView) (table : ℕ) (t : Target) : Type 0 where
  pub block : Block
  pub load : Op
  pub ra : ℕ
  pub rb : ℕ
  pub among : Has g.blocks block
  pub inside : Has (ops_of block) load
  pub loads : load.kind ≡ op.Lit ra rb t
  pub table_is : table_of g block.label.obj ≡ table

-- the kept loads of each table name no new target
abbrev pub FewerTargets : GraphView → GraphView → Type 0
FewerTargets old new = (table : ℕ) (t : Target) → IsLoaded new table t → IsLoaded old table t

-- ---- one edit, whatever it does to meaning

-- the new graph is one that passes may go on with
pub record GoesOn (p : ProgramView) (old new : GraphView) : Type 0 where
  -- it is of the program, and the kept set lies within its blocks
  pub graph : IsGraphOf p new
  pub kept : KeptInBlocks new
  -- each branch reaches its place
  pub reach : BranchesInReach new
  -- objects, roots and tables are as they were
  pub frame : SameFrame old new
  -- no table needs a new slot
  pub targets : FewerTargets old new

-- it has less to rewrite: this bounds the edits that there can be
pub record Onward (p : ProgramView) (old new : GraphView) : Type 0 where
  pub goes_on : GoesOn p old new
  pub lighter : weight new < weight old

-- ---- with meaning

-- one edit, or a few at once, that keeps meaning
pub record Rewrite (p : ProgramView) (old new : GraphView) : Type 0 where
  pub keeps : Keeps p old new
  pub goes_on : GoesOn p old new
  pub lighter : weight new < weight old
  -- the bases of uses over global pointers stand still
  pub bases : BasesStand p old → BasesStand p new

-- several in a row, or none
pub record Rewrites (p : ProgramView) (old new : GraphView) : Type 0 where
  pub keeps : Keeps p old new
  pub goes_on : GoesOn p old new
  pub no_heavier : weight new ≤ weight old
  -- where nothing became lighter nothing was done
  pub same : weight new ≡ weight old → SameGraph old new
  pub bases : BasesStand p old → BasesStand p new

-- a step of a pass: closed pairs stay whole too
pub record Step (p : ProgramView) (old new : GraphView) : Type 0 where
  pub rewrite : Rewrite p old new
  pub pairs : PairsWhole p old → PairsWhole p new

-- steps in a row
pub record Steps (p : ProgramView) (old new : GraphView) : Type 0 where
  pub rewrites : Rewrites p old new
  pub pairs : PairsWhole p old → PairsWhole p new

-- a dead word gone: a high half may be left alone for a while, where it is dead
pub record Deletion (p : ProgramView) (old new : GraphView) : Type 0 where
  pub rewrite : Rewrite p old new
  pub pairs : BasesStand p old → PairsStand p old → PairsStand p new

-- deletions in a row
pub record Deletions (p : ProgramView) (old new : GraphView) : Type 0 where
  pub rewrites : Rewrites p old new
  pub pairs : BasesStand p old → PairsStand p old → PairsStand p new

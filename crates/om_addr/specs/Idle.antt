-- Loads into r31 of near targets, where they are the last words of their texts.
use Rattle.std.specs.Prelude.{◌≡◌, ◌<◌, ℕ, Bool, true, false, List, Some}
use Rattle.om_value.specs.declared.value.Place.{Place}
use Rattle.om_value.specs.declared.value.Target.{Target}
use Rattle.om_prog.specs.Act.{Lit, Word}
use Rattle.om_prog.specs.View.{ProgramView}
use Rattle.om_prog.specs.Valid.{IsProgram}
use Rattle.om_graph.specs.declared.op.Op.{Op}
use Rattle.om_graph.specs.View.{Node, Block, GraphView, Has, block_of, op_of}
use Rattle.om_graph.specs.Fits.{OpsFit, LdaFits}
use Rattle.om_graph.specs.Left.{StandsIn, IsNear}
use Rattle.om_graph.specs.Uses.{IsTextsLast}
use Rattle.om_graph.specs.Weight.{weight}
use Rattle.om_layout.specs.Layout.{LayoutView, gp_of, address_of}
use Rattle.om_passes.specs.OneEdit.{MayGoOn}
use Rattle.om_passes.specs.Step.{Steps}
use Rattle.om_addr.specs.declared.loads.Load.{Load}
use Rattle.om_addr.specs.Loads.{load_kind}
use Rattle.om_addr.specs.Done.{load_at}
use Rattle.om_addr.specs.Passing.{HasRegionsOf, KeepsIds}

-- ---- what is made of a graph

-- what steps made of a graph of the program; masks need not stay, since LDA reads its base
pub record IsTaken (p : ProgramView) (l : LayoutView) (changed : Bool) (old new : GraphView) : Type 0 where
  pub steps : Steps p old new
  pub lighter : changed ≡ true → weight new < weight old
  -- address ops that fitted in the layout fit in it still
  pub fits :
      HasRegionsOf p l → OpsFit p (gp_of l) (address_of l) old →
      OpsFit p (gp_of l) (address_of l) new

-- it is said of each program of which that is a graph
pub record Taking (l : LayoutView) (changed : Bool) (old new : GraphView) : Type 0 where
  pub same : changed ≡ false → new ≡ old
  pub ids : KeepsIds old new
  -- passes may go on with it
  pub goes_on : (p : ProgramView) → IsProgram p → MayGoOn p old → MayGoOn p new
  pub passed :
      (p : ProgramView) → IsProgram p → MayGoOn p old → IsTaken p l changed old new

-- ---- what is left

-- no load into r31 of a near target ends its text
pub record IsIdleDone (l : LayoutView) (g : GraphView) : Type 0 where
  pub loads :
      (p : ProgramView) (b : Block) (bf : List Word) (w : Word) (ws : List Word) (rb : ℕ)
      (t : Target) → HasRegionsOf p l → StandsIn g b bf w ws → w.act ≡ Lit 31 rb t →
      IsNear p (gp_of l) (address_of l) w.at.obj t → IsTextsLast g w.at → ⊥

-- the op of its id is the load, at this place
pub record IsLoadAt (g : GraphView) (l : Load) (place : Place) : Type 0 where
  pub object : place.obj ≡ l.obj
  pub is : op_of g l.id ≡ Some (record { place = place; kind = load_kind l })

-- a load at a place is no such one
abbrev pub IsIdle : LayoutView → GraphView → Load → Place → Type 0
IsIdle l g load place =
    load.from_slot ≡ true → load.ra ≡ 31 → (p : ProgramView) → HasRegionsOf p l →
    LdaFits p (gp_of l) (address_of l) load.obj load.target → IsTextsLast g place → ⊥

-- the same of an op, if it is a load
abbrev pub IsOpIdle : LayoutView → GraphView → ℕ → Type 0
IsOpIdle l g id =
    (x : Op) (load : Load) → op_of g id ≡ Some x → load_at id x ≡ Some load →
    IsIdle l g load x.place

-- of each op of a block
abbrev pub IsBlockIdle : LayoutView → GraphView → ℕ → Type 0
IsBlockIdle l g id =
    (b : Block) (n : Node) → block_of g id ≡ Some b → Has b.ops n → IsOpIdle l g n.id

-- of each op
abbrev pub IsAllIdle : LayoutView → GraphView → Type 0
IsAllIdle l g = (b : Block) → Has g.blocks b → IsBlockIdle l g b.id

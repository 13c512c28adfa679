-- What is left of address loads where only far ones, and those into r31, are not done.
use Rattle.std.specs.Prelude.{◌≡◌, ℕ, List, ◌∷◌}
use Rattle.om_value.specs.declared.value.Target.{Target}
use Rattle.om_prog.specs.Act.{Lit, Word}
use Rattle.om_prog.specs.View.{ProgramView}
use Rattle.om_graph.specs.View.{Block, GraphView}
use Rattle.om_graph.specs.Left.{StandsIn, IsNear, NoUse, NoByte}
use Rattle.om_layout.specs.Layout.{LayoutView, gp_of, address_of}
use Rattle.om_addr.specs.Passing.{HasRegionsOf}

pub record IsNearDone (l : LayoutView) (g : GraphView) : Type 0 where
  pub bytes : NoByte g
  pub uses : (p : ProgramView) → HasRegionsOf p l → NoUse p (gp_of l) (address_of l) g
  -- a load of a near target that is left is one into r31
  pub loads :
      (p : ProgramView) (b : Block) (bf : List Word) (w : Word) (ws : List Word) (ra rb : ℕ)
      (t : Target) → HasRegionsOf p l → StandsIn g b bf w ws → w.act ≡ Lit ra rb t →
      IsNear p (gp_of l) (address_of l) w.at.obj t → ra ≡ 31

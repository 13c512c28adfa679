-- What the words of a program ask of a plain link, which rewrites nothing.
use Rattle.std.specs.Prelude.{◌≡◌, ℕ, Some}
use Rattle.om_isa.specs.declared.instr.BrOp.{BrOp}
use Rattle.om_value.specs.declared.value.Place.{Place}
use Rattle.om_prog.specs.Act.{To}
use Rattle.om_prog.specs.View.{ProgramView}
use Rattle.om_prog.specs.Script.{program_fetch}
use Rattle.om_graph.specs.Index.{InReach}
pub use Rattle.om_counted.specs.Levels.{counts_of}

-- each branch of a program reaches its place
pub record BranchesReach (p : ProgramView) : Type 0 where
  pub each :
      (at q : Place) (op : BrOp) (ra : ℕ) → program_fetch p at ≡ Some (record { at = at; act = To op ra q }) →
      InReach (counts_of p) at q

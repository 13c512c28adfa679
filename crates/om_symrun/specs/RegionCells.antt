-- The cells of regions as contracts see them.
use Rattle.std.specs.Prelude.{ℕ, List}
use Rattle.om_value.specs.declared.value.Region.{Region}
use Rattle.om_value.specs.declared.value.Value.{Value}
use Rattle.om_symrun.specs.declared.cells.Mark.{Mark}

-- the bytes, what each cell holds, and the values of eight and of four cells by their places in units of so many
pub record RegionCells : Type 0 where
  pub bytes : List ℕ
  pub marks : List Mark
  pub eights : List (ℕ × Value)
  pub fours : List (ℕ × Value)

-- the stack, the heap, and the regions that a program gives
pub record Regions : Type 0 where
  pub stack : RegionCells
  pub heap : RegionCells
  pub given : List (Region × RegionCells)

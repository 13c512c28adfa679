-- Ranges of regions that hold bytes alone.
use Rattle.std.proofs.Common.{◌≡◌, ◌≤◌, ℕ, ◌+◌, Option, Some, None, sym, subst}
use Rattle.om_value.specs.declared.value.Region.{Region}
use Rattle.om_prog.specs.Cells.{all_bytes, cells_from}
use Rattle.om_symrun.specs.RegionCells.{RegionCells, Regions}
use Rattle.om_symrun.specs.CellsIn.{AllAre, OneIsNot}
use Rattle.om_symrun.specs.Calls.{region_bytes, bytes_of_region}
use Rattle.om_symrun.specs.Memory.{cells_for, cell_of, count_of, memory_cells, memory_size}
use Rattle.om_symrun.specs.declared.cells.Mark.TheVariants as mark
use Rattle.om_symrun.proofs.Numbers.{all_are_bytes, not_all_bytes}

module _ (m : Regions) (r : Region) (c : RegionCells) (at count : ℕ) (found : Some c ≡ cells_for m r) where
  pub range_bytes : at + count ≤ memory_size m r → AllAre c.marks at count mark.Byte → all_bytes (cells_from (memory_cells m r) at count) ≡ Some (region_bytes m r at count)
  range_bytes fits all =
      subst (λ (o : Option RegionCells). all_bytes (cells_from (cell_of o) at count) ≡ Some (bytes_of_region o at count)) found
      (all_are_bytes c at count (subst (λ (o : Option RegionCells). at + count ≤ count_of o) (sym found) fits) all)

  pub no_range_bytes : OneIsNot c.marks at count mark.Byte → all_bytes (cells_from (memory_cells m r) at count) ≡ None
  no_range_bytes one =
      subst (λ (o : Option RegionCells). all_bytes (cells_from (cell_of o) at count) ≡ None) found (not_all_bytes c at count one)

-- What a run starts with.
use Rattle.std.specs.Prelude.{◌≡◌, ◌⊎◌, ◌≤◌, ℕ, ◌+◌, ◌-◌, ◌%◌, List, length, find, slice_get, slice_index_or, Option, Some, None}
use Rattle.om_value.specs.declared.value.Region.{Region}
use Rattle.om_value.specs.Same.{region_eq}
use Rattle.om_prog.specs.declared.item.Field.{Field}
use Rattle.om_prog.specs.declared.region.RegionInit.{RegionInit}
use Rattle.om_prog.specs.Cells.{Cell, Byte, cells_of}
use Rattle.om_prog.specs.Script.{covers, init_cell, initial, own_table}
use Rattle.om_prog.specs.View.{ProgramView}
use Rattle.om_symrun.specs.RegionCells.{RegionCells, Regions}
use Rattle.om_symrun.specs.CellsIn.{cell_in}
use Rattle.om_symrun.specs.Memory.{memory_cells, heap_size, IsMemoryOf}

-- a field of four or eight bytes lies in a region of a size, at a multiple of its width
pub record IsPlacedIn (size : ℕ) (f : Field) : Type 0 where
  pub width : (f.width ≡ 4) ⊎ (f.width ≡ 8)
  pub aligned : f.off % f.width ≡ 0
  pub inside : f.off + f.width ≤ size

-- all fields of a list are so
pub record ArePlacedIn (size : ℕ) (fields : List Field) : Type 0 where
  pub each : (k : ℕ) (f : Field) → slice_get fields k ≡ Some f → IsPlacedIn size f

-- the bytes and the fields of a region lie in it
pub record IsLaid (i : RegionInit) : Type 0 where
  pub bytes : length i.bytes ≤ i.size
  pub fields : ArePlacedIn i.size i.fields

pub record AreLaid (regions : List RegionInit) : Type 0 where
  pub each : (k : ℕ) (i : RegionInit) → slice_get regions k ≡ Some i → IsLaid i

-- the cell at x under a field, or else as it was
abbrev pub field_over : (ℕ → Cell) → ℕ → Option Field → Cell
field_over cell x None = cell x
field_over cell x (Some f) = slice_index_or (cells_of f.width f.value) (x - f.off) (Byte 0)

-- fields were written, of two that share a cell the first
pub record WritesFields (old new : RegionCells) (fields : List Field) : Type 0 where
  pub size : length new.bytes ≡ length old.bytes
  pub places : (x : ℕ) → cell_in new x ≡ field_over (cell_in old) x (find (covers x) fields)

-- the cells are those of a region's initial content
pub record IsMade (c : RegionCells) (i : RegionInit) : Type 0 where
  pub size : length c.bytes ≡ i.size
  pub places : (x : ℕ) → cell_in c x ≡ init_cell own_table (Some i) x

abbrev pub IsMadeOf : Option RegionCells → Option RegionInit → Type 0
IsMadeOf None None = Unit {0}
IsMadeOf (Some c) (Some i) = IsMade c i
IsMadeOf _ _ = ⊥

-- the initial content of a region, the first of those that are given for it
abbrev pub init_in : List RegionInit → Region → Option RegionInit
init_in regions r = find (λ i. region_eq i.region r) regions

-- the memory of a program at the start
pub record IsFirst (p : ProgramView) (m : Regions) : Type 0 where
  pub memory : IsMemoryOf p m
  pub cells : (r : Region) (x : ℕ) → memory_cells m r x ≡ initial p own_table r x
  pub heap : heap_size m ≡ 0

-- What the memory of a run means.
use Rattle.std.specs.Prelude.{◌≡◌, ◌≤◌, ℕ, false, if◌then◌else◌, List, length, Option, Some, None}
use Rattle.std.specs.BTreeMap.{is_at}
use Rattle.std.specs.Map.{lookup}
use Rattle.om_isa.specs.SystemCall.{heap_limit, resized}
use Rattle.om_value.specs.declared.value.Region.{Region}
use Rattle.om_value.specs.declared.value.Region.TheVariants.{Stack, Heap}
use Rattle.om_value.specs.Same.{region_eq}
use Rattle.om_prog.specs.Cells.{Cell, Byte, store_cells}
use Rattle.om_prog.specs.Keys.{region_cmp}
use Rattle.om_prog.specs.Step.{sized}
use Rattle.om_prog.specs.Valid.{IsProgram}
use Rattle.om_prog.specs.View.{ProgramView, size_of}
use Rattle.om_symrun.specs.RegionCells.{RegionCells, Regions}
use Rattle.om_symrun.specs.CellsIn.{cell_in}

-- the cells at a region, among those that a program gives
abbrev pub region_in : List (Region × RegionCells) → Region → Option RegionCells
region_in given r = lookup (is_at (region_cmp r)) given

-- the cells of a region, if it is there
abbrev pub cells_for : Regions → Region → Option RegionCells
cells_for m Stack = Some m.stack
cells_for m Heap = Some m.heap
cells_for m r = region_in m.given r

abbrev pub cell_of : Option RegionCells → ℕ → Cell
cell_of None x = Byte 0
cell_of (Some c) x = cell_in c x

-- what is at each offset of each region
abbrev pub memory_cells : Regions → Region → ℕ → Cell
memory_cells m r x = cell_of (cells_for m r) x

abbrev pub count_of : Option RegionCells → ℕ
count_of None = 0
count_of (Some c) = length c.bytes

-- how many cells a region has
abbrev pub memory_size : Regions → Region → ℕ
memory_size m r = count_of (cells_for m r)

-- the heap's size
abbrev pub heap_size : Regions → ℕ
heap_size m = length m.heap.bytes

-- cells of a region were written from an offset on, and nothing else changed
pub record WritesRegion (old new : Regions) (region : Region) (at : ℕ) (cells : List Cell) : Type 0 where
  pub sizes : (r : Region) → memory_size new r ≡ memory_size old r
  pub places :
      (r : Region) (x : ℕ) → memory_cells new r x
      ≡ (if region_eq r region then store_cells (memory_cells old r) at cells x else memory_cells old r x)

-- nothing can be told to have changed
pub record SameCells (old new : Regions) : Type 0 where
  pub sizes : (r : Region) → memory_size new r ≡ memory_size old r
  pub places : (r : Region) (x : ℕ) → memory_cells new r x ≡ memory_cells old r x

-- the heap got a size, and nothing else changed
pub record ResizesHeap (old new : Regions) (size : ℕ) : Type 0 where
  pub size_is : heap_size new ≡ size
  pub sizes : (r : Region) → memory_size new r ≡ sized (memory_size old) size r
  pub heap : (x : ℕ) → memory_cells new Heap x ≡ resized (Byte 0) (heap_size old) size (memory_cells old Heap) x
  pub places : (r : Region) (x : ℕ) → region_eq r Heap ≡ false → memory_cells new r x ≡ memory_cells old r x

-- a memory has the regions of a program, and a heap that is not too large
pub record IsMemoryOf (p : ProgramView) (m : Regions) : Type 0 where
  pub program : IsProgram p
  pub sizes : (r : Region) → memory_size m r ≡ sized (size_of p) (heap_size m) r
  pub limit : heap_size m ≤ heap_limit

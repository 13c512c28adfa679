-- What the cells of a region are.
use Rattle.std.specs.Prelude.{◌≡◌, ◌≢◌, ◌≤◌, ◌<◌, ℕ, ◌+◌, ◌-◌, ◌/◌, ◌%◌, ◌&&◌, nat_le, nat_lt, if◌then◌else◌, List, length, map, slice_index, slice_index_or, Option, Some, None}
use Rattle.std.specs.Ordering.{nat_cmp}
use Rattle.std.specs.BTreeMap.{is_at}
use Rattle.std.specs.Map.{lookup}
use Rattle.om_alpha.specs.declared.op.Size.{Size}
use Rattle.om_alpha.specs.declared.op.Size.TheVariants as size
use Rattle.om_isa.specs.SystemCall.{resized}
use Rattle.om_value.specs.declared.value.Value.{Value}
use Rattle.om_value.specs.declared.value.Value.TheVariants.{Num}
use Rattle.om_prog.specs.Cells.{Cell, Byte, Part, store_cells}
use Rattle.om_symrun.specs.RegionCells.{RegionCells}
use Rattle.om_symrun.specs.declared.cells.Mark.{Mark}
use Rattle.om_symrun.specs.declared.cells.Mark.TheVariants as mark

-- how many bytes a size is
abbrev pub size_bytes : Size → ℕ
size_bytes size.Byte = 1
size_bytes size.Word = 2
size_bytes size.Long = 4
size_bytes size.Quad = 8

abbrev pub mark_at : List Mark → ℕ → Mark
mark_at marks k = slice_index_or marks k mark.Byte

-- the value at a key
abbrev pub value_at : List (ℕ × Value) → ℕ → Option Value
value_at entries key = lookup (is_at (nat_cmp key)) entries

-- a fragment of a value; one that is not known is of none
abbrev pub part_of : Option Value → ℕ → ℕ → Cell
part_of (Some v) i n = Part v i n
part_of None i n = Part (Num 0) i 0

abbrev pub cell_marked : RegionCells → ℕ → Mark → Cell
cell_marked c x mark.Byte = Byte (slice_index c.bytes x)
cell_marked c x mark.Eight = part_of (value_at c.eights (x / 8)) (x % 8) 8
cell_marked c x mark.Four = part_of (value_at c.fours (x / 4)) (x % 4) 4

-- the cell at an offset; past the end it is a byte of zero
abbrev pub cell_in : RegionCells → ℕ → Cell
cell_in c x = cell_marked c x (mark_at c.marks x)

-- bytes as cells
abbrev pub byte_cells : List ℕ → List Cell
byte_cells bytes = map (λ b. Byte b) bytes

-- cells were written from an offset on, and nothing else changed
pub record Writes (old new : RegionCells) (at : ℕ) (cells : List Cell) : Type 0 where
  pub size : length new.bytes ≡ length old.bytes
  pub places : (x : ℕ) → cell_in new x ≡ store_cells (cell_in old) at cells x

-- nothing can be told to have changed
pub record Same (old new : RegionCells) : Type 0 where
  pub size : length new.bytes ≡ length old.bytes
  pub places : (x : ℕ) → cell_in new x ≡ cell_in old x

-- the region got another size: cells below both sizes are kept, and all others are bytes of zero
pub record Resized (old new : RegionCells) (size : ℕ) : Type 0 where
  pub size_is : length new.bytes ≡ size
  pub places : (x : ℕ) → cell_in new x ≡ resized (Byte 0) (length old.bytes) size (cell_in old) x

-- all cells are bytes of zero
pub record IsZeros (c : RegionCells) (count : ℕ) : Type 0 where
  pub size : length c.bytes ≡ count
  pub places : (x : ℕ) → cell_in c x ≡ Byte 0

-- bytes of a list were replaced from a place on
pub record Splices (old new : List ℕ) (at : ℕ) (piece : List ℕ) : Type 0 where
  pub same_length : length new ≡ length old
  pub places :
      (k : ℕ) → slice_index new k
      ≡ (if nat_le at k && nat_lt k (at + length piece) then slice_index piece (k - at) else slice_index old k)

-- marks of a list were replaced from a place on
pub record SetsMarks (old new : List Mark) (at count : ℕ) (m : Mark) : Type 0 where
  pub same_length : length new ≡ length old
  pub places :
      (k : ℕ) → mark_at new k ≡ (if nat_le at k && nat_lt k (at + count) then m else mark_at old k)

-- all marks of a range are this one
pub record AllAre (marks : List Mark) (at count : ℕ) (m : Mark) : Type 0 where
  pub each : (k : ℕ) → at ≤ k → k < at + count → mark_at marks k ≡ m

-- one mark of a range is another
pub record OneIsNot (marks : List Mark) (at count : ℕ) (m : Mark) : Type 0 where
  pub place : ℕ
  pub from : at ≤ place
  pub below : place < at + count
  pub other : mark_at marks place ≢ m

-- What the parts of the machine's memory mean.
use Rattle.std.specs.Prelude.{◌≡◌, ◌≤◌, ℕ, ◌+◌, ◌-◌, nat_le, if◌then◌else◌, List, length, slice_index}
use Rattle.om_image.specs.Layout.{data_base}
use Rattle.om_image.specs.NumState.{stack_base, heap_base}
use Rattle.om_image.specs.NumAccess.{written}
use Rattle.om_machine.specs.Mapped.{Mapped}
use Rattle.om_machine.specs.declared.memory.Spot.{Spot}
use Rattle.om_machine.specs.declared.memory.Spot.TheVariants as spot

-- what is at each address
abbrev pub memory_of : Mapped → ℕ → ℕ
memory_of m a =
    if nat_le heap_base a then slice_index m.heap (a - heap_base)
    else if nat_le data_base a then slice_index m.bytes (a - data_base)
    else if nat_le stack_base a then slice_index m.stack (a - stack_base)
    else 0

-- n bytes from an address on lie at a place of a part that begins at this base and has so many bytes
pub record IsPlace (base count address n at : ℕ) : Type 0 where
  pub place : base + at ≡ address
  pub fits : at + n ≤ count

-- n bytes from an address on lie at this spot
abbrev pub IsSpot : Mapped → ℕ → ℕ → Spot → Type 0
IsSpot m a n (spot.Data at) = IsPlace data_base (length m.bytes) a n at
IsSpot m a n (spot.Stack at) = IsPlace stack_base (length m.stack) a n at
IsSpot m a n (spot.Heap at) = IsPlace heap_base m.heap_size a n at

-- bytes of a list were written from a place on, and nothing else changed
pub record Splices (old new : List ℕ) (at : ℕ) (piece : List ℕ) : Type 0 where
  pub same_length : length new ≡ length old
  pub places : (k : ℕ) → slice_index new k ≡ written (slice_index old) (at, piece) k

-- so many bytes of zero
pub record IsZeros (bytes : List ℕ) (count : ℕ) : Type 0 where
  pub length_is : length bytes ≡ count
  pub zero : (k : ℕ) → slice_index bytes k ≡ 0

-- bytes were written to memory from an address on, and nothing else changed
pub record Writes (old new : Mapped) (address : ℕ) (piece : List ℕ) : Type 0 where
  pub data_kept : length new.bytes ≡ length old.bytes
  pub heap_kept : new.heap_size ≡ old.heap_size
  pub places : (a : ℕ) → memory_of new a ≡ written (memory_of old) (address, piece) a

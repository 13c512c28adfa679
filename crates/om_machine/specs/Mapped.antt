-- The memory of the machine as contracts see it.
use Rattle.std.specs.Prelude.{◌≡◌, ◌≤◌, ℕ, List, length, slice_index}
use Rattle.om_image.specs.Layout.{data_limit}
use Rattle.om_image.specs.NumState.{stack_size}
use Rattle.om_isa.specs.SystemCall.{heap_limit}

-- the bytes of the data, of the stack and of the heap, and how many of these the heap has
pub record Mapped : Type 0 where
  pub bytes : List ℕ
  pub stack : List ℕ
  pub heap : List ℕ
  pub heap_size : ℕ

-- a memory's parts have their sizes, and past its size the heap is zero
pub record IsMapped (bytes stack heap : List ℕ) (size : ℕ) : Type 0 where
  pub data_fits : length bytes ≤ data_limit
  pub stack_fits : length stack ≡ stack_size
  pub heap_fits : length heap ≡ heap_limit
  pub size_fits : size ≤ heap_limit
  pub heap_ends : (k : ℕ) → size ≤ k → slice_index heap k ≡ 0

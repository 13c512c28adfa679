-- When the numeric state of an image goes with the symbolic state of a script.
use Rattle.std.specs.Prelude.{◌≡◌, ◌⊎◌, ℕ, ◌+◌, ◌/◌, ◌%◌, ◌^◌, ◌<◌, ◌≤◌, length, map, Option, Some, None, slice_index, slice_index_or}
use Rattle.om_isa.specs.Effect.{Nothing, Set, Store, Jump, Stop, Calls, StepObserves}
use Rattle.om_isa.specs.SystemCall.{Call, Exits, Answers, Puts, Takes, HeapEnd, Resizes, CallObserves, heap_limit}
use Rattle.om_value.specs.declared.value.Region.{Region}
use Rattle.om_value.specs.declared.value.Value.{Value}
use Rattle.om_value.specs.declared.value.Value.TheVariants.{Ptr}
use Rattle.om_prog.specs.Cells.{Cell, Byte, Part}
use Rattle.om_prog.specs.Act.{Script}
use Rattle.om_prog.specs.Step.{SymState, SymEnd, SymEffect, ExitedWith, TrappedAt, ObservedAt, sized}
use Rattle.om_image.specs.NumStep.{NumEffect}
use Rattle.om_image.specs.NumState.{NumState, Exited, Trapped, heap_base}
use Rattle.om_lockstep.specs.Addresses.{Addresses, IsValue, IsCell, number_of_value}

-- the byte that a cell is
abbrev pub cell_byte : Addresses → Cell → ℕ
cell_byte l (Byte b) = b
cell_byte l (Part v i n) = number_of_value l v / 256 ^ i % 256

-- each cell of a region is the byte at its address
pub record MemoryAlike (l : Addresses) (size : Region → ℕ) (cells : Region → ℕ → Cell) (memory : ℕ → ℕ) : Type 0 where
  pub agrees : (r : Region) (x : ℕ) → x < size r → memory (l.region r + x) ≡ cell_byte l (cells r x)

-- an address below the heap, of no region
pub record IsFixed (l : Addresses) (most : Region → ℕ) (a : ℕ) : Type 0 where
  pub below : a < heap_base
  pub outside : (r : Region) (x : ℕ) → x < most r → a ≡ l.region r + x → ⊥

-- the sizes at the largest heap
abbrev pub most_of : Script → Region → ℕ
most_of c r = sized c.sizes heap_limit r

-- ---- states

module _ (c : Script) (l : Addresses) (first : ℕ → ℕ) where
  -- a running state in numbers; memory outside regions is as at first
  pub record IsLowered (s : SymState) (t : NumState) : Type 0 where
    pub running : t.end ≡ None
    pub regs : (r : ℕ) → t.registers r ≡ number_of_value l (s.regs r)
    pub values : (r : ℕ) → IsValue (s.regs r)
    pub cells : (r : Region) (x : ℕ) → IsCell l (s.cells r x)
    pub place : t.pc ≡ l.code s.place
    pub memory : MemoryAlike l (sized c.sizes s.heap) s.cells t.memory
    pub fixed : (a : ℕ) → IsFixed l (most_of c) a → t.memory a ≡ first a
    pub heap : t.heap_size ≡ s.heap
    pub heap_small : s.heap ≤ heap_limit
    pub input : t.input ≡ s.input
    pub out : t.out ≡ s.out
    pub err : t.err ≡ s.err
    pub taken : (k : ℕ) → slice_index s.input k < 256

  pub record SameStreams (s : SymState) (t : NumState) : Type 0 where
    pub input : t.input ≡ s.input
    pub out : t.out ≡ s.out
    pub err : t.err ≡ s.err

  -- by how the symbolic state has ended; where it shows an address nothing is said
  abbrev pub GoesWith : Option SymEnd → SymState → NumState → Type 0
  GoesWith None s t = IsLowered s t
  GoesWith (Some (ExitedWith status)) s t = SameStreams s t × (t.end ≡ Some (Exited status))
  GoesWith (Some (TrappedAt kind p)) s t = SameStreams s t × (t.end ≡ Some (Trapped kind (l.code p)))
  GoesWith (Some (ObservedAt p)) s t = Unit {0}

  abbrev pub Goes : SymState → NumState → Type 0
  Goes s t = GoesWith s.ended s t

-- ---- effects that agree; what shows an address agrees with anything

module _ (l : Addresses) (size : Region → ℕ) where
  -- the range that a value and a number name is one of a region
  abbrev pub Room : ℕ → Value → ℕ → Type 0
  Room k (Ptr r x) a = (a ≡ l.region r + x) × (x + k ≤ size r)
  Room k _ a = ⊥

  abbrev pub CallAlike : Call → Value → Call → ℕ → Type 0
  CallAlike CallObserves v call a = Unit {0}
  CallAlike (Exits m) v (Exits n) a = m ≡ n
  CallAlike (Answers m k) v (Answers n j) a = (m ≡ n) × (k ≡ j) × (m < 2 ^ 64) × (k < 2 ^ 64)
  CallAlike (Puts d bs) v (Puts e cs) a = (d ≡ e) × (bs ≡ cs) × (length bs < 2 ^ 64)
  CallAlike (Takes k) v (Takes j) a = (k ≡ j) × Room k v a
  CallAlike (HeapEnd m) v (HeapEnd n) a = (m ≡ n) × (m ≤ heap_limit)
  CallAlike (Resizes m) v (Resizes n) a = (m ≡ n) × (m ≤ heap_limit)
  CallAlike _ v _ a = ⊥

  abbrev pub EffectAlike : SymEffect → NumEffect → Type 0
  EffectAlike StepObserves f = Unit {0}
  EffectAlike Nothing Nothing = Unit {0}
  EffectAlike Nothing (Set q n) = q ≡ 31
  EffectAlike (Set r v) (Set q n) = (q ≡ r) × IsValue v × ((r ≡ 31) ⊎ (n ≡ number_of_value l v))
  EffectAlike (Store w) (Store u) =
      (u ≡ (l.region w.0 + w.1, map (cell_byte l) w.2)) × (w.1 + length w.2 ≤ size w.0)
      × ((k : ℕ) → IsCell l (slice_index_or w.2 k (Byte 0)))
  EffectAlike (Jump None q) (Jump None a) = a ≡ l.code q
  EffectAlike (Jump (Some r) q) (Jump (Some k) a) = (k ≡ r) × (a ≡ l.code q)
  EffectAlike (Stop k) (Stop m) = k ≡ m
  EffectAlike (Calls call v) (Calls other a) = CallAlike call v other a
  EffectAlike _ _ = ⊥

-- the next place's address matters
abbrev pub NeedsNext : SymEffect → Type 0
NeedsNext (Jump None q) = ⊥
NeedsNext (Stop kind) = ⊥
NeedsNext StepObserves = ⊥
NeedsNext (Jump (Some r) q) = (r ≡ 31) → ⊥
NeedsNext _ = Unit {0}

-- The system call, over the bytes at a pointer and the heap's size, for both machines.
-- The calls exit, read and write, their numbers and the registers that they use are those of the
-- operating system's C library on Alpha (v0 the call and the answer, a0 to a2 the arguments, a3 the error
-- flag); which calls there are, the error numbers 9, 12, 14 and 78, and the call 17 that moves the end of
-- the heap are this project's own.
use Rattle.std.specs.Prelude.{◌≡◌, ◌≤◌, ℕ, ◌%◌, ◌==◌, ◌||◌, ◌&&◌, nat_le, nat_lt, List, [], ◌∷◌, length, take, Option, Some, None, if◌then◌else◌}
use Rattle.std.specs.List.{concat}

-- what a range of memory gives: something, a bad address, or that reaching it would observe an address
pub data Reached (A : Type 0) : Type 0 where
  At : A → Reached A
  BadAddress : Reached A
  Observes : Reached A

-- what a call does
pub data Call : Type 0 where
  -- the run ends with a status
  Exits : (status : ℕ) → Call
  -- v0 and a3
  Answers : (v0 a3 : ℕ) → Call
  -- these bytes go to a descriptor, in pieces that meet `ArePieces`; v0 is their number, a3 is 0
  Puts : (descriptor : ℕ) (bytes : List ℕ) → Call
  -- what is `taken` of the input goes to the front of the range; v0 is its length, a3 is 0
  Takes : (count : ℕ) → Call
  -- v0 is the heap's pointer at this offset, a3 is 0
  HeapEnd : (offset : ℕ) → Call
  -- the heap gets a size, and its cells are those `resized`; v0 and a3 are 0
  Resizes : (size : ℕ) → Call
  -- the call would observe an address
  CallObserves : Call

-- What a0 asks of the heap. Of symbolic values the number 0 asks for the end, the heap's pointer with an
-- offset below 2 ^ 63 for its offset, any other number below 0x10000 for something else, and all other
-- values observe.
pub data HeapAsk : Type 0 where
  -- where the heap ends: the number 0
  AsksEnd : HeapAsk
  -- an end at this offset from the heap's start, at most `heap_limit` or past it; past it the answer is
  -- the error 12 too
  AsksOffset : (offset : ℕ) → HeapAsk
  -- symbolically a number below 0x10000 other than 0, numerically every number that is neither 0 nor an
  -- offset from the heap's start
  AsksOther : HeapAsk
  -- what is left: of symbolic values alone
  AskObserves : HeapAsk

-- the numbers of the calls
abbrev pub exit_number : ℕ
exit_number = 1

abbrev pub read_number : ℕ
read_number = 3

abbrev pub write_number : ℕ
write_number = 4

abbrev pub heap_number : ℕ
heap_number = 17

-- the error numbers: no such descriptor, no room, a bad address, no such call
abbrev pub bad_descriptor : Call
bad_descriptor = Answers 9 1

abbrev pub no_room : Call
no_room = Answers 12 1

abbrev pub bad_address : Call
bad_address = Answers 14 1

abbrev pub no_call : Call
no_call = Answers 78 1

-- the heap's size is at most this many bytes
abbrev pub heap_limit : ℕ
heap_limit = 16777216

-- what a read of at most count bytes takes of the input
abbrev pub taken : ℕ → List ℕ → List ℕ
taken count input = take count input

-- bytes are written in pieces of this size
abbrev pub piece_size : ℕ
piece_size = 4096

-- each piece but the last is full, and the last has at least one byte and is full at most
abbrev pub HavePieceSizes : List (List ℕ) → Type 0
HavePieceSizes [] = Unit {0}
HavePieceSizes (last ∷ []) = (1 ≤ length last) × (length last ≤ piece_size)
HavePieceSizes (piece ∷ (next ∷ pieces)) = (length piece ≡ piece_size) × HavePieceSizes (next ∷ pieces)

-- the pieces in which these bytes are written; no bytes have none
pub record ArePieces (bytes : List ℕ) (pieces : List (List ℕ)) : Type 0 where
  pub joined : concat pieces ≡ bytes
  pub sizes : HavePieceSizes pieces

-- what each place of a heap holds once its size has changed from old to new: places below both sizes keep
-- their cells, and all others hold the cell of zero
abbrev pub resized : {C : Type 0} → C → ℕ → ℕ → (ℕ → C) → ℕ → C
resized zero_cell old new cells place = if nat_lt place old && nat_lt place new then cells place else zero_cell

-- the call on a heap of this size
abbrev pub heap_call : ℕ → HeapAsk → Call
heap_call size AsksEnd = HeapEnd size
heap_call size (AsksOffset x) = if nat_le x heap_limit then Resizes x else no_room
heap_call size AsksOther = no_room
heap_call size AskObserves = CallObserves

abbrev pub put_call : ℕ → Reached (List ℕ) → Call
put_call descriptor (At bytes) = Puts descriptor bytes
put_call descriptor BadAddress = bad_address
put_call descriptor Observes = CallObserves

abbrev pub take_call : ℕ → Reached (Unit {0}) → Call
take_call count (At _) = Takes count
take_call count BadAddress = bad_address
take_call count Observes = CallObserves

-- what holds for n bytes at a1: which bytes they are, and whether they can be written
module _ (bytes_at : ℕ → Reached (List ℕ)) (room_at : ℕ → Reached (Unit {0})) where
  -- the first that applies: another descriptor, no bytes, a bad address, what would observe an address, the bytes
  abbrev pub read_call : ℕ → Option ℕ → Call
  read_call a0 None = CallObserves
  read_call a0 (Some n) =
      if a0 == 0 then (if n == 0 then Answers 0 0 else take_call n (room_at n)) else bad_descriptor

  abbrev pub write_call : ℕ → Option ℕ → Call
  write_call a0 None = CallObserves
  write_call a0 (Some n) =
      if (a0 == 1) || (a0 == 2) then (if n == 0 then Answers 0 0 else put_call a0 (bytes_at n)) else bad_descriptor

  -- every call but that of the heap needs a number in a0; read and write need one in a2 too
  abbrev pub numbered_call : ℕ → Option ℕ → Option ℕ → Call
  numbered_call v None a2 = CallObserves
  numbered_call v (Some a) a2 =
      if v == exit_number then Exits (a % 256)
      else if v == read_number then read_call a a2
      else if v == write_number then write_call a a2
      else no_call

  -- v0, a0 and a2, where they are numbers, the heap's size, and what a0 asks of the heap
  abbrev pub system_call : Option ℕ → Option ℕ → Option ℕ → ℕ → HeapAsk → Call
  system_call None a0 a2 size ask = CallObserves
  system_call (Some v) a0 a2 size ask = if v == heap_number then heap_call size ask else numbered_call v a0 a2

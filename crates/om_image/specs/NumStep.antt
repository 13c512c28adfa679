-- One step of the numeric machine, and its start. What the instructions do is the Alpha Architecture Handbook's,
-- chapter 4; that traps are precise, where memory is mapped, and the system call are this project's own profile.
use Rattle.std.specs.Prelude.{ℕ, ◌+◌, ◌-◌, ◌*◌, ◌/◌, ◌%◌, ℤ, ◌*ℤ◌, Bool, true, false, ◌&&◌, ◌==◌, nat_le, nat_lt, if◌then◌else◌, List, [], ◌++◌, length, drop, Option, Some, None, slice_get, slice_index, option_and_then}
use Rattle.byteorder.specs.Endian.{little_bytes}
use Rattle.om_alpha.specs.declared.op.AluOp.{AluOp}
use Rattle.om_alpha.specs.declared.op.TrapKind.TheVariants as trap
use Rattle.om_alpha.specs.Arithmetic.{alu_result, overflows, holds}
use Rattle.om_isa.specs.declared.instr.MemOp.{MemOp}
use Rattle.om_isa.specs.declared.instr.BrOp.{BrOp}
use Rattle.om_isa.specs.declared.instr.BrOp.TheVariants.{Br, Bsr, If}
use Rattle.om_isa.specs.declared.instr.Opnd.{Opnd}
use Rattle.om_isa.specs.declared.instr.Opnd.TheVariants.{R, Lit}
use Rattle.om_isa.specs.declared.instr.Access.{Access}
use Rattle.om_isa.specs.declared.instr.Access.TheVariants as access
use Rattle.om_isa.specs.declared.instr.Instr.{Instr}
use Rattle.om_isa.specs.declared.instr.Instr.TheVariants.{Mem, Jump as Jumps, Branch, Alu, Cmov, Misc, Fnop, Halt, Callsys}
use Rattle.om_isa.specs.Registers.{access_of}
use Rattle.om_isa.specs.SystemCall.{Reached, At, BadAddress, Call, Exits, Answers, Puts, Takes, HeapEnd, Resizes, CallObserves, HeapAsk, AsksEnd, AsksOffset, AsksOther, system_call, taken, resized}
use Rattle.om_isa.specs.Effect.{Effect, Nothing, Set, Store, Jump, Stop, Calls, StepObserves}
use Rattle.om_isa.specs.Target.{displaced}
use Rattle.om_isa.specs.Words.{instr_of}
use Rattle.om_image.specs.Layout.{text_base, data_base}
use Rattle.om_image.specs.NumState.{NumState, NumEnd, Exited, Trapped, register_at, with_register, stack_base, stack_top, heap_base}
use Rattle.om_image.specs.NumAccess.{Write, size_bytes, size_of, address_scale, accessed, extended, plus, is_mapped, bytes_from, number_in, written}
use Rattle.om_image.specs.declared.image.Image.{Image}

-- what a step does, over numbers, addresses and writes
abbrev pub NumEffect : Type 0
NumEffect = Effect ℕ ℕ Write

-- ---- the text

-- the address lies in a text of so many words
abbrev pub is_text : ℕ → ℕ → Bool
is_text words a = nat_le text_base a && nat_lt a (text_base + 4 * words)

-- the word at an address
abbrev pub word_at : List ℕ → ℕ → Option ℕ
word_at text a =
    if is_text (length text) a && (a % 4 == 0) then slice_get text ((a - text_base) / 4) else None

-- ---- what one instruction does, where the text has so many words, the data and the heap so many bytes

module _ (words data_size heap_size : ℕ) (registers memory : ℕ → ℕ) (pc : ℕ) where
  abbrev pub reg : ℕ → ℕ
  reg r = register_at registers r

  abbrev pub operand : Opnd → ℕ
  operand (R r) = reg r
  operand (Lit n) = n

  -- the effect of an access of n bytes, or its trap: first the address must be a multiple of n, then the bytes mapped
  abbrev pub at_address : ℕ → ℕ → NumEffect → NumEffect
  at_address n a effect =
      if a % n == 0 then (if is_mapped data_size heap_size a n then effect else Stop trap.Access) else Stop trap.Unaligned

  abbrev pub load_effect : MemOp → ℕ → ℕ → NumEffect
  load_effect op ra a =
      at_address (size_bytes (size_of op)) a (Set ra (extended op (number_in memory a (size_bytes (size_of op)))))

  abbrev pub store_effect : MemOp → ℕ → ℕ → NumEffect
  store_effect op n a =
      at_address (size_bytes (size_of op)) a (Store (a, little_bytes (size_bytes (size_of op)) n))

  -- over the number in Rb; a load into r31 does nothing ("Memory Integer Load/Store Instructions")
  abbrev pub memory_effect : Access → MemOp → ℕ → ℕ → ℤ → NumEffect
  memory_effect access.Address op ra base disp = Set ra (plus base (address_scale op *ℤ disp))
  memory_effect access.Load op ra base disp =
      if ra == 31 then Nothing else load_effect op ra (accessed op (plus base disp))
  memory_effect access.Store op ra base disp = store_effect op (reg ra) (accessed op (plus base disp))

  -- over the number in Rb, whose low two bits are cleared ("Control Instructions", jump)
  abbrev pub jump_effect : ℕ → ℕ → NumEffect
  jump_effect ra base =
      if is_text words (base / 4 * 4) then Jump (Some ra) (base / 4 * 4) else Stop trap.Access

  -- "Control Instructions", branch
  abbrev pub branch_effect : BrOp → ℕ → ℕ → NumEffect
  branch_effect Br ra to = Jump (Some ra) to
  branch_effect Bsr ra to = Jump (Some ra) to
  branch_effect (If c) ra to = if holds c (reg ra) then Jump None to else Nothing

  abbrev pub alu_effect : AluOp → ℕ → ℕ → ℕ → NumEffect
  alu_effect op a b rc = if overflows op a b then Stop trap.Overflow else Set rc (alu_result op a b)

  -- what n bytes at an address give a call, by whether they are mapped
  abbrev pub bytes_when : Bool → ℕ → ℕ → Reached (List ℕ)
  bytes_when true a n = At (bytes_from memory a n)
  bytes_when false a n = BadAddress

  abbrev pub bytes_at : ℕ → ℕ → Reached (List ℕ)
  bytes_at a n = bytes_when (is_mapped data_size heap_size a n) a n

  abbrev pub room_at : ℕ → ℕ → Reached (Unit {0})
  room_at a n = if is_mapped data_size heap_size a n then At tt else BadAddress

  -- what a0 asks of the heap
  abbrev pub heap_ask : ℕ → HeapAsk
  heap_ask n =
      if n == 0 then AsksEnd else if nat_le heap_base n then AsksOffset (n - heap_base) else AsksOther

  -- the call over the numbers in v0, a0, a1 and a2
  abbrev pub call_of : ℕ → ℕ → ℕ → ℕ → Call
  call_of v0 a0 a1 a2 =
      system_call (bytes_at a1) (room_at a1) (Some v0) (Some a0) (Some a2) heap_size (heap_ask a0)

  abbrev pub effect_of : Instr → NumEffect
  effect_of (Mem op ra rb disp) = memory_effect (access_of op) op ra (reg rb) disp
  effect_of (Jumps kind ra rb hint) = jump_effect ra (reg rb)
  effect_of (Branch op ra disp) = branch_effect op ra (displaced pc disp)
  effect_of (Alu op ra rb rc) = alu_effect op (reg ra) (operand rb) rc
  effect_of (Cmov c ra rb rc) = if holds c (reg ra) then Set rc (operand rb) else Nothing
  effect_of (Misc op ra rb) = Nothing
  effect_of Fnop = Nothing
  effect_of Halt = Stop trap.Halt
  effect_of Callsys = Calls (call_of (reg 0) (reg 16) (reg 17) (reg 18)) (reg 17)

-- ---- the state after an effect

module _ (s : NumState) where
  abbrev pub ends : NumEnd → NumState
  ends e = record s { end = Some e }

  abbrev pub next : ℕ
  next = s.pc + 4

  abbrev pub jumps : Option ℕ → ℕ → NumState
  jumps None to = record s { pc = to }
  jumps (Some r) to = record s { pc = to; registers = with_register s.registers r next }

  -- v0 and a3 of a call
  abbrev pub answered : ℕ → ℕ → ℕ → ℕ
  answered v0 a3 = with_register (with_register s.registers 0 v0) 19 a3

  -- bytes on a descriptor
  abbrev pub puts_on : ℕ → List ℕ → NumState
  puts_on descriptor bytes =
      record s {
        out = if descriptor == 1 then s.out ++ bytes else s.out;
        err = if descriptor == 1 then s.err else s.err ++ bytes;
      }

  -- bytes of the input, of which these are left, at an address
  abbrev pub takes_to : ℕ → List ℕ → List ℕ → NumState
  takes_to a1 bytes left = record s { memory = written s.memory (a1, bytes); input = left }

  -- the byte at an address once the heap has another size
  abbrev pub resized_memory : ℕ → ℕ → ℕ
  resized_memory size a =
      if nat_le heap_base a
      then resized 0 s.heap_size size (λ k. s.memory (heap_base + k)) (a - heap_base)
      else s.memory a

-- a call's answers are set, and the next instruction follows
abbrev pub answers : NumState → ℕ → ℕ → NumState
answers s v0 a3 = record s { pc = next s; registers = answered s v0 a3 }

-- what a call does, whose buffer is at a1; on this machine no call observes an address
abbrev pub calls : NumState → Call → ℕ → NumState
calls s (Exits status) a1 = ends s (Exited status)
calls s (Answers v0 a3) a1 = answers s v0 a3
calls s (Puts descriptor bytes) a1 = answers (puts_on s descriptor bytes) (length bytes) 0
calls s (Takes count) a1 =
    answers (takes_to s a1 (taken count s.input) (drop count s.input)) (length (taken count s.input)) 0
calls s (HeapEnd offset) a1 = answers s (heap_base + offset) 0
calls s (Resizes size) a1 = answers (record s { heap_size = size; memory = resized_memory s size }) 0 0
calls s CallObserves a1 = s

abbrev pub after : NumState → NumEffect → NumState
after s Nothing = record s { pc = next s }
after s (Set r n) = record s { pc = next s; registers = with_register s.registers r n }
after s (Store w) = record s { pc = next s; memory = written s.memory w }
after s (Jump link to) = jumps s link to
after s (Stop kind) = ends s (Trapped kind s.pc)
after s (Calls call a1) = calls s call a1
after s StepObserves = s

-- ---- steps

-- how many bytes the data has, with those that are zero
abbrev pub data_size : Image → ℕ
data_size i = length i.bytes + i.bss

-- the instruction at the state's address, if there is one
abbrev pub fetched : Image → NumState → Option Instr
fetched i s = option_and_then instr_of (word_at i.text s.pc)

-- what an instruction does at a state
abbrev pub effect_at : Image → NumState → Instr → NumEffect
effect_at i s instr = effect_of (length i.text) (data_size i) s.heap_size s.registers s.memory s.pc instr

-- outside the text, and where a word is no instruction, it traps
abbrev pub executed : Image → NumState → Option Instr → NumState
executed i s None = ends s (Trapped trap.Access s.pc)
executed i s (Some instr) = after s (effect_at i s instr)

-- a state that has ended stays as it is
abbrev pub step_if : Image → NumState → Option NumEnd → NumState
step_if i s None = executed i s (fetched i s)
step_if i s (Some e) = s

unfoldable pub num_step : Image → NumState → NumState
num_step i s = step_if i s s.end

-- ---- the start

-- r27 is the entry, r29 the GP there, r30 near the stack's end
abbrev pub start_registers : Image → ℕ → ℕ
start_registers i =
    with_register (with_register (with_register (λ r. 0) 27 i.entry) 29 i.gp) 30 (stack_base + stack_top)

abbrev pub start_memory : Image → ℕ → ℕ
start_memory i a = if nat_le data_base a then slice_index i.bytes (a - data_base) else 0

unfoldable pub num_start : Image → List ℕ → NumState
num_start i input =
    record {
      registers = start_registers i;
      pc = i.entry;
      memory = start_memory i;
      heap_size = 0;
      input = input;
      out = [];
      err = [];
      end = None;
    }

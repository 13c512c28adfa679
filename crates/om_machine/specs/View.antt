-- The machine as contracts see it.
use Rattle.std.specs.Prelude.{◌≡◌, ℕ, ◌-◌, ◌/◌, ◌%◌, ◌==◌, ◌&&◌, ℤ, if◌then◌else◌, List, length, map, slice_get, slice_index, Option, Some, None, option_map}
use Rattle.om_alpha.specs.declared.op.AluOp.{AluOp}
use Rattle.om_alpha.specs.declared.op.TrapKind.TheVariants as trap
use Rattle.om_isa.specs.declared.instr.Instr.{Instr}
use Rattle.om_isa.specs.declared.instr.MemOp.{MemOp}
use Rattle.om_isa.specs.declared.instr.BrOp.{BrOp}
use Rattle.om_isa.specs.declared.instr.Access.{Access}
use Rattle.om_isa.specs.Words.{instr_of}
use Rattle.om_isa.specs.SystemCall.{Call}
use Rattle.om_image.specs.declared.image.Image.{Image}
use Rattle.om_image.specs.Layout.{text_base}
use Rattle.om_image.specs.NumState.{NumState, NumEnd, Exited, Trapped, register_at}
use Rattle.om_image.specs.NumStep.{NumEffect, is_text, load_effect, store_effect, memory_effect, jump_effect, branch_effect, alu_effect, call_of, effect_of, ends, after, data_size}
use Rattle.om_machine.specs.Mapped.{Mapped}
use Rattle.om_machine.specs.Memory.{memory_of}
use Rattle.om_machine.specs.declared.machine.Ending.{Ending}
use Rattle.om_machine.specs.declared.machine.Ending.TheVariants as ending

-- the registers, the address of the next instruction, the instructions of the text, the memory, and how the run has
-- ended, if it has
pub record View : Type 0 where
  pub registers : List ℕ
  pub pc : ℕ
  pub code : List Instr
  pub memory : Mapped
  pub end : Option Ending

abbrev pub end_of : Ending → NumEnd
end_of (ending.Exited status) = Exited status
end_of (ending.Trapped kind at) = Trapped kind at

-- the state of the run, with what is left of the input and what was written
abbrev pub state_of : View → List ℕ → List ℕ → List ℕ → NumState
state_of v input out err =
    record {
      registers = slice_index v.registers;
      pc = v.pc;
      memory = memory_of v.memory;
      heap_size = v.memory.heap_size;
      input = input;
      out = out;
      err = err;
      end = option_map end_of v.end;
    }

-- the machine holds this image: its instructions, and as many bytes of data
pub record HasImage (i : Image) (v : View) : Type 0 where
  pub code : map Some v.code ≡ map instr_of i.text
  pub size : length v.memory.bytes ≡ data_size i

-- the instruction at an address
abbrev pub instr_at : List Instr → ℕ → Option Instr
instr_at code a =
    if is_text (length code) a && (a % 4 == 0) then slice_get code ((a - text_base) / 4) else None

-- ---- what instructions do at a view

module _ (v : View) where
  abbrev pub view_register : ℕ → ℕ
  view_register r = register_at (slice_index v.registers) r

  abbrev pub view_load : MemOp → ℕ → ℕ → NumEffect
  view_load op ra a =
      load_effect (length v.code) (length v.memory.bytes) v.memory.heap_size (slice_index v.registers) (memory_of v.memory) v.pc op ra a

  abbrev pub view_store : MemOp → ℕ → ℕ → NumEffect
  view_store op n a =
      store_effect (length v.code) (length v.memory.bytes) v.memory.heap_size (slice_index v.registers) (memory_of v.memory) v.pc op n a

  abbrev pub view_access : Access → MemOp → ℕ → ℕ → ℤ → NumEffect
  view_access access op ra base disp =
      memory_effect (length v.code) (length v.memory.bytes) v.memory.heap_size (slice_index v.registers) (memory_of v.memory) v.pc access op ra base disp

  abbrev pub view_jump : ℕ → ℕ → NumEffect
  view_jump ra base =
      jump_effect (length v.code) (length v.memory.bytes) v.memory.heap_size (slice_index v.registers) (memory_of v.memory) v.pc ra base

  abbrev pub view_branch : BrOp → ℕ → ℕ → NumEffect
  view_branch op ra to =
      branch_effect (length v.code) (length v.memory.bytes) v.memory.heap_size (slice_index v.registers) (memory_of v.memory) v.pc op ra to

  abbrev pub view_alu : AluOp → ℕ → ℕ → ℕ → NumEffect
  view_alu op a b rc =
      alu_effect (length v.code) (length v.memory.bytes) v.memory.heap_size (slice_index v.registers) (memory_of v.memory) v.pc op a b rc

  abbrev pub view_effect : Instr → NumEffect
  view_effect i =
      effect_of (length v.code) (length v.memory.bytes) v.memory.heap_size (slice_index v.registers) (memory_of v.memory) v.pc i

  -- the system call over the numbers in its registers
  abbrev pub view_call : Call
  view_call =
      call_of (length v.code) (length v.memory.bytes) v.memory.heap_size (slice_index v.registers) (memory_of v.memory) v.pc (view_register 0) (view_register 16) (view_register 17) (view_register 18)

-- ---- steps

abbrev pub view_executed : View → NumState → Option Instr → NumState
view_executed v s None = ends s (Trapped trap.Access s.pc)
view_executed v s (Some i) = after s (view_effect v i)

abbrev pub view_step : View → NumState → Option NumEnd → NumState
view_step v s None = view_executed v s (instr_at v.code v.pc)
view_step v s (Some e) = s

-- The state of the numeric machine, and where its memory lies.
--
-- Registers and the program counter are those of the Alpha Architecture Handbook, chapter 3, "Registers"; where
-- text, data, stack and heap lie, and how a run starts and ends, are this project's own profile.
use Rattle.std.specs.Prelude.{ℕ, ◌==◌, ◌&&◌, not, if◌then◌else◌, List, Option}
use Rattle.om_alpha.specs.declared.op.TrapKind.{TrapKind}

-- how a run has ended: with a status, or by a trap at an address
pub data NumEnd : Type 0 where
  Exited : (status : ℕ) → NumEnd
  Trapped : (kind : TrapKind) (address : ℕ) → NumEnd

-- what each register holds, the address of the next instruction, the byte at each address, how many bytes the heap
-- has, what is left of the input, what was written on the descriptors 1 and 2, and how the run has ended, if it has
pub record NumState : Type 0 where
  pub registers : ℕ → ℕ
  pub pc : ℕ
  pub memory : ℕ → ℕ
  pub heap_size : ℕ
  pub input : List ℕ
  pub out : List ℕ
  pub err : List ℕ
  pub end : Option NumEnd

-- where the stack begins, how many bytes it has, and where r30 points at the start, counted from there
abbrev pub stack_base : ℕ
stack_base = 0x11ff00000

abbrev pub stack_size : ℕ
stack_size = 1048576

abbrev pub stack_top : ℕ
stack_top = 1048512

-- where the heap begins
abbrev pub heap_base : ℕ
heap_base = 0x160000000

-- register 31 reads as 0, and writes to it are lost (chapter 3, "Registers")
abbrev pub register_at : (ℕ → ℕ) → ℕ → ℕ
register_at registers r = if r == 31 then 0 else registers r

abbrev pub with_register : (ℕ → ℕ) → ℕ → ℕ → ℕ → ℕ
with_register registers r n x = if (x == r) && not (r == 31) then n else registers x

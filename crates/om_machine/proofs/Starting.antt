-- The start of a run.
use Rattle.std.proofs.Common.{◌≡◌, ℕ, zero, suc, List, [], None, refl, slice_index, replicate}
use Rattle.om_image.specs.declared.image.Image.{Image}
use Rattle.om_image.specs.NumStep.{num_start, start_registers, start_memory}
use Rattle.om_machine.specs.Memory.{memory_of}
use Rattle.om_machine.specs.View.{View, state_of}
use mathlib.Core.Path.{fun_ext}

zero_at : (n k : ℕ) → slice_index (replicate n 0) k ≡ 0
zero_at zero k = refl
zero_at (suc n) zero = refl
zero_at (suc n) (suc k) = zero_at n k

-- 32 registers that hold 0
pub no_registers : (k : ℕ) → slice_index (replicate 32 0) k ≡ 0
no_registers k = zero_at 32 k

-- a machine with the registers and the memory of the start
pub started : (v : View) (i : Image) (input : List ℕ) → ((r : ℕ) → slice_index v.registers r ≡ start_registers i r) → v.pc ≡ i.entry → ((a : ℕ) → memory_of v.memory a ≡ start_memory i a) → v.memory.heap_size ≡ 0 → v.end ≡ None → state_of v input [] [] ≡ num_start i input
unfolding num_start
started v i input registers pc memory size end =
    let r : slice_index v.registers ≡ start_registers i = fun_ext registers in
    let m : memory_of v.memory ≡ start_memory i = fun_ext memory in
    cc (r, m)

-- What loads and stores move (Alpha Architecture Handbook, chapter 4, "Memory Integer Load/Store Instructions").
-- Numbers lie in memory with their lowest byte first.
use Rattle.std.specs.Prelude.{ℕ, zero, suc, ◌+◌, ◌-◌, ◌*◌, ◌/◌, ◌%◌, ◌^◌, ℤ, pos, Bool, ◌&&◌, ◌||◌, nat_le, nat_lt, if◌then◌else◌, List, [], ◌∷◌, length, slice_index}
use Rattle.std.specs.Int.{w64, cast_unsigned}
use Rattle.byteorder.specs.Endian.{little_number}
use Rattle.om_alpha.specs.Arithmetic.{at_width}
use Rattle.om_alpha.specs.declared.op.Width.TheVariants as width
use Rattle.om_alpha.specs.declared.op.Size.{Size}
use Rattle.om_alpha.specs.declared.op.Size.TheVariants.{Byte, Word, Long, Quad}
use Rattle.om_isa.specs.declared.instr.MemOp.{MemOp}
use Rattle.om_isa.specs.declared.instr.MemOp.TheVariants.{Lda, Ldah, Ldbu, LdqU, Ldwu, Stw, Stb, StqU, Ldl, Ldq, Stl, Stq}
use Rattle.om_image.specs.Layout.{data_base}
use Rattle.om_image.specs.NumState.{stack_base, stack_size, heap_base}

-- how many bytes a size is
abbrev pub size_bytes : Size → ℕ
size_bytes Byte = 1
size_bytes Word = 2
size_bytes Long = 4
size_bytes Quad = 8

-- the size of what an operation moves; LDA and LDAH move nothing
abbrev pub size_of : MemOp → Size
size_of Lda = Quad
size_of Ldah = Quad
size_of Ldbu = Byte
size_of LdqU = Quad
size_of Ldwu = Word
size_of Stw = Word
size_of Stb = Byte
size_of StqU = Quad
size_of Ldl = Long
size_of Ldq = Quad
size_of Stl = Long
size_of Stq = Quad

-- what the displacement is multiplied by
abbrev pub address_scale : MemOp → ℤ
address_scale Ldah = pos 65536
address_scale _ = pos 1

-- the address that is moved from or to: LDQ_U and STQ_U clear its low three bits
abbrev pub accessed : MemOp → ℕ → ℕ
accessed LdqU a = a / 8 * 8
accessed StqU a = a / 8 * 8
accessed _ a = a

-- what a load makes of the number in memory: LDL extends its sign, LDBU and LDWU have zeros above it
abbrev pub extended : MemOp → ℕ → ℕ
extended Ldl n = at_width width.Long n
extended _ n = n

-- a number and a signed one, modulo 2 ^ 64
abbrev pub plus : ℕ → ℤ → ℕ
plus n z = (n + cast_unsigned w64 z) % 2 ^ 64

-- ---- memory

-- n bytes from an address on lie in size bytes from base on
abbrev pub lies_in : ℕ → ℕ → ℕ → ℕ → Bool
lies_in base size address n = nat_le base address && nat_le (address + n) (base + size)

-- n bytes from an address on lie wholly in the data, in the stack or in the heap, of which data and heap have these sizes
abbrev pub is_mapped : ℕ → ℕ → ℕ → ℕ → Bool
is_mapped data_size heap_size address n =
    lies_in data_base data_size address n || lies_in stack_base stack_size address n || lies_in heap_base heap_size address n

-- n bytes from an address on
abbrev pub bytes_from : (ℕ → ℕ) → ℕ → ℕ → List ℕ
bytes_from memory address zero = []
bytes_from memory address (suc n) = memory address ∷ bytes_from memory (address + 1) n

-- the number in n bytes from an address on
abbrev pub number_in : (ℕ → ℕ) → ℕ → ℕ → ℕ
number_in memory address n = little_number n (bytes_from memory address n)

-- an address, and the bytes that are written from there on
abbrev pub Write : Type 0
Write = ℕ × List ℕ

abbrev pub written : (ℕ → ℕ) → Write → ℕ → ℕ
written memory w a = if nat_le w.0 a && nat_lt a (w.0 + length w.1) then slice_index w.1 (a - w.0) else memory a

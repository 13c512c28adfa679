-- Sections of an object, their words, and the pairs and slots that relocations name.
use Rattle.std.specs.Prelude.{ℕ, ◌+◌, ◌%◌, ◌^◌, ℤ, pos, ◌*ℤ◌, ◌+ℤ◌, Bool, false, ◌&&◌, ◌==◌, nat_lt, nat_le, if◌then◌else◌, length, find, Option, Some, None, option_and_then, option_map}
use Rattle.std.specs.Int.{w32, w64, cast_signed, cast_unsigned}
use Rattle.om_fields.specs.Places.{number_at, minus_64}
use Rattle.om_isa.specs.declared.instr.Instr.{Instr}
use Rattle.om_isa.specs.declared.instr.Instr.TheVariants.{Mem, Branch}
use Rattle.om_isa.specs.declared.instr.MemOp.TheVariants.{Lda, Ldah, Ldq}
use Rattle.om_isa.specs.Words.{instr_of}
use Rattle.om_reloc.specs.declared.reloc.Reloc.{Reloc}
use Rattle.om_object.specs.declared.parts.Section.{Section}
use Rattle.om_object.specs.declared.parts.Parts.{Parts}

abbrev pub section_of : Parts → ℕ → Option Section
section_of p n = find (λ s. s.number == n) p.sections

-- the offset of a relocation's field in its section
abbrev pub offset_of : Section → Reloc → ℕ
offset_of s r = minus_64 r.place s.addr

-- an offset of a section's word
abbrev pub word_in : Option Section → ℕ → Bool
word_in None off = false
word_in (Some t) off = (off % 4 == 0) && nat_lt off t.size

-- an offset of a word of the text
abbrev pub is_word : Parts → ℕ → Bool
is_word p off = word_in (section_of p 1) off

-- the instruction at an offset of a section
abbrev pub instr_in : Section → ℕ → Option Instr
instr_in s off = if nat_le (off + 4) (length s.bytes) then instr_of (number_at s.bytes off 4) else None

abbrev pub ldah_disp : Option Instr → Option ℤ
ldah_disp (Some (Mem Ldah ra rb disp)) = Some disp
ldah_disp _ = None

abbrev pub lda_disp : Option Instr → Option ℤ
lda_disp (Some (Mem Lda ra rb disp)) = Some disp
lda_disp _ = None

abbrev pub ldq_disp : Option Instr → Option ℤ
ldq_disp (Some (Mem Ldq ra rb disp)) = Some disp
ldq_disp _ = None

abbrev pub branch_disp : Option Instr → Option ℤ
branch_disp (Some (Branch op ra disp)) = Some disp
branch_disp _ = None

-- an offset moved by a signed distance, modulo 2 ^ 64
abbrev pub moved : ℕ → ℤ → ℕ
moved off d = (off + cast_unsigned w64 d) % 2 ^ 64

-- ---- GPDISP: from its LDAH to its LDA

abbrev pub lda_offset : Section → Reloc → ℕ
lda_offset s r = moved (offset_of s r) (cast_signed w32 r.index)

-- the offset in the text of the base place of a pair of displacements
abbrev pub base_by : Parts → Section → ℤ → ℤ → ℕ
base_by p s hi lo = minus_64 (minus_64 p.gp (cast_unsigned w64 ((pos 65536 *ℤ hi) +ℤ lo))) s.addr

abbrev pub base_offset : Parts → Section → Reloc → Option ℕ
base_offset p s r =
    option_and_then (λ hi. option_map (λ lo. base_by p s hi lo) (lda_disp (instr_in s (lda_offset s r)))) (ldah_disp (instr_in s (offset_of s r)))

-- ---- LITERAL: the slot of `.lita` that its LDQ names, as an offset

abbrev pub slot_in : Parts → Option Section → ℤ → Option ℕ
slot_in p None disp = None
slot_in p (Some lita) disp = if_slot (minus_64 (moved p.gp disp) lita.addr)
  where
    if_slot : ℕ → Option ℕ
    if_slot off = if (off % 8 == 0) && nat_le (off + 8) lita.size then Some off else None

abbrev pub slot_of : Parts → Section → Reloc → Option ℕ
slot_of p s r = option_and_then (slot_in p (section_of p 13)) (ldq_disp (instr_in s (offset_of s r)))

-- ---- branches

-- the offset to which a branch at an offset goes by itself
abbrev pub own_target : ℕ → ℤ → ℕ
own_target off disp = moved (off + 4) (pos 4 *ℤ disp)

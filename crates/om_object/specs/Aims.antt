-- What fields, slots and branches of an object aim at.
use Rattle.std.specs.Prelude.{ℕ, ℤ, pos, ◌*ℤ◌, Bool, true, false, ◌&&◌, ◌==◌, if◌then◌else◌, find, Option, Some, None, option_map, option_and_then}
use Rattle.std.specs.Int.{w32, w64, cast_signed, cast_unsigned}
use Rattle.om_fields.specs.Places.{number_at, minus_64}
use Rattle.om_reloc.specs.declared.reloc.Reloc.{Reloc}
use Rattle.om_reloc.specs.declared.reloc.RelocKind.{RelocKind}
use Rattle.om_reloc.specs.declared.reloc.RelocKind.TheVariants.{RefQuad}
use Rattle.om_object.specs.declared.parts.Section.{Section}
use Rattle.om_object.specs.declared.parts.Parts.{Parts}
use Rattle.om_object.specs.Words.{section_of, offset_of, instr_in, branch_disp, moved, slot_of}

-- a number, an offset in a section, or a symbol with an addend
pub data Aim : Type 0 where
  Number : (n : ℕ) → Aim
  Inside : (section offset : ℕ) → Aim
  Symbol : (index addend : ℕ) → Aim

abbrev pub is_quad : RelocKind → Bool
is_quad RefQuad = true
is_quad _ = false

abbrev pub inside : ℕ → ℕ → Option Section → Aim
inside n address None = Inside n address
inside n address (Some s) = Inside n (minus_64 address s.addr)

-- an address in the section of a number, of which 14 is the absolute one
abbrev pub local_aim : Parts → ℕ → ℕ → Aim
local_aim p n address = if n == 14 then Number address else inside n address (section_of p n)

-- a REFQUAD's 64 bits
abbrev pub quad_aim : Parts → Section → Reloc → Aim
quad_aim p s r =
    if r.external then Symbol r.index (number_at s.bytes (offset_of s r) 8) else local_aim p r.index (number_at s.bytes (offset_of s r) 8)

-- a GPREL32's 32 signed bits
abbrev pub gp_value : Section → Reloc → ℤ
gp_value s r = cast_signed w32 (number_at s.bytes (offset_of s r) 4)

abbrev pub gp_aim : Parts → Section → Reloc → Aim
gp_aim p s r =
    if r.external then Symbol r.index (cast_unsigned w64 (gp_value s r)) else local_aim p r.index (moved p.gp (gp_value s r))

-- a slot of `.lita`: its REFQUAD's aim, or the number that stands there
abbrev pub slot_aim : Parts → Section → ℕ → Aim
slot_aim p lita off = by_entry (find (λ r. is_quad r.kind && (offset_of lita r == off)) lita.relocs)
  where
    by_entry : Option Reloc → Aim
    by_entry (Some r) = quad_aim p lita r
    by_entry None = Number (number_at lita.bytes off 8)

abbrev pub literal_aim : Parts → Section → Reloc → Option Aim
literal_aim p s r = option_and_then (λ lita. option_map (slot_aim p lita) (slot_of p s r)) (section_of p 13)

-- an external BRADDR: the symbol plus 4 times the displacement
abbrev pub branch_aim : Section → Reloc → Option Aim
branch_aim s r = option_map (λ disp. Symbol r.index (cast_unsigned w64 (pos 4 *ℤ disp))) (branch_disp (instr_in s (offset_of s r)))

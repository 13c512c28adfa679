-- Worked rows of parts that are no object, each for the least rule that they break.
use Rattle.std.specs.Prelude.{◌≡◌, ℕ, List, [], ◌∷◌, codes, Some, None, refl, false}
use Rattle.om_isa.specs.Words.{instr_of, memory_at, branch_at, jump_at, misc_at, move_at, operate_at, operand_at, fixed_at}
use Rattle.om_fields.specs.Sections.{number_of_name, is_passed_over}
use Rattle.om_symtab.specs.Classes.{section_of_class}
use Rattle.om_symtab.specs.declared.symbol.ExtSym.{ExtSym}
use Rattle.om_reloc.specs.declared.reloc.RelocKind.{RelocKind}
use Rattle.om_reloc.specs.declared.reloc.RelocKind.TheVariants.{RefLong, RefQuad, Other}
use Rattle.om_object.specs.declared.parts.Section.{Section}
use Rattle.om_object.specs.declared.parts.Parts.{Parts}
use Rattle.om_object.specs.Rules.{four_bytes, first_broken, made_rules}

-- a section of number, address and size, without relocations, that holds the system call
abbrev pub section : ℕ → ℕ → ℕ → Section
section number addr size = record { number = number; addr = addr; size = size; bytes = 0x83 ∷ 0 ∷ 0 ∷ 0 ∷ []; relocs = [] }

-- one symbol of a text at 0
abbrev pub symbol : List ℕ → ℕ → ExtSym
symbol name class = record { name = name; value = 0; class = class }

abbrev pub start : ExtSym
start = symbol (codes "__start") 1

abbrev pub parts : List Section → List ExtSym → Parts
parts sections symbols = record { gp = 0; sections = sections; symbols = symbols }

-- a `.data` of eight bytes at 16, with one relocation
abbrev pub words : ℕ → RelocKind → Section
words place kind = record {
  number = 3;
  addr = 16;
  size = 8;
  bytes = 0 ∷ 0 ∷ 0 ∷ 0 ∷ 0 ∷ 0 ∷ 0 ∷ 0 ∷ [];
  relocs = record { place = place; index = 1; kind = kind; external = false } ∷ [];
}

pub row_kept : first_broken made_rules (parts (section 1 0 4 ∷ []) (start ∷ [])) ≡ None
unfolding four_bytes section_of_class number_of_name is_passed_over instr_of memory_at branch_at jump_at misc_at move_at operate_at operand_at fixed_at
row_kept = refl

-- four bytes for eight
pub row_4 : first_broken made_rules (parts (section 1 0 8 ∷ []) (start ∷ [])) ≡ Some 4
row_4 = refl

-- bytes in `.bss`
pub row_4_bss : first_broken made_rules (parts (section 6 0 4 ∷ []) []) ≡ Some 4
row_4_bss = refl

-- 14 is the number of no section
pub row_6 : first_broken made_rules (parts (section 14 0 4 ∷ []) []) ≡ Some 6
row_6 = refl

pub row_6_twice : first_broken made_rules (parts (section 1 0 4 ∷ section 1 16 4 ∷ []) []) ≡ Some 6
row_6_twice = refl

pub row_6_shared : first_broken made_rules (parts (section 1 0 4 ∷ section 3 0 4 ∷ []) []) ≡ Some 6
row_6_shared = refl

-- a zero in a name
pub row_8 : first_broken made_rules (parts (section 1 0 4 ∷ []) (symbol (0x61 ∷ 0 ∷ []) 1 ∷ [])) ≡ Some 8
row_8 = refl

pub row_8_class : first_broken made_rules (parts (section 1 0 4 ∷ []) (symbol (codes "a") 32 ∷ [])) ≡ Some 8
row_8_class = refl

-- a field that ends past its section
pub row_9 : first_broken made_rules (parts (section 1 0 4 ∷ words 20 RefQuad ∷ []) (start ∷ [])) ≡ Some 9
unfolding four_bytes section_of_class
row_9 = refl

pub row_22 : first_broken made_rules (parts (section 1 0 4 ∷ words 16 RefLong ∷ []) (start ∷ [])) ≡ Some 22
unfolding four_bytes section_of_class number_of_name is_passed_over instr_of memory_at branch_at jump_at misc_at move_at operate_at operand_at fixed_at
row_22 = refl

pub row_22_other : first_broken made_rules (parts (section 1 0 4 ∷ words 16 (Other 9) ∷ []) (start ∷ [])) ≡ Some 22
unfolding four_bytes section_of_class number_of_name is_passed_over instr_of memory_at branch_at jump_at misc_at move_at operate_at operand_at fixed_at
row_22_other = refl

-- a text at 8
pub row_25 : first_broken made_rules (parts (section 1 8 4 ∷ []) []) ≡ Some 25
unfolding four_bytes section_of_class number_of_name is_passed_over instr_of memory_at branch_at jump_at misc_at move_at operate_at operand_at fixed_at
row_25 = refl

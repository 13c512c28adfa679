-- Worked rows of objects.
use Rattle.std.specs.Prelude.{◌≡◌, [], ◌∷◌, codes, take, drop, Some, None, refl, slice_set}
use Rattle.om_isa.specs.Words.{instr_of, memory_at, branch_at, jump_at, misc_at, move_at, operate_at, operand_at, fixed_at}
use Rattle.om_fields.specs.Rules.{first_fault}
use Rattle.om_fields.specs.Sections.{number_of_name, is_passed_over}
use Rattle.om_symtab.specs.Classes.{section_of_class}
use Rattle.om_object.specs.Rules.{four_bytes}
use Rattle.om_fields.specs.RowOne.{row_one}
use Rattle.om_object.specs.Rules.{first_broken, made_rules}
use Rattle.om_object.specs.File.{parts_of, object_rules}

pub row_parts : parts_of row_one ≡ record {
  gp = 0;
  sections = record { number = 1; addr = 0; size = 12; bytes = take 12 (drop 176 row_one); relocs = [] } ∷ [];
  symbols = record { name = codes "__start"; value = 0; class = 1 } ∷ [];
}
unfolding four_bytes section_of_class number_of_name
row_parts = refl

pub row_accepted : first_fault object_rules row_one ≡ None
unfolding four_bytes section_of_class number_of_name is_passed_over instr_of memory_at branch_at jump_at misc_at move_at operate_at operand_at fixed_at
row_accepted = refl

pub row_made : first_broken made_rules (parts_of row_one) ≡ None
unfolding four_bytes section_of_class number_of_name is_passed_over instr_of memory_at branch_at jump_at misc_at move_at operate_at operand_at fixed_at
row_made = refl

-- a floating add
pub row_21 : first_fault object_rules (slice_set (slice_set (slice_set (slice_set row_one 180 0) 181 0x14) 182 0) 183 0x58) ≡ Some (21, 180)
unfolding four_bytes section_of_class number_of_name is_passed_over instr_of memory_at branch_at jump_at misc_at move_at operate_at operand_at fixed_at
row_21 = refl

pub row_symbol_2 : first_fault object_rules (slice_set row_one 336 2) ≡ Some (12, 336)
unfolding four_bytes section_of_class number_of_name
row_symbol_2 = refl

pub row_symbol_12 : first_fault object_rules (slice_set row_one 336 12) ≡ Some (12, 336)
unfolding four_bytes section_of_class number_of_name
row_symbol_12 = refl

pub row_25 : first_fault object_rules (slice_set (slice_set row_one 120 8) 336 8) ≡ Some (25, 104)
unfolding four_bytes section_of_class number_of_name is_passed_over instr_of memory_at branch_at jump_at misc_at move_at operate_at operand_at fixed_at
row_25 = refl

pub row_5 : first_fault object_rules (slice_set (slice_set (slice_set row_one 144 0x70) 145 1) 160 1) ≡ Some (5, 104)
unfolding four_bytes section_of_class number_of_name
row_5 = refl

pub row_5_many : first_fault object_rules (slice_set (slice_set row_one 160 0xff) 161 0xff) ≡ Some (5, 104)
unfolding four_bytes section_of_class number_of_name
row_5_many = refl

-- the entry at 0 reads as an IGNORE
pub row_ignore : first_fault object_rules (slice_set row_one 160 1) ≡ None
unfolding four_bytes section_of_class number_of_name is_passed_over instr_of memory_at branch_at jump_at misc_at move_at operate_at operand_at fixed_at
row_ignore = refl

pub row_16 : first_fault object_rules (slice_set (slice_set (slice_set (slice_set row_one 180 2) 181 0) 182 0xe0) 183 0xc3) ≡ Some (16, 180)
unfolding four_bytes section_of_class number_of_name is_passed_over instr_of memory_at branch_at jump_at misc_at move_at operate_at operand_at fixed_at
row_16 = refl

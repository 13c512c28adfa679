-- Worked rows of names and programs.
use Rattle.std.specs.Prelude.{◌≡◌, ℕ, pos, negsuc, List, [], ◌∷◌, codes, map, Some, None, refl, true, false}
use Rattle.om_isa.specs.Words.{instr_of, memory_at, branch_at, jump_at, misc_at, move_at, operate_at, operand_at, fixed_at}
use Rattle.om_value.specs.declared.value.Region.TheVariants.{Common}
use Rattle.om_value.specs.declared.value.Target.TheVariants.{Ptr}
use Rattle.om_prog.specs.declared.item.Role.TheVariants.{Plain, Lit, To}
use Rattle.om_prog.specs.Rows.{exit_seven}
use Rattle.om_reloc.specs.declared.reloc.Reloc.{Reloc}
use Rattle.om_reloc.specs.declared.reloc.RelocKind.{RelocKind}
use Rattle.om_reloc.specs.declared.reloc.RelocKind.TheVariants.{RefQuad, Literal, BrAddr}
use Rattle.om_fields.specs.Sections.{number_of_name, is_passed_over}
use Rattle.om_symtab.specs.Classes.{section_of_class}
use Rattle.om_symtab.specs.declared.symbol.ExtSym.{ExtSym}
use Rattle.om_fields.specs.RowOne.{row_one}
use Rattle.om_object.specs.declared.parts.Section.{Section}
use Rattle.om_object.specs.declared.parts.Parts.{Parts}
use Rattle.om_object.specs.File.{parts_of}
use Rattle.om_object.specs.Rules.{four_bytes, first_broken, made_rules}
use Rattle.om_resolve.specs.declared.causes.ResolveErr.TheVariants.{Duplicate, Unresolved, Rule, Limit, TooFar}
use Rattle.om_resolve.specs.declared.causes.Which.TheVariants.{Text, ObjText, Data}
use Rattle.om_resolve.specs.Names.{names_of, number_of, symbols_seen, definition_of, definition_at, meaning_of}
use Rattle.om_resolve.specs.Causes.{duplicate, no_start, found_in_section, found_in_object, found_in, scanned, many_objects, long_text, long_object, much_data, many_symbols, name_causes, limit_causes, first_cause}
use Rattle.om_resolve.specs.Program.{program_of, roles_at, roles_in, role_at, text_of, fields_of, region_at, regions_of}

-- the file of three words
abbrev pub one : Parts
one = parts_of row_one

-- a symbol of a name, at a value, of a class
abbrev pub symbol : List ℕ → ℕ → ℕ → ExtSym
symbol name value class = record { name = name; value = value; class = class }

abbrev pub start : ExtSym
start = symbol (codes "__start") 0 1

-- a relocation at an address that is external
abbrev pub external : ℕ → ℕ → RelocKind → Reloc
external place index kind = record { place = place; index = index; kind = kind; external = true }

-- one that is not
abbrev pub local : ℕ → ℕ → RelocKind → Reloc
local place index kind = record { place = place; index = index; kind = kind; external = false }

abbrev pub section : ℕ → ℕ → ℕ → List ℕ → List Reloc → Section
section number addr size bytes relocs = record { number = number; addr = addr; size = size; bytes = bytes; relocs = relocs }

abbrev pub callsys : List ℕ
callsys = 0x83 ∷ 0 ∷ 0 ∷ 0 ∷ []

-- the system call at `__start`, with these sections and symbols besides
abbrev pub calls : List Section → List ExtSym → Parts
calls sections symbols = record { gp = 32768; sections = section 1 0 4 callsys [] ∷ sections; symbols = start ∷ symbols }

-- symbols alone
abbrev pub only : List ExtSym → Parts
only symbols = record { gp = 0; sections = []; symbols = symbols }

-- three words with an entry have no cause against them
pub row_cause : first_cause (one ∷ []) ≡ None
unfolding four_bytes section_of_class number_of_name is_passed_over instr_of memory_at branch_at jump_at misc_at move_at operate_at operand_at fixed_at names_of number_of symbols_seen definition_of definition_at meaning_of duplicate no_start found_in_section found_in_object found_in scanned many_objects long_text long_object much_data many_symbols name_causes limit_causes first_cause program_of roles_at roles_in role_at text_of fields_of region_at regions_of
row_cause = refl

-- and are the program of those words
pub row_program : program_of (one ∷ []) ≡ exit_seven
unfolding four_bytes section_of_class number_of_name is_passed_over instr_of memory_at branch_at jump_at misc_at move_at operate_at operand_at fixed_at names_of number_of symbols_seen definition_of definition_at meaning_of duplicate no_start found_in_section found_in_object found_in scanned many_objects long_text long_object much_data many_symbols name_causes limit_causes first_cause program_of roles_at roles_in role_at text_of fields_of region_at regions_of
row_program = refl

-- the same object twice
pub row_twice : first_cause (one ∷ one ∷ []) ≡ Some (Duplicate (codes "__start") 0 1)
unfolding four_bytes section_of_class number_of_name is_passed_over instr_of memory_at branch_at jump_at misc_at move_at operate_at operand_at fixed_at names_of number_of symbols_seen definition_of definition_at meaning_of duplicate no_start found_in_section found_in_object found_in scanned many_objects long_text long_object much_data many_symbols name_causes limit_causes first_cause program_of roles_at roles_in role_at text_of fields_of region_at regions_of
row_twice = refl

-- one object that defines a name twice
pub row_itself : first_cause (calls [] (start ∷ []) ∷ []) ≡ Some (Duplicate (codes "__start") 0 0)
unfolding four_bytes section_of_class number_of_name is_passed_over instr_of memory_at branch_at jump_at misc_at move_at operate_at operand_at fixed_at names_of number_of symbols_seen definition_of definition_at meaning_of duplicate no_start found_in_section found_in_object found_in scanned many_objects long_text long_object much_data many_symbols name_causes limit_causes first_cause program_of roles_at roles_in role_at text_of fields_of region_at regions_of
row_itself = refl

-- a field in data of the entry's address plus 2
abbrev pub odd_target : Parts
odd_target = calls (section 3 16 8 (2 ∷ 0 ∷ 0 ∷ 0 ∷ 0 ∷ 0 ∷ 0 ∷ 0 ∷ []) (external 16 0 RefQuad ∷ []) ∷ []) []

-- it is no word
pub row_27 : first_cause (odd_target ∷ []) ≡ Some (Rule 0 27 16)
unfolding four_bytes section_of_class number_of_name is_passed_over instr_of memory_at branch_at jump_at misc_at move_at operate_at operand_at fixed_at names_of number_of symbols_seen definition_of definition_at meaning_of duplicate no_start found_in_section found_in_object found_in scanned many_objects long_text long_object much_data many_symbols name_causes limit_causes first_cause program_of roles_at roles_in role_at text_of fields_of region_at regions_of
row_27 = refl

-- a load of a common's address
abbrev pub with_common : ℕ → Parts
with_common size = record {
  gp = 32784;
  sections =
      section 1 0 8 (0 ∷ 0x80 ∷ 0x3d ∷ 0xa6 ∷ 0x83 ∷ 0 ∷ 0 ∷ 0 ∷ []) (local 0 13 Literal ∷ [])
      ∷ section 13 16 8 (0 ∷ 0 ∷ 0 ∷ 0 ∷ 0 ∷ 0 ∷ 0 ∷ 0 ∷ []) (external 16 1 RefQuad ∷ []) ∷ [];
  symbols = start ∷ symbol (codes "buf") size 17 ∷ [];
}

abbrev pub larger : Parts
larger = only (symbol (codes "buf") 20 18 ∷ [])

-- it is an object
pub row_made : first_broken made_rules (with_common 8) ≡ None
unfolding four_bytes section_of_class number_of_name is_passed_over instr_of memory_at branch_at jump_at misc_at move_at operate_at operand_at fixed_at names_of number_of symbols_seen definition_of definition_at meaning_of duplicate no_start found_in_section found_in_object found_in scanned many_objects long_text long_object much_data many_symbols name_causes limit_causes first_cause program_of roles_at roles_in role_at text_of fields_of region_at regions_of
row_made = refl

-- names in first-seen order
pub row_names : names_of (with_common 8 ∷ larger ∷ []) ≡ codes "__start" ∷ codes "buf" ∷ []
unfolding four_bytes section_of_class number_of_name is_passed_over instr_of memory_at branch_at jump_at misc_at move_at operate_at operand_at fixed_at names_of number_of symbols_seen definition_of definition_at meaning_of duplicate no_start found_in_section found_in_object found_in scanned many_objects long_text long_object much_data many_symbols name_causes limit_causes first_cause program_of roles_at roles_in role_at text_of fields_of region_at regions_of
row_names = refl

-- the larger common stands, rounded up
pub row_regions : (program_of (with_common 8 ∷ larger ∷ [])).regions ≡ record { region = Common 1; size = 24; zero = true; bytes = []; fields = [] } ∷ []
unfolding four_bytes section_of_class number_of_name is_passed_over instr_of memory_at branch_at jump_at misc_at move_at operate_at operand_at fixed_at names_of number_of symbols_seen definition_of definition_at meaning_of duplicate no_start found_in_section found_in_object found_in scanned many_objects long_text long_object much_data many_symbols name_causes limit_causes first_cause program_of roles_at roles_in role_at text_of fields_of region_at regions_of
row_regions = refl

-- and its address is what is loaded
pub row_literal : map (λ i. i.role) (text_of (with_common 8 ∷ larger ∷ []) 0) ≡ Lit (Ptr (Common 1) 0) ∷ Plain ∷ []
unfolding four_bytes section_of_class number_of_name is_passed_over instr_of memory_at branch_at jump_at misc_at move_at operate_at operand_at fixed_at names_of number_of symbols_seen definition_of definition_at meaning_of duplicate no_start found_in_section found_in_object found_in scanned many_objects long_text long_object much_data many_symbols name_causes limit_causes first_cause program_of roles_at roles_in role_at text_of fields_of region_at regions_of
row_literal = refl

-- the same without anything that defines the name
abbrev pub undefined : Parts
undefined = record (with_common 8) { symbols = start ∷ symbol (codes "foo") 0 6 ∷ [] }

-- a slot references it
pub row_unresolved : first_cause (undefined ∷ []) ≡ Some (Unresolved (codes "foo") 0)
unfolding four_bytes section_of_class number_of_name is_passed_over instr_of memory_at branch_at jump_at misc_at move_at operate_at operand_at fixed_at names_of number_of symbols_seen definition_of definition_at meaning_of duplicate no_start found_in_section found_in_object found_in scanned many_objects long_text long_object much_data many_symbols name_causes limit_causes first_cause program_of roles_at roles_in role_at text_of fields_of region_at regions_of
row_unresolved = refl

-- a name that nothing references is none that is wanted
pub row_later : first_cause (calls [] [] ∷ record undefined { symbols = symbol (codes "bar") 0 6 ∷ symbol (codes "foo") 0 6 ∷ [] } ∷ []) ≡ Some (Unresolved (codes "foo") 1)
unfolding four_bytes section_of_class number_of_name is_passed_over instr_of memory_at branch_at jump_at misc_at move_at operate_at operand_at fixed_at names_of number_of symbols_seen definition_of definition_at meaning_of duplicate no_start found_in_section found_in_object found_in scanned many_objects long_text long_object much_data many_symbols name_causes limit_causes first_cause program_of roles_at roles_in role_at text_of fields_of region_at regions_of
row_later = refl

-- nothing says where to start
pub row_no_start : first_cause (larger ∷ []) ≡ Some (Unresolved (codes "__start") 0)
unfolding four_bytes section_of_class number_of_name is_passed_over instr_of memory_at branch_at jump_at misc_at move_at operate_at operand_at fixed_at names_of number_of symbols_seen definition_of definition_at meaning_of duplicate no_start found_in_section found_in_object found_in scanned many_objects long_text long_object much_data many_symbols name_causes limit_causes first_cause program_of roles_at roles_in role_at text_of fields_of region_at regions_of
row_no_start = refl

-- a common is not in a text
pub row_start_common : first_cause (larger ∷ only (symbol (codes "__start") 8 17 ∷ []) ∷ []) ≡ Some (Unresolved (codes "__start") 0)
unfolding four_bytes section_of_class number_of_name is_passed_over instr_of memory_at branch_at jump_at misc_at move_at operate_at operand_at fixed_at names_of number_of symbols_seen definition_of definition_at meaning_of duplicate no_start found_in_section found_in_object found_in scanned many_objects long_text long_object much_data many_symbols name_causes limit_causes first_cause program_of roles_at roles_in role_at text_of fields_of region_at regions_of
row_start_common = refl

-- nor is a number
pub row_start_number : first_cause (larger ∷ only (symbol (codes "__start") 8 5 ∷ []) ∷ []) ≡ Some (Unresolved (codes "__start") 1)
unfolding four_bytes section_of_class number_of_name is_passed_over instr_of memory_at branch_at jump_at misc_at move_at operate_at operand_at fixed_at names_of number_of symbols_seen definition_of definition_at meaning_of duplicate no_start found_in_section found_in_object found_in scanned many_objects long_text long_object much_data many_symbols name_causes limit_causes first_cause program_of roles_at roles_in role_at text_of fields_of region_at regions_of
row_start_number = refl

-- nor is data
pub row_start_data : first_cause (larger ∷ record { gp = 0; sections = section 6 0 8 [] [] ∷ []; symbols = symbol (codes "__start") 0 3 ∷ [] } ∷ []) ≡ Some (Unresolved (codes "__start") 1)
unfolding four_bytes section_of_class number_of_name is_passed_over instr_of memory_at branch_at jump_at misc_at move_at operate_at operand_at fixed_at names_of number_of symbols_seen definition_of definition_at meaning_of duplicate no_start found_in_section found_in_object found_in scanned many_objects long_text long_object much_data many_symbols name_causes limit_causes first_cause program_of roles_at roles_in role_at text_of fields_of region_at regions_of
row_start_data = refl

-- a branch to a symbol of another object, with a displacement
abbrev pub branches : ℕ → Parts
branches disp = record {
  gp = 0;
  sections = section 1 0 8 (disp ∷ 0 ∷ 0x40 ∷ 0xd3 ∷ 0x83 ∷ 0 ∷ 0 ∷ 0 ∷ []) (external 0 1 BrAddr ∷ []) ∷ [];
  symbols = start ∷ symbol (codes "f") 0 6 ∷ [];
}

-- a text of a size, of which the bytes do not count here, that begins with `f`
abbrev pub far : ℕ → Parts
far size = record { gp = 0; sections = section 1 0 size callsys [] ∷ []; symbols = symbol (codes "f") 0 1 ∷ [] }

-- past the end is no word
pub row_28 : first_cause (branches 1 ∷ far 4 ∷ []) ≡ Some (Rule 0 28 0)
unfolding four_bytes section_of_class number_of_name is_passed_over instr_of memory_at branch_at jump_at misc_at move_at operate_at operand_at fixed_at names_of number_of symbols_seen definition_of definition_at meaning_of duplicate no_start found_in_section found_in_object found_in scanned many_objects long_text long_object much_data many_symbols name_causes limit_causes first_cause program_of roles_at roles_in role_at text_of fields_of region_at regions_of
row_28 = refl

-- the symbol plus the displacement
pub row_bound : map (λ i. i.role) (text_of (branches 0 ∷ far 4 ∷ []) 0) ≡ To (record { obj = 1; off = 0 }) ∷ Plain ∷ []
unfolding four_bytes section_of_class number_of_name is_passed_over instr_of memory_at branch_at jump_at misc_at move_at operate_at operand_at fixed_at names_of number_of symbols_seen definition_of definition_at meaning_of duplicate no_start found_in_section found_in_object found_in scanned many_objects long_text long_object much_data many_symbols name_causes limit_causes first_cause program_of roles_at roles_in role_at text_of fields_of region_at regions_of
row_bound = refl

-- text that is passed over, and its symbol
abbrev pub between : ℕ → Parts
between size = record { gp = 0; sections = section 1 0 size callsys [] ∷ []; symbols = [] }

-- 1,048,575 words behind the next word reach
pub row_reach : first_cause (branches 0 ∷ between 4194296 ∷ far 4 ∷ []) ≡ None
unfolding four_bytes section_of_class number_of_name is_passed_over instr_of memory_at branch_at jump_at misc_at move_at operate_at operand_at fixed_at names_of number_of symbols_seen definition_of definition_at meaning_of duplicate no_start found_in_section found_in_object found_in scanned many_objects long_text long_object much_data many_symbols name_causes limit_causes first_cause program_of roles_at roles_in role_at text_of fields_of region_at regions_of
row_reach = refl

-- one more does not
pub row_too_far : first_cause (branches 0 ∷ between 4194300 ∷ far 4 ∷ []) ≡ Some (TooFar (record { obj = 0; off = 0 }) (pos 1048576))
unfolding four_bytes section_of_class number_of_name is_passed_over instr_of memory_at branch_at jump_at misc_at move_at operate_at operand_at fixed_at names_of number_of symbols_seen definition_of definition_at meaning_of duplicate no_start found_in_section found_in_object found_in scanned many_objects long_text long_object much_data many_symbols name_causes limit_causes first_cause program_of roles_at roles_in role_at text_of fields_of region_at regions_of
row_too_far = refl

-- and as many back
pub row_back : first_cause (far 4 ∷ between 4194296 ∷ branches 0 ∷ []) ≡ None
unfolding four_bytes section_of_class number_of_name is_passed_over instr_of memory_at branch_at jump_at misc_at move_at operate_at operand_at fixed_at names_of number_of symbols_seen definition_of definition_at meaning_of duplicate no_start found_in_section found_in_object found_in scanned many_objects long_text long_object much_data many_symbols name_causes limit_causes first_cause program_of roles_at roles_in role_at text_of fields_of region_at regions_of
row_back = refl

-- one more does not either
pub row_too_far_back : first_cause (far 4 ∷ between 4194300 ∷ branches 0 ∷ []) ≡ Some (TooFar (record { obj = 2; off = 0 }) (negsuc 1048576))
unfolding four_bytes section_of_class number_of_name is_passed_over instr_of memory_at branch_at jump_at misc_at move_at operate_at operand_at fixed_at names_of number_of symbols_seen definition_of definition_at meaning_of duplicate no_start found_in_section found_in_object found_in scanned many_objects long_text long_object much_data many_symbols name_causes limit_causes first_cause program_of roles_at roles_in role_at text_of fields_of region_at regions_of
row_too_far_back = refl

-- a text that is too long
pub row_object_text : first_cause (one ∷ between 4194308 ∷ []) ≡ Some (Limit ObjText 4194308)
unfolding four_bytes section_of_class number_of_name is_passed_over instr_of memory_at branch_at jump_at misc_at move_at operate_at operand_at fixed_at names_of number_of symbols_seen definition_of definition_at meaning_of duplicate no_start found_in_section found_in_object found_in scanned many_objects long_text long_object much_data many_symbols name_causes limit_causes first_cause program_of roles_at roles_in role_at text_of fields_of region_at regions_of
row_object_text = refl

-- texts that are too long together
pub row_all_text : first_cause (one ∷ between 4194304 ∷ between 4194304 ∷ between 4194304 ∷ between 4194304 ∷ []) ≡ Some (Limit Text 16777228)
unfolding four_bytes section_of_class number_of_name is_passed_over instr_of memory_at branch_at jump_at misc_at move_at operate_at operand_at fixed_at names_of number_of symbols_seen definition_of definition_at meaning_of duplicate no_start found_in_section found_in_object found_in scanned many_objects long_text long_object much_data many_symbols name_causes limit_causes first_cause program_of roles_at roles_in role_at text_of fields_of region_at regions_of
row_all_text = refl

-- data with its commons, each rounded up
pub row_data : first_cause (calls (section 6 16 33554425 [] [] ∷ []) (symbol (codes "c") 1 17 ∷ []) ∷ []) ≡ Some (Limit Data 33554440)
unfolding four_bytes section_of_class number_of_name is_passed_over instr_of memory_at branch_at jump_at misc_at move_at operate_at operand_at fixed_at names_of number_of symbols_seen definition_of definition_at meaning_of duplicate no_start found_in_section found_in_object found_in scanned many_objects long_text long_object much_data many_symbols name_causes limit_causes first_cause program_of roles_at roles_in role_at text_of fields_of region_at regions_of
row_data = refl

-- as much as there may be
pub row_most_data : first_cause (calls (section 6 16 33554425 [] [] ∷ []) [] ∷ []) ≡ None
unfolding four_bytes section_of_class number_of_name is_passed_over instr_of memory_at branch_at jump_at misc_at move_at operate_at operand_at fixed_at names_of number_of symbols_seen definition_of definition_at meaning_of duplicate no_start found_in_section found_in_object found_in scanned many_objects long_text long_object much_data many_symbols name_causes limit_causes first_cause program_of roles_at roles_in role_at text_of fields_of region_at regions_of
row_most_data = refl

-- Worked rows of the writer.
use Rattle.std.specs.Prelude.{◌≡◌, [], ◌∷◌, codes, None, refl, true}
use Rattle.om_isa.specs.Words.{instr_of, memory_at, branch_at, jump_at, misc_at, move_at, operate_at, operand_at, fixed_at}
use Rattle.om_fields.specs.Rules.{first_fault}
use Rattle.om_reloc.specs.declared.reloc.RelocKind.TheVariants.{RefQuad}
use Rattle.om_fields.specs.Places.{number_at}
use Rattle.om_fields.specs.HeaderFields.{head_of}
use Rattle.om_fields.specs.Sections.{padded, number_of_name, is_passed_over}
use Rattle.om_symtab.specs.Classes.{section_of_class}
use Rattle.om_object.specs.Rules.{four_bytes}
use Rattle.om_fields.specs.RowOne.{row_one}
use Rattle.om_object.specs.declared.parts.Parts.{Parts}
use Rattle.om_object.specs.Rules.{first_broken, made_rules}
use Rattle.om_object.specs.File.{parts_of, object_rules}
use Rattle.om_fields.specs.Headers.{file_header, optional_header, section_header, section_place}
use Rattle.om_objwrite.specs.Written.{file_of, symbolic_header, symbol_bytes, reloc_bytes}

abbrev pub three_words : Parts
three_words = record {
  gp = 0;
  sections = record {
    number = 1;
    addr = 0;
    size = 12;
    bytes = 0x01 ∷ 0 ∷ 0x1f ∷ 0x20 ∷ 0x07 ∷ 0 ∷ 0x1f ∷ 0x22 ∷ 0x83 ∷ 0 ∷ 0 ∷ 0 ∷ [];
    relocs = [];
  } ∷ [];
  symbols = record { name = codes "__start"; value = 0; class = 1 } ∷ [];
}

pub row_file : file_of three_words ≡ row_one
unfolding four_bytes section_of_class number_of_name is_passed_over file_of file_header optional_header section_header section_place symbolic_header symbol_bytes
row_file = refl

-- a second section, with a relocation, and one without bytes
abbrev pub with_data : Parts
with_data = record {
  gp = 0x8010;
  sections = record {
    number = 1;
    addr = 0;
    size = 4;
    bytes = 0x83 ∷ 0 ∷ 0 ∷ 0 ∷ [];
    relocs = [];
  } ∷ record {
    number = 3;
    addr = 16;
    size = 8;
    bytes = 0 ∷ 0 ∷ 0 ∷ 0 ∷ 0 ∷ 0 ∷ 0 ∷ 0 ∷ [];
    relocs = record { place = 16; index = 0; kind = RefQuad; external = true } ∷ [];
  } ∷ record { number = 6; addr = 32; size = 100; bytes = []; relocs = [] } ∷ [];
  symbols = record { name = codes "__start"; value = 0; class = 1 } ∷ record { name = codes "b"; value = 132; class = 3 } ∷ [];
}

pub row_made : first_broken made_rules with_data ≡ None
unfolding four_bytes section_of_class number_of_name is_passed_over instr_of memory_at branch_at jump_at misc_at move_at operate_at operand_at fixed_at
row_made = refl

pub row_read_back : parts_of (file_of with_data) ≡ with_data
unfolding four_bytes section_of_class number_of_name is_passed_over file_of file_header optional_header section_header section_place symbolic_header symbol_bytes reloc_bytes
row_read_back = refl

pub row_accepted : first_fault object_rules (file_of with_data) ≡ None
unfolding four_bytes section_of_class number_of_name is_passed_over file_of file_header optional_header section_header section_place symbolic_header symbol_bytes reloc_bytes instr_of memory_at branch_at jump_at misc_at move_at operate_at operand_at fixed_at
row_accepted = refl

-- where the sections of that object stand: the bytes at multiples of 16 from 296 on, the relocations at the next multiple of 8
pub row_text : head_of (file_of with_data) 0
    ≡ record { name = padded (codes ".text"); addr = 0; size = 4; bytes_at = 304; relocs_at = 0; relocs = 0 }
unfolding file_of file_header optional_header section_header section_place symbolic_header symbol_bytes reloc_bytes
row_text = refl

pub row_data : head_of (file_of with_data) 1
    ≡ record { name = padded (codes ".data"); addr = 16; size = 8; bytes_at = 320; relocs_at = 328; relocs = 1 }
unfolding file_of file_header optional_header section_header section_place symbolic_header symbol_bytes reloc_bytes
row_data = refl

pub row_bss : head_of (file_of with_data) 2
    ≡ record { name = padded (codes ".bss"); addr = 32; size = 100; bytes_at = 0; relocs_at = 0; relocs = 0 }
unfolding file_of file_header optional_header section_header section_place symbolic_header symbol_bytes reloc_bytes
row_bss = refl

pub row_symbolic : number_at (file_of with_data) 8 8 ≡ 344
unfolding file_of file_header optional_header section_header section_place symbolic_header symbol_bytes reloc_bytes
row_symbolic = refl

-- an entry of 16 bytes
pub row_reloc : reloc_bytes (record { place = 0x1234; index = 5; kind = RefQuad; external = true })
    ≡ 0x34 ∷ 0x12 ∷ 0 ∷ 0 ∷ 0 ∷ 0 ∷ 0 ∷ 0 ∷ 5 ∷ 0 ∷ 0 ∷ 0 ∷ 2 ∷ 1 ∷ 0 ∷ 0 ∷ []
unfolding reloc_bytes
row_reloc = refl

-- Worked images.
use Rattle.std.specs.Prelude.{◌≡◌, ℕ, ◌+◌, List, [], ◌∷◌, ◌++◌, length, take, true, false, Some, None, refl, slice_set}
use Rattle.om_isa.specs.Words.{instr_of, memory_at, branch_at, jump_at, misc_at, move_at, operate_at, operand_at, fixed_at}
use Rattle.om_fields.specs.Places.{bytes_at}
use Rattle.om_fields.specs.Rules.{first_fault}
use Rattle.om_fields.specs.Headers.{file_header, optional_header, section_header, section_place}
use Rattle.om_fields.specs.RowOne.{row_one}
use Rattle.om_image.specs.declared.image.Image.{Image}
use Rattle.om_image.specs.declared.map.Region.TheVariants.{Sec, Common}
use Rattle.om_image.specs.declared.map.Target.TheVariants.{Num, Ptr, Code}
use Rattle.om_image.specs.Written.{file_of, image_headers, image_body, map_bytes, map_head, key_bytes, object_bytes, table_bytes, slot_bytes, region_bytes, source_bytes}
use Rattle.om_image.specs.Rules.{image_rules, image_of}

-- `lda r0,1(r31)`, `lda r16,7(r31)` and `callsys`, which end with the status 7; all words are kept, and the one table
-- is empty
abbrev pub exit_seven : Image
exit_seven = record {
  entry = 0x120000000;
  gp = 0x140008000;
  text = 0x201f0001 ∷ 0x221f0007 ∷ 0x00000083 ∷ [];
  bytes = [];
  bss = 0;
  map = record {
    objects = record { words = 3; table = 0 } ∷ [];
    tables = record { start = 0x140000000; slots = [] } ∷ [];
    regions = [];
    words = record { old = 0x201f0001; position = 0; kept = true }
        ∷ record { old = 0x221f0007; position = 1; kept = true }
        ∷ record { old = 0x00000083; position = 2; kept = true }
        ∷ [];
  };
}

pub row_length : length (file_of exit_seven) ≡ 456
unfolding file_of image_headers image_body file_header optional_header section_header section_place map_bytes map_head object_bytes table_bytes source_bytes
row_length = refl

-- the map: one object of three words with table 0, which starts at 1_4000_0000 and has no slot, and three kept words
pub row_map : bytes_at (file_of exit_seven) 384 72
    ≡ (0x4f ∷ 0x4d ∷ 0x4d ∷ 0x41 ∷ 0x50 ∷ 0x31 ∷ 0 ∷ 0 ∷ [])
    ++ (1 ∷ 0 ∷ 0 ∷ 0 ∷ 1 ∷ 0 ∷ 0 ∷ 0 ∷ 0 ∷ 0 ∷ 0 ∷ 0 ∷ 3 ∷ 0 ∷ 0 ∷ 0 ∷ [])
    ++ (3 ∷ 0 ∷ 0 ∷ 0 ∷ 0 ∷ 0 ∷ 0 ∷ 0 ∷ [])
    ++ (0 ∷ 0 ∷ 0 ∷ 0x40 ∷ 1 ∷ 0 ∷ 0 ∷ 0 ∷ 0 ∷ 0 ∷ 0 ∷ 0 ∷ 0 ∷ 0 ∷ 0 ∷ 0 ∷ [])
    ++ (0x01 ∷ 0x00 ∷ 0x1f ∷ 0x20 ∷ 0 ∷ 0 ∷ 0 ∷ 0x80 ∷ [])
    ++ (0x07 ∷ 0x00 ∷ 0x1f ∷ 0x22 ∷ 1 ∷ 0 ∷ 0 ∷ 0x80 ∷ [])
    ++ (0x83 ∷ 0x00 ∷ 0x00 ∷ 0x00 ∷ 2 ∷ 0 ∷ 0 ∷ 0x80 ∷ [])
unfolding file_of image_headers image_body file_header optional_header section_header section_place map_bytes map_head object_bytes table_bytes source_bytes
row_map = refl

pub row_accepted : first_fault image_rules (file_of exit_seven) ≡ None
unfolding file_of image_headers image_body file_header optional_header section_header section_place map_bytes map_head object_bytes table_bytes source_bytes instr_of memory_at branch_at jump_at misc_at move_at operate_at operand_at fixed_at
row_accepted = refl

pub row_read_back : image_of (file_of exit_seven) ≡ exit_seven
unfolding file_of image_headers image_body file_header optional_header section_header section_place map_bytes map_head object_bytes table_bytes source_bytes
row_read_back = refl

-- an image with data, and a map with all kinds of slots and regions, and a word that is gone
abbrev pub with_data : Image
with_data = record {
  entry = 0x120000000;
  gp = 0x140008000;
  text = 0x00000083 ∷ [];
  bytes = 1 ∷ 2 ∷ 3 ∷ 4 ∷ 5 ∷ 6 ∷ 7 ∷ 8 ∷ 9 ∷ [];
  bss = 100;
  map = record {
    objects = record { words = 1; table = 1 } ∷ record { words = 1; table = 0 } ∷ [];
    tables = record { start = 0x140000000; slots = Num 0x123456789 ∷ Ptr (Sec 1 3) 24 ∷ [] }
        ∷ record { start = 0x140000010; slots = Ptr (Common 7) 8 ∷ Code (record { obj = 1; off = 4 }) ∷ [] }
        ∷ [];
    regions = record { region = Sec 1 3; address = 0x140000020; size = 32 }
        ∷ record { region = Common 7; address = 0x140000040; size = 16 }
        ∷ [];
    words = record { old = 0x00000083; position = 0; kept = true } ∷ record { old = 0x2ffe0000; position = 1; kept = false } ∷ [];
  };
}

pub row_data_accepted : first_fault image_rules (file_of with_data) ≡ None
unfolding file_of image_headers image_body file_header optional_header section_header section_place map_bytes map_head key_bytes object_bytes table_bytes slot_bytes region_bytes source_bytes instr_of memory_at branch_at jump_at misc_at move_at operate_at operand_at fixed_at
row_data_accepted = refl

pub row_data_read_back : image_of (file_of with_data) ≡ with_data
unfolding file_of image_headers image_body file_header optional_header section_header section_place map_bytes map_head key_bytes object_bytes table_bytes slot_bytes region_bytes source_bytes
row_data_read_back = refl

-- an object file has one section
pub row_object_file : first_fault image_rules row_one ≡ Some (4, 2)
row_object_file = refl

abbrev pub set_bytes : List ℕ → ℕ → List ℕ → List ℕ
set_bytes file at [] = file
set_bytes file at (x ∷ xs) = set_bytes (slice_set file at x) (at + 1) xs

-- no entry
pub row_no_entry : first_fault image_rules (set_bytes (file_of exit_seven) 56 (0 ∷ 0 ∷ 0 ∷ 0 ∷ 0 ∷ 0 ∷ 0 ∷ 0 ∷ [])) ≡ Some (7, 56)
unfolding file_of image_headers image_body file_header optional_header section_header section_place map_bytes map_head object_bytes table_bytes source_bytes
row_no_entry = refl

-- a byte less of the map, and none of it
pub row_cut : first_fault image_rules (take 455 (file_of exit_seven)) ≡ Some (5, 296)
unfolding file_of image_headers image_body file_header optional_header section_header section_place map_bytes map_head object_bytes table_bytes source_bytes
row_cut = refl

-- the end of the text as the position of a kept word
pub row_position : first_fault image_rules (set_bytes (file_of exit_seven) 452 (3 ∷ [])) ≡ Some (8, 384)
unfolding file_of image_headers image_body file_header optional_header section_header section_place map_bytes map_head object_bytes table_bytes source_bytes
row_position = refl

-- the second word is none of an instruction
pub row_word : first_fault image_rules (set_bytes (file_of exit_seven) 375 (0x1c ∷ [])) ≡ Some (9, 372)
unfolding file_of image_headers image_body file_header optional_header section_header section_place map_bytes map_head object_bytes table_bytes source_bytes instr_of memory_at branch_at jump_at misc_at move_at operate_at operand_at fixed_at
row_word = refl

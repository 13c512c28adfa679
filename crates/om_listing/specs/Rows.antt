-- Worked texts and worked listings.
use Rattle.std.specs.Prelude.{◌≡◌, ℕ, List, [], ◌∷◌, ◌++◌, codes, true, false, refl}
use Rattle.std.specs.Fmt.{digits}
use Rattle.om_isa.specs.Words.{instr_of, memory_at, branch_at, jump_at, misc_at, operand_at, operate_at, move_at, fixed_at}
use Rattle.om_image.specs.declared.image.Image.{Image}
use Rattle.om_image.specs.declared.map.Region.TheVariants.{Sec}
use Rattle.om_image.specs.declared.map.Target.{Target}
use Rattle.om_image.specs.declared.map.Target.TheVariants.{Ptr, Code}
use Rattle.om_image.specs.declared.map.MapObj.{MapObj}
use Rattle.om_image.specs.declared.map.MapTable.{MapTable}
use Rattle.om_image.specs.declared.map.MapWord.{MapWord}
use Rattle.om_listing.specs.Texts.{register_text, operand_text, based_text, address_text, first_text, result_text, word_text}
use Rattle.om_listing.specs.Listing.{word_digits, line_start, gone_line, changed_line, count_text, totals_line, listing}

-- ---- texts

pub row_memory : word_text 0xa43efff8 ≡ codes "ldq r1,-8(r30)"
unfolding digits instr_of memory_at word_text first_text register_text address_text based_text
row_memory = refl

pub row_branch : word_text 0xe4200003 ≡ codes "beq r1,3"
unfolding digits instr_of memory_at branch_at word_text first_text register_text
row_branch = refl

pub row_branch_back : word_text 0xc3ffffff ≡ codes "br r31,-1"
unfolding digits instr_of memory_at branch_at word_text first_text register_text
row_branch_back = refl

pub row_jump : word_text 0x6b5b4001 ≡ codes "jsr r26,(r27)"
unfolding digits instr_of memory_at branch_at jump_at word_text first_text register_text based_text
row_jump = refl

pub row_registers : word_text 0x40220403 ≡ codes "addq r1,r2,r3"
unfolding digits instr_of memory_at branch_at jump_at misc_at move_at operand_at operate_at word_text first_text register_text operand_text result_text
row_registers = refl

pub row_literal : word_text 0x40211c03 ≡ codes "addq/v r1,#8,r3"
unfolding digits instr_of memory_at branch_at jump_at misc_at move_at operand_at operate_at word_text first_text register_text operand_text result_text
row_literal = refl

pub row_extension : word_text 0x73e20003 ≡ codes "sextb r2,r3"
unfolding digits instr_of memory_at branch_at jump_at misc_at move_at operand_at operate_at word_text first_text register_text operand_text result_text
row_extension = refl

pub row_move : word_text 0x44220483 ≡ codes "cmoveq r1,r2,r3"
unfolding digits instr_of memory_at branch_at jump_at misc_at move_at operand_at word_text first_text register_text operand_text result_text
row_move = refl

pub row_barrier : word_text 0x60004400 ≡ codes "wmb"
unfolding instr_of memory_at branch_at jump_at misc_at word_text
row_barrier = refl

pub row_fnop : word_text 0x5fff041f ≡ codes "fnop"
unfolding instr_of memory_at branch_at jump_at misc_at move_at operand_at operate_at fixed_at word_text
row_fnop = refl

pub row_callsys : word_text 0x83 ≡ codes "callsys"
unfolding instr_of memory_at branch_at jump_at misc_at move_at operand_at operate_at fixed_at word_text
row_callsys = refl

pub row_no_instruction : word_text 0x58001400 ≡ codes "?"
unfolding instr_of memory_at branch_at jump_at misc_at move_at operand_at operate_at fixed_at word_text
row_no_instruction = refl

-- ---- listings

-- a source word at a position of the image, and one that is gone
abbrev kept : ℕ → ℕ → MapWord
kept position old = record { old = old; position = position; kept = true }

abbrev gone : ℕ → ℕ → MapWord
gone position old = record { old = old; position = position; kept = false }

abbrev object : ℕ → ℕ → MapObj
object words table = record { words = words; table = table }

abbrev table : List Target → MapTable
table slots = record { start = 0x140000000; slots = slots }

-- an image of these words, with the map of these objects, tables and source words
abbrev image : List ℕ → List MapObj → List MapTable → List MapWord → Image
image text objects tables words = record {
  entry = 0x120000000;
  gp = 0x140008000;
  text = text;
  bytes = [];
  bss = 0;
  map = record { objects = objects; tables = tables; regions = []; words = words };
}

-- a load that became the address itself, and one of another slot
pub row_near_and_far : listing
    (image (0x203d7fff ∷ 0xa45d8000 ∷ 0xb43e0000 ∷ 0xb45e0008 ∷ 0x40410530 ∷ 0x201f0001 ∷ 0x83 ∷ []) (object 7 0 ∷ [])
    (table (Ptr (Sec 0 3) 65520 ∷ []) ∷ [])
    (kept 0 0xa43d8000 ∷ kept 1 0xa45d8008 ∷ kept 2 0xb43e0000 ∷ kept 3 0xb45e0008 ∷ kept 4 0x40410530 ∷ kept 5 0x201f0001
    ∷ kept 6 0x83 ∷ []))
    ≡ codes "0 00000000 a43d8000 203d7fff lda r1,32767(r29)\n" ++ codes "0 00000004 a45d8008 a45d8000 ldq r2,-32768(r29)\n"
    ++ codes "words 7 kept 7 slots 1 tables 1\n"
unfolding digits instr_of memory_at word_text first_text register_text address_text based_text word_digits line_start changed_line
    count_text totals_line
row_near_and_far = refl

-- words of which some are gone
pub row_gone : listing
    (image (0xa77d8000 ∷ 0x6b5b4000 ∷ 0x47e00410 ∷ 0x201f0001 ∷ 0x83 ∷ 0x201f0009 ∷ 0x6bfa8001 ∷ []) (object 10 0 ∷ []) (table [] ∷ [])
    (gone 0 0xa43d8000 ∷ kept 0 0xa7610000 ∷ kept 1 0x6b5b4000 ∷ kept 2 0x47e00410 ∷ kept 3 0x201f0001 ∷ kept 4 0x83
    ∷ kept 5 0x201f0009 ∷ kept 6 0x6bfa8001 ∷ gone 7 0x201f0008 ∷ gone 7 0x6bfa8001 ∷ []))
    ≡ codes "0 00000000 a43d8000 gone ldq r1,-32768(r29)\n" ++ codes "0 00000004 a7610000 a77d8000 ldq r27,-32768(r29)\n"
    ++ codes "0 00000020 201f0008 gone lda r0,8(r31)\n" ++ codes "0 00000024 6bfa8001 gone ret r31,(r26)\n"
    ++ codes "words 10 kept 7 slots 0 tables 1\n"
unfolding digits instr_of memory_at branch_at jump_at word_text first_text register_text address_text based_text word_digits line_start
    gone_line changed_line count_text totals_line
row_gone = refl

-- two objects, of which the second begins again at offset 0
pub row_two_objects : listing
    (image (0xd3400003 ∷ 0x47e00410 ∷ 0x201f0001 ∷ 0x83 ∷ 0x201f0009 ∷ 0x6bfa8001 ∷ []) (object 9 0 ∷ object 4 0 ∷ []) (table [] ∷ [])
    (gone 0 0x27bb0001 ∷ gone 0 0x23bd8030 ∷ gone 0 0xa77d8000 ∷ kept 0 0x6b5b4000 ∷ gone 1 0x27ba0001 ∷ gone 1 0x23bd8020
    ∷ kept 1 0x47e00410 ∷ kept 2 0x201f0001 ∷ kept 3 0x83 ∷ gone 4 0x27bb0001 ∷ gone 4 0x23bd8000 ∷ kept 4 0x201f0009
    ∷ kept 5 0x6bfa8001 ∷ []))
    ≡ codes "0 00000000 27bb0001 gone ldah r29,1(r27)\n" ++ codes "0 00000004 23bd8030 gone lda r29,-32720(r29)\n"
    ++ codes "0 00000008 a77d8000 gone ldq r27,-32768(r29)\n" ++ codes "0 0000000c 6b5b4000 d3400003 bsr r26,3\n"
    ++ codes "0 00000010 27ba0001 gone ldah r29,1(r26)\n" ++ codes "0 00000014 23bd8020 gone lda r29,-32736(r29)\n"
    ++ codes "1 00000000 27bb0001 gone ldah r29,1(r27)\n" ++ codes "1 00000004 23bd8000 gone lda r29,-32768(r29)\n"
    ++ codes "words 13 kept 6 slots 0 tables 1\n"
unfolding digits instr_of memory_at branch_at word_text first_text register_text address_text based_text word_digits line_start
    gone_line changed_line count_text totals_line
row_two_objects = refl

-- the same objects with all words kept and a table each
pub row_two_tables : listing
    (image (0x27bb2001 ∷ 0x23bd8000 ∷ 0xa77d8000 ∷ 0x6b5b4000 ∷ 0x27ba2000 ∷ 0x23bd7ff0 ∷ 0x47e00410 ∷ 0x201f0001 ∷ 0x83
    ∷ 0x27bb2000 ∷ 0x23bd7fec ∷ 0x201f0009 ∷ 0x6bfa8001 ∷ []) (object 9 0 ∷ object 4 1 ∷ [])
    (table (Code (record { obj = 1; off = 0 }) ∷ []) ∷ table [] ∷ [])
    (kept 0 0x27bb0001 ∷ kept 1 0x23bd8030 ∷ kept 2 0xa77d8000 ∷ kept 3 0x6b5b4000 ∷ kept 4 0x27ba0001 ∷ kept 5 0x23bd8020
    ∷ kept 6 0x47e00410 ∷ kept 7 0x201f0001 ∷ kept 8 0x83 ∷ kept 9 0x27bb0001 ∷ kept 10 0x23bd8000 ∷ kept 11 0x201f0009
    ∷ kept 12 0x6bfa8001 ∷ []))
    ≡ codes "0 00000000 27bb0001 27bb2001 ldah r29,8193(r27)\n" ++ codes "0 00000004 23bd8030 23bd8000 lda r29,-32768(r29)\n"
    ++ codes "0 00000010 27ba0001 27ba2000 ldah r29,8192(r26)\n" ++ codes "0 00000014 23bd8020 23bd7ff0 lda r29,32752(r29)\n"
    ++ codes "1 00000000 27bb0001 27bb2000 ldah r29,8192(r27)\n" ++ codes "1 00000004 23bd8000 23bd7fec lda r29,32748(r29)\n"
    ++ codes "words 13 kept 13 slots 1 tables 2\n"
unfolding digits instr_of memory_at word_text first_text register_text address_text based_text word_digits line_start changed_line
    count_text totals_line
row_two_tables = refl

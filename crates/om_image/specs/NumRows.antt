-- Worked runs of the numeric machine.
use Rattle.std.specs.Prelude.{◌≡◌, ℕ, List, [], ◌∷◌, codes, Some, None, refl}
use Rattle.om_alpha.specs.declared.op.TrapKind.TheVariants as trap
use Rattle.om_isa.specs.Words.{instr_of, memory_at, branch_at, jump_at, misc_at, move_at, operate_at, operand_at, fixed_at}
use Rattle.om_image.specs.NumState.{Exited, Trapped}
use Rattle.om_image.specs.NumStep.{num_step, num_start}
use Rattle.om_image.specs.NumRun.{num_steps, num_run}
use Rattle.om_image.specs.declared.image.Image.{Image}

-- an image of a text and data, entered at the text's start
abbrev pub image_of : List ℕ → List ℕ → Image
image_of text bytes =
    record {
      entry = 0x120000000;
      gp = 0x140008000;
      text = text;
      bytes = bytes;
      bss = 0;
      map = record { objects = []; tables = []; regions = []; words = [] };
    }

-- lda r0,1(r31); lda r16,7(r31); callsys
abbrev pub exits_seven : Image
exits_seven = image_of (0x201f0001 ∷ 0x221f0007 ∷ 0x00000083 ∷ []) []

pub row_exit : (num_run exits_seven [] 3).end ≡ Some (Exited 7)
unfolding num_steps num_step num_start instr_of memory_at branch_at jump_at misc_at move_at operate_at operand_at fixed_at
row_exit = refl

pub row_not_yet : (num_run exits_seven [] 2).end ≡ None
unfolding num_steps num_step num_start instr_of memory_at branch_at jump_at misc_at move_at operate_at operand_at fixed_at
row_not_yet = refl

-- a run that has ended stays as it is
pub row_stays : (num_run exits_seven [] 9).pc ≡ 0x120000008
unfolding num_steps num_step num_start instr_of memory_at branch_at jump_at misc_at move_at operate_at operand_at fixed_at
row_stays = refl

-- lda r1,-1(r31); srl r1,#1,r1; addq/v r1,#1,r1
pub row_overflow : (num_run (image_of (0x203fffff ∷ 0x48203681 ∷ 0x40203c01 ∷ []) []) [] 3).end ≡ Some (Trapped trap.Overflow 0x120000008)
unfolding num_steps num_step num_start instr_of memory_at branch_at jump_at misc_at move_at operate_at operand_at fixed_at
row_overflow = refl

-- ldq r1,4(r30)
pub row_unaligned : (num_run (image_of (0xa43e0004 ∷ []) []) [] 1).end ≡ Some (Trapped trap.Unaligned 0x120000000)
unfolding num_steps num_step num_start instr_of memory_at branch_at jump_at misc_at move_at operate_at operand_at fixed_at
row_unaligned = refl

-- ldq r1,0(r31)
pub row_access : (num_run (image_of (0xa43f0000 ∷ []) []) [] 1).end ≡ Some (Trapped trap.Access 0x120000000)
unfolding num_steps num_step num_start instr_of memory_at branch_at jump_at misc_at move_at operate_at operand_at fixed_at
row_access = refl

-- halt
pub row_halt : (num_run (image_of (0x00000000 ∷ []) []) [] 1).end ≡ Some (Trapped trap.Halt 0x120000000)
unfolding num_steps num_step num_start instr_of memory_at branch_at jump_at misc_at move_at operate_at operand_at fixed_at
row_halt = refl

-- past the text's end: bis r31,r31,r31
pub row_past_end : (num_run (image_of (0x47ff041f ∷ []) []) [] 2).end ≡ Some (Trapped trap.Access 0x120000004)
unfolding num_steps num_step num_start instr_of memory_at branch_at jump_at misc_at move_at operate_at operand_at fixed_at
row_past_end = refl

-- ---- the heap: lda r0,17(r31); lda r16,0(r31); callsys; bis r31,r0,r9, and these words
abbrev pub on_heap : List ℕ → Image
on_heap rest = image_of (0x201f0011 ∷ 0x221f0000 ∷ 0x00000083 ∷ 0x47e00409 ∷ rest) []

-- lda r16,16(r9); lda r0,17(r31); callsys; lda r1,5(r31); stq r1,8(r9); ldq r3,8(r9); bis r31,r3,r16;
-- lda r0,1(r31); callsys
pub row_heap : (num_run (on_heap (0x22090010 ∷ 0x201f0011 ∷ 0x00000083 ∷ 0x203f0005 ∷ 0xb4290008 ∷ 0xa4690008 ∷ 0x47e30410 ∷ 0x201f0001 ∷ 0x00000083 ∷ [])) [] 13).end ≡ Some (Exited 5)
unfolding num_steps num_step num_start instr_of memory_at branch_at jump_at misc_at move_at operate_at operand_at fixed_at
row_heap = refl

-- the same with stq r1,16(r9)
pub row_past_heap : (num_run (on_heap (0x22090010 ∷ 0x201f0011 ∷ 0x00000083 ∷ 0x203f0005 ∷ 0xb4290010 ∷ [])) [] 9).end ≡ Some (Trapped trap.Access 0x120000020)
unfolding num_steps num_step num_start instr_of memory_at branch_at jump_at misc_at move_at operate_at operand_at fixed_at
row_past_heap = refl

-- ldah r16,257(r9); lda r0,17(r31); callsys; bis r31,r0,r16; lda r0,1(r31); callsys
pub row_heap_full : (num_run (on_heap (0x26090101 ∷ 0x201f0011 ∷ 0x00000083 ∷ 0x47e00410 ∷ 0x201f0001 ∷ 0x00000083 ∷ [])) [] 10).end ≡ Some (Exited 12)
unfolding num_steps num_step num_start instr_of memory_at branch_at jump_at misc_at move_at operate_at operand_at fixed_at
row_heap_full = refl

-- the same with ldah r16,256(r9)
pub row_heap_most : (num_run (on_heap (0x26090100 ∷ 0x201f0011 ∷ 0x00000083 ∷ 0x47e00410 ∷ 0x201f0001 ∷ 0x00000083 ∷ [])) [] 10).end ≡ Some (Exited 0)
unfolding num_steps num_step num_start instr_of memory_at branch_at jump_at misc_at move_at operate_at operand_at fixed_at
row_heap_most = refl

-- ---- reading and writing

-- lda r16,1(r31); lda r17,-32768(r29); lda r18,2(r31); lda r0,4(r31); callsys
abbrev pub writes_hi : Image
writes_hi = image_of (0x221f0001 ∷ 0x223d8000 ∷ 0x225f0002 ∷ 0x201f0004 ∷ 0x00000083 ∷ []) (codes "hi!")

pub row_write : (num_run writes_hi [] 5).out ≡ codes "hi"
unfolding num_steps num_step num_start instr_of memory_at branch_at jump_at misc_at move_at operate_at operand_at fixed_at
row_write = refl

pub row_written : (num_run writes_hi [] 5).registers 0 ≡ 2
unfolding num_steps num_step num_start instr_of memory_at branch_at jump_at misc_at move_at operate_at operand_at fixed_at
row_written = refl

-- lda r16,0(r31); lda r17,-8(r30); lda r18,4(r31); lda r0,3(r31); callsys
abbrev pub reads_four : Image
reads_four = image_of (0x221f0000 ∷ 0x223efff8 ∷ 0x225f0004 ∷ 0x201f0003 ∷ 0x00000083 ∷ []) []

pub row_read : (num_run reads_four (codes "abc") 5).registers 0 ≡ 3
unfolding num_steps num_step num_start instr_of memory_at branch_at jump_at misc_at move_at operate_at operand_at fixed_at
row_read = refl

pub row_read_byte : (num_run reads_four (codes "abcde") 5).memory (0x11ffffffb) ≡ 0
unfolding num_steps num_step num_start instr_of memory_at branch_at jump_at misc_at move_at operate_at operand_at fixed_at
row_read_byte = refl

pub row_left : (num_run reads_four (codes "abcde") 5).input ≡ codes "e"
unfolding num_steps num_step num_start instr_of memory_at branch_at jump_at misc_at move_at operate_at operand_at fixed_at
row_left = refl

-- ldq_u r1,-32765(r29): the quadword that the address lies in
pub row_ldq_u : (num_run (image_of (0x2c3d8003 ∷ []) (104 ∷ 105 ∷ 0 ∷ 0 ∷ 0 ∷ 0 ∷ 0 ∷ 0 ∷ [])) [] 1).registers 1 ≡ 26984
unfolding num_steps num_step num_start instr_of memory_at branch_at jump_at misc_at move_at operate_at operand_at fixed_at
row_ldq_u = refl

-- ldl r1,-32768(r29): a longword with its sign
pub row_ldl : (num_run (image_of (0xa03d8000 ∷ []) (254 ∷ 255 ∷ 255 ∷ 255 ∷ [])) [] 1).registers 1 ≡ 0xfffffffffffffffe
unfolding num_steps num_step num_start instr_of memory_at branch_at jump_at misc_at move_at operate_at operand_at fixed_at
row_ldl = refl

-- ---- jumps and branches

-- lda r27,15(r27); jsr r26,(r27): the low two bits are cleared
abbrev pub jumps_on : Image
jumps_on = image_of (0x237b000f ∷ 0x6b5b4000 ∷ 0x47ff041f ∷ 0x47ff041f ∷ []) []

pub row_jump : (num_run jumps_on [] 2).pc ≡ 0x12000000c
unfolding num_steps num_step num_start instr_of memory_at branch_at jump_at misc_at move_at operate_at operand_at fixed_at
row_jump = refl

pub row_link : (num_run jumps_on [] 2).registers 26 ≡ 0x120000008
unfolding num_steps num_step num_start instr_of memory_at branch_at jump_at misc_at move_at operate_at operand_at fixed_at
row_link = refl

-- jsr r27,(r27): Rb is read before Ra is set
pub row_same_register : (num_run (image_of (0x6b7b4000 ∷ []) []) [] 1).pc ≡ 0x120000000
unfolding num_steps num_step num_start instr_of memory_at branch_at jump_at misc_at move_at operate_at operand_at fixed_at
row_same_register = refl

-- jmp r31,(r31): outside the text, at the jump
pub row_wild_jump : (num_run (image_of (0x6bff0000 ∷ []) []) [] 1).end ≡ Some (Trapped trap.Access 0x120000000)
unfolding num_steps num_step num_start instr_of memory_at branch_at jump_at misc_at move_at operate_at operand_at fixed_at
row_wild_jump = refl

-- br r31,-1
pub row_forever : (num_run (image_of (0xc3ffffff ∷ []) []) [] 100).end ≡ None
unfolding num_steps num_step num_start instr_of memory_at branch_at jump_at misc_at move_at operate_at operand_at fixed_at
row_forever = refl

-- 1 to 5 summed on the stack: lda r1,5(r31); addq r2,r1,r2; stq r2,-8(r30); ldq r2,-8(r30); subq r1,#1,r1; bne r1,-5;
-- bis r31,r2,r16; lda r0,1(r31); callsys
pub row_sum : (num_run (image_of (0x203f0005 ∷ 0x40410402 ∷ 0xb45efff8 ∷ 0xa45efff8 ∷ 0x40203521 ∷ 0xf43ffffb ∷ 0x47e20410 ∷ 0x201f0001 ∷ 0x00000083 ∷ []) []) [] 29).end ≡ Some (Exited 15)
unfolding num_steps num_step num_start instr_of memory_at branch_at jump_at misc_at move_at operate_at operand_at fixed_at
row_sum = refl

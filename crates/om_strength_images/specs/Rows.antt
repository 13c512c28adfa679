-- Worked words and data of the encoder, and two runs.
use Rattle.std.specs.Prelude.{◌≡◌, pos, negsuc, ◌-ℤ◌, ◌+ℤ◌, true, List, [], ◌∷◌, find, Some, None, refl}
use Rattle.om_isa.specs.declared.instr.Instr.TheVariants.{Mem, Branch}
use Rattle.om_isa.specs.declared.instr.MemOp.TheVariants.{Lda, Ldah, Ldl}
use Rattle.om_isa.specs.declared.instr.BrOp.TheVariants.{Br, Bsr}
use Rattle.om_isa.specs.Words.{instr_of, memory_at, branch_at, jump_at, misc_at, move_at, operate_at, operand_at, fixed_at}
use Rattle.om_value.specs.Same.{region_eq}
use Rattle.om_value.specs.declared.value.Region.{Region}
use Rattle.om_value.specs.declared.value.Region.TheVariants.{Sec, Common}
use Rattle.om_value.specs.declared.value.Target.TheVariants as target
use Rattle.om_value.specs.declared.value.Value.TheVariants as value
use Rattle.om_prog.specs.declared.region.RegionInit.{RegionInit}
use Rattle.om_image.specs.NumRows.{image_of, on_heap}
use Rattle.om_image.specs.NumRun.{num_run, num_steps}
use Rattle.om_image.specs.NumState.{Exited}
use Rattle.om_image.specs.NumStep.{num_step, num_start}
use Rattle.om_encode.specs.Data.{value_bytes}
use Rattle.om_encode.specs.Fitting.{low_part}
use Rattle.om_encode.specs.Halves.{high_part}
use Rattle.om_encode.specs.Rows.{the_layout}

-- ---- words as GNU as writes them

-- ldah r29,2(r27) and lda r29,-32768(r29), at a distance of which the low part is negative
pub row_pair_high : instr_of 0x27bb0002 ≡ Some (Mem Ldah 29 27 (high_part (pos 0x18000)))
unfolding instr_of memory_at
row_pair_high = refl

pub row_pair_low : instr_of 0x23bd8000 ≡ Some (Mem Lda 29 29 (low_part (pos 0x18000)))
unfolding instr_of memory_at
row_pair_low = refl

-- ldl r27,-8(r29): ldl r27,8(r31) over a base from which its own lies 16 bytes back
pub row_use : instr_of 0xa37dfff8 ≡ Some (Mem Ldl 27 29 (negsuc 15 +ℤ pos 8))
unfolding instr_of memory_at
row_use = refl

-- br r31,-1, to itself at 3
pub row_branch : instr_of 0xc3ffffff ≡ Some (Branch Br 31 ((pos 3 -ℤ pos 3) -ℤ pos 1))
unfolding instr_of memory_at branch_at
row_branch = refl

-- bsr r27,-7, from 10 to 4
pub row_branch_back : instr_of 0xd37ffff9 ≡ Some (Branch Bsr 27 ((pos 4 -ℤ pos 10) -ℤ pos 1))
unfolding instr_of memory_at branch_at
row_branch_back = refl

-- ---- distances in data, from the global pointer 1_4000_8000

pub row_distance_none : value_bytes the_layout (value.GpOff 0 (target.Ptr (Sec 0 3) 0x8000)) ≡ 0 ∷ 0 ∷ 0 ∷ 0 ∷ []
row_distance_none = refl

pub row_distance_4 : value_bytes the_layout (value.GpOff 0 (target.Ptr (Sec 0 3) 0x8004)) ≡ 4 ∷ 0 ∷ 0 ∷ 0 ∷ []
row_distance_4 = refl

-- a byte before it, and the first of its table
pub row_distance_before : value_bytes the_layout (value.GpOff 0 (target.Ptr (Sec 0 3) 0x7fff)) ≡ 0xff ∷ 0xff ∷ 0xff ∷ 0xff ∷ []
row_distance_before = refl

pub row_distance_table : value_bytes the_layout (value.GpOff 0 (target.Ptr (Sec 0 3) 0)) ≡ 0 ∷ 0x80 ∷ 0xff ∷ 0xff ∷ []
row_distance_table = refl

-- the first word of the text
pub row_distance_text : value_bytes the_layout (value.GpOff 0 (target.Code (record { obj = 0; off = 0 }))) ≡ 0 ∷ 0x80 ∷ 0xff ∷ 0xdf ∷ []
row_distance_text = refl

-- ---- regions by their names

abbrev zeros : Region → RegionInit
zeros r = record { region = r; size = 8; zero = true; bytes = []; fields = [] }

abbrev three : List RegionInit
three = zeros (Common 3) ∷ zeros (Sec 1 9) ∷ zeros (Sec 0 9) ∷ []

pub row_second : find (λ i. region_eq i.region (Sec 1 9)) three ≡ Some (zeros (Sec 1 9))
row_second = refl

pub row_third : find (λ i. region_eq i.region (Sec 0 9)) three ≡ Some (zeros (Sec 0 9))
row_third = refl

pub row_first : find (λ i. region_eq i.region (Common 3)) three ≡ Some (zeros (Common 3))
row_first = refl

pub row_no_region : find (λ i. region_eq i.region (Common 9)) three ≡ None
row_no_region = refl

-- ---- runs

-- lda r0,5(r31); callsys: a call of no number is answered with 78, and a3 says so
pub row_no_call : (num_run (image_of (0x201f0005 ∷ 0x00000083 ∷ []) []) [] 2).registers 19 ≡ 1
unfolding num_steps num_step num_start instr_of memory_at branch_at jump_at misc_at move_at operate_at operand_at fixed_at
row_no_call = refl

-- a heap that is made small and large again is zero: lda r16,16(r9); lda r0,17(r31); callsys; lda r1,5(r31); stq r1,8(r9);
-- lda r16,0(r9); lda r0,17(r31); callsys; lda r16,16(r9); lda r0,17(r31); callsys; ldq r3,8(r9); bis r31,r3,r16;
-- lda r0,1(r31); callsys
pub row_heap_again : (num_run (on_heap (0x22090010 ∷ 0x201f0011 ∷ 0x00000083 ∷ 0x203f0005 ∷ 0xb4290008 ∷ 0x22090000 ∷ 0x201f0011 ∷ 0x00000083 ∷ 0x22090010 ∷ 0x201f0011 ∷ 0x00000083 ∷ 0xa4690008 ∷ 0x47e30410 ∷ 0x201f0001 ∷ 0x00000083 ∷ [])) [] 19).end ≡ Some (Exited 0)
unfolding num_steps num_step num_start instr_of memory_at branch_at jump_at misc_at move_at operate_at operand_at fixed_at
row_heap_again = refl

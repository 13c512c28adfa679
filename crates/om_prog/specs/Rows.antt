-- Worked runs.
use Rattle.om_isa.specs.declared.instr.JumpOp.TheVariants.{Jmp}
use Rattle.om_value.specs.declared.value.Region.TheVariants.{Sec}
use Rattle.om_value.specs.declared.value.Target.TheVariants as target
use Rattle.om_value.specs.declared.value.Value.TheVariants.{Code}
use Rattle.std.specs.Prelude.{◌≡◌, ℕ, pos, negsuc, false, List, [], ◌∷◌, Option, Some, None, refl}
use Rattle.om_alpha.specs.declared.op.TrapKind.TheVariants as trap
use Rattle.om_alpha.specs.declared.op.AluOp.TheVariants.{Bis}
use Rattle.om_isa.specs.declared.instr.MemOp.TheVariants.{Lda, Ldah, Ldl, Ldq, Stb, Stq}
use Rattle.om_isa.specs.declared.instr.BrOp.TheVariants.{Br}
use Rattle.om_isa.specs.declared.instr.Opnd.TheVariants.{R}
use Rattle.om_isa.specs.declared.instr.Instr.{Instr}
use Rattle.om_isa.specs.declared.instr.Instr.TheVariants.{Mem, Jump, Branch, Alu, Callsys}
use Rattle.om_isa.specs.Words.{word_of}
use Rattle.om_value.specs.declared.value.Place.{Place}
use Rattle.om_value.specs.Lift.{lifted, lifted_add, on_numbers, moves_pointer, keeps_value}
use Rattle.om_prog.specs.declared.item.Role.{Role}
use Rattle.om_prog.specs.declared.item.Role.TheVariants.{Plain, Lit, GpHi, GpLo, To}
use Rattle.om_prog.specs.declared.item.Item.{Item}
use Rattle.om_prog.specs.declared.region.RegionInit.{RegionInit}
use Rattle.om_prog.specs.View.{ProgramView}
use Rattle.om_prog.specs.Script.{program_run}
use Rattle.om_prog.specs.Step.{SymEnd, ExitedWith, TrappedAt, ObservedAt}
use Rattle.om_prog.specs.Runs.{sym_run, sym_step, sym_start}

-- a place of the only object
abbrev pub place : ℕ → Place
place x = record { obj = 0; off = x }

abbrev pub plain : Instr → Item
plain i = record { word = word_of i; instr = i; role = Plain }

abbrev pub with_role : Role → Instr → Item
with_role r i = record { word = word_of i; instr = i; role = r }

-- one text, which begins with its first word
abbrev pub program_of : List Item → List RegionInit → ProgramView
program_of text regions = record { texts = text ∷ []; regions = regions; entry = place 0 }

-- how a program with no input has ended after n steps
abbrev pub end_of : ProgramView → ℕ → Option SymEnd
end_of p n = (program_run p [] n).ended

-- lda r0,1(r31); lda r16,7(r31); callsys
abbrev pub exit_seven : ProgramView
exit_seven = program_of (plain (Mem Lda 0 31 (pos 1)) ∷ plain (Mem Lda 16 31 (pos 7)) ∷ plain Callsys ∷ []) []

pub row_exit : end_of exit_seven 3 ≡ Some (ExitedWith 7)
unfolding sym_run sym_step sym_start lifted lifted_add on_numbers moves_pointer keeps_value
row_exit = refl

pub row_two_steps : end_of exit_seven 2 ≡ None
unfolding sym_run sym_step sym_start lifted lifted_add on_numbers moves_pointer keeps_value
row_two_steps = refl

-- a branch to itself
abbrev pub forever : ProgramView
forever = program_of (with_role (To (place 0)) (Branch Br 31 (negsuc 0)) ∷ []) []

pub row_forever : end_of forever 500 ≡ None
unfolding sym_run sym_step sym_start
row_forever = refl

-- stq r30,0(r30); ldl r1,0(r30): a pointer stored, and half of it read
abbrev pub half_pointer : ProgramView
half_pointer = program_of (plain (Mem Stq 30 30 (pos 0)) ∷ plain (Mem Ldl 1 30 (pos 0)) ∷ []) []

pub row_half : end_of half_pointer 2 ≡ Some (ObservedAt (place 4))
unfolding sym_run sym_step sym_start lifted lifted_add on_numbers moves_pointer keeps_value
row_half = refl

-- stq r30,0(r30); stb r31,7(r30); ldq r1,0(r30): a byte stored over a fragment
abbrev pub byte_over_pointer : ProgramView
byte_over_pointer =
    program_of
    (plain (Mem Stq 30 30 (pos 0)) ∷ plain (Mem Stb 31 30 (pos 7)) ∷ plain (Mem Ldq 1 30 (pos 0)) ∷ [])
    []

pub row_byte_over_pointer : end_of byte_over_pointer 3 ≡ Some (ObservedAt (place 8))
unfolding sym_run sym_step sym_start lifted lifted_add on_numbers moves_pointer keeps_value
row_byte_over_pointer = refl

-- stb r30,0(r30): a byte of a pointer
abbrev pub pointer_byte : ProgramView
pointer_byte = program_of (plain (Mem Stb 30 30 (pos 0)) ∷ []) []

pub row_pointer_byte : end_of pointer_byte 1 ≡ Some (ObservedAt (place 0))
unfolding sym_run sym_step sym_start lifted lifted_add on_numbers moves_pointer keeps_value
row_pointer_byte = refl

-- ldq r1,4(r30); ldq r1,0(r31)
pub row_unaligned : end_of (program_of (plain (Mem Ldq 1 30 (pos 4)) ∷ []) []) 1 ≡ Some (TrappedAt trap.Unaligned (place 0))
unfolding sym_run sym_step sym_start lifted lifted_add on_numbers moves_pointer keeps_value
row_unaligned = refl

pub row_access : end_of (program_of (plain (Mem Ldq 1 31 (pos 0)) ∷ []) []) 1 ≡ Some (TrappedAt trap.Access (place 0))
unfolding sym_run sym_step sym_start lifted lifted_add on_numbers moves_pointer keeps_value
row_access = refl

-- lda r0,17(r31); lda r16,0(r31); callsys; bis r31,r0,r9: where the heap ends; lda r16,16(r9); lda r0,17(r31);
-- callsys: it gets 16 bytes; and lda r1,5(r31)
abbrev pub heap_of_16 : List Item → List Item
heap_of_16 rest =
    plain (Mem Lda 0 31 (pos 17))
    ∷ plain (Mem Lda 16 31 (pos 0))
    ∷ plain Callsys
    ∷ plain (Alu Bis 31 (R 0) 9)
    ∷ plain (Mem Lda 16 9 (pos 16))
    ∷ plain (Mem Lda 0 31 (pos 17))
    ∷ plain Callsys
    ∷ plain (Mem Lda 1 31 (pos 5))
    ∷ rest

-- ends with what a register holds
abbrev pub exit_with : ℕ → List Item
exit_with r = plain (Alu Bis 31 (R r) 16) ∷ plain (Mem Lda 0 31 (pos 1)) ∷ plain Callsys ∷ []

-- stq r1,8(r9); ldq r3,8(r9)
abbrev pub heap_kept : ProgramView
heap_kept = program_of (heap_of_16 (plain (Mem Stq 1 9 (pos 8)) ∷ plain (Mem Ldq 3 9 (pos 8)) ∷ exit_with 3)) []

pub row_heap : end_of heap_kept 13 ≡ Some (ExitedWith 5)
unfolding sym_run sym_step sym_start lifted lifted_add on_numbers moves_pointer keeps_value
row_heap = refl

-- stq r1,16(r9): past the heap's end
abbrev pub heap_passed : ProgramView
heap_passed = program_of (heap_of_16 (plain (Mem Stq 1 9 (pos 16)) ∷ [])) []

pub row_past_heap : end_of heap_passed 9 ≡ Some (ObservedAt (place 0x20))
unfolding sym_run sym_step sym_start lifted lifted_add on_numbers moves_pointer keeps_value
row_past_heap = refl

-- ldah r29,0(r27); lda r29,0(r29): the global pointer from the entry; ldq r1,0(r29): the data's address from the
-- table; ldq r27,0(r1): a place in code from a field; jmp r31,(r27); there lda r1,9(r31), and the end with r1
abbrev pub jump_by_a_field : ProgramView
jump_by_a_field =
    program_of
    (with_role (GpHi (place 0)) (Mem Ldah 29 27 (pos 0))
    ∷ with_role (GpLo (place 0)) (Mem Lda 29 29 (pos 0))
    ∷ with_role (Lit (target.Ptr (Sec 0 3) 0)) (Mem Ldq 1 29 (pos 0))
    ∷ plain (Mem Ldq 27 1 (pos 0))
    ∷ plain (Jump Jmp 31 27 0)
    ∷ plain (Mem Lda 1 31 (pos 9))
    ∷ exit_with 1)
    (record {
      region = Sec 0 3;
      size = 8;
      zero = false;
      bytes = [];
      fields = record { off = 0; width = 8; value = Code (place 20) } ∷ [];
    } ∷ [])

pub row_jump_by_a_field : end_of jump_by_a_field 9 ≡ Some (ExitedWith 9)
unfolding sym_run sym_step sym_start lifted lifted_add on_numbers moves_pointer keeps_value
row_jump_by_a_field = refl

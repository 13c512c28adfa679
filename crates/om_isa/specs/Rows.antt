-- Worked words, and worked system calls.
use Rattle.std.specs.Prelude.{◌≡◌, ℕ, ◌+◌, pos, negsuc, List, [], ◌∷◌, Some, None, refl}
use Rattle.om_alpha.specs.declared.op.Scale.TheVariants.{One, Eight}
use Rattle.om_alpha.specs.declared.op.Width.TheVariants.{Long, Quad}
use Rattle.om_alpha.specs.declared.op.Cond.TheVariants as cond
use Rattle.om_alpha.specs.declared.op.AluOp.TheVariants.{Add, Sextb}
use Rattle.om_isa.specs.declared.instr.MemOp.TheVariants.{Lda, Ldq}
use Rattle.om_isa.specs.declared.instr.JumpOp.TheVariants.{Ret}
use Rattle.om_isa.specs.declared.instr.BrOp.TheVariants.{If}
use Rattle.om_isa.specs.declared.instr.MiscOp.TheVariants.{Wmb}
use Rattle.om_isa.specs.declared.instr.Opnd.TheVariants.{R, Lit}
use Rattle.om_isa.specs.declared.instr.Instr.TheVariants.{Mem, Jump, Branch, Alu, Cmov, Misc, Callsys, Fnop, Halt}
use Rattle.om_isa.specs.Words.{instr_of, word_of, memory_at, branch_at, jump_at, misc_at, move_at, operate_at, operand_at, fixed_at}
use Rattle.om_isa.specs.Registers.{mask_of, regs_read, regs_written}
use Rattle.om_isa.specs.Target.{target_of}
use Rattle.om_isa.specs.SystemCall.{Reached, At, BadAddress, Observes, Exits, Answers, Puts, Takes, HeapEnd, Resizes, CallObserves, AsksEnd, AsksOffset, AsksOther, AskObserves, system_call, taken, resized}

-- lda r16,7(r31)
pub row_lda : instr_of 0x221f0007 ≡ Some (Mem Lda 16 31 (pos 7))
unfolding instr_of memory_at branch_at jump_at misc_at move_at operate_at operand_at fixed_at
row_lda = refl

-- ldq r1,-8(r30)
pub row_ldq : instr_of 0xa43efff8 ≡ Some (Mem Ldq 1 30 (negsuc 7))
unfolding instr_of memory_at branch_at jump_at misc_at move_at operate_at operand_at fixed_at
row_ldq = refl

-- ret r31,(r26),1
pub row_ret : instr_of 0x6bfa8001 ≡ Some (Jump Ret 31 26 1)
unfolding instr_of memory_at branch_at jump_at misc_at move_at operate_at operand_at fixed_at
row_ret = refl

-- beq r1,-1
pub row_beq : instr_of 0xe43fffff ≡ Some (Branch (If cond.Eq) 1 (negsuc 0))
unfolding instr_of memory_at branch_at jump_at misc_at move_at operate_at operand_at fixed_at
row_beq = refl

-- wmb, with registers that have no effect
pub row_wmb : instr_of 0x63e34400 ≡ Some (Misc Wmb 31 3)
unfolding instr_of memory_at branch_at jump_at misc_at move_at operate_at operand_at fixed_at
row_wmb = refl

-- s8addq r1,#8,r3
pub row_literal : instr_of 0x40211643 ≡ Some (Alu (Add Eight Quad) 1 (Lit 8) 3)
unfolding instr_of memory_at branch_at jump_at misc_at move_at operate_at operand_at fixed_at
row_literal = refl

-- cmoveq r1,r2,r3
pub row_move : instr_of 0x44220483 ≡ Some (Cmov cond.Eq 1 (R 2) 3)
unfolding instr_of memory_at branch_at jump_at misc_at move_at operate_at operand_at fixed_at
row_move = refl

pub row_call : instr_of 0x00000083 ≡ Some Callsys
unfolding instr_of memory_at branch_at jump_at misc_at move_at operate_at operand_at fixed_at
row_call = refl

pub row_halt : instr_of 0x00000000 ≡ Some Halt
unfolding instr_of memory_at branch_at jump_at misc_at move_at operate_at operand_at fixed_at
row_halt = refl

pub row_fnop : instr_of 0x5fff041f ≡ Some Fnop
unfolding instr_of memory_at branch_at jump_at misc_at move_at operate_at operand_at fixed_at
row_fnop = refl

-- a floating-point word
pub row_float : instr_of 0x58001400 ≡ None
unfolding instr_of memory_at branch_at jump_at misc_at move_at operate_at operand_at fixed_at
row_float = refl

-- addq r1,r2,r3 with bit 13 set, and with bit 15 set
pub row_bit_13 : instr_of 0x40222403 ≡ None
unfolding instr_of memory_at branch_at jump_at misc_at move_at operate_at operand_at fixed_at
row_bit_13 = refl

pub row_bit_15 : instr_of 0x40228403 ≡ None
unfolding instr_of memory_at branch_at jump_at misc_at move_at operate_at operand_at fixed_at
row_bit_15 = refl

pub row_word : word_of (Alu (Add One Quad) 1 (R 2) 3) ≡ 0x40220403
row_word = refl

-- masks: a conditional move, a load into r31, an address into r31, a sign extension, a call
pub row_move_reads : mask_of (regs_read (Cmov cond.Eq 1 (R 2) 3)) ≡ 0xe
row_move_reads = refl

pub row_load_reads : mask_of (regs_read (Mem Ldq 31 2 (pos 0))) ≡ 0
row_load_reads = refl

pub row_address_reads : mask_of (regs_read (Mem Lda 31 2 (pos 0))) ≡ 4
row_address_reads = refl

pub row_extension_reads : mask_of (regs_read (Alu Sextb 1 (R 2) 3)) ≡ 4
row_extension_reads = refl

pub row_call_reads : mask_of (regs_read Callsys) ≡ 0x70001
row_call_reads = refl

pub row_call_writes : mask_of (regs_written Callsys) ≡ 0x80001
row_call_writes = refl

pub row_lost_write : mask_of (regs_written (Alu (Add One Long) 1 (R 2) 31)) ≡ 0
row_lost_write = refl

-- a branch to itself, and one past the end of the numbers
pub row_itself : target_of (Branch (If cond.Eq) 1 (negsuc 0)) 0x120000000 ≡ Some 0x120000000
row_itself = refl

pub row_wraps : target_of (Branch (If cond.Eq) 1 (pos 0)) 0xfffffffffffffffc ≡ Some 0
row_wraps = refl

module _ (bytes : ℕ → Reached (List ℕ)) (room : ℕ → Reached (Unit {0})) where
  -- exit takes a0 modulo 256
  pub row_exit : system_call bytes room (Some 1) (Some 259) None 0 AskObserves ≡ Exits 3
  row_exit = refl

  -- the descriptor is looked at before the count, the count before the address
  pub row_descriptor : system_call bytes room (Some 4) (Some 0) (Some 0) 0 AsksEnd ≡ Answers 9 1
  row_descriptor = refl

  pub row_no_bytes : system_call bytes room (Some 4) (Some 2) (Some 0) 0 AsksOther ≡ Answers 0 0
  row_no_bytes = refl

  pub row_no_count : system_call bytes room (Some 3) (Some 5) None 0 AsksOther ≡ CallObserves
  row_no_count = refl

  pub row_unknown : system_call bytes room (Some 2) (Some 5) None 0 AsksOther ≡ Answers 78 1
  row_unknown = refl

  pub row_no_number : system_call bytes room None (Some 5) (Some 1) 0 AsksOther ≡ CallObserves
  row_no_number = refl

  -- the heap's call needs no number in a0
  pub row_heap_end : system_call bytes room (Some 17) None None 64 AsksEnd ≡ HeapEnd 64
  row_heap_end = refl

  pub row_heap_most : system_call bytes room (Some 17) None None 64 (AsksOffset 16777216) ≡ Resizes 16777216
  row_heap_most = refl

  pub row_heap_more : system_call bytes room (Some 17) None None 64 (AsksOffset 16777217) ≡ Answers 12 1
  row_heap_more = refl

  pub row_heap_other : system_call bytes room (Some 17) None None 64 AsksOther ≡ Answers 12 1
  row_heap_other = refl

  pub row_heap_observes : system_call bytes room (Some 17) None None 64 AskObserves ≡ CallObserves
  row_heap_observes = refl

-- a range that is bad, that would observe an address, and that has bytes
pub row_bad : system_call (λ n. BadAddress) (λ n. BadAddress) (Some 4) (Some 1) (Some 2) 0 AsksOther ≡ Answers 14 1
row_bad = refl

pub row_observes : system_call (λ n. Observes) (λ n. Observes) (Some 3) (Some 0) (Some 2) 0 AsksOther ≡ CallObserves
row_observes = refl

pub row_put : system_call (λ n. At (104 ∷ 105 ∷ [])) (λ n. Observes) (Some 4) (Some 1) (Some 2) 0 AsksOther ≡ Puts 1 (104 ∷ 105 ∷ [])
row_put = refl

pub row_take : system_call (λ n. Observes) (λ n. At tt) (Some 3) (Some 0) (Some 2) 0 AsksOther ≡ Takes 2
row_take = refl

-- a read takes what there is, but no more than was asked for
pub row_taken : taken 2 (104 ∷ 105 ∷ 106 ∷ []) ≡ 104 ∷ 105 ∷ []
row_taken = refl

pub row_taken_all : taken 9 (104 ∷ 105 ∷ []) ≡ 104 ∷ 105 ∷ []
row_taken_all = refl

-- a heap that grows, one that shrinks, and places past both sizes
pub row_grows : resized 0 2 4 (λ n. n + 5) 1 ≡ 6
row_grows = refl

pub row_new_cell : resized 0 2 4 (λ n. n + 5) 2 ≡ 0
row_new_cell = refl

pub row_lost_cell : resized 0 4 2 (λ n. n + 5) 3 ≡ 0
row_lost_cell = refl

pub row_kept_cell : resized 0 4 2 (λ n. n + 5) 1 ≡ 6
row_kept_cell = refl

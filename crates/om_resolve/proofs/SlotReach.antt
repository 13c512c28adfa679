-- The slots of an address table that the 16 bits of a load reach are at most 8,192.
use Rattle.std.proofs.Common.{◌≡◌, ◌⊎◌, inl, inr, ℕ, ◌+◌, ◌-◌, ◌*◌, ◌/◌, ◌%◌, ◌^◌, ◌<◌, ◌≤◌, Bool, true, false, cond, ◌==◌, ◌&&◌, Option, Some, None, ap, sym, ◌∙◌, arith}
use Rattle.std.specs.Prelude.{ℤ, option_map, option_and_then, find}
use Rattle.std.specs.Option.{option_or}
use Rattle.std.specs.Int.{w16, w64, cast_signed, cast_unsigned}
use Rattle.std.proofs.lemmas.Bool.Decides.{nat_tests}
use Rattle.std.proofs.lemmas.Int.{ints}
use Rattle.om_fields.specs.Places.{minus_64}
use Rattle.om_isa.specs.declared.instr.Instr.{Instr}
use Rattle.om_isa.specs.declared.instr.Instr.TheVariants.{Mem, Branch, Jump, Alu, Cmov, Misc, Fnop, Halt, Callsys}
use Rattle.om_isa.specs.declared.instr.MemOp.{MemOp}
use Rattle.om_isa.specs.declared.instr.Opnd.{Opnd}
use Rattle.om_isa.specs.Codes.{memory_opcode, branch_opcode, memory_ops, branch_ops, jump_opcode, jump_ops, jump_code, misc_opcode, misc_ops, misc_code, move_opcode, move_function, conditions, operate_ops, operate_code, fnop_word, halt_word, callsys_word}
use Rattle.om_isa.specs.Fields.{field, disp_of}
use Rattle.om_isa.specs.Words.{opcode, reg_a, reg_b, reg_c, memory_at, branch_at, jump_at, misc_at, move_at, operate_at, operand_at, fixed_at, instr_of}
use Rattle.om_isa.proofs.Found.{or_some, map_some, then_some, if_some}
use Rattle.om_object.specs.Words.{moved}

-- ---- the displacement of an instruction of the memory format has 16 bits

abbrev Other : ℕ → Option Instr → Type 0
Other w o = (op : MemOp) (ra rb : ℕ) (disp : ℤ) → o ≡ Some (Mem op ra rb disp) → ⊥

from_memory : (w : ℕ) (op : MemOp) (ra rb : ℕ) (disp : ℤ) → memory_at w ≡ Some (Mem op ra rb disp) → cast_signed w16 (field w 0 16) ≡ disp
unfolding memory_at
from_memory w op ra rb disp h =
    let k = map_some (λ op. Mem op (reg_a w) (reg_b w) (cast_signed w16 (field w 0 16))) (find (λ op. memory_opcode op == opcode w) memory_ops) (Mem op ra rb disp) h in
    let same : Mem k.0 (reg_a w) (reg_b w) (cast_signed w16 (field w 0 16)) ≡ Mem op ra rb disp = k.2 in
    cc

no_branch : (w : ℕ) → Other w (branch_at w)
unfolding branch_at
no_branch w op ra rb disp h =
    let k = map_some (λ op. Branch op (reg_a w) (disp_of (field w 0 21))) (find (λ op. branch_opcode op == opcode w) branch_ops) (Mem op ra rb disp) h in
    let never : Branch k.0 (reg_a w) (disp_of (field w 0 21)) ≡ Mem op ra rb disp = k.2 in
    cc

no_jump : (w : ℕ) → Other w (jump_at w)
unfolding jump_at
no_jump w op ra rb disp h = by_test (if_some (opcode w == jump_opcode) (option_map (λ kind. Jump kind (reg_a w) (reg_b w) (field w 0 14)) (find (λ kind. jump_code kind == field w 14 2) jump_ops)) None (Mem op ra rb disp) h)
  where
    by_test : (((opcode w == jump_opcode) ≡ true) × (option_map (λ kind. Jump kind (reg_a w) (reg_b w) (field w 0 14)) (find (λ kind. jump_code kind == field w 14 2) jump_ops) ≡ Some (Mem op ra rb disp))) ⊎ (((opcode w == jump_opcode) ≡ false) × (None ≡ Some (Mem op ra rb disp))) → ⊥
    by_test (inl b) =
        let k = map_some (λ kind. Jump kind (reg_a w) (reg_b w) (field w 0 14)) (find (λ kind. jump_code kind == field w 14 2) jump_ops) (Mem op ra rb disp) b.1 in
        let never : Jump k.0 (reg_a w) (reg_b w) (field w 0 14) ≡ Mem op ra rb disp = k.2 in
        cc
    by_test (inr b) = let never : None ≡ Some (Mem op ra rb disp) = b.1 in cc

no_misc : (w : ℕ) → Other w (misc_at w)
unfolding misc_at
no_misc w op ra rb disp h = by_test (if_some (opcode w == misc_opcode) (option_map (λ op. Misc op (reg_a w) (reg_b w)) (find (λ op. misc_code op == field w 0 16) misc_ops)) None (Mem op ra rb disp) h)
  where
    by_test : (((opcode w == misc_opcode) ≡ true) × (option_map (λ op. Misc op (reg_a w) (reg_b w)) (find (λ op. misc_code op == field w 0 16) misc_ops) ≡ Some (Mem op ra rb disp))) ⊎ (((opcode w == misc_opcode) ≡ false) × (None ≡ Some (Mem op ra rb disp))) → ⊥
    by_test (inl b) =
        let k = map_some (λ op. Misc op (reg_a w) (reg_b w)) (find (λ op. misc_code op == field w 0 16) misc_ops) (Mem op ra rb disp) b.1 in
        let never : Misc k.0 (reg_a w) (reg_b w) ≡ Mem op ra rb disp = k.2 in
        cc
    by_test (inr b) = let never : None ≡ Some (Mem op ra rb disp) = b.1 in cc

abbrev moves : ℕ → Opnd → Option Instr
moves w rb = option_map (λ cond. Cmov cond (reg_a w) rb (reg_c w)) (find (λ cond. move_function cond == field w 5 7) conditions)

no_move : (w : ℕ) → Other w (move_at w)
unfolding move_at
no_move w op ra rb disp h = by_test (if_some (opcode w == move_opcode) (option_and_then (moves w) (operand_at w)) None (Mem op ra rb disp) h)
  where
    by_test : (((opcode w == move_opcode) ≡ true) × (option_and_then (moves w) (operand_at w) ≡ Some (Mem op ra rb disp))) ⊎ (((opcode w == move_opcode) ≡ false) × (None ≡ Some (Mem op ra rb disp))) → ⊥
    by_test (inl b) =
        let o = then_some (moves w) (operand_at w) (Mem op ra rb disp) b.1 in
        let k = map_some (λ cond. Cmov cond (reg_a w) o.0 (reg_c w)) (find (λ cond. move_function cond == field w 5 7) conditions) (Mem op ra rb disp) o.2 in
        let never : Cmov k.0 (reg_a w) o.0 (reg_c w) ≡ Mem op ra rb disp = k.2 in
        cc
    by_test (inr b) = let never : None ≡ Some (Mem op ra rb disp) = b.1 in cc

abbrev operates : ℕ → Opnd → Option Instr
operates w rb = option_map (λ op. Alu op (reg_a w) rb (reg_c w)) (find (λ op. ((operate_code op).0 == opcode w) && ((operate_code op).1 == field w 5 7)) operate_ops)

no_operate : (w : ℕ) → Other w (operate_at w)
unfolding operate_at
no_operate w op ra rb disp h =
    let o = then_some (operates w) (operand_at w) (Mem op ra rb disp) h in
    let k = map_some (λ op. Alu op (reg_a w) o.0 (reg_c w)) (find (λ op. ((operate_code op).0 == opcode w) && ((operate_code op).1 == field w 5 7)) operate_ops) (Mem op ra rb disp) o.2 in
    let never : Alu k.0 (reg_a w) o.0 (reg_c w) ≡ Mem op ra rb disp = k.2 in
    cc

no_fixed : (w : ℕ) → Other w (fixed_at w)
unfolding fixed_at
no_fixed w op ra rb disp h = by_word (w == fnop_word) (w == halt_word) (w == callsys_word) h
  where
    by_word : (a b c : Bool) → cond a (Some Fnop) (cond b (Some Halt) (cond c (Some Callsys) None)) ≡ Some (Mem op ra rb disp) → ⊥
    by_word true b c h = cc
    by_word false true c h = cc
    by_word false false true h = cc
    by_word false false false h = cc

or_other : (w : ℕ) (a b : Option Instr) → Other w a → Other w b → Other w (option_or a b)
or_other w a b f g op ra rb disp h = by_side (or_some a b (Mem op ra rb disp) h)
  where
    by_side : (a ≡ Some (Mem op ra rb disp)) ⊎ (b ≡ Some (Mem op ra rb disp)) → ⊥
    by_side (inl e) = f op ra rb disp e
    by_side (inr e) = g op ra rb disp e

pub short_disp : (w : ℕ) (op : MemOp) (ra rb : ℕ) (disp : ℤ) → instr_of w ≡ Some (Mem op ra rb disp) → cast_signed w16 (field w 0 16) ≡ disp
unfolding instr_of
short_disp w op ra rb disp h = by_side (or_some (memory_at w) rest (Mem op ra rb disp) h)
  where
    rest : Option Instr
    rest = option_or (branch_at w) (option_or (jump_at w) (option_or (misc_at w) (option_or (move_at w) (option_or (operate_at w) (fixed_at w)))))

    other : Other w rest
    other =
        or_other w (branch_at w) _ (no_branch w) (or_other w (jump_at w) _ (no_jump w) (or_other w (misc_at w) _ (no_misc w)
        (or_other w (move_at w) _ (no_move w) (or_other w (operate_at w) (fixed_at w) (no_operate w) (no_fixed w)))))

    by_side : (memory_at w ≡ Some (Mem op ra rb disp)) ⊎ (rest ≡ Some (Mem op ra rb disp)) → cast_signed w16 (field w 0 16) ≡ disp
    by_side (inl e) = from_memory w op ra rb disp e
    by_side (inr e) = absurd (other op ra rb disp e)

-- ---- offsets

-- the offset that the least displacement gives
abbrev pub first_reached : ℕ → ℕ → ℕ
first_reached gp addr = (gp + (2 ^ 64 - addr) + (2 ^ 64 - 32768)) % 2 ^ 64

-- the slot of a number, of those that are reached
abbrev pub slot_reached : ℕ → ℕ → ℕ → ℕ
slot_reached gp addr q = ((first_reached gp addr + 7) / 8 * 8 + 8 * q) % 2 ^ 64

signed_half : (f : ℕ) → f < 65536 → cast_unsigned w64 (cast_signed w16 f) ≡ ((f + 32768) % 65536 + (2 ^ 64 - 32768)) % 2 ^ 64
signed_half f h = grind (arith, nat_tests, ints)

offset_reached : (gp addr u v : ℕ) → u ≡ (v + (2 ^ 64 - 32768)) % 2 ^ 64 → minus_64 ((gp + u) % 2 ^ 64) addr ≡ (first_reached gp addr + v) % 2 ^ 64
offset_reached gp addr u v e = omega arith

reached_from : (first v : ℕ) → v < 65536 → (first + v) % 2 ^ 64 % 8 ≡ 0 → (q : ℕ) × (q < 8192) × (((first + 7) / 8 * 8 + 8 * q) % 2 ^ 64 ≡ (first + v) % 2 ^ 64)
reached_from first v h z =
    let even : (first + v) % 8 ≡ 0 = omega arith in
    let above : (first + 7) / 8 * 8 ≤ first + v = omega arith in
    let count : (first + v - (first + 7) / 8 * 8) / 8 < 8192 = omega arith in
    let whole : (first + 7) / 8 * 8 + 8 * ((first + v - (first + 7) / 8 * 8) / 8) ≡ first + v = omega arith in
    ((first + v - (first + 7) / 8 * 8) / 8, count, ap (λ n. n % 2 ^ 64) whole)

pub slot_is_reached : (gp addr w : ℕ) (disp : ℤ) → cast_signed w16 (field w 0 16) ≡ disp → minus_64 (moved gp disp) addr % 8 ≡ 0 → (q : ℕ) × (q < 8192) × (slot_reached gp addr q ≡ minus_64 (moved gp disp) addr)
slot_is_reached gp addr w disp e z =
    let half : field w 0 16 < 65536 = omega arith in
    let bits = ap (cast_unsigned w64) (sym e) ∙ signed_half (field w 0 16) half in
    let at = offset_reached gp addr (cast_unsigned w64 disp) ((field w 0 16 + 32768) % 65536) bits in
    let r = reached_from (first_reached gp addr) ((field w 0 16 + 32768) % 65536) (omega arith) (sym (ap (λ n. n % 8) at) ∙ z) in
    (r.0, r.1, r.2 ∙ sym at)

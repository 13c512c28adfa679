-- What is read is spelled so, and what is spelled so is read.
use Rattle.std.proofs.Common.{◌≡◌, ◌↔◌, ◌⊎◌, inl, inr, ℕ, ◌+◌, ◌*◌, ◌^◌, ◌<◌, Bool, true, false, cond, ◌&&◌, ◌==◌, Option, Some, None, refl, lit<, arith, rules, subst, ap, sym, ◌∙◌, ℤ, pos, negsuc}
use Rattle.std.specs.Prelude.{option_map, option_and_then, FitsSigned}
use Rattle.std.specs.Option.{option_or}
use Rattle.std.specs.Int.{w16, cast_unsigned, cast_signed}
use Rattle.std.proofs.lemmas.Int.{ints, to_z-of_z, of_z-to_z}
use Rattle.std.proofs.lemmas.Bool.{eqb-true, eqb-false}
use Rattle.std.proofs.lemmas.Bool.Decides.{nat_tests}
use Rattle.om_alpha.specs.declared.op.AluOp.{AluOp}
use Rattle.om_alpha.specs.declared.op.Cond.{Cond}
use Rattle.om_isa.specs.declared.instr.MemOp.{MemOp}
use Rattle.om_isa.specs.declared.instr.BrOp.{BrOp}
use Rattle.om_isa.specs.declared.instr.JumpOp.{JumpOp}
use Rattle.om_isa.specs.declared.instr.MiscOp.{MiscOp}
use Rattle.om_isa.specs.declared.instr.Opnd.{Opnd}
use Rattle.om_isa.specs.declared.instr.Opnd.TheVariants.{R, Lit}
use Rattle.om_isa.specs.declared.instr.Instr.{Instr}
use Rattle.om_isa.specs.declared.instr.Instr.TheVariants.{Mem, Jump, Branch, Alu, Cmov, Misc, Fnop, Halt, Callsys}
use Rattle.om_isa.specs.Fields.{field, IsDisp, disp_bits, disp_of}
use Rattle.om_isa.specs.Codes.{memory_opcode, branch_opcode, jump_code, misc_code, operate_code, move_function, memory_ops, branch_ops, jump_ops, misc_ops, operate_ops, conditions}
use Rattle.om_isa.specs.Words.{memory_word, branch_word, operand_bits, word_of, IsOperand, IsInstr, opcode, reg_a, reg_b, reg_c, memory_at, branch_at, jump_at, misc_at, operand_at, operate_at, move_at, fixed_at, instr_of, Encodes}
use Rattle.om_isa.proofs.Rows.{memory_found, branch_found, jump_found, misc_found, move_found, operate_found, memory_row, branch_row, jump_row, misc_row, move_row, operate_row, operate_facts}
use Rattle.om_isa.proofs.Found.{or_some, map_some, then_some, find_passes, if_some, and_true}

-- the fields of fields side by side
pub memory_fields : (w o ra rb low : ℕ) → o < 64 → ra < 32 → rb < 32 → low < 65536 → w ≡ memory_word o ra rb low → (opcode w ≡ o) × (reg_a w ≡ ra) × (reg_b w ≡ rb) × (field w 0 16 ≡ low)
memory_fields w o ra rb low ho ha hb hl e = (omega arith, omega arith, omega arith, omega arith)

pub branch_fields : (w o ra low : ℕ) → o < 64 → ra < 32 → low < 2097152 → w ≡ branch_word o ra low → (opcode w ≡ o) × (reg_a w ≡ ra) × (field w 0 21 ≡ low)
branch_fields w o ra low ho ha hl e = (omega arith, omega arith, omega arith)

-- signed fields there and back
pub half_bits : (z : ℤ) → FitsSigned w16 z → cast_unsigned w16 z < 65536
half_bits z f = omega (arith, ints)

pub disp_back : (z : ℤ) → IsDisp z → (disp_bits z < 2097152) × (disp_of (disp_bits z) ≡ z)
disp_back (pos n) d = (omega (arith, ints), grind (arith, nat_tests, ints))
disp_back (negsuc n) d = (omega (arith, ints), grind (arith, nat_tests, ints))

pub disp_there : (n : ℕ) → n < 2097152 → IsDisp (disp_of n) × (disp_bits (disp_of n) ≡ n)
disp_there n h = grind (arith, nat_tests, ints)

-- memory format
pub memory_reads : (w : ℕ) (op : MemOp) → opcode w ≡ memory_opcode op → memory_at w ≡ Some (Mem op (reg_a w) (reg_b w) (cast_signed w16 (field w 0 16)))
unfolding memory_at
memory_reads w op e = ap (option_map (λ o. Mem o (reg_a w) (reg_b w) (cast_signed w16 (field w 0 16)))) (ap memory_found e ∙ (memory_row op).0)

pub memory_none : (w : ℕ) → memory_found (opcode w) ≡ None → memory_at w ≡ None
unfolding memory_at
memory_none w e = ap (option_map (λ o. Mem o (reg_a w) (reg_b w) (cast_signed w16 (field w 0 16)))) e

pub memory_complete : (w : ℕ) (op : MemOp) (ra rb : ℕ) (disp : ℤ) → Encodes w (Mem op ra rb disp) → instr_of w ≡ Some (Mem op ra rb disp)
unfolding instr_of
memory_complete w op ra rb disp s =
    let small : memory_opcode op < 64 = grind (arith, nat_tests, (memory_row op).1) in
    let f = memory_fields w (memory_opcode op) ra rb (cast_unsigned w16 disp) small s.fields.0 s.fields.1 (half_bits disp s.fields.2) s.word in
    let e = memory_reads w op f.0 in
    let z = to_z-of_z w16 disp s.fields.2 in
    cc

pub memory_sound : (w : ℕ) (i : Instr) → w < 2 ^ 32 → memory_at w ≡ Some i → Encodes w i
unfolding memory_at
memory_sound w i h e =
    let m = map_some (λ o. Mem o (reg_a w) (reg_b w) (cast_signed w16 (field w 0 16))) (memory_found (opcode w)) i e in
    let o : memory_opcode m.0 ≡ opcode w = eqb-true _ _ (find_passes (λ op. memory_opcode op == opcode w) memory_ops m.0 m.1) in
    let u : cast_unsigned w16 (cast_signed w16 (field w 0 16)) ≡ field w 0 16 = of_z-to_z w16 (field w 0 16) (omega arith) in
    let P : Instr → Type 0 = λ i. Encodes w i in
    subst P m.2 (record { fields = (omega arith, omega arith, search rules); word = omega (arith, o, u) })

-- branch format
pub branch_complete : (w : ℕ) (op : BrOp) (ra : ℕ) (disp : ℤ) → Encodes w (Branch op ra disp) → instr_of w ≡ Some (Branch op ra disp)
unfolding instr_of branch_at
branch_complete w op ra disp s =
    let row = branch_row op in
    let small : branch_opcode op < 64 = grind (arith, nat_tests, row.1) in
    let d = disp_back disp s.fields.1 in
    let f = branch_fields w (branch_opcode op) ra (disp_bits disp) small s.fields.0 d.0 s.word in
    let none : memory_at w ≡ None = memory_none w (ap memory_found f.0 ∙ row.2) in
    let found : branch_found (opcode w) ≡ Some op = ap branch_found f.0 ∙ row.0 in
    let z : disp_of (field w 0 21) ≡ disp = ap disp_of f.2 ∙ d.1 in
    rw (none, found) (cc)

pub branch_sound : (w : ℕ) (i : Instr) → w < 2 ^ 32 → branch_at w ≡ Some i → Encodes w i
unfolding branch_at
branch_sound w i h e =
    let m = map_some (λ o. Branch o (reg_a w) (disp_of (field w 0 21))) (branch_found (opcode w)) i e in
    let o : branch_opcode m.0 ≡ opcode w = eqb-true _ _ (find_passes (λ op. branch_opcode op == opcode w) branch_ops m.0 m.1) in
    let d = disp_there (field w 0 21) (omega arith) in
    let P : Instr → Type 0 = λ i. Encodes w i in
    subst P m.2 (record { fields = (omega arith, d.0); word = omega (arith, o, d.1) })

-- jumps
pub jump_complete : (w : ℕ) (kind : JumpOp) (ra rb hint : ℕ) → Encodes w (Jump kind ra rb hint) → instr_of w ≡ Some (Jump kind ra rb hint)
unfolding instr_of memory_at branch_at jump_at
jump_complete w kind ra rb hint s =
    let row = jump_row kind in
    let small : jump_code kind < 4 = grind (arith, nat_tests, row.1) in
    let f = memory_fields w 26 ra rb (jump_code kind * 16384 + hint) (lit< tt) s.fields.0 s.fields.1 (omega arith) s.word in
    let code : field w 14 2 ≡ jump_code kind = omega arith in
    let h : field w 0 14 ≡ hint = omega arith in
    let found : jump_found (field w 14 2) ≡ Some kind = ap jump_found code ∙ row.0 in
    let o : opcode w ≡ 26 = f.0 in
    rw (o, found) (cc)

pub jump_sound : (w : ℕ) (i : Instr) → w < 2 ^ 32 → jump_at w ≡ Some i → Encodes w i
unfolding jump_at
jump_sound w i h e =
    jump_case (if_some (opcode w == 26) _ _ i e)
  where
    jump_case : (((opcode w == 26) ≡ true) × (option_map (λ kind. Jump kind (reg_a w) (reg_b w) (field w 0 14)) (jump_found (field w 14 2)) ≡ Some i)) ⊎ (((opcode w == 26) ≡ false) × (None ≡ Some i)) → Encodes w i
    jump_case (inr n) = let e = n.1 in cc
    jump_case (inl y) =
        let m = map_some (λ kind. Jump kind (reg_a w) (reg_b w) (field w 0 14)) (jump_found (field w 14 2)) i y.1 in
        let o : opcode w ≡ 26 = eqb-true _ _ y.0 in
        let k : jump_code m.0 ≡ field w 14 2 = eqb-true _ _ (find_passes (λ kind. jump_code kind == field w 14 2) jump_ops m.0 m.1) in
        let P : Instr → Type 0 = λ i. Encodes w i in
        subst P m.2 (record { fields = (omega arith, omega arith, omega arith); word = omega (arith, o, k) })

-- barriers
pub misc_complete : (w : ℕ) (op : MiscOp) (ra rb : ℕ) → Encodes w (Misc op ra rb) → instr_of w ≡ Some (Misc op ra rb)
unfolding instr_of memory_at branch_at jump_at misc_at
misc_complete w op ra rb s =
    let row = misc_row op in
    let small : misc_code op < 65536 = grind (arith, nat_tests, row.1) in
    let f = memory_fields w 24 ra rb (misc_code op) (lit< tt) s.fields.0 s.fields.1 small s.word in
    let found : misc_found (field w 0 16) ≡ Some op = ap misc_found f.3 ∙ row.0 in
    let o : opcode w ≡ 24 = f.0 in
    rw (o, found) (cc)

pub misc_sound : (w : ℕ) (i : Instr) → w < 2 ^ 32 → misc_at w ≡ Some i → Encodes w i
unfolding misc_at
misc_sound w i h e =
    misc_case (if_some (opcode w == 24) _ _ i e)
  where
    misc_case : (((opcode w == 24) ≡ true) × (option_map (λ op. Misc op (reg_a w) (reg_b w)) (misc_found (field w 0 16)) ≡ Some i)) ⊎ (((opcode w == 24) ≡ false) × (None ≡ Some i)) → Encodes w i
    misc_case (inr n) = let e = n.1 in cc
    misc_case (inl y) =
        let m = map_some (λ op. Misc op (reg_a w) (reg_b w)) (misc_found (field w 0 16)) i y.1 in
        let o : opcode w ≡ 24 = eqb-true _ _ y.0 in
        let k : misc_code m.0 ≡ field w 0 16 = eqb-true _ _ (find_passes (λ op. misc_code op == field w 0 16) misc_ops m.0 m.1) in
        let P : Instr → Type 0 = λ i. Encodes w i in
        subst P m.2 (record { fields = (omega arith, omega arith); word = omega (arith, o, k) })

-- operands
pub operate_fields : (w o f ra bits rc : ℕ) → o < 64 → f < 128 → ra < 32 → bits < 512 → rc < 32 → w ≡ o * 2 ^ 26 + ra * 2 ^ 21 + bits * 2 ^ 12 + f * 2 ^ 5 + rc → (opcode w ≡ o) × (field w 5 7 ≡ f) × (reg_a w ≡ ra) × (field w 12 9 ≡ bits) × (reg_c w ≡ rc)
operate_fields w o f ra bits rc ho hf ha hb hc e = (omega arith, omega arith, omega arith, omega arith, omega arith)

pub operand_read : (w : ℕ) (rb : Opnd) → IsOperand rb → field w 12 9 ≡ operand_bits rb → (operand_at w ≡ Some rb) × (operand_bits rb < 512)
unfolding operand_at
operand_read w (R b) h e =
    let bit : field w 12 1 ≡ 0 = omega arith in
    let zero : field w 13 3 ≡ 0 = omega arith in
    let r : reg_b w ≡ b = omega arith in
    (rw (bit, zero, r) refl, omega arith)
operand_read w (Lit n) h e =
    let bit : field w 12 1 ≡ 1 = omega arith in
    let r : field w 13 8 ≡ n = omega arith in
    (rw (bit, r) refl, omega arith)

pub operand_sound : (w : ℕ) (rb : Opnd) → operand_at w ≡ Some rb → IsOperand rb × (field w 12 9 ≡ operand_bits rb)
unfolding operand_at
operand_sound w rb e = literal (if_some (field w 12 1 == 1) _ _ rb e)
  where
    register : (field w 12 1 == 1) ≡ false → (((field w 13 3 == 0) ≡ true) × (Some (R (reg_b w)) ≡ Some rb)) ⊎ (((field w 13 3 == 0) ≡ false) × (None ≡ Some rb)) → IsOperand rb × (field w 12 9 ≡ operand_bits rb)
    register b (inr n) = let e = n.1 in cc
    register b (inl y) =
        let z : field w 13 3 ≡ 0 = eqb-true _ _ y.0 in
        let one : field w 12 1 ≡ 1 → ⊥ = eqb-false _ _ b in
        let same : R (reg_b w) ≡ rb = let e = y.1 in cc in
        let P : Opnd → Type 0 = λ rb. IsOperand rb × (field w 12 9 ≡ operand_bits rb) in
        subst P same (omega arith, omega (arith, z, one))

    literal : (((field w 12 1 == 1) ≡ true) × (Some (Lit (field w 13 8)) ≡ Some rb)) ⊎ (((field w 12 1 == 1) ≡ false) × (cond (field w 13 3 == 0) (Some (R (reg_b w))) None ≡ Some rb)) → IsOperand rb × (field w 12 9 ≡ operand_bits rb)
    literal (inr n) = register n.0 (if_some (field w 13 3 == 0) _ _ rb n.1)
    literal (inl y) =
        let one : field w 12 1 ≡ 1 = eqb-true _ _ y.0 in
        let same : Lit (field w 13 8) ≡ rb = let e = y.1 in cc in
        let P : Opnd → Type 0 = λ rb. IsOperand rb × (field w 12 9 ≡ operand_bits rb) in
        subst P same (omega arith, omega (arith, one))

-- conditional moves
pub operand_small : (rb : Opnd) → IsOperand rb → operand_bits rb < 512
operand_small (R b) h = omega arith
operand_small (Lit n) h = omega arith

pub move_complete : (w : ℕ) (c : Cond) (ra : ℕ) (rb : Opnd) (rc : ℕ) → Encodes w (Cmov c ra rb rc) → instr_of w ≡ Some (Cmov c ra rb rc)
unfolding instr_of memory_at branch_at jump_at misc_at move_at
move_complete w c ra rb rc s =
    let row = move_row c in
    let small : move_function c < 128 = grind (arith, nat_tests, row.1) in
    let f = operate_fields w 17 (move_function c) ra (operand_bits rb) rc (lit< tt) small s.fields.0 (operand_small rb s.fields.1) s.fields.2 s.word in
    let b : operand_at w ≡ Some rb = (operand_read w rb s.fields.1 f.3).0 in
    let found : move_found (field w 5 7) ≡ Some c = ap move_found f.1 ∙ row.0 in
    let o : opcode w ≡ 17 = f.0 in
    rw (o, b, found) (cc)

pub move_sound : (w : ℕ) (i : Instr) → w < 2 ^ 32 → move_at w ≡ Some i → Encodes w i
unfolding move_at
move_sound w i h e = move_case (if_some (opcode w == 17) _ _ i e)
  where
    move_case : (((opcode w == 17) ≡ true) × (option_and_then (λ rb. option_map (λ c. Cmov c (reg_a w) rb (reg_c w)) (move_found (field w 5 7))) (operand_at w) ≡ Some i)) ⊎ (((opcode w == 17) ≡ false) × (None ≡ Some i)) → Encodes w i
    move_case (inr n) = let e = n.1 in cc
    move_case (inl y) =
        let b = then_some (λ rb. option_map (λ c. Cmov c (reg_a w) rb (reg_c w)) (move_found (field w 5 7))) (operand_at w) i y.1 in
        let m = map_some (λ c. Cmov c (reg_a w) b.0 (reg_c w)) (move_found (field w 5 7)) i b.2 in
        let o : opcode w ≡ 17 = eqb-true _ _ y.0 in
        let k : move_function m.0 ≡ field w 5 7 = eqb-true _ _ (find_passes (λ c. move_function c == field w 5 7) conditions m.0 m.1) in
        let r = operand_sound w b.0 b.1 in
        let P : Instr → Type 0 = λ i. Encodes w i in
        subst P m.2 (record { fields = (omega arith, r.0, omega arith); word = omega (arith, o, k, r.1) })

-- operations
no_move : (b : Bool) (o : Option Opnd) → cond b (option_and_then {U = Instr} (λ rb. None) o) None ≡ None
no_move false o = refl
no_move true None = refl
no_move true (Some rb) = refl

move_none : (w : ℕ) → ((opcode w == 17) ≡ false) ⊎ (move_found (field w 5 7) ≡ None) → move_at w ≡ None
unfolding move_at
move_none w (inl e) = rw e refl
move_none w (inr e) = rw e (no_move (opcode w == 17) (operand_at w))

pub operate_complete : (w : ℕ) (op : AluOp) (ra : ℕ) (rb : Opnd) (rc : ℕ) → Encodes w (Alu op ra rb rc) → instr_of w ≡ Some (Alu op ra rb rc)
unfolding instr_of memory_at branch_at jump_at misc_at operate_at
operate_complete w op ra rb rc s =
    let row = operate_row op in
    let t = operate_facts (operate_code op).0 (operate_code op).1 row.1 in
    let f = operate_fields w (operate_code op).0 (operate_code op).1 ra (operand_bits rb) rc t.opcode t.function s.fields.0 (operand_small rb s.fields.1) s.fields.2 s.word in
    let b : operand_at w ≡ Some rb = (operand_read w rb s.fields.1 f.3).0 in
    let none_m : memory_found (opcode w) ≡ None = ap memory_found f.0 ∙ t.memory in
    let none_b : branch_found (opcode w) ≡ None = ap branch_found f.0 ∙ t.branch in
    let j : (opcode w == 26) ≡ false = ap (λ n. n == 26) f.0 ∙ t.jump in
    let k : (opcode w == 24) ≡ false = ap (λ n. n == 24) f.0 ∙ t.misc in
    let found : operate_found (opcode w) (field w 5 7) ≡ Some op = ap (λ n. operate_found n (field w 5 7)) f.0 ∙ ap (operate_found (operate_code op).0) f.1 ∙ row.0 in
    let P : ℕ → ℕ → Type 0 = λ o f. ((o == 17) ≡ false) ⊎ (move_found f ≡ None) in
    let mv : P (opcode w) (field w 5 7) = subst (λ n. P n (field w 5 7)) (sym f.0) (subst (P (operate_code op).0) (sym f.1) t.move) in
    let none_v : move_at w ≡ None = move_none w mv in
    rw (none_m, none_b, j, k, none_v, b, found) (cc)

pub operate_sound : (w : ℕ) (i : Instr) → w < 2 ^ 32 → operate_at w ≡ Some i → Encodes w i
unfolding operate_at
operate_sound w i h e =
    let b = then_some (λ rb. option_map (λ op. Alu op (reg_a w) rb (reg_c w)) (operate_found (opcode w) (field w 5 7))) (operand_at w) i e in
    let m = map_some (λ op. Alu op (reg_a w) b.0 (reg_c w)) (operate_found (opcode w) (field w 5 7)) i b.2 in
    let p = and_true _ _ (find_passes (λ op. ((operate_code op).0 == opcode w) && ((operate_code op).1 == field w 5 7)) operate_ops m.0 m.1) in
    let o : (operate_code m.0).0 ≡ opcode w = eqb-true _ _ p.0 in
    let k : (operate_code m.0).1 ≡ field w 5 7 = eqb-true _ _ p.1 in
    let r = operand_sound w b.0 b.1 in
    let P : Instr → Type 0 = λ i. Encodes w i in
    subst P m.2 (record { fields = (omega arith, r.0, omega arith); word = omega (arith, o, k, r.1) })

-- the three words with no fields
pub fixed_sound : (w : ℕ) (i : Instr) → fixed_at w ≡ Some i → Encodes w i
unfolding fixed_at
fixed_sound w i e = first (if_some (w == 0x5fff041f) _ _ i e)
  where
    P : Instr → Type 0
    P i = Encodes w i

    third : (((w == 0x83) ≡ true) × (Some Callsys ≡ Some i)) ⊎ (((w == 0x83) ≡ false) × (None ≡ Some i)) → Encodes w i
    third (inl y) = let same : Callsys ≡ i = let e = y.1 in cc in subst (λ i. Encodes w i) same (record { fields = tt; word = eqb-true _ _ y.0 })
    third (inr n) = let e = n.1 in cc

    second : (((w == 0) ≡ true) × (Some Halt ≡ Some i)) ⊎ (((w == 0) ≡ false) × (cond (w == 0x83) (Some Callsys) None ≡ Some i)) → Encodes w i
    second (inl y) = let same : Halt ≡ i = let e = y.1 in cc in subst (λ i. Encodes w i) same (record { fields = tt; word = eqb-true _ _ y.0 })
    second (inr n) = third (if_some (w == 0x83) _ _ i n.1)

    first : (((w == 0x5fff041f) ≡ true) × (Some Fnop ≡ Some i)) ⊎ (((w == 0x5fff041f) ≡ false) × (cond (w == 0) (Some Halt) (cond (w == 0x83) (Some Callsys) None) ≡ Some i)) → Encodes w i
    first (inl y) = let same : Fnop ≡ i = let e = y.1 in cc in subst (λ i. Encodes w i) same (record { fields = tt; word = eqb-true _ _ y.0 })
    first (inr n) = second (if_some (w == 0) _ _ i n.1)

fixed_complete : (w : ℕ) (i : Instr) → instr_of (word_of i) ≡ Some i → w ≡ word_of i → instr_of w ≡ Some i
fixed_complete w i e h = ap instr_of h ∙ e

pub complete : (w : ℕ) (i : Instr) → Encodes w i → instr_of w ≡ Some i
unfolding instr_of memory_at branch_at jump_at misc_at move_at operate_at operand_at fixed_at
complete w (Mem op ra rb disp) s = memory_complete w op ra rb disp s
complete w (Jump kind ra rb hint) s = jump_complete w kind ra rb hint s
complete w (Branch op ra disp) s = branch_complete w op ra disp s
complete w (Alu op ra rb rc) s = operate_complete w op ra rb rc s
complete w (Cmov c ra rb rc) s = move_complete w c ra rb rc s
complete w (Misc op ra rb) s = misc_complete w op ra rb s
complete w Fnop s = fixed_complete w Fnop refl s.word
complete w Halt s = fixed_complete w Halt refl s.word
complete w Callsys s = fixed_complete w Callsys refl s.word

pub sound : (w : ℕ) (i : Instr) → w < 2 ^ 32 → instr_of w ≡ Some i → Encodes w i
unfolding instr_of
sound w i h e = s1 (or_some (memory_at w) _ i e)
  where
    s6 : (operate_at w ≡ Some i) ⊎ (fixed_at w ≡ Some i) → Encodes w i
    s6 (inl e) = operate_sound w i h e
    s6 (inr e) = fixed_sound w i e

    s5 : (move_at w ≡ Some i) ⊎ (option_or (operate_at w) (fixed_at w) ≡ Some i) → Encodes w i
    s5 (inl e) = move_sound w i h e
    s5 (inr e) = s6 (or_some (operate_at w) _ i e)

    s4 : (misc_at w ≡ Some i) ⊎ (option_or (move_at w) (option_or (operate_at w) (fixed_at w)) ≡ Some i) → Encodes w i
    s4 (inl e) = misc_sound w i h e
    s4 (inr e) = s5 (or_some (move_at w) _ i e)

    s3 : (jump_at w ≡ Some i) ⊎ (option_or (misc_at w) (option_or (move_at w) (option_or (operate_at w) (fixed_at w))) ≡ Some i) → Encodes w i
    s3 (inl e) = jump_sound w i h e
    s3 (inr e) = s4 (or_some (misc_at w) _ i e)

    s2 : (branch_at w ≡ Some i) ⊎ (option_or (jump_at w) (option_or (misc_at w) (option_or (move_at w) (option_or (operate_at w) (fixed_at w)))) ≡ Some i) → Encodes w i
    s2 (inl e) = branch_sound w i h e
    s2 (inr e) = s3 (or_some (jump_at w) _ i e)

    s1 : (memory_at w ≡ Some i) ⊎ (option_or (branch_at w) (option_or (jump_at w) (option_or (misc_at w) (option_or (move_at w) (option_or (operate_at w) (fixed_at w))))) ≡ Some i) → Encodes w i
    s1 (inl e) = memory_sound w i h e
    s1 (inr e) = s2 (or_some (branch_at w) _ i e)

pub fits : (i : Instr) → IsInstr i → word_of i < 2 ^ 32
fits (Mem op ra rb disp) f = let a : memory_opcode op < 64 = grind (arith, nat_tests, (memory_row op).1) in omega (arith, half_bits disp f.2)
fits (Jump kind ra rb hint) f = let a : jump_code kind < 4 = grind (arith, nat_tests, (jump_row kind).1) in omega arith
fits (Branch op ra disp) f = let a : branch_opcode op < 64 = grind (arith, nat_tests, (branch_row op).1) in omega (arith, (disp_back disp f.1).0)
fits (Alu op ra rb rc) f = let t = operate_facts (operate_code op).0 (operate_code op).1 (operate_row op).1 in omega (arith, t.opcode, t.function, operand_small rb f.1)
fits (Cmov c ra rb rc) f = let a : move_function c < 128 = grind (arith, nat_tests, (move_row c).1) in omega (arith, operand_small rb f.1)
fits (Misc op ra rb) f = let a : misc_code op < 65536 = grind (arith, nat_tests, (misc_row op).1) in omega arith
fits Fnop f = lit< tt
fits Halt f = lit< tt
fits Callsys f = lit< tt

-- the relation both ways
pub read_exactly : (w : ℕ) (i : Instr) → w < 2 ^ 32 → (instr_of w ≡ Some i) ↔ Encodes w i
read_exactly w i h = (sound w i h, complete w i)

nothing : (w : ℕ) (o : Option Instr) → instr_of w ≡ o → ((i : Instr) → ¬ Encodes w i) → w < 2 ^ 32 → o ≡ None
nothing w None e no_instr h = refl
nothing w (Some i) e no_instr h = absurd (no_instr i (sound w i h e))

-- a word is not read exactly where it has no instruction
pub none_exactly : (w : ℕ) → w < 2 ^ 32 → (instr_of w ≡ None) ↔ ((i : Instr) → ¬ Encodes w i)
none_exactly w h = ((λ e i s. let f = complete w i s in cc), (λ no_instr. nothing w (instr_of w) refl no_instr h))

pub one_instr : (w : ℕ) (i j : Instr) → Encodes w i → Encodes w j → i ≡ j
one_instr w i j s t = let e = complete w i s in let f = complete w j t in cc

pub a_word : (i : Instr) → IsInstr i → Encodes (word_of i) i × (word_of i < 2 ^ 32)
a_word i f = (record { fields = f; word = refl }, fits i f)

pub one_word : (v w : ℕ) (i : Instr) → Encodes v i → Encodes w i → v ≡ w
one_word v w i s t = s.word ∙ sym t.word

-- Each row of the tables is found by its numbers.
use Rattle.std.proofs.Common.{◌≡◌, ℕ, ◌<◌, Bool, true, false, not, ◌&&◌, ◌==◌, nat_lt, Option, Some, None, is_some, refl, arith, ◌⊎◌, inl, inr}
use Rattle.std.specs.Prelude.{find}
use Rattle.std.proofs.lemmas.Bool.Decides.{nat_tests}
use Rattle.om_isa.specs.Codes.{memory_opcode, branch_opcode, jump_code, misc_code, operate_code, move_function, memory_ops, branch_ops, jump_ops, misc_ops, operate_ops, conditions}
use Rattle.om_alpha.specs.declared.op.Width.TheVariants.{Long, Quad}
use Rattle.om_alpha.specs.declared.op.Scale.TheVariants.{One, Four, Eight}
use Rattle.om_alpha.specs.declared.op.Cmp.TheVariants as cmp
use Rattle.om_alpha.specs.declared.op.Size.TheVariants as size
use Rattle.om_alpha.specs.declared.op.Wide.TheVariants as wide
use Rattle.om_alpha.specs.declared.op.AluOp.{AluOp}
use Rattle.om_alpha.specs.declared.op.AluOp.TheVariants.{Add, Sub, Mul, AddV, SubV, MulV, Umulh, Compare, Cmpbge, And, Bis, Xor, Bic, Ornot, Eqv, Sll, Srl, Sra, Zap, Zapnot, Sextb, Sextw, ExtLow, ExtHigh, InsLow, InsHigh, MskLow, MskHigh}
use Rattle.om_alpha.specs.declared.op.Cond.{Cond}
use Rattle.om_alpha.specs.declared.op.Cond.TheVariants as cond
use Rattle.om_isa.specs.declared.instr.MemOp.{MemOp}
use Rattle.om_isa.specs.declared.instr.MemOp.TheVariants.{Lda, Ldah, Ldbu, LdqU, Ldwu, Stw, Stb, StqU, Ldl, Ldq, Stl, Stq}
use Rattle.om_isa.specs.declared.instr.JumpOp.{JumpOp}
use Rattle.om_isa.specs.declared.instr.JumpOp.TheVariants.{Jmp, Jsr, Ret, Jcr}
use Rattle.om_isa.specs.declared.instr.BrOp.{BrOp}
use Rattle.om_isa.specs.declared.instr.BrOp.TheVariants.{Br, Bsr, If}
use Rattle.om_isa.specs.declared.instr.MiscOp.{MiscOp}
use Rattle.om_isa.specs.declared.instr.MiscOp.TheVariants.{Trapb, Excb, Mb, Wmb}

abbrev pub memory_found : ℕ → Option MemOp
memory_found n = find (λ op. memory_opcode op == n) memory_ops

abbrev pub branch_found : ℕ → Option BrOp
branch_found n = find (λ op. branch_opcode op == n) branch_ops

abbrev pub jump_found : ℕ → Option JumpOp
jump_found n = find (λ kind. jump_code kind == n) jump_ops

abbrev pub misc_found : ℕ → Option MiscOp
misc_found n = find (λ op. misc_code op == n) misc_ops

abbrev pub move_found : ℕ → Option Cond
move_found n = find (λ cond. move_function cond == n) conditions

abbrev pub operate_found : ℕ → ℕ → Option AluOp
operate_found o f = find (λ op. ((operate_code op).0 == o) && ((operate_code op).1 == f)) operate_ops

pub memory_row : (op : MemOp) → (memory_found (memory_opcode op) ≡ Some op) × (nat_lt (memory_opcode op) 64 ≡ true)
memory_row Lda = (refl, refl)
memory_row Ldah = (refl, refl)
memory_row Ldbu = (refl, refl)
memory_row LdqU = (refl, refl)
memory_row Ldwu = (refl, refl)
memory_row Stw = (refl, refl)
memory_row Stb = (refl, refl)
memory_row StqU = (refl, refl)
memory_row Ldl = (refl, refl)
memory_row Ldq = (refl, refl)
memory_row Stl = (refl, refl)
memory_row Stq = (refl, refl)

pub branch_row : (op : BrOp) → (branch_found (branch_opcode op) ≡ Some op) × (nat_lt (branch_opcode op) 64 ≡ true) × (memory_found (branch_opcode op) ≡ None)
branch_row Br = (refl, refl, refl)
branch_row Bsr = (refl, refl, refl)
branch_row (If cond.Lbc) = (refl, refl, refl)
branch_row (If cond.Eq) = (refl, refl, refl)
branch_row (If cond.Lt) = (refl, refl, refl)
branch_row (If cond.Le) = (refl, refl, refl)
branch_row (If cond.Lbs) = (refl, refl, refl)
branch_row (If cond.Ne) = (refl, refl, refl)
branch_row (If cond.Ge) = (refl, refl, refl)
branch_row (If cond.Gt) = (refl, refl, refl)

pub jump_row : (kind : JumpOp) → (jump_found (jump_code kind) ≡ Some kind) × (nat_lt (jump_code kind) 4 ≡ true)
jump_row Jmp = (refl, refl)
jump_row Jsr = (refl, refl)
jump_row Ret = (refl, refl)
jump_row Jcr = (refl, refl)

pub misc_row : (op : MiscOp) → (misc_found (misc_code op) ≡ Some op) × (nat_lt (misc_code op) 65536 ≡ true)
misc_row Trapb = (refl, refl)
misc_row Excb = (refl, refl)
misc_row Mb = (refl, refl)
misc_row Wmb = (refl, refl)

pub move_row : (c : Cond) → (move_found (move_function c) ≡ Some c) × (nat_lt (move_function c) 128 ≡ true)
move_row cond.Lbs = (refl, refl)
move_row cond.Lbc = (refl, refl)
move_row cond.Eq = (refl, refl)
move_row cond.Ne = (refl, refl)
move_row cond.Lt = (refl, refl)
move_row cond.Ge = (refl, refl)
move_row cond.Le = (refl, refl)
move_row cond.Gt = (refl, refl)

-- an operation's numbers fit, and are those of no other format
abbrev pub is_operate : ℕ → ℕ → Bool
is_operate o f =
    nat_lt o 64 && nat_lt f 128 && not (is_some (memory_found o)) && not (is_some (branch_found o)) && not (o == 0x1a) && not (o == 0x18) && not ((o == 0x11) && is_some (move_found f))

pub operate_row : (op : AluOp) → (operate_found (operate_code op).0 (operate_code op).1 ≡ Some op) × (is_operate (operate_code op).0 (operate_code op).1 ≡ true)
operate_row (Add One Long) = (refl, refl)
operate_row (Add Four Long) = (refl, refl)
operate_row (Sub One Long) = (refl, refl)
operate_row (Sub Four Long) = (refl, refl)
operate_row Cmpbge = (refl, refl)
operate_row (Add Eight Long) = (refl, refl)
operate_row (Sub Eight Long) = (refl, refl)
operate_row (Compare cmp.Ult) = (refl, refl)
operate_row (Add One Quad) = (refl, refl)
operate_row (Add Four Quad) = (refl, refl)
operate_row (Sub One Quad) = (refl, refl)
operate_row (Sub Four Quad) = (refl, refl)
operate_row (Compare cmp.Eq) = (refl, refl)
operate_row (Add Eight Quad) = (refl, refl)
operate_row (Sub Eight Quad) = (refl, refl)
operate_row (Compare cmp.Ule) = (refl, refl)
operate_row (AddV Long) = (refl, refl)
operate_row (SubV Long) = (refl, refl)
operate_row (Compare cmp.Lt) = (refl, refl)
operate_row (AddV Quad) = (refl, refl)
operate_row (SubV Quad) = (refl, refl)
operate_row (Compare cmp.Le) = (refl, refl)
operate_row And = (refl, refl)
operate_row Bic = (refl, refl)
operate_row Bis = (refl, refl)
operate_row Ornot = (refl, refl)
operate_row Xor = (refl, refl)
operate_row Eqv = (refl, refl)
operate_row (MskLow size.Byte) = (refl, refl)
operate_row (ExtLow size.Byte) = (refl, refl)
operate_row (InsLow size.Byte) = (refl, refl)
operate_row (MskLow size.Word) = (refl, refl)
operate_row (ExtLow size.Word) = (refl, refl)
operate_row (InsLow size.Word) = (refl, refl)
operate_row (MskLow size.Long) = (refl, refl)
operate_row (ExtLow size.Long) = (refl, refl)
operate_row (InsLow size.Long) = (refl, refl)
operate_row Zap = (refl, refl)
operate_row Zapnot = (refl, refl)
operate_row (MskLow size.Quad) = (refl, refl)
operate_row Srl = (refl, refl)
operate_row (ExtLow size.Quad) = (refl, refl)
operate_row Sll = (refl, refl)
operate_row (InsLow size.Quad) = (refl, refl)
operate_row Sra = (refl, refl)
operate_row (MskHigh wide.Word) = (refl, refl)
operate_row (InsHigh wide.Word) = (refl, refl)
operate_row (ExtHigh wide.Word) = (refl, refl)
operate_row (MskHigh wide.Long) = (refl, refl)
operate_row (InsHigh wide.Long) = (refl, refl)
operate_row (ExtHigh wide.Long) = (refl, refl)
operate_row (MskHigh wide.Quad) = (refl, refl)
operate_row (InsHigh wide.Quad) = (refl, refl)
operate_row (ExtHigh wide.Quad) = (refl, refl)
operate_row (Mul Long) = (refl, refl)
operate_row (Mul Quad) = (refl, refl)
operate_row Umulh = (refl, refl)
operate_row (MulV Long) = (refl, refl)
operate_row (MulV Quad) = (refl, refl)
operate_row Sextb = (refl, refl)
operate_row Sextw = (refl, refl)

-- what the test says
pub record Operate (o f : ℕ) : Type 0 where
  pub opcode : o < 64
  pub function : f < 128
  pub memory : memory_found o ≡ None
  pub branch : branch_found o ≡ None
  pub jump : (o == 0x1a) ≡ false
  pub misc : (o == 0x18) ≡ false
  pub move : ((o == 0x11) ≡ false) ⊎ (move_found f ≡ None)

none_of : {A : Type 0} (o : Option A) → not (is_some o) ≡ true → o ≡ None
none_of None e = refl
none_of (Some x) e = cc

and_true : (a b : Bool) → (a && b) ≡ true → (a ≡ true) × (b ≡ true)
and_true true b e = (refl, e)
and_true false b e = cc

not_true : (a : Bool) → not a ≡ true → a ≡ false
not_true false e = refl
not_true true e = cc

not_both : {A : Type 0} (a : Bool) (o : Option A) → not (a && is_some o) ≡ true → (a ≡ false) ⊎ (o ≡ None)
not_both false o e = inl refl
not_both true None e = inr refl
not_both true (Some x) e = cc

pub operate_facts : (o f : ℕ) → is_operate o f ≡ true → Operate o f
operate_facts o f e =
    let a = and_true _ (not ((o == 0x11) && is_some (move_found f))) e in
    let b = and_true _ (not (o == 0x18)) a.0 in
    let c = and_true _ (not (o == 0x1a)) b.0 in
    let d = and_true _ (not (is_some (branch_found o))) c.0 in
    let g = and_true _ (not (is_some (memory_found o))) d.0 in
    let h = and_true (nat_lt o 64) (nat_lt f 128) g.0 in
    record { opcode = grind (arith, nat_tests, h.0); function = grind (arith, nat_tests, h.1); memory = none_of (memory_found o) g.1; branch = none_of (branch_found o) d.1; jump = not_true (o == 0x1a) c.1; misc = not_true (o == 0x18) b.1; move = not_both (o == 0x11) (move_found f) a.1 }

-- A step depends on the registers that its word reads alone.
use Rattle.std.proofs.Common.{◌≡◌, ℕ, Bool, true, false, cond, ◌==◌, [], ◌∷◌, refl}
use Rattle.std.specs.Prelude.{ℤ}
use Rattle.om_alpha.specs.declared.op.AluOp.{AluOp}
use Rattle.om_alpha.specs.declared.op.AluOp.TheVariants.{Sextb, Sextw}
use Rattle.om_alpha.specs.declared.op.TrapKind.TheVariants as trap
use Rattle.om_isa.specs.declared.instr.MemOp.{MemOp}
use Rattle.om_isa.specs.declared.instr.BrOp.{BrOp}
use Rattle.om_isa.specs.declared.instr.BrOp.TheVariants.{Br, Bsr, If}
use Rattle.om_isa.specs.declared.instr.Opnd.{Opnd}
use Rattle.om_isa.specs.declared.instr.Opnd.TheVariants.{R, Lit as Literal}
use Rattle.om_isa.specs.declared.instr.Instr.{Instr}
use Rattle.om_isa.specs.declared.instr.Instr.TheVariants.{Mem, Jump as Jumps, Branch, Alu, Cmov, Misc, Fnop, Halt, Callsys}
use Rattle.om_isa.specs.declared.instr.Access.{Access}
use Rattle.om_isa.specs.declared.instr.Access.TheVariants.{Address, Load, Store as Stores}
use Rattle.om_isa.specs.Registers.{access_of, memory_reads, operand_regs, alu_reads, branch_reads}
use Rattle.om_isa.specs.Effect.{Nothing, Set, Stop, with_value}
use Rattle.om_value.specs.declared.value.Place.{Place}
use Rattle.om_value.specs.declared.value.Target.{Target}
use Rattle.om_value.specs.declared.value.Value.{Value}
use Rattle.om_value.specs.declared.value.Value.TheVariants.{Num, Ptr, Code, Gp, Half, GpOff}
use Rattle.om_value.specs.Lift.{lifted, lifted_add, on_numbers, moves_pointer, keeps_value, distance, compares, above_small, low_bits, named_bytes, from_gp, value_of}
use Rattle.om_prog.specs.Flow.{Agree, moved}
use Rattle.om_prog.specs.Act.{Act, Plain, Lit, GpHi, GpLo, To, AddrLda, AddrHi, UseLo, UseGp, Wrong, Script, act_reads, base_of, stored_reads, used_reads}
use Rattle.om_prog.specs.Step.{SymState, SymEffect, read_reg, act_effect, plain_effect, memory_effect, alu_effect, branch_effect, used_effect, needs, operand, region_size, overflows_on, load, accessed}

-- a sign extension looks at its second operand alone
sextb_same : (a b : Value) (m n : ℕ) → lifted Sextb a m b n ≡ lifted Sextb (Num 0) 0 b n
unfolding lifted on_numbers moves_pointer keeps_value distance compares above_small low_bits named_bytes from_gp
sextb_same (Num k) (Num l) m n = refl
sextb_same (Num k) b m n = refl
sextb_same (Ptr r x) (Num l) m n = refl
sextb_same (Ptr r x) (Ptr z y) m n = refl
sextb_same (Ptr r x) (Code z) m n = refl
sextb_same (Ptr r x) (Gp z) m n = refl
sextb_same (Ptr r x) (Half z) m n = refl
sextb_same (Ptr r x) (GpOff z y) m n = refl
sextb_same (Code p) (Num l) m n = refl
sextb_same (Code p) (Ptr r x) m n = refl
sextb_same (Code p) (Code o) m n = refl
sextb_same (Code p) (Gp o) m n = refl
sextb_same (Code p) (Half o) m n = refl
sextb_same (Code p) (GpOff o t) m n = refl
sextb_same (Gp o) (Num l) m n = refl
sextb_same (Gp o) (Ptr z y) m n = refl
sextb_same (Gp o) (Code z) m n = refl
sextb_same (Gp o) (Gp z) m n = refl
sextb_same (Gp o) (Half z) m n = refl
sextb_same (Gp o) (GpOff z y) m n = refl
sextb_same (Half p) (Num l) m n = refl
sextb_same (Half p) (Ptr z y) m n = refl
sextb_same (Half p) (Code z) m n = refl
sextb_same (Half p) (Gp z) m n = refl
sextb_same (Half p) (Half z) m n = refl
sextb_same (Half p) (GpOff z y) m n = refl
sextb_same (GpOff o t) (Num l) m n = refl
sextb_same (GpOff o t) (Ptr z y) m n = refl
sextb_same (GpOff o t) (Code z) m n = refl
sextb_same (GpOff o t) (Gp z) m n = refl
sextb_same (GpOff o t) (Half z) m n = refl
sextb_same (GpOff o t) (GpOff z y) m n = refl

sextw_same : (a b : Value) (m n : ℕ) → lifted Sextw a m b n ≡ lifted Sextw (Num 0) 0 b n
unfolding lifted on_numbers moves_pointer keeps_value distance compares above_small low_bits named_bytes from_gp
sextw_same (Num k) b m n = refl
sextw_same (Ptr r x) (Num l) m n = refl
sextw_same (Ptr r x) (Ptr z y) m n = refl
sextw_same (Ptr r x) (Code z) m n = refl
sextw_same (Ptr r x) (Gp z) m n = refl
sextw_same (Ptr r x) (Half z) m n = refl
sextw_same (Ptr r x) (GpOff z y) m n = refl
sextw_same (Code p) (Num l) m n = refl
sextw_same (Code p) (Ptr r x) m n = refl
sextw_same (Code p) (Code o) m n = refl
sextw_same (Code p) (Gp o) m n = refl
sextw_same (Code p) (Half o) m n = refl
sextw_same (Code p) (GpOff o t) m n = refl
sextw_same (Gp o) (Num l) m n = refl
sextw_same (Gp o) (Ptr z y) m n = refl
sextw_same (Gp o) (Code z) m n = refl
sextw_same (Gp o) (Gp z) m n = refl
sextw_same (Gp o) (Half z) m n = refl
sextw_same (Gp o) (GpOff z y) m n = refl
sextw_same (Half p) (Num l) m n = refl
sextw_same (Half p) (Ptr z y) m n = refl
sextw_same (Half p) (Code z) m n = refl
sextw_same (Half p) (Gp z) m n = refl
sextw_same (Half p) (Half z) m n = refl
sextw_same (Half p) (GpOff z y) m n = refl
sextw_same (GpOff o t) (Num l) m n = refl
sextw_same (GpOff o t) (Ptr z y) m n = refl
sextw_same (GpOff o t) (Code z) m n = refl
sextw_same (GpOff o t) (Gp z) m n = refl
sextw_same (GpOff o t) (Half z) m n = refl
sextw_same (GpOff o t) (GpOff z y) m n = refl

no_overflow_b : (c : Script) (s : SymState) (a b : Value) → overflows_on c s Sextb a b ≡ false
no_overflow_b c s (Num m) (Num n) = refl
no_overflow_b c s a b = refl

no_overflow_w : (c : Script) (s : SymState) (a b : Value) → overflows_on c s Sextw a b ≡ false
no_overflow_w c s (Num m) (Num n) = refl
no_overflow_w c s a b = refl

module _ (c : Script) (s : SymState) (rs : ℕ → Value) (q : Place) where
  memory_same :
      (a : Access) (op : MemOp) (ra rb : ℕ) (disp : ℤ) → Agree rs s.regs (memory_reads a ra rb) →
      memory_effect c (moved s rs q) a op ra (read_reg rs rb) disp ≡ memory_effect c s a op ra (read_reg s.regs rb) disp
  memory_same Address op ra rb disp g = rw (g.0) refl
  memory_same Load op ra rb disp g = by_case (ra == 31) g
    where
      by_case :
          (b : Bool) → Agree rs s.regs (cond b [] (rb ∷ [])) →
          cond {A = SymEffect} b Nothing (with_value (lifted_add (read_reg rs rb) disp) (λ v. load c s op ra (accessed op v))) ≡
          cond {A = SymEffect} b Nothing (with_value (lifted_add (read_reg s.regs rb) disp) (λ v. load c s op ra (accessed op v)))
      by_case true g = refl
      by_case false g = rw (g.0) refl
  memory_same Stores op ra rb disp g = rw (g.0, g.1.0) refl

  used_same :
      (a : Access) (op : MemOp) (ra : ℕ) (base : Value) (disp : ℤ) → Agree rs s.regs (stored_reads a ra) →
      memory_effect c (moved s rs q) a op ra base disp ≡ memory_effect c s a op ra base disp
  used_same Address op ra base disp g = refl
  used_same Load op ra base disp g = refl
  used_same Stores op ra base disp g = rw (g.0) refl

  use_same : (i : Instr) (t : Target) → Agree rs s.regs (used_reads i) → used_effect c (moved s rs q) i t ≡ used_effect c s i t
  use_same (Mem op ra rb disp) t g = used_same (access_of op) op ra (value_of t) disp g
  use_same i t g = refl

  operand_same : (rb : Opnd) → Agree rs s.regs (operand_regs rb) → operand c (moved s rs q) rb ≡ operand c s rb
  operand_same (R r) g = g.0
  operand_same (Literal n) g = refl

  extended_same :
      (op : AluOp) (a a' b : Value) (m m' n rc : ℕ) → lifted op a m b n ≡ lifted op (Num 0) 0 b n → lifted op a' m' b n ≡ lifted op (Num 0) 0 b n →
      overflows_on c (moved s rs q) op a b ≡ false → overflows_on c s op a' b ≡ false →
      cond {A = SymEffect} (overflows_on c (moved s rs q) op a b) (Stop trap.Overflow) (with_value (lifted op a m b n) (λ v. Set rc v)) ≡
      cond {A = SymEffect} (overflows_on c s op a' b) (Stop trap.Overflow) (with_value (lifted op a' m' b n) (λ v. Set rc v))
  extended_same op a a' b m m' n rc e f g h = rw (e, f, g, h) refl

  alu_same :
      (op : AluOp) (ra : ℕ) (rb : Opnd) (rc : ℕ) → Agree rs s.regs (alu_reads op ra (operand_regs rb)) →
      alu_effect c (moved s rs q) op (read_reg rs ra) (operand c (moved s rs q) rb) rc ≡ alu_effect c s op (read_reg s.regs ra) (operand c s rb) rc
  alu_same Sextb ra rb rc g =
      let f = operand_same rb g in
      let b = operand c s rb in
      let n = region_size c s b in
      rw f (extended_same Sextb _ _ b _ _ n rc (sextb_same _ b _ n) (sextb_same _ b _ n) (no_overflow_b c (moved s rs q) (read_reg rs ra) b) (no_overflow_b c s (read_reg s.regs ra) b))
  alu_same Sextw ra rb rc g =
      let f = operand_same rb g in
      let b = operand c s rb in
      let n = region_size c s b in
      rw f (extended_same Sextw _ _ b _ _ n rc (sextw_same _ b _ n) (sextw_same _ b _ n) (no_overflow_w c (moved s rs q) (read_reg rs ra) b) (no_overflow_w c s (read_reg s.regs ra) b))
  alu_same op ra rb rc g = let e = g.0 in let f = operand_same rb g.1 in rw (e, f) refl

  branch_same : (op : BrOp) (ra : ℕ) (to : Place) → Agree rs s.regs (branch_reads op ra) → branch_effect c (moved s rs q) op ra to ≡ branch_effect c s op ra to
  branch_same Br ra to g = refl
  branch_same Bsr ra to g = refl
  branch_same (If k) ra to g = rw (g.0) refl

  plain_same : (i : Instr) → Agree rs s.regs (act_reads (Plain i)) → plain_effect c (moved s rs q) i ≡ plain_effect c s i
  plain_same (Mem op ra rb disp) g = memory_same (access_of op) op ra rb disp g
  plain_same (Jumps kind ra rb hint) g = rw (g.0) refl
  plain_same (Branch op ra disp) g = refl
  plain_same (Alu op ra rb rc) g = alu_same op ra rb rc g
  plain_same (Cmov k ra rb rc) g = let e = g.0 in let f = operand_same rb g.1.1 in rw (e, f) refl
  plain_same (Misc op ra rb) g = refl
  plain_same Fnop g = refl
  plain_same Halt g = refl
  plain_same Callsys g = rw (g.0, g.1.0, g.1.1.0, g.1.1.1.0) refl

  needs_same : (r : ℕ) (v : Value) (e f : SymEffect) → read_reg rs r ≡ read_reg s.regs r → e ≡ f → needs c (moved s rs q) r v e ≡ needs c s r v f
  needs_same r v e f g h = rw (g, h) refl

  if_same : (b : Bool) (x e f : SymEffect) → e ≡ f → cond b x e ≡ cond b x f
  if_same true x e f h = refl
  if_same false x e f h = h

  pub act_same : (at : Place) (a : Act) → Agree rs s.regs (act_reads a) → act_effect c (moved s rs q) at a ≡ act_effect c s at a
  act_same at (Plain i) g = plain_same i g
  act_same at (Lit ra rb t) g = by_case (ra == 31) g
    where
      e : SymEffect
      e = Set ra (value_of t)

      by_case :
          (b : Bool) → Agree rs s.regs (cond b [] (rb ∷ [])) →
          cond b Nothing (needs c (moved s rs q) rb (Gp (c.table at.obj)) (Set ra (value_of t))) ≡ cond b Nothing (needs c s rb (Gp (c.table at.obj)) (Set ra (value_of t)))
      by_case true g = refl
      by_case false g = rw (g.0) refl
  act_same at (GpHi ra rb base) g = rw (g.0) refl
  act_same at (GpLo ra rb hi) g = rw (g.0) refl
  act_same at (To op ra to) g = branch_same op ra to g
  act_same at (AddrLda ra rb t) g = rw (g.0) refl
  act_same at (AddrHi ra rb t) g = rw (g.0) refl
  act_same at (UseLo i hi t) g = needs_same (base_of i) (Half hi) _ _ g.0 (use_same i t g.1)
  act_same at (UseGp i gp t) g = needs_same gp _ _ _ g.0 (use_same i t g.1)
  act_same at Wrong g = refl

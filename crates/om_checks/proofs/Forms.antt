-- What each rewriting does to a word: it writes what it wrote, and reads no more.
use Rattle.std.proofs.Common.{◌≡◌, ◌⊎◌, inl, inr, ◌<◌, ℕ, Bool, true, false, cond, ◌||◌, ◌==◌, List, [], ◌∷◌, refl, sym, ap, ◌∙◌, subst, arith}
use Rattle.std.specs.Prelude.{ℤ}
use Rattle.std.proofs.lemmas.Bool.{true≢false, eqb-true}
use Rattle.om_alpha.specs.declared.op.AluOp.{AluOp}
use Rattle.om_alpha.specs.declared.op.AluOp.TheVariants.{Sextb, Sextw}
use Rattle.om_isa.specs.declared.instr.BrOp.TheVariants.{Bsr}
use Rattle.om_isa.specs.declared.instr.JumpOp.{JumpOp}
use Rattle.om_isa.specs.declared.instr.Access.{Access}
use Rattle.om_isa.specs.declared.instr.Access.TheVariants.{Address, Load, Store}
use Rattle.om_isa.specs.declared.instr.Opnd.TheVariants.{R, Lit as Literal}
use Rattle.om_isa.specs.declared.instr.Instr.{Instr}
use Rattle.om_isa.specs.declared.instr.Instr.TheVariants.{Mem, Jump as Jumps, Branch, Alu, Cmov, Misc, Fnop, Halt, Callsys}
use Rattle.om_isa.specs.Registers.{access_of, memory_reads, alu_reads}
use Rattle.om_value.specs.declared.value.Place.{Place}
use Rattle.om_value.specs.declared.value.Target.{Target}
use Rattle.om_value.specs.declared.value.Target.TheVariants as target
use Rattle.om_prog.specs.Act.{Plain, Lit, To, AddrLda, AddrHi, UseLo, UseGp, Word, act_reads, act_writes, stored_reads, used_reads}
use Rattle.om_prog.specs.Flow.{Among}
use Rattle.om_prog.specs.Facts.{has}
use Rattle.om_graph.specs.Run.{rev_onto}
use Rattle.om_graph.specs.Uses.{NoneWrites, IsBaseUse, IsByteUse, with_literal}
use Rattle.om_checks.specs.Steps.{WasRead, ChangesTo}

-- a load of a pointer that becomes LDA, or LDAH; into r31 these read their base where the load read nothing
reads_base : (ra rb r : ℕ) → (ra ≡ 31 → ⊥) → has (rb ∷ []) r ≡ true → has (cond (ra == 31) [] (rb ∷ [])) r ≡ true
reads_base ra rb r n h = by_test (ra == 31) refl
  where
    by_test : (b : Bool) → (ra == 31) ≡ b → has (cond b [] (rb ∷ [])) r ≡ true
    by_test true e = absurd (n (eqb-true ra 31 e))
    by_test false e = h

pub near : (bf : List Word) (ra rb : ℕ) (t : Target) → (ra ≡ 31 → ⊥) → ChangesTo bf (Lit ra rb t) (AddrLda ra rb t)
near bf ra rb t n = record { writes = λ r. refl; reads = λ r l h. inl (reads_base ra rb r n h); loads = λ q h. absurd h; links = λ h. h }

pub far : (bf : List Word) (ra rb : ℕ) (t : Target) → (ra ≡ 31 → ⊥) → ChangesTo bf (Lit ra rb t) (AddrHi ra rb t)
far bf ra rb t n = record { writes = λ r. refl; reads = λ r l h. inl (reads_base ra rb r n h); loads = λ q h. absurd h; links = λ h. h }

-- a load of a number: LDA over r31, whatever the register
pub number : (bf : List Word) (ra rb n : ℕ) → ChangesTo bf (Lit ra rb (target.Num n)) (AddrLda ra 31 (target.Num n))
number bf ra rb n = record { writes = λ r. refl; reads = λ r l h. absurd (never r l (31 == r) refl h); loads = λ q h. absurd h; links = λ h. h }
  where
    never : (r : ℕ) → r < 31 → (b : Bool) → (31 == r) ≡ b → has (31 ∷ []) r ≡ true → ⊥
    never r l true e h = let i = eqb-true 31 r e in omega (arith, i, l)
    never r l false e h = true≢false (sym h ∙ rw e refl)

-- what a store reads besides its base it read before
stored : (a : Access) (ra rb r : ℕ) → has (stored_reads a ra) r ≡ true → has (memory_reads a ra rb) r ≡ true
stored Store ra rb r h = by_test (ra == r) refl h
  where
    by_test : (b : Bool) → (ra == r) ≡ b → has (ra ∷ []) r ≡ true → has (ra ∷ rb ∷ []) r ≡ true
    by_test true e h = rw e refl
    by_test false e h = absurd (true≢false (sym h ∙ rw e refl))
stored Load ra rb r h = absurd (true≢false (sym h))
stored Address ra rb r h = absurd (true≢false (sym h))

used : (a : Access) (ra rb gp r : ℕ) (P : Type 0) → (gp ≡ r → (has (memory_reads a ra rb) r ≡ true) ⊎ P) → has (gp ∷ stored_reads a ra) r ≡ true → (has (memory_reads a ra rb) r ≡ true) ⊎ P
used a ra rb gp r P f h = by_test (gp == r) refl
  where
    rest : (gp == r) ≡ false → has (stored_reads a ra) r ≡ true
    rest e = sym (ap (λ (b : Bool). b || has (stored_reads a ra) r) e) ∙ h

    by_test : (b : Bool) → (gp == r) ≡ b → (has (memory_reads a ra rb) r ≡ true) ⊎ P
    by_test true e = f (eqb-true gp r e)
    by_test false e = inl (stored a ra rb r (rest e))

-- what a base use reads besides its base it reads as it stands
pub used_reads_read : (r : ℕ) (i : Instr) (z : ℤ) (x : ℕ) → IsBaseUse r i z → has (used_reads i) x ≡ true → has (act_reads (Plain i)) x ≡ true
used_reads_read r (Mem op ra rb d) z x u h = stored (access_of op) ra rb x h
used_reads_read r (Jumps k ra rb y) z x u h = absurd u
used_reads_read r (Branch o ra d) z x u h = absurd u
used_reads_read r (Alu o ra rb rc) z x u h = absurd u
used_reads_read r (Cmov k ra rb rc) z x u h = absurd u
used_reads_read r (Misc o ra rb) z x u h = absurd u
used_reads_read r Fnop z x u h = absurd u
used_reads_read r Halt z x u h = absurd u
used_reads_read r Callsys z x u h = absurd u

-- a base use over a global pointer that the load before it read, and that stands between
pub use_gp : (bf : List Word) (r gp : ℕ) (i : Instr) (z : ℤ) (t : Target) → IsBaseUse r i z → WasRead gp bf → ChangesTo bf (Plain i) (UseGp i gp t)
use_gp bf r gp (Mem op ra rb d) z t u w = record {
  writes = λ r. refl;
  reads = λ x l h. used (access_of op) ra rb gp x (WasRead x bf) (λ e. inr (subst (λ (y : ℕ). WasRead y bf) e w)) h;
  loads = λ q h. absurd h;
  links = λ h. h;
}
use_gp bf r gp (Jumps k ra rb x) z t u w = absurd u
use_gp bf r gp (Branch o ra d) z t u w = absurd u
use_gp bf r gp (Alu o ra rb rc) z t u w = absurd u
use_gp bf r gp (Cmov k ra rb rc) z t u w = absurd u
use_gp bf r gp (Misc o ra rb) z t u w = absurd u
use_gp bf r gp Fnop z t u w = absurd u
use_gp bf r gp Halt z t u w = absurd u
use_gp bf r gp Callsys z t u w = absurd u

-- a base use over a high half
pub use_lo : (bf : List Word) (r : ℕ) (i : Instr) (z : ℤ) (hi : Place) (t : Target) → IsBaseUse r i z → has (act_reads (Plain i)) r ≡ true → ChangesTo bf (Plain i) (UseLo i hi t)
use_lo bf r (Mem op ra rb d) z hi t u k = record {
  writes = λ r. refl;
  reads = λ x l h. used (access_of op) ra rb rb x (WasRead x bf) (λ e. inl (subst (λ (y : ℕ). has (memory_reads (access_of op) ra rb) y ≡ true) (sym u.0 ∙ e) k)) h;
  loads = λ q h. absurd h;
  links = λ h. h;
}
use_lo bf r (Jumps k ra rb x) z hi t u w = absurd u
use_lo bf r (Branch o ra d) z hi t u w = absurd u
use_lo bf r (Alu o ra rb rc) z hi t u w = absurd u
use_lo bf r (Cmov k ra rb rc) z hi t u w = absurd u
use_lo bf r (Misc o ra rb) z hi t u w = absurd u
use_lo bf r Fnop z hi t u w = absurd u
use_lo bf r Halt z hi t u w = absurd u
use_lo bf r Callsys z hi t u w = absurd u

-- a byte use with a literal
alu_fewer : (o : AluOp) (ra rb x : ℕ) → has (alu_reads o ra []) x ≡ true → has (alu_reads o ra (rb ∷ [])) x ≡ true
alu_fewer Sextb ra rb x h = absurd (true≢false (sym h))
alu_fewer Sextw ra rb x h = absurd (true≢false (sym h))
alu_fewer o ra rb x h = by_test (ra == x) refl h
  where
    by_test : (b : Bool) → (ra == x) ≡ b → has (ra ∷ []) x ≡ true → has (ra ∷ rb ∷ []) x ≡ true
    by_test true e h = rw e refl
    by_test false e h = absurd (true≢false (sym h ∙ rw e refl))

pub byte : (bf : List Word) (r n : ℕ) (i : Instr) → IsByteUse r i → ChangesTo bf (Plain i) (Plain (with_literal n i))
byte bf r n (Alu o ra (R rb) rc) u = record { writes = λ r. refl; reads = λ x l h. inl (alu_fewer o ra rb x h); loads = λ q h. h; links = λ h. h }
byte bf r n (Alu o ra (Literal m) rc) u = absurd u
byte bf r n (Mem o ra rb d) u = absurd u
byte bf r n (Jumps k ra rb x) u = absurd u
byte bf r n (Branch o ra d) u = absurd u
byte bf r n (Cmov k ra rb rc) u = absurd u
byte bf r n (Misc o ra rb) u = absurd u
byte bf r n Fnop u = absurd u
byte bf r n Halt u = absurd u
byte bf r n Callsys u = absurd u

-- a jump that becomes a BSR with its link register, and a BSR to another place
pub direct : (bf : List Word) (k : JumpOp) (ra rb hint : ℕ) (to : Place) → ChangesTo bf (Plain (Jumps k ra rb hint)) (To Bsr ra to)
direct bf k ra rb hint to = record { writes = λ r. refl; reads = λ r l h. absurd (true≢false (sym h)); loads = λ q h. absurd h; links = λ h. h }

pub elsewhere : (bf : List Word) (ra : ℕ) (q to : Place) → ChangesTo bf (To Bsr ra q) (To Bsr ra to)
elsewhere bf ra q to = record { writes = λ r. refl; reads = λ r l h. inl h; loads = λ x h. h; links = λ h. h }

-- ---- a base that a load reads and that stands since was read

has_not : (rs : List ℕ) (r : ℕ) → (Among rs r → ⊥) → has rs r ≡ false
has_not [] r n = refl
has_not (x ∷ rs) r n = by_test (x == r) refl (has_not rs r (λ m. n (inr m)))
  where
    by_test : (b : Bool) → (x == r) ≡ b → has rs r ≡ false → has (x ∷ rs) r ≡ false
    by_test true e i = absurd (n (inl (eqb-true x r e)))
    by_test false e i = rw (e, i) refl

pub base_was_read : (mid acc : List Word) (load : Word) (r : ℕ) → has (act_reads load.act) r ≡ true → (Among (act_writes load.act) r → ⊥) → NoneWrites r mid → WasRead r (rev_onto mid (load ∷ acc))
base_was_read mid acc load r reads keeps none = onto mid (load ∷ acc) none (has_not (act_writes load.act) r keeps, inl reads)
  where
    onto : (mid l : List Word) → NoneWrites r mid → WasRead r l → WasRead r (rev_onto mid l)
    onto [] l n w = w
    onto (x ∷ mid) l n w = onto mid (x ∷ l) (λ y m. n y (inr m)) (has_not (act_writes x.act) r (n x (inl refl)), inr w)

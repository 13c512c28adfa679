-- Worked rows of bounds: how far branches reach, and which displacements and sums fit.
use Rattle.std.proofs.Common.{◌≡◌, ◌⊎◌, inl, inr, ◌*◌, ℕ, Bool, true, false, ℤ, pos, negsuc, ◌+ℤ◌, ◌*ℤ◌, ◌≤ℤ◌, List, [], ◌∷◌, refl, sym, ap, ◌∙◌, arith}
use Rattle.std.proofs.lemmas.Int.{ints}
use Rattle.std.proofs.lemmas.Bool.{true≢false}
use Rattle.om_isa.specs.declared.instr.MemOp.TheVariants.{Ldbu}
use Rattle.om_isa.specs.declared.instr.Instr.{Instr}
use Rattle.om_isa.specs.declared.instr.Instr.TheVariants.{Mem, Jump, Branch, Alu, Cmov, Misc, Fnop, Halt, Callsys}
use Rattle.om_isa.specs.declared.instr.Access.TheVariants.{Address, Load, Store}
use Rattle.om_value.specs.declared.value.Region.TheVariants.{Sec}
use Rattle.om_value.specs.declared.value.Target.{Target}
use Rattle.om_value.specs.declared.value.Target.TheVariants.{Ptr, Num}
use Rattle.om_prog.specs.View.{ProgramView}
use Rattle.om_prog.specs.Rows.{program_of}
use Rattle.om_graph.specs.declared.op.Op.{Op}
use Rattle.om_graph.specs.declared.op.OpKind.{OpKind}
use Rattle.om_graph.specs.declared.op.OpKind.TheVariants as op
use Rattle.om_graph.specs.Uses.{IsBaseUse}
use Rattle.om_graph.specs.declared.op.Last.TheVariants.{Fall}
use Rattle.om_graph.specs.View.{Block, Has, ops_of}
use Rattle.om_graph.specs.OfProgram.{TakesHigh}
use Rattle.om_graph.specs.Fits.{SumIsWithin, HaveOneQuotient, LdaFits}
use Rattle.om_graph.specs.Index.{InReach}
use Rattle.om_graph.specs.Rows.{at}

-- ---- branches

-- a text of so many words
abbrev pub long : List ℕ
long = 1048580 ∷ []

pub row_forth : InReach long (at 0) (at (4 * 1048576))
row_forth = (omega (arith, ints), omega (arith, ints))

pub row_too_far_forth : InReach long (at 0) (at (4 * 1048577)) → ⊥
row_too_far_forth d = let x = d.1 in omega (arith, ints, x)

pub row_back : InReach long (at (4 * 1048575)) (at 0)
row_back = (omega (arith, ints), omega (arith, ints))

pub row_too_far_back : InReach long (at (4 * 1048576)) (at 0) → ⊥
row_too_far_back d = let x = d.0 in omega (arith, ints, x)

-- ---- sums and displacements

-- a region of 16 bytes
abbrev pub sixteen : ProgramView
sixteen = program_of [] (record { region = Sec 0 3; size = 16; zero = true; bytes = []; fields = [] } ∷ [])

-- every global pointer at 32768, every target at 65536, the first one that LDA does not reach
abbrev pub gps : ℕ → ℕ
gps o = 32768

abbrev pub past : Target → ℕ
past t = 65536

abbrev pub before_it : Target → ℕ
before_it t = 65535

abbrev pub eighth : Target
eighth = Ptr (Sec 0 3) 8

pub row_sum_at_size : SumIsWithin sixteen gps past eighth (pos 8)
row_sum_at_size = (omega (arith, ints), omega (arith, ints))

pub row_sum_past_size : SumIsWithin sixteen gps past eighth (pos 9) → ⊥
row_sum_past_size s = let x = s.1 in omega (arith, ints, x)

pub row_sum_before : SumIsWithin sixteen gps past eighth (negsuc 8) → ⊥
row_sum_before s = let x = s.0 in omega (arith, ints, x)

pub row_lda_near : LdaFits sixteen gps before_it 0 eighth
row_lda_near = (omega arith, omega (arith, ints))

pub row_lda_not_near : LdaFits sixteen gps past 0 eighth → ⊥
row_lda_not_near f = let x = f.1 in omega (arith, ints, x)

-- lda r1,32767(r31), and no lda of 32768
pub row_number : LdaFits sixteen gps past 0 (Num 32767)
row_number = omega (arith, ints)

pub row_no_number : LdaFits sixteen gps past 0 (Num 32768) → ⊥
row_no_number f = omega (arith, ints, f)

-- ---- quotients

abbrev pub first_byte : Target
first_byte = Ptr (Sec 0 3) 0

-- ldbu r2,0(r1) and ldbu r3,z(r1) over the high half that r1 has
abbrev pub two_uses : ℤ → Block
two_uses z = record {
  id = 0;
  label = at 0;
  opening = false;
  ops =
      record { id = 0; op = record { place = at 0; kind = op.AddrHi 1 29 first_byte (pos 0) } }
      ∷ record { id = 1; op = record { place = at 4; kind = op.UseLo (Mem Ldbu 2 1 (pos 0)) (at 0) } }
      ∷ record { id = 2; op = record { place = at 8; kind = op.UseLo (Mem Ldbu 3 1 z) (at 0) } } ∷ [];
  last = Fall;
}

not_address : Load ≡ Address → ⊥
not_address e = cc

not_stored : {P : Type 0} → Load ≡ Store → P → ⊥
not_stored e p = cc

takes_first : (z : ℤ) → TakesHigh (two_uses z) (at 0) (pos 0)
takes_first z = (_, Mem Ldbu 2 1 (pos 0), 1, inr (inl refl), refl, (refl, refl, not_address, not_stored))

takes_second : (z : ℤ) → TakesHigh (two_uses z) (at 0) z
takes_second z = (_, Mem Ldbu 3 1 z, 1, inr (inr (inl refl)), refl, (refl, refl, not_address, not_stored))

disp_of : OpKind → ℤ
disp_of (op.UseLo (Mem o ra rb d) hi) = d
disp_of k = pos 0

is_use : OpKind → Bool
is_use (op.UseLo i hi) = true
is_use k = false

-- no other displacement is taken
takes_only : (z y : ℤ) → TakesHigh (two_uses z) (at 0) y → (pos 0 ≡ y) ⊎ (z ≡ y)
unfolding disp_of is_use
takes_only z y t = by_op t.3 (ap disp_of t.4) (ap is_use t.4) (disp_is t.1 t.5)
  where
    disp_is : (i : Instr) → IsBaseUse t.2 i y → disp_of (op.UseLo i (at 0)) ≡ y
    disp_is (Mem o ra rb d) u = u.1
    disp_is (Jump k ra rb h) u = absurd u
    disp_is (Branch o ra d) u = absurd u
    disp_is (Alu o ra rb rc) u = absurd u
    disp_is (Cmov k ra rb rc) u = absurd u
    disp_is (Misc o ra rb) u = absurd u
    disp_is Fnop u = absurd u
    disp_is Halt u = absurd u
    disp_is Callsys u = absurd u

    by_op :
        Has (ops_of (two_uses z)) t.0 → disp_of t.0.kind ≡ disp_of (op.UseLo t.1 (at 0)) → is_use t.0.kind ≡ true → disp_of (op.UseLo t.1 (at 0)) ≡ y →
        (pos 0 ≡ y) ⊎ (z ≡ y)
    by_op (inl e) d u i = absurd (true≢false (sym u ∙ sym (ap (λ (o : Op). is_use o.kind) e)))
    by_op (inr (inl e)) d u i = inl (ap (λ (o : Op). disp_of o.kind) e ∙ d ∙ i)
    by_op (inr (inr (inl e))) d u i = inr (ap (λ (o : Op). disp_of o.kind) e ∙ d ∙ i)
    by_op (inr (inr (inr h))) d u i = absurd h

pub row_one_quotient : HaveOneQuotient sixteen gps past (two_uses (pos 15)) (at 0) first_byte
row_one_quotient = (pos 0, λ z t. by_disp z (takes_only (pos 15) z t))
  where
    by_disp : (z : ℤ) → (pos 0 ≡ z) ⊎ (pos 15 ≡ z) → ((pos 16 *ℤ pos 0) ≤ℤ (pos 0 +ℤ z)) × ((pos 0 +ℤ z) ≤ℤ ((pos 16 *ℤ pos 0) +ℤ pos 15))
    by_disp z (inl e) = (omega (arith, ints, e), omega (arith, ints, e))
    by_disp z (inr e) = (omega (arith, ints, e), omega (arith, ints, e))

pub row_two_quotients : HaveOneQuotient sixteen gps past (two_uses (pos 16)) (at 0) first_byte → ⊥
row_two_quotients q =
    let a = (q.1 (pos 0) (takes_first (pos 16))).0 in
    let b = (q.1 (pos 16) (takes_second (pos 16))).1 in
    omega (arith, ints, a, b)

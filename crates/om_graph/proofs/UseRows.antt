-- Worked rows of uses, known calls and pairs.
use Rattle.std.proofs.Common.{◌≡◌, inl, ℕ, pos, Bool, true, false, List, [], ◌∷◌, ◌++◌, refl, sym, ap, ◌∙◌, subst}
use Rattle.std.proofs.lemmas.Bool.{true≢false, eq-eqb}
use Rattle.std.specs.Prelude.{◌==◌}
use Rattle.om_alpha.specs.declared.op.AluOp.TheVariants.{ExtLow}
use Rattle.om_alpha.specs.declared.op.Size.TheVariants.{Byte}
use Rattle.om_isa.specs.declared.instr.Access.TheVariants.{Address, Store}
use Rattle.om_isa.specs.declared.instr.MemOp.TheVariants.{Lda, Stq}
use Rattle.om_isa.specs.declared.instr.JumpOp.TheVariants.{Jsr}
use Rattle.om_isa.specs.declared.instr.Opnd.TheVariants.{R}
use Rattle.om_isa.specs.declared.instr.Instr.TheVariants.{Mem, Jump, Alu}
use Rattle.om_value.specs.declared.value.Target.TheVariants as target
use Rattle.om_prog.specs.Act.{Act, Plain, Lit, GpHi, GpLo, Word, act_reads, act_writes}
use Rattle.om_prog.specs.Flow.{Among}
use Rattle.om_graph.specs.declared.op.OpKind.TheVariants as op
use Rattle.om_graph.specs.declared.op.Last.TheVariants.{Fall}
use Rattle.om_graph.specs.View.{Block, GraphView}
use Rattle.om_graph.specs.Uses.{NoneReads, NoneWrites, IsBaseUse, IsByteUse, IsKnownCall, IsClosedPair}
use Rattle.om_graph.specs.Rows.{at}

other_reg : {r s : ℕ} → (r == s) ≡ false → r ≡ s → ⊥
other_reg n e = true≢false (sym (eq-eqb _ _ e) ∙ n)

-- ---- base uses and byte uses

-- stq r2,8(r1) over r1
pub row_base_use : IsBaseUse 1 (Mem Stq 2 1 (pos 8)) (pos 8)
row_base_use = (refl, refl, λ e. not_address e, λ s. other_reg refl)
  where
    not_address : Store ≡ Address → ⊥
    not_address e = cc

-- stq r1,8(r1) stores the register itself
pub row_stored : IsBaseUse 1 (Mem Stq 1 1 (pos 8)) (pos 8) → ⊥
row_stored u = u.3 refl refl

-- lda r2,8(r1) is no load
pub row_address : IsBaseUse 1 (Mem Lda 2 1 (pos 8)) (pos 8) → ⊥
row_address u = u.2 refl

-- extbl r3,r1,r2 takes the byte's number from r1
pub row_byte_use : IsByteUse 1 (Alu (ExtLow Byte) 3 (R 1) 2)
row_byte_use = (refl, refl, other_reg refl)

-- extbl r1,r1,r2 takes the bytes from it as well
pub row_byte_both : IsByteUse 1 (Alu (ExtLow Byte) 1 (R 1) 2) → ⊥
row_byte_both u = u.2 refl

-- ---- known calls

head_is : {x y : Word} {xs ys : List Word} → x ∷ xs ≡ y ∷ ys → x ≡ y
head_is e = cc

tail_is : {x y : Word} {xs ys : List Word} → x ∷ xs ≡ y ∷ ys → xs ≡ ys
tail_is e = cc

no_words : (xs ys : List Word) (y : Word) → [] ≡ xs ++ y ∷ ys → ⊥
no_words [] ys y e = cc
no_words (x ∷ xs) ys y e = cc

is_lit : Act → Bool
is_lit (Lit ra rb t) = true
is_lit a = false

is_jump : Act → Bool
is_jump (Plain (Jump kind ra rb hint)) = true
is_jump a = false

jump_base : Act → ℕ
jump_base (Plain (Jump kind ra rb hint)) = rb
jump_base a = 31

-- a load of the address 20 into r27; jsr r26,(r27)
abbrev pub loads_27 : Word
loads_27 = record { at = at 0; act = Lit 27 29 (target.Code (at 20)) }

abbrev pub calls_27 : Word
calls_27 = record { at = at 8; act = Plain (Jump Jsr 26 27 0) }

pub row_known_call : IsKnownCall (loads_27 ∷ calls_27 ∷ []) calls_27 26 (at 20)
row_known_call = record {
  load = loads_27;
  rb = 27;
  base = 29;
  hint = 0;
  local = record {
    mid = [];
    stands = ([], [], refl);
    writes = inl refl;
    unwritten = λ w h m. h;
    reads = inl refl;
    register = other_reg refl;
  };
  loads = refl;
  jumps = refl;
}

-- lda r27,8(r27) between
abbrev pub moves_27 : Word
moves_27 = record { at = at 4; act = Plain (Mem Lda 27 27 (pos 8)) }

pub row_written_call : IsKnownCall (loads_27 ∷ moves_27 ∷ calls_27 ∷ []) calls_27 26 (at 20) → ⊥
unfolding is_lit is_jump jump_base
row_written_call k =
    let rb : 27 ≡ k.rb = ap jump_base k.jumps in
    let s = k.local.stands in
    between k.load s.0 k.local.mid s.1 s.2 (ap is_lit k.loads) (λ w h m. k.local.unwritten w h (subst (λ (r : ℕ). Among (act_writes w.act) r) rb m))
  where
    between :
        (load : Word) (before mid after : List Word) →
        loads_27 ∷ moves_27 ∷ calls_27 ∷ [] ≡ before ++ load ∷ mid ++ calls_27 ∷ after → is_lit load.act ≡ true →
        NoneWrites 27 mid → ⊥
    between load [] [] after e l n = true≢false (ap (λ (w : Word). is_jump w.act) (sym (head_is (tail_is e))))
    between load [] (m ∷ mid) after e l n =
        n m (inl refl) (subst (λ (w : Word). Among (act_writes w.act) 27) (head_is (tail_is e)) (inl refl))
    between load (x ∷ []) mid after e l n =
        true≢false (sym (ap (λ (w : Word). is_lit w.act) (head_is (tail_is e)) ∙ l))
    between load (x ∷ y ∷ []) mid after e l n =
        true≢false (sym (ap (λ (w : Word). is_lit w.act) (head_is (tail_is (tail_is e))) ∙ l))
    between load (x ∷ y ∷ z ∷ before) mid after e l n =
        no_words (before ++ load ∷ mid) after calls_27 (tail_is (tail_is (tail_is e)))

-- ---- closed pairs

is_high : Act → Bool
is_high (GpHi ra rb base) = true
is_high a = false

is_low : Act → Bool
is_low (GpLo ra rb hi) = true
is_low a = false

-- the two halves with stq r29,0(r30) between
abbrev pub read_between : Block
read_between = record {
  id = 0;
  label = at 0;
  opening = false;
  ops =
      record { id = 0; op = record { place = at 0; kind = op.GpHi 29 27 (at 0) } }
      ∷ record { id = 1; op = record { place = at 4; kind = op.Plain (Mem Stq 29 30 (pos 0)) } }
      ∷ record { id = 2; op = record { place = at 8; kind = op.GpLo 29 29 (at 0) } } ∷ [];
  last = Fall;
}

pub row_read_between : (g : GraphView) → IsClosedPair g read_between (at 0) (at 8) → ⊥
unfolding is_high is_low
row_read_between g c =
    let s = c.stands in between _ _ s.0 c.mid s.1 s.2 refl refl c.unread
  where
    between :
        (hi lo : Word) (before mid after : List Word) →
        record { at = at 0; act = GpHi 29 27 (at 0) }
        ∷ record { at = at 4; act = Plain (Mem Stq 29 30 (pos 0)) } ∷ record { at = at 8; act = GpLo 29 29 (at 0) } ∷ []
        ≡ before ++ hi ∷ mid ++ lo ∷ after → is_high hi.act ≡ true → is_low lo.act ≡ true →
        NoneReads 29 mid → ⊥
    between hi lo [] [] after e h l n = true≢false (sym (ap (λ (w : Word). is_low w.act) (head_is (tail_is e)) ∙ l))
    between hi lo [] (m ∷ mid) after e h l n =
        n m (inl refl) (subst (λ (w : Word). Among (act_reads w.act) 29) (head_is (tail_is e)) (inl refl))
    between hi lo (x ∷ []) mid after e h l n = true≢false (sym (ap (λ (w : Word). is_high w.act) (head_is (tail_is e)) ∙ h))
    between hi lo (x ∷ y ∷ []) mid after e h l n =
        true≢false (sym (ap (λ (w : Word). is_high w.act) (head_is (tail_is (tail_is e))) ∙ h))
    between hi lo (x ∷ y ∷ z ∷ before) mid after e h l n =
        no_words (before ++ hi ∷ mid) after lo (tail_is (tail_is (tail_is e)))

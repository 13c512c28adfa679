-- Worked rows of what each rule of rewriting leaves: graphs to which a rule applies are refused.
use Rattle.std.proofs.Common.{◌≡◌, ◌⊎◌, inl, inr, ℕ, Bool, true, false, [], ◌∷◌, refl, sym, ap, ◌∙◌, ◌*◌, subst, arith}
use Rattle.std.specs.Prelude.{pos, ◌==◌}
use Rattle.std.proofs.lemmas.Int.{ints}
use Rattle.std.proofs.lemmas.Bool.{true≢false, eq-eqb}
use Rattle.om_alpha.specs.declared.op.AluOp.TheVariants.{ExtLow}
use Rattle.om_alpha.specs.declared.op.Size.TheVariants.{Byte}
use Rattle.om_isa.specs.declared.instr.Access.TheVariants.{Address, Load, Store}
use Rattle.om_isa.specs.declared.instr.MemOp.TheVariants.{Ldq}
use Rattle.om_isa.specs.declared.instr.JumpOp.TheVariants.{Jsr, Ret}
use Rattle.om_isa.specs.declared.instr.Opnd.TheVariants.{R}
use Rattle.om_isa.specs.declared.instr.Instr.TheVariants.{Mem, Jump, Alu}
use Rattle.om_isa.specs.declared.instr.BrOp.TheVariants.{Bsr}
use Rattle.om_value.specs.declared.value.Place.{Place}
use Rattle.om_value.specs.declared.value.Region.TheVariants.{Sec}
use Rattle.om_value.specs.declared.value.Target.TheVariants as target
use Rattle.om_prog.specs.Flow.{Among}
use Rattle.om_prog.specs.Act.{act_reads, Plain, Lit, AddrLda, GpHi, GpLo, To, Word}
use Rattle.om_prog.specs.Facts.{Fact, Table}
use Rattle.om_graph.specs.Run.{block_words, graph_script}
use Rattle.om_graph.specs.declared.op.OpKind.TheVariants as op
use Rattle.om_graph.specs.declared.op.Last.TheVariants as last
use Rattle.om_graph.specs.Kept.{IsInKeptSet, root, fall, named, behind, FallsOn, names, Links}
use Rattle.om_graph.specs.View.{Block, GraphView, Has}
use Rattle.om_graph.specs.Uses.{IsKnownCall, IsClosedPair}
use Rattle.om_graph.specs.Rows.{at, empty, calling}
use Rattle.om_graph.specs.Left.{NoDirect, NoDrop, NoEnter, NoDeadWord, OnlyKeptSet, NoByte, NoUse, NoNear, NoFar, IsFarUse}
use Rattle.om_graph.proofs.LastBy.{between_user}
use Rattle.om_graph.specs.LeftRows.{IsNearAt, byte_at, wide, wide_gp, wide_address, one_block, calling_block, byte_block, use_block, load_block}

apart : (r s : ℕ) → (r == s) ≡ false → r ≡ s → ⊥
apart r s n e = true≢false (sym (eq-eqb r s e) ∙ n)

pub other : {r s : ℕ} → (r == s) ≡ false → r ≡ s → ⊥
other n e = true≢false (sym (eq-eqb _ _ e) ∙ n)

-- ---- near: 16 signed bits from the global pointer, within the region or at its end

pub row_near_first : IsNearAt (byte_at 0)
row_near_first = (omega arith, omega (arith, ints))

pub row_near_last : IsNearAt (byte_at 65535)
row_near_last = (omega arith, omega (arith, ints))

pub row_near_past : IsNearAt (byte_at 65536) → ⊥
row_near_past h = let a = h.1 in omega (arith, ints, a)

pub row_near_outside : IsNearAt (byte_at 65545) → ⊥
row_near_outside h = let a = h.0 in omega (arith, a)

pub row_near_number : IsNearAt (target.Num 32767)
row_near_number = omega (arith, ints)

pub row_near_large : IsNearAt (target.Num 32768) → ⊥
row_near_large h = omega (arith, ints, h)

pub row_near_negative : IsNearAt (target.Num 18446744073709518848)
row_near_negative = omega (arith, ints)

pub row_near_below : IsNearAt (target.Num 18446744073709518847) → ⊥
row_near_below h = omega (arith, ints, h)

pub row_near_code : IsNearAt (target.Code (at 16)) → ⊥
row_near_code h = h

-- ---- calls

load_27 : Word
load_27 = record { at = at 0; act = Lit 27 29 (target.Code (at 16)) }

call_27 : Word
call_27 = record { at = at 12; act = Plain (Jump Jsr 26 27 0) }

calls_16 : IsKnownCall (block_words calling_block) call_27 26 (at 16)
unfolding load_27 call_27
calls_16 = record {
  load = load_27;
  rb = 27;
  base = 29;
  hint = 0;
  local = record {
    mid = [];
    stands = ([], [], refl);
    writes = inl refl;
    unwritten = λ w h a. h;
    reads = inl refl;
    register = other refl;
  };
  loads = refl;
  jumps = refl;
}

pub row_direct : NoDirect (one_block calling_block) → ⊥
unfolding load_27 call_27
row_direct n = n.calls calling_block call_27 26 (at 16) (inl refl) (inr (inl refl)) calls_16 (omega (arith, ints))

-- ---- settings of r29: the pair of the procedure at 16, by facts that say its table there

abbrev pub pair_block : Block
pair_block = record {
  id = 2;
  label = at 16;
  opening = true;
  ops =
      record { id = 3; op = record { place = at 16; kind = op.GpHi 29 27 (at 0) } }
      ∷ record { id = 4; op = record { place = at 20; kind = op.GpLo 29 29 (at 16) } } ∷ [];
  last = last.Fall;
}

abbrev pub first_table : Place → Fact
first_table q = Table 0

abbrev pub pair_closed : IsClosedPair calling pair_block (at 16) (at 20)
pair_closed = record {
  rb = 27;
  base = at 0;
  mid = [];
  stands = ([], [], refl);
  unread = λ w h a. h;
  unwritten = λ w h a. h;
  high_stays = other refl;
  low_stays = other refl;
}

pub row_drop : NoDrop (graph_script empty calling) first_table calling → ⊥
row_drop n =
    n.pairs pair_block [] (record { at = at 20; act = GpLo 29 29 (at 16) } ∷ []) (at 16) (at 20) pair_closed
    (record { among = inr (inr (inl refl)); split = refl }) refl

-- the call of 0 goes to that pair
pub row_enter : NoEnter (graph_script empty calling) first_table calling → ⊥
row_enter n =
    n.calls
    (record { id = 0; label = at 0; opening = false; ops = []; last = last.Call (at 0) Bsr 26 (at 16) })
    pair_block [] [] (record { at = at 0; act = To Bsr 26 (at 16) }) 26 (record { among = inl refl; split = refl }) (inr (inr (inl refl))) refl (other refl)
    (record { opening = refl; pair = pair_closed }) (omega (arith, ints)) refl

-- ---- deletion: r29 is not read behind the pair

abbrev pub nowhere_read : Place → ℕ → Bool
nowhere_read q r = false

pub row_dead_word : NoDeadWord nowhere_read calling → ⊥
row_dead_word n =
    apart 24 28 refl
    (n.words pair_block (record { at = at 16; act = GpHi 29 27 (at 0) } ∷ []) (record { at = at 20; act = GpLo 29 29 (at 16) }) [] 29
    (record { among = inr (inr (inl refl)); split = refl }) refl (inl refl) (λ l. refl))

-- two blocks that return, of which the entry is the first: nothing leads to the second
abbrev pub returning : ℕ → Block
returning n = record { id = n; label = at (4 * n); opening = false; ops = []; last = last.JumpBy (at (4 * n)) (Jump Ret 31 26 0) }

no_name : (n : ℕ) (w : Word) (q : Place) → Has (block_words (returning n)) w → names w.act q → ⊥
no_name n w q (inl e) h = subst (λ (v : Word). names v.act q) (sym e) h
no_name n w q (inr k) h = k

no_link : (n : ℕ) (w : Word) → Has (block_words (returning n)) w → Links w.act → ⊥
no_link n w (inl e) h = subst (λ (v : Word). Links v.act) (sym e) h refl
no_link n w (inr k) h = k

abbrev pub two_returns : GraphView
two_returns = record {
  counts = 2 ∷ [];
  roots = at 0 ∷ [];
  tables = 0 ∷ [];
  labels = at 0 ∷ at 4 ∷ [];
  blocks = returning 0 ∷ returning 1 ∷ [];
  touched = [];
}

pub row_kept_first : (q : Place) → IsInKeptSet two_returns q → at 0 ≡ q
row_kept_first q (root x (inl e)) = e
row_kept_first q (root x (inr h)) = absurd h
row_kept_first q (fall b x (inl e) k f l) = absurd (subst (λ (c : Block). FallsOn c.last) (sym e) f)
row_kept_first q (fall b x (inr (inl e)) k f l) = absurd (subst (λ (c : Block). FallsOn c.last) (sym e) f)
row_kept_first q (fall b x (inr (inr h)) k f l) = absurd h
row_kept_first q (named b w x (inl e) k h n) = absurd (no_name 0 w x (subst (λ (c : Block). Has (block_words c) w) (sym e) h) n)
row_kept_first q (named b w x (inr (inl e)) k h n) = absurd (no_name 1 w x (subst (λ (c : Block). Has (block_words c) w) (sym e) h) n)
row_kept_first q (named b w x (inr (inr h)) k i n) = absurd h
row_kept_first q (behind b w (inl e) k h l) = absurd (no_link 0 w (subst (λ (c : Block). Has (block_words c) w) (sym e) h) l)
row_kept_first q (behind b w (inr (inl e)) k h l) = absurd (no_link 1 w (subst (λ (c : Block). Has (block_words c) w) (sym e) h) l)
row_kept_first q (behind b w (inr (inr h)) k i l) = absurd h

pub row_block_outside : OnlyKeptSet two_returns → ⊥
row_block_outside n = apart 0 4 refl (ap (λ (q : Place). q.off) (row_kept_first (at 4) (n.blocks (returning 1) (inr (inl refl)))))

-- ---- addresses

pub row_byte_left : NoByte (one_block byte_block) → ⊥
row_byte_left n =
    n.uses byte_block (record { at = at 0; act = Lit 1 29 (byte_at 5) }) (record { at = at 4; act = Plain (Alu (ExtLow Byte) 2 (R 1) 3) }) 1 29 5 (Sec 0 3)
    (Alu (ExtLow Byte) 2 (R 1) 3) (inl refl)
    (record {
      mid = [];
      stands = ([], record { at = at 12; act = Plain (Jump Ret 31 26 0) } ∷ [], refl);
      writes = inl refl;
      unwritten = λ w h a. h;
      reads = inr (inl refl);
      register = other refl;
    })
    refl refl (refl, refl, other refl)

not_address : Load ≡ Address → ⊥
not_address e = cc

not_store : {P : Type 0} → Load ≡ Store → P → ⊥
not_store e p = cc

-- ldq r2,16(r1) behind the LDA to byte 8
pub row_use_left : NoUse wide wide_gp wide_address (one_block (use_block (pos 16))) → ⊥
row_use_left n =
    n.uses (use_block (pos 16)) (record { at = at 0; act = AddrLda 1 29 (byte_at 8) }) (record { at = at 4; act = Plain (Mem Ldq 2 1 (pos 16)) }) 1 29 8 (Sec 0 3)
    (Mem Ldq 2 1 (pos 16)) (pos 16) (inl refl)
    (record {
      mid = [];
      stands = ([], record { at = at 12; act = Plain (Jump Ret 31 26 0) } ∷ [], refl);
      writes = inl refl;
      unwritten = λ w h a. h;
      reads = inl refl;
      register = other refl;
    })
    refl (omega arith, omega (arith, ints)) refl (refl, refl, not_address, not_store) (other refl) (inr (λ w h a. h)) (omega (arith, ints), omega (arith, ints))
    (omega (arith, ints))

-- a near load whose result is read
pub row_near_left : NoNear wide wide_gp wide_address nowhere_read (one_block (load_block 8)) → ⊥
row_near_left n =
    let d =
    n.loads (load_block 8) [] (record { at = at 0; act = Lit 1 29 (byte_at 8) })
    (record { at = at 4; act = Plain (Mem Ldq 2 1 (pos 0)) } ∷ record { at = at 12; act = Plain (Jump Ret 31 26 0) } ∷ []) 1 29 (byte_at 8)
    (record { among = inl refl; split = refl }) refl (omega arith, omega (arith, ints)) in
    true≢false (d.0 (omega arith))

-- a load of an address 32,768 bytes behind the global pointer, with its one use: LDAH and the use reach it
far_load : Word
far_load = record { at = at 0; act = Lit 1 29 (byte_at 65536) }

far_user : Word
far_user = record { at = at 4; act = Plain (Mem Ldq 2 1 (pos 0)) }

returns : Word
returns = record { at = at 12; act = Plain (Jump Ret 31 26 0) }

far_use : (user : Word) → Has (block_words (load_block 65536)) user → Among (act_reads user.act) 1 → IsFarUse wide wide_gp wide_address 0 (Sec 0 3) 65536 1 (pos 0) (pos 4096) (pos 1) user
far_use user (inl e) reads = absurd (only_29 (subst (λ (w : Word). Among (act_reads w.act) 1) (sym e) reads))
  where
    only_29 : Among (29 ∷ []) 1 → ⊥
    only_29 (inl s) = apart 29 1 refl s
    only_29 (inr h) = h
far_use user (inr (inl e)) reads =
    subst (λ (w : Word). IsFarUse wide wide_gp wide_address 0 (Sec 0 3) 65536 1 (pos 0) (pos 4096) (pos 1) w) e
    (record {
      instr = Mem Ldq 2 1 (pos 0);
      disp = pos 0;
      act = refl;
      base = (refl, refl, not_address, not_store);
      no_less = omega (arith, ints);
      above = omega (arith, ints);
      below = omega (arith, ints);
      fits = omega (arith, ints);
    })
far_use user (inr (inr (inl e))) reads = absurd (only_26 (subst (λ (w : Word). Among (act_reads w.act) 1) (sym e) reads))
  where
    only_26 : Among (26 ∷ []) 1 → ⊥
    only_26 (inl s) = apart 26 1 refl s
    only_26 (inr h) = h
far_use user (inr (inr (inr h))) reads = absurd h

pub row_far_left : NoFar wide wide_gp wide_address nowhere_read (one_block (load_block 65536)) → ⊥
unfolding far_load far_user returns
row_far_left n =
    n.loads (load_block 65536) far_load 1 29 65536 (Sec 0 3) (inl refl) (inl refl)
    (record {
      loads = refl;
      far = λ h. let a = h.1 in omega (arith, ints, a);
      inside = omega arith;
      least = pos 0;
      quotient = pos 4096;
      hi = pos 1;
      high = record { above = omega (arith, ints); below = omega (arith, ints) };
      least_use = (
        far_user,
        Mem Ldq 2 1 (pos 0),
        record { mid = []; stands = ([], returns ∷ [], refl); writes = inl refl; unwritten = λ w h a. h; reads = inl refl; register = other refl },
        refl,
        (refl, refl, not_address, not_store),
      );
      uses = λ user l. far_use user (between_user (block_words (load_block 65536)) far_load l.mid user l.stands) l.reads;
    })
    (omega (arith, ints)) (λ l. refl)

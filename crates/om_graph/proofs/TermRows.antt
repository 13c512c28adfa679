-- Worked rows of what passes rest on: pairs that calls go past, uses, known calls, bounds, facts and kept sets.
use Rattle.std.proofs.Common.{◌≡◌, ◌⊎◌, inl, inr, ℕ, pos, negsuc, true, false, [], ◌∷◌, refl, sym, ◌∙◌, ◌==◌}
use Rattle.std.proofs.lemmas.Bool.{true≢false, eq-eqb}
use Rattle.std.specs.Prelude.{map}
use Rattle.om_isa.specs.declared.instr.MemOp.TheVariants.{Lda, Ldah, Ldq, Stq}
use Rattle.om_isa.specs.declared.instr.JumpOp.TheVariants.{Ret}
use Rattle.om_isa.specs.declared.instr.BrOp.TheVariants.{Br as Straight, Bsr, If}
use Rattle.om_isa.specs.declared.instr.Instr.TheVariants.{Mem, Jump as Jumps, Branch, Callsys}
use Rattle.om_alpha.specs.declared.op.Cond.TheVariants.{Ne}
use Rattle.om_value.specs.declared.value.Target.TheVariants as target
use Rattle.om_prog.specs.declared.item.Role.TheVariants as role
use Rattle.om_prog.specs.View.{ProgramView}
use Rattle.om_prog.specs.Rows.{plain, with_role, program_of}
use Rattle.om_prog.specs.Act as act
use Rattle.om_prog.specs.Act.{Word}
use Rattle.om_graph.specs.declared.op.OpKind.TheVariants.{Plain, Lit, GpHi, GpLo}
use Rattle.om_graph.specs.declared.op.Last.TheVariants.{Fall, Br, Cond, Call, JumpBy}
use Rattle.om_graph.specs.View.{GraphView, deleted, dropped, shape_of}
use Rattle.om_graph.specs.LeftIn.{passes, is_kept}
use Rattle.om_graph.specs.Lifted.{lifted_shapes}
use Rattle.om_graph.specs.Uses.{NoneWrites, Unwritten}
use Rattle.om_graph.specs.Rows.{at, writes_29}

-- ---- a pair of which each half has a block of its own

-- a call of 36; a load of the address 28; a branch to 32; an exit; a word that branches to itself; and from 28 on a
-- procedure that begins with a pair. The branch names its second word, so that
-- each half has a block of its own, and the call goes past it by itself
abbrev pub half_entered : ProgramView
half_entered =
    program_of
    (with_role (role.To (at 36)) (Branch Bsr 26 (pos 8))
    ∷ with_role (role.Lit (target.Code (at 28))) (Mem Ldq 1 29 (pos 0))
    ∷ with_role (role.To (at 32)) (Branch (If Ne) 31 (pos 5))
    ∷ plain (Mem Lda 16 31 (pos 0))
    ∷ plain (Mem Lda 0 31 (pos 1))
    ∷ plain Callsys
    ∷ with_role (role.To (at 24)) (Branch Straight 31 (negsuc 0))
    ∷ with_role (role.GpHi (at 28)) (Mem Ldah 29 27 (pos 0))
    ∷ with_role (role.GpLo (at 28)) (Mem Lda 29 29 (pos 0))
    ∷ plain (Mem Stq 29 30 (pos 0)) ∷ plain (Jumps Ret 31 26 0) ∷ [])
    []

abbrev pub two_halves : GraphView
two_halves = record {
  counts = 11 ∷ [];
  roots = at 0 ∷ [];
  tables = 0 ∷ [];
  labels = at 0 ∷ at 4 ∷ at 12 ∷ at 24 ∷ at 28 ∷ at 32 ∷ at 36 ∷ [];
  blocks =
      record { id = 0; label = at 0; opening = false; ops = []; last = Call (at 0) Bsr 26 (at 36) }
      ∷ record {
        id = 1;
        label = at 4;
        opening = false;
        ops = record { id = 0; op = record { place = at 4; kind = Lit 1 29 (target.Code (at 28)) } } ∷ [];
        last = Cond (at 8) (Branch (If Ne) 31 (pos 5)) (at 32);
      }
      ∷ record {
        id = 2;
        label = at 12;
        opening = false;
        ops =
            record { id = 1; op = record { place = at 12; kind = Plain (Mem Lda 16 31 (pos 0)) } }
            ∷ record { id = 2; op = record { place = at 16; kind = Plain (Mem Lda 0 31 (pos 1)) } }
            ∷ record { id = 3; op = record { place = at 20; kind = Plain Callsys } } ∷ [];
        last = Fall;
      }
      ∷ record { id = 3; label = at 24; opening = false; ops = []; last = Br (at 24) Straight 31 (at 24) }
      ∷ record {
        id = 4;
        label = at 28;
        opening = true;
        ops = record { id = 4; op = record { place = at 28; kind = GpHi 29 27 (at 28) } } ∷ [];
        last = Fall;
      }
      ∷ record {
        id = 5;
        label = at 32;
        opening = false;
        ops = record { id = 5; op = record { place = at 32; kind = GpLo 29 29 (at 28) } } ∷ [];
        last = Fall;
      }
      ∷ record {
        id = 6;
        label = at 36;
        opening = false;
        ops = record { id = 6; op = record { place = at 36; kind = Plain (Mem Stq 29 30 (pos 0)) } } ∷ [];
        last = JumpBy (at 40) (Jumps Ret 31 26 0);
      }
      ∷ [];
  touched = [];
}

pub row_two_halves : map shape_of two_halves.blocks ≡ lifted_shapes half_entered
row_two_halves = refl

-- the call goes past the half in the block that the pair begins, and past no other block's word
pub row_passes_first : passes two_halves (at 0) (at 28) ≡ true
row_passes_first = refl

pub row_passes_second : passes two_halves (at 0) (at 32) ≡ false
row_passes_second = refl

-- so where the load is gone, and the block of the first half with it, nothing is asked of the second, which is kept
abbrev pub load_gone : GraphView
load_gone = deleted two_halves 0

abbrev pub half_gone : GraphView
half_gone = dropped load_gone 4

pub row_load_gone : passes load_gone (at 0) (at 32) ≡ false
row_load_gone = refl

pub row_half_kept : is_kept half_gone (at 32) ≡ true
row_half_kept = refl

pub row_half_gone : passes half_gone (at 0) (at 32) ≡ false
row_half_gone = refl

-- ---- registers that no word writes

-- lda r31,0(r30)
abbrev pub writes_none : Word
writes_none = record { at = at 0; act = act.Plain (Mem Lda 31 30 (pos 0)) }

pub row_unwritten : Unwritten 31 (writes_none ∷ [])
row_unwritten = inl refl

pub row_written_31 : NoneWrites 31 (writes_none ∷ []) → ⊥
row_written_31 f = f writes_none (inl refl) (inl refl)

pub row_written : Unwritten 29 (writes_29 ∷ []) → ⊥
row_written u = not_31 u (λ f. f writes_29 (inl refl) (inl refl)) refl
  where
    not_31 : {P : Type 0} {r : ℕ} → (r ≡ 31) ⊎ P → (P → ⊥) → (r == 31) ≡ false → ⊥
    not_31 {r = r} (inl e) f n = true≢false (sym (eq-eqb r 31 e) ∙ n)
    not_31 (inr p) f n = f p
